use Rattle.is_rules.specs.declared.request.Waiting.{Waiting}
use Rattle.is_rules.specs.Queue.{QUEUE_LIMIT, queued_last}
use Rattle.is_rules.proofs.Common.{[], ◌++◌, ◌-◌, ◌∷◌, ◌≡◌, drop, drop-map, length, length-append, length-map, List, map, map-append, refl}
use Rattle.is_rules.proofs.Common.{rules, waiting_view, ℕ}
use Rattle.is_rules.proofs.queue.enqueue.Goals as goal

-- what is dropped of the requests is dropped of their views
queued-views : (old : List Waiting) (w : Waiting) (beyond : ℕ) (new : List Waiting) → beyond ≡ length (old ++ w ∷ []) - QUEUE_LIMIT
    → new ≡ drop beyond (old ++ w ∷ [])
    → map waiting_view new ≡ queued_last (map waiting_view old ++ waiting_view w ∷ [])
queued-views old w beyond new many is =
    rw (is, many, ← drop-map waiting_view, map-append waiting_view, length-append, length-append, length-map) refl

pub returns : goal.returns
returns c = queued-views c.args.queue.now.items c.args.waiting c.saturating_sub-beyond.result c.drop_first.new.queue.items (search rules) (search rules)
