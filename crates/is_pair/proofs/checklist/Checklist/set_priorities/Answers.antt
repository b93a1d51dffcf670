use Rattle.is_pair.proofs.Common.{◌∙◌, ap, is_rank, List, list_any, map, PairRecord, rank_now, refl, rises, with_priority}
use Rattle.is_pair.proofs.PriorityOrder.RecomputedPriorities.{recomputed}
use Rattle.is_pair.proofs.PairEntries.ChangedPairs.{changed-below, changed-fewer, changed-index, changed-rises}
use Rattle.is_pair.proofs.checklist.Checklist.set_priorities.Goals as goal

pub rebuild_order-requires : goal.rebuild_order-requires
rebuild_order-requires g c =
    let f = with_priority (g.R.PairPriority.gives c.args.rule.now) in
    record { rising = ap rises c.deref.ensures.value ∙ changed-rises f (λ p. refl) c.args.self.now.pairs.items _ c.set_priorities.ensures.set c.args.self.now.rising; single = c.args.self.now.single }

pub invariant_of-self-clause-rising : goal.invariant_of-self-clause-rising
invariant_of-self-clause-rising g c =
    let f = with_priority (g.R.PairPriority.gives c.args.rule.now) in
    changed-rises f (λ p. refl) c.args.self.now.pairs.items _ c.set_priorities.ensures.set c.args.self.now.rising

pub invariant_of-self-clause-indexed : goal.invariant_of-self-clause-indexed
invariant_of-self-clause-indexed g c =
    let f = with_priority (g.R.PairPriority.gives c.args.rule.now) in
    changed-index f (λ p. refl) c.args.self.now.pairs.items _ c.set_priorities.ensures.set (λ p. refl) c.args.self.now.index.items c.args.self.now.indexed

pub invariant_of-self-clause-ranked : goal.invariant_of-self-clause-ranked
invariant_of-self-clause-ranked g c = λ priority n.
    c.rebuild_order.ensures.any (is_rank priority n)
    ∙ ap (λ (ps : List PairRecord). list_any (is_rank priority n) (map (rank_now ps) c.args.self.now.ranks.items)) c.deref.ensures.value
    ∙ recomputed c.args.self.now.pairs.items c.args.self.now.ranks.items c.args.self.now.rising c.args.self.now.ranked
    (with_priority (g.R.PairPriority.gives c.args.rule.now)) (λ p. refl) c.set_priorities.new.pairs.items c.set_priorities.ensures.set priority n

pub returns-clause-check_room : goal.returns-clause-check_room
returns-clause-check_room g c = λ limit h.
    let f = with_priority (g.R.PairPriority.gives c.args.rule.now) in
    (h.0, h.1, changed-fewer f (λ p. refl) c.args.self.now.pairs.items _ c.set_priorities.ensures.set (λ p. refl) limit _ h.2)

pub returns-clause-below : goal.returns-clause-below
returns-clause-below g c = λ n h.
    let f = with_priority (g.R.PairPriority.gives c.args.rule.now) in
    changed-below f (λ p. refl) c.args.self.now.pairs.items _ c.set_priorities.ensures.set n h
