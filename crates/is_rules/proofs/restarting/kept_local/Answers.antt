use Rattle.is_rules.proofs.Common.{◌<◌, All-map, candidate_priority, Err, IfOk, NoneTooHigh, Ok, Result, subst, sym, TOO_HIGH, with_ufrag}
use Rattle.is_rules.proofs.restarting.kept_local.Goals as goal

-- what follows of what was made
also : {X E : Type 0} {P Q : X → Type 0} (r : Result X E) → ((x : X) → P x → Q x) → IfOk r P → IfOk r Q
also (Ok x) to p = to x p
also (Err e) to p = p

pub returns-then-keep-clause-low : goal.returns-then-keep-clause-low
returns-then-keep-clause-low c = λ low.
    also c.all_renamed.result (λ kept is. subst NoneTooHigh (sym is)
    (All-map (λ x. candidate_priority x < TOO_HIGH) (with_ufrag c.args.ufrag.now) c.args.local.now low)) c.all_renamed.ensures
