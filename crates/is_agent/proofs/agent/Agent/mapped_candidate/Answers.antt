use Rattle.std.proofs.Common.{subst, sym}
use Rattle.std.proofs.lemmas.Result.{IfOk-weaker}
use Rattle.is_rules.specs.Kept.{NoneTooHigh}
use Rattle.is_agent.proofs.agent.Agent.mapped_candidate.Goals as goal

pub returns-clause-low : goal.returns-clause-low
returns-clause-low g c =
    let low = c.check_priority_at.ensures.low (subst NoneTooHigh (sym c.deref-2.ensures.value) c.args.self.now.none_too_high) in
    IfOk-weaker c.peer_reflexive.result _ _ (λ candidate made. rw made low) c.peer_reflexive.ensures
