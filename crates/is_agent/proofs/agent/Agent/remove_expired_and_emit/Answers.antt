use Rattle.std.proofs.Common.{subst}
use Rattle.is_rules.specs.Agent.{AgentRecord}
use Rattle.is_agent.specs.View.{record_of}
use Rattle.is_rules.specs.Nominating.{Nominates}
use Rattle.is_agent.proofs.agent.Agent.remove_expired_and_emit.Goals as goal

pub returns-clause-expired : goal.returns-clause-expired
returns-clause-expired g c =
    let second = c.evaluate_nomination-second.result in let mid = record_of c.evaluate_nomination-second.new.self in
    let named = subst (λ (s : AgentRecord g.row.H.Denot g.row.P.Denot). Nominates s second mid) c.drop_expired.ensures.gone c.evaluate_nomination-second.ensures.nominates in
    (second, mid, named, c.evaluate_state.ensures.evaluated, c.by-self.ensures)

pub returns-clause-checks : goal.returns-clause-checks
returns-clause-checks g c = λ t room.
    c.evaluate_state.ensures.checks t (c.evaluate_nomination-second.ensures.checks t (c.drop_expired.ensures.checks t room))
