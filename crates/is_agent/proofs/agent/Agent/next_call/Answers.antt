use Rattle.std.proofs.Common.{◌≡◌, ℕ, Some, ap, sym, subst}
use Rattle.std.specs.Prelude.{option_map}
use Rattle.is_proto.specs.declared.proto.Instant.{Instant}
use Rattle.is_rules.proofs.PollsAndResponses.TimesWithinCredit.{Within, within-credit}
use Rattle.is_agent.specs.View.{record_of}
use Rattle.is_agent.proofs.AgentParts.TimesWithinCredit.{call-within}
use Rattle.is_agent.proofs.agent.Agent.next_call.Goals as goal

pub returns-in-Some-clause-credit : goal.returns-in-Some-clause-credit
returns-in-Some-clause-credit g c = λ slow.
    let a = record_of c.args.self.now in let last = c.in-Some.last.0 in
    let is : a.last_time ≡ Some last = ap (option_map (λ (at : Instant). at.0)) c.in-Some.is in
    within-credit last c.call_at.result.0 a is (subst (λ (n : ℕ). Within last a.charged_until n) (sym c.call_at.ensures) (call-within last a slow))
