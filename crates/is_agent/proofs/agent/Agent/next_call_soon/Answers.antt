use Rattle.std.proofs.Common.{rules, ◌≡◌, ℕ, Option, Some, subst}
use Rattle.is_rules.specs.TimeoutTimes.{KeepsCredit}
use Rattle.is_agent.specs.Polls.{KeepsPacing, next_call_soon}
use Rattle.is_agent.specs.View.{record_of}
use Rattle.is_agent.proofs.AgentParts.TimesWithinCredit.{next-soon-keeps, next-soon-paced}
use Rattle.is_agent.proofs.agent.Agent.next_call_soon.Goals as goal

pub returns-in-Some-Some-clause-paced : goal.returns-in-Some-Some-clause-paced
returns-in-Some-Some-clause-paced g c =
    let a = record_of c.args.self.now in let is : next_call_soon a ≡ Some c.sooner.result.0 = search rules in
    subst (λ (o : Option ℕ). KeepsPacing a o) is (next-soon-paced a)

pub returns-in-Some-Some-clause-credit : goal.returns-in-Some-Some-clause-credit
returns-in-Some-Some-clause-credit g c = λ modern.
    let a = record_of c.args.self.now in let is : next_call_soon a ≡ Some c.sooner.result.0 = search rules in
    subst (λ (o : Option ℕ). KeepsCredit a o) is (next-soon-keeps a modern)
