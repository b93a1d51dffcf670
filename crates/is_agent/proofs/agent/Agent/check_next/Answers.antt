use Rattle.std.proofs.Common.{Option, Some, subst, sym, ◌∙◌}
use Rattle.is_pair.specs.Pairs.{PairRecord}
use Rattle.is_rules.specs.Checking.{IsNextToCheck}
use Rattle.is_agent.specs.View.{record_of}
use Rattle.is_agent.proofs.AgentParts.DuePairsAfterRemoval.{due-there, next-found}
use Rattle.is_agent.proofs.agent.Agent.check_next.Goals as goal

pub check_and_emit-requires-clause-room : goal.check_and_emit-requires-clause-room
check_and_emit-requires-clause-room g c =
    let (next, is, numbered) = c.next_number.ensures.next in
    c.requires.room (due-there (record_of c.args.self.now) c.args.now.0 next c.in-Some.number is (sym numbered ∙ c.in-Some.is))

pub returns-in-Some : goal.returns-in-Some
returns-in-Some g c peer first second known emitted =
    let old = record_of c.args.self.now in let now = c.args.now.0 in let (next, is, numbered) = c.next_number.ensures.next in
    let (p, there, same, found) = next-found old now next c.in-Some.number c.next_number.ensures.rises is (sym numbered ∙ c.in-Some.is) in
    let (issued, checked, reports) = c.check_and_emit.ensures peer p first second known same found emitted in
    (issued, (Some p, subst (λ (o : Option PairRecord). IsNextToCheck now old o) there is, checked), reports)
