use Rattle.std.proofs.Common.{ℕ, List, IfSome, subst}
use Rattle.is_stun.specs.MessageView.{message_view}
use Rattle.is_pair.specs.Multiset.{pair_numbered}
use Rattle.is_pair.specs.Pairs.{PairRecord}
use Rattle.is_rules.specs.Due.{IsSentUnder}
use Rattle.is_agent.specs.View.{record_of}
use Rattle.is_rules.specs.Roles.{switched}
use Rattle.is_agent.proofs.AgentParts.ReceivedResponses.{role-expired, role-switches, role-kept, role-stays}
use Rattle.is_agent.proofs.agent.Agent.leave_role.Goals.{else-present-via-then-present+else-not-keeps, else-present-via-else-present}
use Rattle.is_agent.proofs.agent.Agent.leave_role.Goals as goal

pub returns-then-not-keeps-clause-leaves : goal.returns-then-not-keeps-clause-leaves
returns-then-not-keeps-clause-leaves g c =
    let old = record_of c.args.self.now in let new = record_of c.switch_role.new.self in let m = message_view c.args.message.now in
    let o = pair_numbered c.args.number old.pairs in let present = c.is_of_present_role-present.result in let keeps = c.keeps_role-keeps.result in
    let named = subst (λ (id : List ℕ). IfSome o (λ (q : PairRecord). IsSentUnder q id old.controlling present)) c.trans_id.ensures c.is_of_present_role-present.ensures in
    role-expired old new m o present keeps named c.keeps_role-keeps.ensures
    (role-switches old new (switched old) present keeps c.if-present.true c.if-not-keeps.true c.switch_role.ensures.record)

pub returns-else-present-clause-leaves : goal.returns-else-present-clause-leaves
returns-else-present-clause-leaves g c =
    let old = record_of c.args.self.now in let m = message_view c.args.message.now in
    let o = pair_numbered c.args.number old.pairs in let present = c.is_of_present_role-present.result in let keeps = c.keeps_role-keeps.result in
    let named = subst (λ (id : List ℕ). IfSome o (λ (q : PairRecord). IsSentUnder q id old.controlling present)) c.trans_id.ensures c.is_of_present_role-present.ensures in
    role-expired old old m o present keeps named c.keeps_role-keeps.ensures
    (elim c.else-present.branch [
      | else-present-via-then-present+else-not-keeps w ↦ role-kept old (switched old) present keeps w.if-not-keeps.false
      | else-present-via-else-present w ↦ role-stays old (switched old) present keeps w.if-present.false
    ])
