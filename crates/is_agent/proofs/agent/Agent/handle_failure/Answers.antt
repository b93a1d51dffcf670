use Rattle.std.proofs.Common.{◌≡◌, ◌∙◌, IfSome, refl, subst, sym}
use Rattle.std.specs.Prelude.{MatchBool, true}
use Rattle.is_stun.specs.MessageView.{message_view}
use Rattle.is_pair.specs.Multiset.{pair_numbered}
use Rattle.is_pair.specs.Pairs.{PairRecord}
use Rattle.is_rules.specs.Answers.{is_role_conflict, LeavesRole}
use Rattle.is_rules.specs.Emitted.{nothing_emitted}
use Rattle.is_agent.specs.View.{record_of}
use Rattle.is_agent.proofs.AgentParts.ReceivedResponses.{error-awaited, failure-taken}
use Rattle.is_agent.proofs.agent.Agent.handle_failure.Goals as goal

pub leave_role-requires : goal.leave_role-requires
leave_role-requires g c = record {
  kept = error-awaited (record_of c.args.self.now) (record_of c.note_error.new.self) c.args.path.now (message_view c.args.message.now) c.args.number c.requires.kept c.note_error.ensures.noted;
}

pub returns-then-is_role_conflict-clause-taken : goal.returns-then-is_role_conflict-clause-taken
returns-then-is_role_conflict-clause-taken g c =
    let m = message_view c.args.message.now in let noted = record_of c.note_error.new.self in let new = record_of c.leave_role.new.self in
    failure-taken (record_of c.args.self.now) noted new c.args.path.now m c.args.number c.requires.kept c.note_error.ensures.noted
    (subst (λ b. MatchBool b (IfSome (pair_numbered c.args.number noted.pairs) (λ (p : PairRecord). LeavesRole p m noted nothing_emitted new)) (new ≡ noted))
    (sym c.if-is_role_conflict.true ∙ c.is_role_conflict.ensures) c.leave_role.ensures.leaves)

pub returns-else-is_role_conflict-clause-taken : goal.returns-else-is_role_conflict-clause-taken
returns-else-is_role_conflict-clause-taken g c =
    let m = message_view c.args.message.now in let noted = record_of c.note_error.new.self in
    failure-taken (record_of c.args.self.now) noted noted c.args.path.now m c.args.number c.requires.kept c.note_error.ensures.noted
    (subst (λ b. MatchBool b (IfSome (pair_numbered c.args.number noted.pairs) (λ (p : PairRecord). LeavesRole p m noted nothing_emitted noted)) (noted ≡ noted))
    (sym c.if-is_role_conflict.false ∙ c.is_role_conflict.ensures) refl)
