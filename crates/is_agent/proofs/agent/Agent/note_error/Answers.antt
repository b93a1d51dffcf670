use Rattle.is_stun.specs.ErrorCodeView.{error_view}
use Rattle.is_stun.specs.MessageView.{message_view}
use Rattle.is_pair.specs.Checklists.{multiset_of}
use Rattle.is_pair.specs.Pairs.{with_error}
use Rattle.is_agent.specs.View.{record_of}
use Rattle.is_rules.proofs.PairLists.PairsInLists.{placed-changed}
use Rattle.is_agent.proofs.AgentParts.ReceivedResponses.{no-code-kept}
use Rattle.std.proofs.Common.{◌∙◌, ap, refl, sym, length, arith}
use Rattle.is_agent.proofs.AgentParts.PairCounts.{as-many-changed}
use Rattle.is_agent.proofs.agent.Agent.note_error.Goals as goal

pub invariant_of-self-clause-placed : goal.invariant_of-self-clause-placed
invariant_of-self-clause-placed g c =
    let self = c.args.self.now in
    rw (c.note_error.ensures.noted) (placed-changed self.local.items self.remote.items c.args.number (with_error c.in-Some.code) (multiset_of self.pairs) (record { local = λ p. refl; remote = λ p. refl }) self.placed)

pub returns-in_default-clause-noted : goal.returns-in_default-clause-noted
returns-in_default-clause-noted g c = no-code-kept (record_of c.args.self.now) (message_view c.args.message.now) c.args.number (ap error_view (sym c.in_default.is) ∙ c.error_code.ensures)

pub invariant_of-self-clause-room_suffices : goal.invariant_of-self-clause-room_suffices
invariant_of-self-clause-room_suffices g c = let self = c.args.self.now in omega (arith, ap length c.note_error.ensures.noted, as-many-changed c.args.number (with_error c.in-Some.code) (multiset_of self.pairs), self.room_suffices)
