use Rattle.is.proofs.Common.{A, B, call_view, clears, entry_view, None, outcome_of, record_of, refl, world_of}
use Rattle.is.proofs.TwoAgentEvents.StatesAfterMethods.{reversed, unmoving}
use Rattle.is.proofs.world.TwoAgents.turn.Goals as goal

pub returns-in-A-clause-did : goal.returns-in-A-clause-did
returns-in-A-clause-did g c = rw c.in-A.is
    (reversed _ _ A (world_of c.args.self.now) _ _ _ _ (record_of c.step-entry.new.agent) (entry_view c.step-entry.result) (outcome_of c.emitted_call.result)
    (clears (call_view c.args.call) (entry_view c.step-entry.result).answer) None
    c.step-entry.ensures.did refl c.step-entry.ensures.given refl (unmoving (call_view c.args.call) c.requires) (rw c.is_clearing-clearing.ensures at c.emitted_call.ensures.emitted))

pub returns-in-B-clause-did : goal.returns-in-B-clause-did
returns-in-B-clause-did g c = rw c.in-B.is
    (reversed _ _ B (world_of c.args.self.now) _ _ _ _ (record_of c.step-entry-in-B.new.agent) (entry_view c.step-entry-in-B.result) (outcome_of c.emitted_call-in-B.result)
    (clears (call_view c.args.call) (entry_view c.step-entry-in-B.result).answer) None
    c.step-entry-in-B.ensures.did refl c.step-entry-in-B.ensures.given refl (unmoving (call_view c.args.call) c.requires) (rw c.is_clearing-clearing.ensures at c.emitted_call-in-B.ensures.emitted))
