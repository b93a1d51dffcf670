use Rattle.is.proofs.Common.{A, B, entry_view, in_flight_of, None, outcome_of, record_of, Some, world_of}
use Rattle.is.proofs.TwoAgentEvents.StatesAfterMethods.{get-map, delivered, not_found}
use Rattle.is.proofs.world.TwoAgents.deliver.Goals as goal

pub returns-in-B-clause-did : goal.returns-in-B-clause-did
returns-in-B-clause-did g c = λ s.
    delivered _ _ A (world_of c.args.self.now) s c.args.place c.args.now.0 c.args.path (in_flight_of c.in-Some.in_flight.now) (record_of c.take_packet-entry.new.agent)
    (entry_view c.take_packet-entry.result) (outcome_of c.emitted.result) c.read_as-moved.result (get-map in_flight_of c.args.self.now.network.items c.args.place (Some c.in-Some.in_flight.now) (rw c.deref.ensures.value at c.in-Some.ensures)) c.in-B.is (rw c.deref-in-B.ensures.value at c.take_packet-entry.ensures.did) (rw c.deref-in-Some.ensures.value at c.read_as-moved.ensures) c.emitted.ensures.emitted

pub returns-in-A-clause-did : goal.returns-in-A-clause-did
returns-in-A-clause-did g c = λ s.
    delivered _ _ B (world_of c.args.self.now) s c.args.place c.args.now.0 c.args.path (in_flight_of c.in-Some.in_flight.now) (record_of c.take_packet-entry-in-A.new.agent)
    (entry_view c.take_packet-entry-in-A.result) (outcome_of c.emitted-in-A.result) c.read_as-moved.result (get-map in_flight_of c.args.self.now.network.items c.args.place (Some c.in-Some.in_flight.now) (rw c.deref.ensures.value at c.in-Some.ensures)) c.in-A.is (rw c.deref-in-A.ensures.value at c.take_packet-entry-in-A.ensures.did) (rw c.deref-in-Some.ensures.value at c.read_as-moved.ensures) c.emitted-in-A.ensures.emitted

pub returns-in-None-clause-did : goal.returns-in-None-clause-did
returns-in-None-clause-did g c = λ s.
    not_found _ _ (world_of c.args.self.now) s c.args.place c.args.now.0 c.args.path (outcome_of c.unchanged_step.result)
    (get-map in_flight_of c.args.self.now.network.items c.args.place None (rw c.deref.ensures.value at c.in-None.ensures)) c.unchanged_step.ensures.emitted
