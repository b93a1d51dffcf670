use Rattle.is.proofs.Common.{A, B, in_flight_of, map, outcome_of, record_of, world_of}
use Rattle.is.proofs.TwoAgentEvents.StatesAfterMethods.{polled}
use Rattle.is.proofs.world.TwoAgents.poll.Goals as goal

pub returns-in-A-clause-did : goal.returns-in-A-clause-did
returns-in-A-clause-did g c = λ s. rw c.in-A.is
    (polled _ _ A (world_of c.args.self.now) s _ (record_of c.poll_into-polled.new.agent) (map in_flight_of c.poll_into-polled.new.network.items) (outcome_of c.unchanged_step.result)
    c.poll_into-polled.ensures c.unchanged_step.ensures.emitted)

pub returns-in-B-clause-did : goal.returns-in-B-clause-did
returns-in-B-clause-did g c = λ s. rw c.in-B.is
    (polled _ _ B (world_of c.args.self.now) s _ (record_of c.poll_into-polled-in-B.new.agent) (map in_flight_of c.poll_into-polled-in-B.new.network.items) (outcome_of c.unchanged_step-in-B.result)
    c.poll_into-polled-in-B.ensures c.unchanged_step-in-B.ensures.emitted)
