-- Each poll takes from a queue, so the length of the queue is the measure.
use Rattle.std.proofs.Common.{length}
use Rattle.is.specs.View.{record_of}
use Rattle.ice_example.proofs.turn.Given as goal

abbrev pub invariant-loop-datagram : goal.invariant-loop-datagram
invariant-loop-datagram g l = Unit {0}

abbrev pub decreases-loop-datagram : goal.decreases-loop-datagram
decreases-loop-datagram g l = length l.side.inbox.items

abbrev pub invariant-loop-packet : goal.invariant-loop-packet
invariant-loop-packet g l = Unit {0}

abbrev pub decreases-loop-packet : goal.decreases-loop-packet
decreases-loop-packet g l = length (record_of l.side.agent.value).packets

abbrev pub invariant-loop-event : goal.invariant-loop-event
invariant-loop-event g l = Unit {0}

abbrev pub decreases-loop-event : goal.decreases-loop-event
decreases-loop-event g l = length (record_of l.side.agent.value).events
