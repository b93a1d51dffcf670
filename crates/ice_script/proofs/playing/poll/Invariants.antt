-- Each poll takes from a queue.
use Rattle.std.proofs.Common.{length}
use Rattle.is.specs.View.{record_of}
use Rattle.ice_script.proofs.playing.poll.Given as goal

abbrev pub invariant-loop-packet : goal.invariant-loop-packet
invariant-loop-packet g l = Unit {0}

abbrev pub decreases-loop-packet : goal.decreases-loop-packet
decreases-loop-packet g l = length (record_of l.agent).packets

abbrev pub invariant-loop-event : goal.invariant-loop-event
invariant-loop-event g l = Unit {0}

abbrev pub decreases-loop-event : goal.decreases-loop-event
decreases-loop-event g l = length (record_of l.agent).events
