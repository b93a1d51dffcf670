-- What a slot holds.
use Rattle.std.specs.Prelude.{Option, option_map}
use Rattle.is_proto.specs.Packets.{packet_of}
use Rattle.is_agent.specs.View.{record_of}
use Rattle.is_monitor.specs.Failures.{failures_of}
use Rattle.is_c_calls.specs.Held.{HeldRecord}
use Rattle.is_c.specs.declared.held.HeldAgent.{HeldAgent}
use Rattle.is_c.specs.declared.slot.Slot.{Slot}

abbrev pub held_record : HeldAgent → HeldRecord
held_record h = record {
  agent = record_of h.agent;
  waiting = option_map packet_of h.waiting;
  deadline = option_map (λ at. at.0) h.deadline;
  monitor = h.monitor;
  failures = failures_of h.failures;
}

abbrev pub held_by : Slot → Option HeldRecord
held_by slot = option_map held_record slot.handle.held
