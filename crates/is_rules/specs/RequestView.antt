-- A request, and the path of a packet, without their layout in memory.
use Rattle.is_stun.specs.declared.message.StunPacket.{StunPacket}
use Rattle.is_rules.specs.declared.request.Request.{Request}
use Rattle.is_rules.specs.declared.request.Waiting.{Waiting}
use Rattle.is_rules.specs.declared.emitted.Path.{Path}
use Rattle.is_rules.specs.Request.{RequestRecord}

abbrev pub request_view : Request → RequestRecord
request_view q = record {
  time = q.time.0;
  path = q.path;
  id = q.id.0;
  priority = q.priority;
  use_candidate = q.use_candidate;
  nomination = q.nomination;
  ufrag = q.ufrag.now;
  ice_controlling = q.ice_controlling;
  ice_controlled = q.ice_controlled;
}

-- an early request
abbrev pub waiting_view : Waiting → RequestRecord
waiting_view q = record {
  time = q.time.0;
  path = q.path;
  id = q.id.0;
  priority = q.priority;
  use_candidate = q.use_candidate;
  nomination = q.nomination;
  ufrag = q.ufrag;
  ice_controlling = q.ice_controlling;
  ice_controlled = q.ice_controlled;
}

-- the path on which a packet was received
abbrev pub packet_path : StunPacket → Path
packet_path packet = record { proto = packet.proto; source = packet.source; destination = packet.destination }
