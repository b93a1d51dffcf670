-- Packets to send, as contracts see them: their bytes count, but not the capacity of their vector.
use Rattle.std.specs.Prelude.{ℕ, List}
use Rattle.std.specs.declared.net.socket_addr.SocketAddr.{SocketAddr}
use Rattle.is_proto.specs.declared.proto.Protocol.{Protocol}
use Rattle.is_proto.specs.declared.proto.Transmit as transmit

pub record Packet : Type 0 where
  pub proto : Protocol
  pub source : SocketAddr
  pub destination : SocketAddr
  pub contents : List ℕ

abbrev pub packet_of : transmit.Transmit → Packet
packet_of t = record { proto = t.proto; source = t.source; destination = t.destination; contents = t.contents.items }
