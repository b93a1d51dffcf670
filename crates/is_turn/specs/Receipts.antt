-- What a datagram was to a TURN client, without its place in memory.
use Rattle.std.specs.Prelude.{ℕ, List}
use Rattle.std.specs.declared.net.socket_addr.SocketAddr.{SocketAddr}
use Rattle.is_turn.specs.declared.outcome.Reason.{Reason}
use Rattle.is_turn.specs.declared.turn.TurnReceived.{TurnReceived}
use Rattle.is_turn.specs.declared.turn.TurnReceived.TheVariants.{Other, Own, Dropped, Data}

-- what a datagram was for the client: nothing, its own, dropped and why, or data of a peer
pub data Receipt : Type 0 where
  other : Receipt
  own : Receipt
  dropped : Reason → Receipt
  peer_data : SocketAddr → List ℕ → Receipt

-- what the client returned, without its memory layout
abbrev pub received_view : TurnReceived → Receipt
received_view Other = other
received_view Own = own
received_view (Dropped reason) = dropped reason
received_view (Data peer contents) = peer_data peer contents.now
