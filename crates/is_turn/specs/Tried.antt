-- The servers to which a client sent Allocate requests (RFC 8489, section 10).
use Rattle.std.specs.Prelude.{◌≡◌, ◌⊎◌, Bool, is_some, Some, None}
use Rattle.std.specs.declared.net.socket_addr.SocketAddr.{SocketAddr}
use Rattle.is_turn.specs.declared.tried.Tried.{Tried}

abbrev pub tried_only : SocketAddr → Tried
tried_only server = record { last = server; second = None; third = None; fourth = None }

abbrev pub and_tried : SocketAddr → Tried → Tried
and_tried server t = record { last = server; second = Some t.last; third = t.second; fourth = t.third }

abbrev pub HasTried : SocketAddr → Tried → Type 0
HasTried server t = (t.last ≡ server) ⊎ ((t.second ≡ Some server) ⊎ ((t.third ≡ Some server) ⊎ (t.fourth ≡ Some server)))

abbrev pub is_full : Tried → Bool
is_full t = is_some t.fourth
