-- Of which peers a client has leases, and of which it takes data: of those that were requested.
use Rattle.std.specs.Prelude.{◌≡◌, ◌⊎◌, ℕ, true, List, length, position, Some}
use Rattle.std.specs.declared.net.socket_addr.SocketAddr.{SocketAddr}
use Rattle.is_turn.specs.declared.lease.Lease.{Lease}
use Rattle.is_turn.specs.declared.session.Session.{Session}
use Rattle.is_turn.specs.Leases.{ip_of, is_permission_of, is_open}
use Rattle.is_turn.specs.Numbers.{SameChannel}
use Rattle.is_turn.specs.Places.{at_place}
use Rattle.is_turn.specs.Receipts.{Receipt, other, own, dropped, peer_data}
use Rattle.is_turn.specs.Session.{is_ready}

-- there is an allocation, and a permission of the peer's IP address, which was requested and did not lapse since
pub record IsRequested (peer : SocketAddr) (s : Session) (l : List Lease) : Type 0 where
  pub ready : is_ready s.phase ≡ true
  pub place : ℕ
  pub permission : position (is_permission_of (ip_of peer)) l ≡ Some place
  pub opened : is_open (at_place place l) ≡ true

-- data is taken only of a peer that was requested
abbrev pub DataIsRequested : Receipt → Session → List Lease → Type 0
DataIsRequested other s l = Unit {0}
DataIsRequested own s l = Unit {0}
DataIsRequested (dropped reason) s l = Unit {0}
DataIsRequested (peer_data peer contents) s l = IsRequested peer s l

-- each place keeps its peer, and whether it is a channel's
pub record KeepsPlaces (l new : List Lease) : Type 0 where
  pub places : length new ≡ length l
  pub same : (place : ℕ) → SameChannel (at_place place l) (at_place place new)

-- or is this peer's
pub record NamesOnly (peer : SocketAddr) (l new : List Lease) : Type 0 where
  pub places : length new ≡ length l
  pub same : (place : ℕ) → SameChannel (at_place place l) (at_place place new) ⊎ ((at_place place new).peer ≡ Some peer)
