-- What is asked of all clients of a program, and which of them a question is about.
use Rattle.std.specs.Prelude.{◌≡◌, ℕ, ◌&&◌, Bool, true, false, not, List, zero, suc, length, position, slice_get, is_some, Option, option_map}
use Rattle.std.specs.declared.net.socket_addr.SocketAddr.{SocketAddr}
use Rattle.is_proto.specs.declared.proto.Instant.{Instant}
use Rattle.is_turn.specs.declared.relay.Relay.{Relay}
use Rattle.is_turn.specs.Leases.{same_address}
use Rattle.is_turn.specs.OneRelay.{is_at, is_of, is_over, is_asking, has_packet, PermitsPeer, Loses}
use Rattle.is_turn.specs.Relays.{ChangesAt}

-- ---- questions

-- a client that is not over has this socket and server
abbrev pub is_serving : {H : Type 0} → SocketAddr → SocketAddr → Relay H → Bool
is_serving local server r = is_at local server r && not (is_over r)

abbrev pub serves : {H : Type 0} → SocketAddr → SocketAddr → List (Relay H) → Bool
serves local server l = is_some (position (is_serving local server) l)

-- a packet with this source goes through a client
abbrev pub relays_from : {H : Type 0} → SocketAddr → List (Relay H) → Bool
relays_from source l = is_some (position (is_of source) l)

abbrev pub some_packet : {H : Type 0} → List (Relay H) → Bool
some_packet l = is_some (position has_packet l)

-- the socket and the server of a client
abbrev pub ends_of : {H : Type 0} → Relay H → SocketAddr × SocketAddr
ends_of r = (r.local, r.client.session.server)

abbrev pub ends_at : {H : Type 0} → ℕ → List (Relay H) → Option (SocketAddr × SocketAddr)
ends_at place l = option_map ends_of (slice_get l place)

-- a client waits for its first answer, or what that said was not reported yet
abbrev pub is_gathering : {H : Type 0} → List (Relay H) → Bool
is_gathering l = is_some (position is_asking l)

-- ---- calls

-- the first so many clients are changed, one after the other, each as the relation says
abbrev pub ChangesFirst : {H : Type 0} → ℕ → (Relay H → Relay H → Type 0) → List (Relay H) → List (Relay H) → Type 0
ChangesFirst zero Changes old new = new ≡ old
ChangesFirst (suc n) Changes old new = (mid : List (Relay _)) × ChangesFirst n Changes old mid × ChangesAt n Changes mid new

-- each client is changed
abbrev pub ChangesEach : {H : Type 0} → (Relay H → Relay H → Type 0) → List (Relay H) → List (Relay H) → Type 0
ChangesEach Changes old new = ChangesFirst (length old) Changes old new

-- the permission of a peer is requested, whatever comes of it
abbrev pub RequestsPermission : {H : Type 0} → Instant → SocketAddr → Relay H → Relay H → Type 0
RequestsPermission now peer before after = (taken : Bool) × PermitsPeer now peer taken before after

abbrev pub LosesIf : {H : Type 0} → Bool → Relay H → Relay H → Type 0
LosesIf false before after = after ≡ before
LosesIf true before after = Loses before after

-- a client of this socket loses it; any other is unchanged
abbrev pub LosesAt : {H : Type 0} → SocketAddr → Relay H → Relay H → Type 0
LosesAt local before after = LosesIf (same_address before.local local) before after
