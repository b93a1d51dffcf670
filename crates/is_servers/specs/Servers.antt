-- All STUN and TURN clients of a program: what each call does to the three lists of them.
use Rattle.std.specs.Prelude.{◌≡◌, ◌||◌, Bool, true, false, List, map, position, Option}
use Rattle.std.specs.declared.net.socket_addr.SocketAddr.{SocketAddr}
use Rattle.is_proto.specs.declared.proto.Instant.{Instant}
use Rattle.is_turn.specs.declared.relay.Relay.{Relay}
use Rattle.is_turn.specs.declared.turn.TurnClient.{TurnClient}
use Rattle.is_turn.specs.AllRelays.{serves, ChangesEach, RequestsPermission, LosesAt}
use Rattle.is_turn.specs.AllRelays.{is_gathering as relays_gather}
use Rattle.is_turn.specs.OneRelay.{is_over, started_relay, Probes, Closes}
use Rattle.is_turn.specs.Relays.{earlier_time, earliest_time, relay_added}
use Rattle.is_servers.specs.declared.mapping.Mapping.{Mapping}
use Rattle.is_servers.specs.declared.servers.Servers.{Servers}
use Rattle.is_servers.specs.declared.transport.Transport.{Transport}
use Rattle.is_servers.specs.declared.transport.Transport.TheVariants.{Udp, Tcp}
use Rattle.is_servers.specs.Mapping.{closed, lost_at}
use Rattle.is_servers.specs.Mappings.{added, earliest, is_gathering as mappings_gather}

-- the STUN clients
abbrev pub mappings_of : {H : Type 0} → Servers H → List Mapping
mappings_of s = s.mappings.all.items

-- the TURN clients over UDP
abbrev pub udp_of : {H : Type 0} → Servers H → List (Relay H)
udp_of s = s.udp.relays.items

-- the TURN clients over TCP and TLS
abbrev pub tcp_of : {H : Type 0} → Servers H → List (Relay H)
tcp_of s = s.tcp.relays.items

-- the clients of all three kinds are as before
pub record IsSame {H : Type 0} (old new : Servers H) : Type 0 where
  pub mappings : mappings_of new ≡ mappings_of old
  pub udp : udp_of new ≡ udp_of old
  pub tcp : tcp_of new ≡ tcp_of old

-- ---- adding

-- a STUN client is added, unless the socket has one at this server that has not ended
pub record AddsStun {H : Type 0} (now : Instant) (local server : SocketAddr) (old new : Servers H) : Type 0 where
  pub mappings : mappings_of new ≡ added now local server (mappings_of old)
  pub udp : udp_of new ≡ udp_of old
  pub tcp : tcp_of new ≡ tcp_of old

-- a TURN client is added and started, unless the socket has one at this server whose end was not reported yet
abbrev pub turn_added_if : {H : Type 0} → Bool → Instant → SocketAddr → TurnClient H → List (Relay H) → List (Relay H)
turn_added_if true now local client l = l
turn_added_if false now local client l = (relay_added (position is_over l) (started_relay now local client) l).0

abbrev pub turn_added : {H : Type 0} → Instant → SocketAddr → TurnClient H → List (Relay H) → List (Relay H)
turn_added now local client l = turn_added_if (serves local client.session.server l) now local client l

abbrev pub added_udp : {H : Type 0} → Transport → Instant → SocketAddr → TurnClient H → List (Relay H) → List (Relay H)
added_udp Udp now local client l = turn_added now local client l
added_udp Tcp now local client l = l

abbrev pub added_tcp : {H : Type 0} → Transport → Instant → SocketAddr → TurnClient H → List (Relay H) → List (Relay H)
added_tcp Udp now local client l = l
added_tcp Tcp now local client l = turn_added now local client l

-- A TURN client is added to those of its transport and started, unless its socket has one at this server whose end was not reported
-- yet.
pub record AddsTurn {H : Type 0} (now : Instant) (transport : Transport) (local : SocketAddr) (client : TurnClient H) (old new : Servers H)
    : Type 0 where
  pub mappings : mappings_of new ≡ mappings_of old
  pub udp : udp_of new ≡ added_udp transport now local client (udp_of old)
  pub tcp : tcp_of new ≡ added_tcp transport now local client (tcp_of old)

-- ---- calls for all clients

-- Each TURN client requests a permission for the peer.
pub record AsksPermissions {H : Type 0} (now : Instant) (peer : SocketAddr) (old new : Servers H) : Type 0 where
  pub mappings : mappings_of new ≡ mappings_of old
  pub udp : ChangesEach (RequestsPermission now peer) (udp_of old) (udp_of new)
  pub tcp : ChangesEach (RequestsPermission now peer) (tcp_of old) (tcp_of new)

-- Each TURN client asks its server whether the allocation is there.
pub record ProbesAll {H : Type 0} (now : Instant) (old new : Servers H) : Type 0 where
  pub mappings : mappings_of new ≡ mappings_of old
  pub udp : ChangesEach (Probes now) (udp_of old) (udp_of new)
  pub tcp : ChangesEach (Probes now) (tcp_of old) (tcp_of new)

-- Each client ends.
pub record ClosesAll {H : Type 0} (now : Instant) (old new : Servers H) : Type 0 where
  pub mappings : mappings_of new ≡ map closed (mappings_of old)
  pub udp : ChangesEach (Closes now) (udp_of old) (udp_of new)
  pub tcp : ChangesEach (Closes now) (tcp_of old) (tcp_of new)

pub record LosesUdp {H : Type 0} (local : SocketAddr) (old new : Servers H) : Type 0 where
  pub mappings : mappings_of new ≡ map (lost_at local) (mappings_of old)
  pub udp : ChangesEach (LosesAt local) (udp_of old) (udp_of new)
  pub tcp : tcp_of new ≡ tcp_of old

pub record LosesTcp {H : Type 0} (local : SocketAddr) (old new : Servers H) : Type 0 where
  pub mappings : mappings_of new ≡ mappings_of old
  pub udp : udp_of new ≡ udp_of old
  pub tcp : ChangesEach (LosesAt local) (tcp_of old) (tcp_of new)

-- the clients of a socket lose it, or those of a connection
abbrev pub Loses : {H : Type 0} → Transport → SocketAddr → Servers H → Servers H → Type 0
Loses Udp local old new = LosesUdp local old new
Loses Tcp local old new = LosesTcp local old new

-- ---- questions

-- the earliest time of a client
abbrev pub next_time : {H : Type 0} → Servers H → Option Instant
next_time s = earlier_time (earliest (mappings_of s)) (earlier_time (earliest_time (udp_of s)) (earliest_time (tcp_of s)))

-- a client waits for its first answer, or what that said was not reported yet
abbrev pub is_gathering : {H : Type 0} → Servers H → Bool
is_gathering s = mappings_gather (mappings_of s) || relays_gather (udp_of s) || relays_gather (tcp_of s)
