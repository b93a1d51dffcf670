-- A TURN client with the socket that it is of, and what each call does to it.
use Rattle.std.specs.Prelude.{◌≡◌, ℕ, ◌&&◌, ◌||◌, Bool, true, false, List, nat_le, is_some, is_none, not, Option, Some, None, Result, Ok, Err}
use Rattle.std.specs.declared.net.socket_addr.SocketAddr.{SocketAddr}
use Rattle.rand_core.specs.Stream.{Stream}
use Rattle.is_proto.specs.declared.error.StunError.{StunError}
use Rattle.is_proto.specs.declared.proto.Instant.{Instant}
use Rattle.is_stun.specs.declared.trans_id.TransId.{TransId}
use Rattle.is_turn.specs.declared.relay.Datagram.{Datagram as RawDatagram}
use Rattle.is_turn.specs.declared.relay.Outbound.{Outbound}
use Rattle.is_turn.specs.declared.relay.Outgoing.{Outgoing}
use Rattle.is_turn.specs.declared.relay.Outgoing.TheVariants as outgoing
use Rattle.is_turn.specs.declared.relay.Relay.{Relay}
use Rattle.is_turn.specs.declared.session.Allocation.{Allocation}
use Rattle.is_turn.specs.declared.session.Phase.{Phase}
use Rattle.is_turn.specs.declared.session.Phase.TheVariants as phases
use Rattle.is_turn.specs.declared.turn.TurnClient.{TurnClient}
use Rattle.is_turn.specs.declared.turn.Packet.{Packet}
use Rattle.is_turn.specs.declared.turn.Packet.TheVariants as packets
use Rattle.is_turn.specs.declared.turn.TurnEvent.{TurnEvent}
use Rattle.is_turn.specs.declared.turn.TurnEvent.TheVariants as events
use Rattle.is_turn.specs.Leases.{same_address, is_for}
use Rattle.is_turn.specs.Receipts.{Receipt, other, own, dropped, peer_data}
use Rattle.is_turn.specs.Receiving.{IsReceived}
use Rattle.is_turn.specs.Relaying.{is_media, permits_peer, routed, after_route, WritesRoute, TimesOut, client_packet, PollsTurn, after_poll, leases_after_poll, client_event, next_client_time, session_after_event, leases_after_event}
use Rattle.is_turn.specs.Relaying.{kept_leases}
use Rattle.is_turn.specs.Session.{turn_started, turn_closed, turn_lost, probed}
use Rattle.is_turn.specs.Turn.{known, key_now, kept_credentials}

-- ---- one client with its socket

-- a datagram of this socket, from this server, is the client's
abbrev pub is_at : {H : Type 0} → SocketAddr → SocketAddr → Relay H → Bool
is_at local source r = same_address r.local local && same_address r.client.session.server source

-- a packet with this source goes through the client
abbrev pub is_of : {H : Type 0} → SocketAddr → Relay H → Bool
is_of source r = is_for source r.relayed

abbrev pub event_of_relay : {H : Type 0} → Relay H → Option TurnEvent
event_of_relay r = client_event r.client.session r.client.leases.items

abbrev pub has_event : {H : Type 0} → Relay H → Bool
has_event r = is_some (event_of_relay r)

abbrev pub is_packet : Packet → Bool
is_packet packets.Nothing = false
is_packet (packets.Request r id) = true
is_packet (packets.Lease place r id) = true
is_packet (packets.KeepAlive id) = true

abbrev pub packet_of_relay : {H : Type 0} → Relay H → Packet
packet_of_relay r = client_packet r.client.session r.client.leases.items

abbrev pub has_packet : {H : Type 0} → Relay H → Bool
has_packet r = is_packet (packet_of_relay r)

abbrev pub time_of_relay : {H : Type 0} → Relay H → Option Instant
time_of_relay r = next_client_time r.client.session r.client.leases.items

abbrev pub is_time : Instant → Option Instant → Bool
is_time time None = false
is_time time (Some due) = nat_le due.0 time.0

abbrev pub is_due_at : {H : Type 0} → Instant → Relay H → Bool
is_due_at time r = is_time time (time_of_relay r)

-- ---- what a datagram of a client is to the program

-- a datagram, without its place in memory
pub record Arrived : Type 0 where
  pub source : SocketAddr
  pub destination : SocketAddr
  pub contents : List ℕ

abbrev pub arrived_view : RawDatagram → Arrived
arrived_view d = record { source = d.source; destination = d.destination; contents = d.contents.now }

abbrev pub passed_to : Option Allocation → SocketAddr → List ℕ → Option Arrived
passed_to None peer contents = None
passed_to (Some a) peer contents = Some (record { source = peer; destination = a.relayed; contents = contents })

-- data of a peer comes from the peer to the relayed address; all else is for the client only
abbrev pub passed : Receipt → Option Allocation → Option Arrived
passed other allocation = None
passed own allocation = None
passed (dropped reason) allocation = None
passed (peer_data peer contents) allocation = passed_to allocation peer contents

-- the relayed address is known once it was reported
abbrev pub relayed_after : Option TurnEvent → Option SocketAddr → Option SocketAddr
relayed_after (Some (events.Allocated a)) relayed = Some a.relayed
relayed_after (Some (events.NotPermitted ip code)) relayed = relayed
relayed_after (Some (events.Ended ending)) relayed = relayed
relayed_after None relayed = relayed

abbrev pub is_ended : Phase → Bool
is_ended phases.Ended = true
is_ended _ = false

-- the client ended, and that was reported: its place may be given to another client
abbrev pub is_over : {H : Type 0} → Relay H → Bool
is_over r = is_ended r.client.session.phase && not (has_event r)

abbrev pub is_waiting : Phase → Bool
is_waiting phases.Asking = true
is_waiting _ = false

-- the client waits for its first answer, or what that said was not reported yet
abbrev pub is_asking : {H : Type 0} → Relay H → Bool
is_asking r = is_none r.relayed && (is_waiting r.client.session.phase || has_event r)

-- a client that is added is started
abbrev pub started_relay : {H : Type 0} → Instant → SocketAddr → TurnClient H → Relay H
started_relay now local client = record {
  local = local;
  client = record client { session = turn_started now client.session };
  relayed = None;
}

-- ---- what a client writes

abbrev pub outbound : SocketAddr → SocketAddr → ℕ → Outbound
outbound local server n = record { local = local; server = server; len = n }

-- a packet of the client goes from its socket to its server
abbrev pub polled_as : SocketAddr → SocketAddr → Result (Option ℕ) StunError → Result (Option Outbound) StunError
polled_as local server (Ok None) = Ok None
polled_as local server (Ok (Some n)) = Ok (Some (outbound local server n))
polled_as local server (Err e) = Err e

abbrev pub sent_as : SocketAddr → SocketAddr → Result (Option ℕ) StunError → Result Outgoing StunError
sent_as local server (Ok None) = Ok outgoing.Nowhere
sent_as local server (Ok (Some n)) = Ok (outgoing.Through (outbound local server n))
sent_as local server (Err e) = Err e

-- ---- a call of one client

-- the rest of what is known of it
abbrev pub SameRelay : {H : Type 0} → Relay H → Relay H → Type 0
SameRelay before after = (after.local ≡ before.local) × (after.relayed ≡ before.relayed) × (after.client.provider ≡ before.client.provider)

-- one client takes a datagram of its server
pub record TakesDatagram {H : Type 0} (mac : H → List ℕ → List ℕ → List ℕ) (now : Instant) (bytes : List ℕ) (result : Option Arrived)
    (before after : Relay H) : Type 0 where
  pub receipt : Receipt
  pub received : IsReceived (mac before.client.provider) now bytes before.client.session before.client.leases.items (known before.client.credentials)
      receipt after.client.session after.client.leases.items (known after.client.credentials)
  pub passes : result ≡ passed receipt before.client.session.allocation
  pub rest : SameRelay before after

-- one client takes a packet whose source is its relayed address
pub record TakesPacket {H : Type 0} (now : Instant) (peer : SocketAddr) (contents : List ℕ) (id : TransId) (buf_old buf_new : List ℕ)
    (result : Result Outgoing StunError) (before after : Relay H) : Type 0 where
  pub written : Result (Option ℕ) StunError
  pub packet : WritesRoute (routed now peer (is_media contents) before.client.session before.client.leases.items).1 id peer contents buf_old written buf_new
  pub session : after.client.session
      ≡ after_route (routed now peer (is_media contents) before.client.session before.client.leases.items).1 now before.client.session
  pub leases : after.client.leases.items ≡ (routed now peer (is_media contents) before.client.session before.client.leases.items).0
  pub credentials : after.client.credentials ≡ before.client.credentials
  pub passes : result ≡ sent_as before.local before.client.session.server written
  pub rest : SameRelay before after

-- one client is polled for a packet
pub record PollsRelay {H : Type 0} (mac : H → List ℕ → List ℕ → List ℕ) (buf_old buf_new : List ℕ) (result : Result (Option Outbound) StunError)
    (before after : Relay H) : Type 0 where
  pub written : Result (Option ℕ) StunError
  pub packet : PollsTurn (mac before.client.provider) (known before.client.credentials) before.client.session before.client.leases.items
      buf_old written buf_new
  pub session : after.client.session ≡ after_poll written (packet_of_relay before) before.client.session
  pub leases : after.client.leases.items ≡ leases_after_poll written (packet_of_relay before) before.client.leases.items
  pub credentials : after.client.credentials ≡ before.client.credentials
  pub passes : result ≡ polled_as before.local before.client.session.server written
  pub rest : SameRelay before after

-- the clock of one client
pub record RelayTimesOut {H : Type 0} (now : Instant) (stream stream_new : Stream) (before after : Relay H) : Type 0 where
  pub step : TimesOut now (key_now (known before.client.credentials)) stream before.client.session before.client.leases.items
      after.client.session after.client.leases.items stream_new
  pub credentials : known after.client.credentials ≡ kept_credentials after.client.session (known before.client.credentials)
  pub rest : SameRelay before after

-- the event of one client is polled
pub record ReportsEvent {H : Type 0} (result : Option TurnEvent) (before after : Relay H) : Type 0 where
  pub event : result ≡ event_of_relay before
  pub session : after.client.session ≡ session_after_event before.client.session before.client.leases.items
  pub leases : after.client.leases.items ≡ leases_after_event before.client.session before.client.leases.items
  pub credentials : after.client.credentials ≡ before.client.credentials
  pub provider : after.client.provider ≡ before.client.provider
  pub local : after.local ≡ before.local
  pub relayed : after.relayed ≡ relayed_after result before.relayed

-- the permission of a peer is requested of one client
pub record PermitsPeer {H : Type 0} (now : Instant) (peer : SocketAddr) (result : Bool) (before after : Relay H) : Type 0 where
  pub leases : (after.client.leases.items, result) ≡ permits_peer now peer before.client.session before.client.leases.items
  pub session : after.client.session ≡ before.client.session
  pub credentials : after.client.credentials ≡ before.client.credentials
  pub rest : SameRelay before after

-- one client asks its server whether it has the allocation
pub record Probes {H : Type 0} (now : Instant) (before after : Relay H) : Type 0 where
  pub session : after.client.session ≡ probed now before.client.session
  pub leases : after.client.leases ≡ before.client.leases
  pub credentials : after.client.credentials ≡ before.client.credentials
  pub rest : SameRelay before after

-- one client is closed
pub record Closes {H : Type 0} (now : Instant) (before after : Relay H) : Type 0 where
  pub session : after.client.session ≡ turn_closed now (is_some before.client.credentials) before.client.session
  pub credentials : known after.client.credentials ≡ kept_credentials after.client.session (known before.client.credentials)
  pub leases : after.client.leases.items ≡ kept_leases after.client.session before.client.leases.items
  pub rest : SameRelay before after

-- the socket of one client is gone
pub record Loses {H : Type 0} (before after : Relay H) : Type 0 where
  pub session : after.client.session ≡ turn_lost before.client.session
  pub credentials : known after.client.credentials ≡ kept_credentials after.client.session (known before.client.credentials)
  pub leases : after.client.leases.items ≡ kept_leases after.client.session before.client.leases.items
  pub rest : SameRelay before after
