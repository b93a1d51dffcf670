-- What arrives at the clients of servers, and what they send and report: for which of them a call is. It changes no other.
use Rattle.std.specs.Prelude.{◌≡◌, ℕ, ◌-◌, ◌&&◌, Bool, true, false, List, ◌++◌, length, take, drop, nat_le, position, is_some, Option, Some, None, Result, Ok, Err}
use Rattle.std.specs.Option.{option_and_then}
use Rattle.std.specs.declared.net.socket_addr.SocketAddr.{SocketAddr}
use Rattle.rand_core.specs.Stream.{Stream}
use Rattle.is_proto.specs.declared.error.StunError.{StunError}
use Rattle.is_proto.specs.declared.error.StunError.TheVariants.{BufferTooShort}
use Rattle.is_proto.specs.declared.proto.Instant.{Instant}
use Rattle.is_stun.specs.declared.trans_id.TransId.{TransId}
use Rattle.is_turn.specs.declared.relay.Outbound.{Outbound}
use Rattle.is_turn.specs.declared.relay.Outgoing.{Outgoing}
use Rattle.is_turn.specs.declared.relay.Relay.{Relay}
use Rattle.is_turn.specs.declared.turn.TurnEvent.{TurnEvent}
use Rattle.is_turn.specs.AllRelays.{relays_from, ends_at}
use Rattle.is_turn.specs.AllRelays.{some_packet as some_relay_packet}
use Rattle.is_turn.specs.OneRelay.{Arrived}
use Rattle.is_turn.specs.OneRelay.{has_event as relay_has_event}
use Rattle.is_turn.specs.Relays.{Receives as RelaysReceive, Sends as RelaysSend, Polls as RelaysPoll, Reports as RelaysReport, TimesOutAt as RelayTimesOutAt, earliest_time, due_relay}
use Rattle.is_servers.specs.declared.events.ServerEvent.{ServerEvent}
use Rattle.is_servers.specs.declared.packets.ServerOutgoing.{ServerOutgoing}
use Rattle.is_servers.specs.declared.packets.ServerOutgoing.TheVariants.{AsItIs}
use Rattle.is_servers.specs.declared.packets.ServerPacket.{ServerPacket}
use Rattle.is_servers.specs.declared.servers.Servers.{Servers}
use Rattle.is_servers.specs.declared.transport.Transport.{Transport}
use Rattle.is_servers.specs.declared.transport.Transport.TheVariants.{Udp, Tcp}
use Rattle.is_servers.specs.Events.{turn_happened}
use Rattle.is_servers.specs.Mappings.{Takes, TimesOutAt, Polls, Reports, earliest, due, some_packet, some_event}
use Rattle.is_servers.specs.Packets.{sent_over, polled_over, padded_buffer, padded_outgoing}
use Rattle.is_servers.specs.Servers.{mappings_of, udp_of, tcp_of, IsSame}

-- the first time is there, and not later than the other
abbrev pub is_first : Option Instant → Option Instant → Bool
is_first None other = false
is_first (Some time) None = true
is_first (Some time) (Some other) = nat_le time.0 other.0

-- the event of a TURN client, with its socket and server
abbrev pub event_from : Transport → Option (SocketAddr × SocketAddr) → Option (ℕ × TurnEvent) → Option ServerEvent
event_from transport None event = None
event_from transport (Some ends) None = None
event_from transport (Some ends) (Some event) =
    Some (record { transport = transport; local = ends.0; server = ends.1; what = turn_happened event.1 })

module _ {H : Type 0} where
  -- ---- datagrams

  -- what a STUN client waited for is for no other; any other datagram is shown to the TURN clients
  abbrev pub ReceivesUnless : Bool → (H → List ℕ → List ℕ → List ℕ) → Instant → SocketAddr → SocketAddr → List ℕ → List (Relay H)
      → Option Arrived → List (Relay H) → Type 0
  ReceivesUnless true mac now local source bytes old result new = (result ≡ None) × (new ≡ old)
  ReceivesUnless false mac now local source bytes old result new = RelaysReceive mac now local source bytes old result new

  pub record ReceivesUdp (mac : H → List ℕ → List ℕ → List ℕ) (now : Instant) (local source : SocketAddr) (bytes : List ℕ) (old : Servers H)
      (result : Option Arrived) (new : Servers H) : Type 0 where
    pub own : Bool
    pub mappings : Takes now local source bytes (mappings_of old) own (mappings_of new)
    pub udp : ReceivesUnless own mac now local source bytes (udp_of old) result (udp_of new)
    pub tcp : tcp_of new ≡ tcp_of old

  pub record ReceivesTcp (mac : H → List ℕ → List ℕ → List ℕ) (now : Instant) (local source : SocketAddr) (bytes : List ℕ) (old : Servers H)
      (result : Option Arrived) (new : Servers H) : Type 0 where
    pub mappings : mappings_of new ≡ mappings_of old
    pub udp : udp_of new ≡ udp_of old
    pub tcp : RelaysReceive mac now local source bytes (tcp_of old) result (tcp_of new)

  -- A datagram that a STUN client waits for is for no other; any other one is for the TURN clients of its transport.
  abbrev pub Receives : Transport → (H → List ℕ → List ℕ → List ℕ) → Instant → SocketAddr → SocketAddr → List ℕ → Servers H → Option Arrived
      → Servers H → Type 0
  Receives Udp mac now local source bytes old result new = ReceivesUdp mac now local source bytes old result new
  Receives Tcp mac now local source bytes old result new = ReceivesTcp mac now local source bytes old result new

  -- ---- packets of the agent

  pub record SendsUdp (now : Instant) (source destination : SocketAddr) (contents : List ℕ) (id : TransId) (buf_old buf_new : List ℕ)
      (old : Servers H) (result : Result ServerOutgoing StunError) (new : Servers H) : Type 0 where
    pub sent : Result Outgoing StunError
    pub sends : RelaysSend now source destination contents id buf_old buf_new (udp_of old) sent (udp_of new)
    pub passes : result ≡ sent_over Udp sent
    pub mappings : mappings_of new ≡ mappings_of old
    pub tcp : tcp_of new ≡ tcp_of old

  -- over TCP all but the last three bytes of the buffer are for the packet, and the padding is written after it
  pub record SendsPadded (now : Instant) (source destination : SocketAddr) (contents : List ℕ) (id : TransId) (buf_old buf_new : List ℕ)
      (old : List (Relay H)) (result : Result Outgoing StunError) (new : List (Relay H)) : Type 0 where
    pub sent : Result Outgoing StunError
    pub room : List ℕ
    pub sends : RelaysSend now source destination contents id (take (length buf_old - 3) buf_old) room old sent new
    pub buffer : buf_new ≡ padded_buffer sent (room ++ drop (length buf_old - 3) buf_old)
    pub passes : result ≡ padded_outgoing sent

  abbrev pub SendsIfRoom : Bool → Instant → SocketAddr → SocketAddr → List ℕ → TransId → List ℕ → List ℕ → List (Relay H)
      → Result Outgoing StunError → List (Relay H) → Type 0
  SendsIfRoom false now source destination contents id buf_old buf_new old result new =
      (result ≡ Err BufferTooShort) × (new ≡ old) × (buf_new ≡ buf_old)
  SendsIfRoom true now source destination contents id buf_old buf_new old result new =
      SendsPadded now source destination contents id buf_old buf_new old result new

  pub record SendsTcp (now : Instant) (source destination : SocketAddr) (contents : List ℕ) (id : TransId) (buf_old buf_new : List ℕ)
      (old : Servers H) (result : Result ServerOutgoing StunError) (new : Servers H) : Type 0 where
    pub sent : Result Outgoing StunError
    pub sends : SendsIfRoom (nat_le 3 (length buf_old)) now source destination contents id buf_old buf_new (tcp_of old) sent (tcp_of new)
    pub passes : result ≡ sent_over Tcp sent
    pub mappings : mappings_of new ≡ mappings_of old
    pub udp : udp_of new ≡ udp_of old

  abbrev pub SendsBy : Bool → Bool → Instant → SocketAddr → SocketAddr → List ℕ → TransId → List ℕ → List ℕ → Servers H
      → Result ServerOutgoing StunError → Servers H → Type 0
  SendsBy true by_tcp now source destination contents id buf_old buf_new old result new =
      SendsUdp now source destination contents id buf_old buf_new old result new
  SendsBy false true now source destination contents id buf_old buf_new old result new =
      SendsTcp now source destination contents id buf_old buf_new old result new
  SendsBy false false now source destination contents id buf_old buf_new old result new =
      (result ≡ Ok AsItIs) × IsSame old new × (buf_new ≡ buf_old)

  -- a packet whose source is the relayed address of a client goes through it; any other goes as it is
  abbrev pub Sends : Instant → SocketAddr → SocketAddr → List ℕ → TransId → List ℕ → List ℕ → Servers H → Result ServerOutgoing StunError
      → Servers H → Type 0
  Sends now source destination contents id buf_old buf_new old result new =
      SendsBy (relays_from source (udp_of old)) (relays_from source (tcp_of old)) now source destination contents id buf_old buf_new old result new

  -- ---- the clock

  pub record MappingTimesOut (now : Instant) (stream stream_new : Stream) (old new : Servers H) : Type 0 where
    pub mappings : TimesOutAt (due now (mappings_of old)) now stream stream_new (mappings_of old) (mappings_of new)
    pub udp : udp_of new ≡ udp_of old
    pub tcp : tcp_of new ≡ tcp_of old

  pub record UdpTimesOut (now : Instant) (stream stream_new : Stream) (old new : Servers H) : Type 0 where
    pub mappings : mappings_of new ≡ mappings_of old
    pub udp : RelayTimesOutAt (due_relay now (udp_of old)) now stream stream_new (udp_of old) (udp_of new)
    pub tcp : tcp_of new ≡ tcp_of old

  pub record TcpTimesOut (now : Instant) (stream stream_new : Stream) (old new : Servers H) : Type 0 where
    pub mappings : mappings_of new ≡ mappings_of old
    pub udp : udp_of new ≡ udp_of old
    pub tcp : RelayTimesOutAt (due_relay now (tcp_of old)) now stream stream_new (tcp_of old) (tcp_of new)

  abbrev pub TimesOutBy : Bool → Bool → Instant → Stream → Stream → Servers H → Servers H → Type 0
  TimesOutBy true by_udp now stream stream_new old new = MappingTimesOut now stream stream_new old new
  TimesOutBy false true now stream stream_new old new = UdpTimesOut now stream stream_new old new
  TimesOutBy false false now stream stream_new old new = TcpTimesOut now stream stream_new old new

  -- a STUN client comes first, if no other is earlier; then a TURN client over UDP
  abbrev pub is_mapping_first : Servers H → Bool
  is_mapping_first s =
      is_first (earliest (mappings_of s)) (earliest_time (udp_of s)) && is_first (earliest (mappings_of s)) (earliest_time (tcp_of s))

  abbrev pub is_udp_first : Servers H → Bool
  is_udp_first s = is_first (earliest_time (udp_of s)) (earliest_time (tcp_of s))

  -- what is due of the client whose time comes first is done
  abbrev pub TimesOut : Instant → Stream → Stream → Servers H → Servers H → Type 0
  TimesOut now stream stream_new old new = TimesOutBy (is_mapping_first old) (is_udp_first old) now stream stream_new old new

  -- ---- packets of the clients

  pub record PollsMappings (buf_old buf_new : List ℕ) (old : Servers H) (result : Result (Option ServerPacket) StunError) (new : Servers H)
      : Type 0 where
    pub mappings : Polls buf_old buf_new (mappings_of old) result (mappings_of new)
    pub udp : udp_of new ≡ udp_of old
    pub tcp : tcp_of new ≡ tcp_of old

  -- the TURN clients over a transport are polled
  pub record PollsRelays (transport : Transport) (mac : H → List ℕ → List ℕ → List ℕ) (buf_old buf_new : List ℕ) (old : List (Relay H))
      (result : Result (Option ServerPacket) StunError) (new : List (Relay H)) : Type 0 where
    pub sent : Result (Option Outbound) StunError
    pub polls : RelaysPoll mac buf_old buf_new old sent new
    pub passes : result ≡ polled_over transport sent

  pub record PollsUdp (mac : H → List ℕ → List ℕ → List ℕ) (buf_old buf_new : List ℕ) (old : Servers H)
      (result : Result (Option ServerPacket) StunError) (new : Servers H) : Type 0 where
    pub mappings : mappings_of new ≡ mappings_of old
    pub udp : PollsRelays Udp mac buf_old buf_new (udp_of old) result (udp_of new)
    pub tcp : tcp_of new ≡ tcp_of old

  pub record PollsTcp (mac : H → List ℕ → List ℕ → List ℕ) (buf_old buf_new : List ℕ) (old : Servers H)
      (result : Result (Option ServerPacket) StunError) (new : Servers H) : Type 0 where
    pub mappings : mappings_of new ≡ mappings_of old
    pub udp : udp_of new ≡ udp_of old
    pub tcp : PollsRelays Tcp mac buf_old buf_new (tcp_of old) result (tcp_of new)

  abbrev pub PollsBy : Bool → Bool → (H → List ℕ → List ℕ → List ℕ) → List ℕ → List ℕ → Servers H → Result (Option ServerPacket) StunError
      → Servers H → Type 0
  PollsBy true by_udp mac buf_old buf_new old result new = PollsMappings buf_old buf_new old result new
  PollsBy false true mac buf_old buf_new old result new = PollsUdp mac buf_old buf_new old result new
  PollsBy false false mac buf_old buf_new old result new = PollsTcp mac buf_old buf_new old result new

  -- the STUN clients are polled first, then the TURN clients over UDP, then those over TCP
  abbrev pub PollsNext : (H → List ℕ → List ℕ → List ℕ) → List ℕ → List ℕ → Servers H → Result (Option ServerPacket) StunError
      → Servers H → Type 0
  PollsNext mac buf_old buf_new old result new =
      PollsBy (some_packet (mappings_of old)) (some_relay_packet (udp_of old)) mac buf_old buf_new old result new

  -- ---- events of the clients

  -- the socket and the server of the client whose event is next
  abbrev pub next_ends : List (Relay H) → Option (SocketAddr × SocketAddr)
  next_ends l = option_and_then (λ place. ends_at place l) (position relay_has_event l)

  pub record ReportsRelays (transport : Transport) (old : List (Relay H)) (result : Option ServerEvent) (new : List (Relay H)) : Type 0 where
    pub event : Option (ℕ × TurnEvent)
    pub reports : RelaysReport old event new
    pub passes : result ≡ event_from transport (next_ends old) event

  pub record ReportsMappings (old : Servers H) (result : Option ServerEvent) (new : Servers H) : Type 0 where
    pub mappings : Reports (mappings_of old) result (mappings_of new)
    pub udp : udp_of new ≡ udp_of old
    pub tcp : tcp_of new ≡ tcp_of old

  pub record ReportsUdp (old : Servers H) (result : Option ServerEvent) (new : Servers H) : Type 0 where
    pub mappings : mappings_of new ≡ mappings_of old
    pub udp : ReportsRelays Udp (udp_of old) result (udp_of new)
    pub tcp : tcp_of new ≡ tcp_of old

  pub record ReportsTcp (old : Servers H) (result : Option ServerEvent) (new : Servers H) : Type 0 where
    pub mappings : mappings_of new ≡ mappings_of old
    pub udp : udp_of new ≡ udp_of old
    pub tcp : ReportsRelays Tcp (tcp_of old) result (tcp_of new)

  abbrev pub ReportsBy : Bool → Bool → Servers H → Option ServerEvent → Servers H → Type 0
  ReportsBy true by_udp old result new = ReportsMappings old result new
  ReportsBy false true old result new = ReportsUdp old result new
  ReportsBy false false old result new = ReportsTcp old result new

  -- the events of the STUN clients come first, then those of the TURN clients over UDP, then those over TCP
  abbrev pub ReportsNext : Servers H → Option ServerEvent → Servers H → Type 0
  ReportsNext old result new =
      ReportsBy (some_event (mappings_of old)) (is_some (position relay_has_event (udp_of old))) old result new
