-- A TURN client with its leases: what it permits, sends and receives (RFC 8656, sections 9 to 12).
use Rattle.std.specs.Prelude.{◌≡◌, ℕ, ◌+◌, ◌&&◌, Bool, true, false, List, [], length, map, max, min, nat_le, nat_lt, position, slice_index, slice_set, is_some, Option, Some, None, Result, Ok, Err, if◌then◌else◌}
use Rattle.std.specs.declared.net.socket_addr.SocketAddr.{SocketAddr}
use Rattle.std.specs.Net.Socket.{socket_ip}
use Rattle.rand_core.specs.Stream.{Stream, fill_bytes}
use Rattle.is_proto.specs.Hmac.{hmac_sha1}
use Rattle.is_proto.specs.declared.error.StunError.{StunError}
use Rattle.is_proto.specs.declared.error.StunError.TheVariants.{BufferTooShort, ValueTooLong}
use Rattle.is_proto.specs.declared.proto.Instant.{Instant}
use Rattle.is_stun.specs.declared.trans_id.TransId.{TransId}
use Rattle.is_stun.specs.ChannelData.{channel_data}
use Rattle.is_stun.specs.Writing.{rows_rejection, written_rows, WritesOr}
use Rattle.is_turn.specs.declared.attempts.Attempt.{Attempt}
use Rattle.is_turn.specs.declared.lease.Lease.{Lease}
use Rattle.is_turn.specs.declared.lease.NotPermitted.{NotPermitted}
use Rattle.is_turn.specs.declared.operation.Operation.{Operation}
use Rattle.is_turn.specs.declared.requests.Request.{Request}
use Rattle.is_turn.specs.declared.relaying.Route.{Route}
use Rattle.is_turn.specs.declared.relaying.Route.TheVariants as routes
use Rattle.is_turn.specs.declared.session.Phase.{Phase}
use Rattle.is_turn.specs.declared.session.Phase.TheVariants as phases
use Rattle.is_turn.specs.declared.session.Session.{Session}
use Rattle.is_turn.specs.declared.session.Step.{Step}
use Rattle.is_turn.specs.declared.session.Step.TheVariants as steps
use Rattle.is_turn.specs.declared.timing.ClientTiming.{ClientTiming}
use Rattle.is_turn.specs.declared.turn.Packet.{Packet}
use Rattle.is_turn.specs.declared.turn.Packet.TheVariants as packets
use Rattle.is_turn.specs.declared.turn.TurnEvent.{TurnEvent}
use Rattle.is_turn.specs.declared.turn.TurnEvent.TheVariants as events
use Rattle.is_turn.specs.Credentials.{Credentials}
use Rattle.is_turn.specs.Leases.{plain, ip_of, advanced, lease_step, lease_attempted, lease_repeated, lease_polled, failed_at, is_to_be_sent, is_reported, without_report}
use Rattle.is_turn.specs.Places.{at_place, permitted, with_channel, bound_channel, due_place, earliest_due, earliest_change}
use Rattle.is_turn.specs.Requests.{send_rows, SEND_TYPE}
use Rattle.is_turn.specs.Session.{is_ready, sending, next_turn_time, may_permit, quiet_after, step_of, with_renewal}
use Rattle.is_turn.specs.Client.{at_time}
use Rattle.is_turn.specs.Turn.{after_step, packet_due, packet_polled, PollsPacket, event_of, after_event}

-- an ended client has no leases
abbrev pub kept_in : Phase → List Lease → List Lease
kept_in phases.Ended l = []
kept_in _ l = l

abbrev pub kept_leases : Session → List Lease → List Lease
kept_leases s l = kept_in s.phase l

-- ---- the user

-- the permission of a peer's IP address, while the client has an allocation of its family, or requests one
abbrev pub permits_peer : Instant → SocketAddr → Session → List Lease → List Lease × Bool
permits_peer now peer s l = if may_permit peer s then permitted now (ip_of peer) l else (l, false)

-- what is no STUN message: its first byte is above 3 (RFC 7983)
abbrev pub is_media : List ℕ → Bool
is_media contents = nat_lt 3 (slice_index contents 0)

abbrev pub with_media : Instant → SocketAddr → Bool → List Lease → List Lease
with_media now peer media l = if media then with_channel now peer l else l

abbrev pub route_of : Option ℕ → Route
route_of None = routes.Indication
route_of (Some number) = routes.Channel number

abbrev pub routed_over : SocketAddr → List Lease → List Lease × Route
routed_over peer l = (l, route_of (bound_channel peer l))

abbrev pub routed_if : Bool → Instant → SocketAddr → Bool → List Lease → List Lease × Route
routed_if false now peer media l = (l, routes.Nowhere)
routed_if true now peer media l = routed_over peer (with_media now peer media l)

abbrev pub routed_by : Instant → SocketAddr → Bool → List Lease × Bool → List Lease × Route
routed_by now peer media asked = routed_if asked.1 now (plain peer) media asked.0

-- Data goes where the peer is permitted: over its channel, if that is bound, or else as a Send indication. Media requests a channel.
abbrev pub routed : Instant → SocketAddr → Bool → Session → List Lease → List Lease × Route
routed now peer media s l = if is_ready s.phase then routed_by now peer media (permits_peer now peer s l) else (l, routes.Nowhere)

abbrev pub after_route : Route → Instant → Session → Session
after_route routes.Nowhere now s = s
after_route _ now s = quiet_after now s

abbrev pub channel_rejection : ℕ → ℕ → Option StunError
channel_rejection len room =
    if nat_lt 65535 len then Some ValueTooLong
    else if nat_lt room (4 + len) then Some BufferTooShort
    else None

abbrev pub WritesIndication : TransId → SocketAddr → List ℕ → List ℕ → Result ℕ StunError → List ℕ → Type 0
WritesIndication id peer contents old result new =
    WritesOr result old new (rows_rejection None (length old) (send_rows id.0 peer contents))
    (written_rows hmac_sha1 None SEND_TYPE id.0 (send_rows id.0 peer contents))

abbrev pub WritesChannelData : ℕ → List ℕ → List ℕ → Result ℕ StunError → List ℕ → Type 0
WritesChannelData number contents old result new =
    WritesOr result old new (channel_rejection (length contents) (length old)) (channel_data number contents)

-- the packet for the server, or none
abbrev pub WritesRoute : Route → TransId → SocketAddr → List ℕ → List ℕ → Result (Option ℕ) StunError → List ℕ → Type 0
WritesRoute routes.Nowhere id peer contents old result new = (result ≡ Ok None) × (new ≡ old)
WritesRoute routes.Indication id peer contents old (Ok None) new = ⊥
WritesRoute routes.Indication id peer contents old (Ok (Some n)) new = WritesIndication id peer contents old (Ok n) new
WritesRoute routes.Indication id peer contents old (Err e) new = WritesIndication id peer contents old (Err e) new
WritesRoute (routes.Channel number) id peer contents old (Ok None) new = ⊥
WritesRoute (routes.Channel number) id peer contents old (Ok (Some n)) new = WritesChannelData number contents old (Ok n) new
WritesRoute (routes.Channel number) id peer contents old (Err e) new = WritesChannelData number contents old (Err e) new

-- ---- the clock

abbrev pub advanced_in : Phase → Instant → List Lease → List Lease
advanced_in phases.Ready now l = map (advanced now) l
advanced_in _ now l = l

abbrev pub is_idle_step : Step → Bool
is_idle_step steps.Nothing = true
is_idle_step steps.KeepAlive = true
is_idle_step _ = false

-- the place of a lease whose request is due, if the one of the allocation is not, and the pace allows a packet
abbrev pub lease_due : Instant → Step → Session → List Lease → Option ℕ
lease_due now step s l = if is_ready s.phase && (is_idle_step step && nat_le s.paced.0 now.0) then due_place now l else None

abbrev pub sending_for : Step → Instant → Session → Session
sending_for steps.Attempt now s = sending now s
sending_for steps.Repeat now s = sending now s
sending_for _ now s = s

abbrev pub attempted_by : Instant → Option (List ℕ) → ClientTiming → ℕ → List Lease → List ℕ × Stream → List Lease × Stream
attempted_by now key t place l drawn =
    (slice_set l place (lease_attempted now (record { 0 = drawn.0 }) key t (at_place place l)), drawn.1)

abbrev pub driven_by : Step → Instant → Option (List ℕ) → ClientTiming → ℕ → Stream → List Lease → List Lease × Stream
driven_by steps.Attempt now key t place stream l = attempted_by now key t place l (fill_bytes 12 stream)
driven_by steps.Repeat now key t place stream l = (slice_set l place (lease_repeated now t (at_place place l)), stream)
driven_by steps.TimeOut now key t place stream l = (slice_set l place (failed_at now None (at_place place l)), stream)
driven_by _ now key t place stream l = (l, stream)

abbrev pub step_at : ℕ → Session → List Lease → Step
step_at place s l = lease_step s.timing (at_place place l)

-- what the request for a lease has due
abbrev pub driven : Instant → Option (List ℕ) → ℕ → Session → Stream → List Lease → List Lease × Stream
driven now key place s stream l = driven_by (step_at place s l) now key s.timing place stream l

-- one step: of the request for a lease, if its place is known, or of the session
abbrev pub TimesOutBy : Option ℕ → Step → Instant → Option (List ℕ) → Stream → Session → List Lease → Session → List Lease → Stream → Type 0
TimesOutBy None step now key stream s l s_new l_new stream_new =
    ((s_new, stream_new) ≡ after_step step now key stream s) × (l_new ≡ kept_leases s_new l)
TimesOutBy (Some place) step now key stream s l s_new l_new stream_new =
    (s_new ≡ sending_for (step_at place s l) now s)
    × (l_new ≡ kept_leases s_new (driven now key place s stream l).0) × (stream_new ≡ (driven now key place s stream l).1)

abbrev pub TimesOutAfter : Step → Instant → Option (List ℕ) → Stream → Session → List Lease → Session → List Lease → Stream → Type 0
TimesOutAfter step now key stream s l s_new l_new stream_new =
    TimesOutBy (lease_due now step s l) step now key stream s l s_new l_new stream_new

abbrev pub TimesOutIn : Instant → Option (List ℕ) → Stream → Session → List Lease → Session → List Lease → Stream → Type 0
TimesOutIn now key stream s l s_new l_new stream_new = TimesOutAfter (step_of now s) now key stream s l s_new l_new stream_new

-- what is due begins, and one step is taken
abbrev pub TimesOut : Instant → Option (List ℕ) → Stream → Session → List Lease → Session → List Lease → Stream → Type 0
TimesOut now key stream s l s_new l_new stream_new =
    TimesOutIn now key stream (with_renewal now s) (advanced_in s.phase now l) s_new l_new stream_new

abbrev pub lease_time : Instant → List Lease → ℕ
lease_time paced l = min (max (earliest_due l) paced.0) (earliest_change l)

abbrev pub with_leases : Option Instant → Session → List Lease → Option Instant
with_leases None s l = None
with_leases (Some time) s l = Some (if is_ready s.phase then at_time (min time.0 (lease_time s.paced l)) else time)

-- when something is due
abbrev pub next_client_time : Session → List Lease → Option Instant
next_client_time s l = with_leases (next_turn_time s) s l

-- ---- packets

abbrev pub lease_request : ℕ → Request → Option Attempt → Packet → Packet
lease_request place r None other = other
lease_request place r (Some a) other = packets.Lease place r a.id

abbrev pub lease_packet_of : ℕ → Option Operation → Packet → Packet
lease_packet_of place None other = other
lease_packet_of place (Some o) other = lease_request place o.request o.attempts.last other

abbrev pub lease_packet_at : Option ℕ → List Lease → Packet → Packet
lease_packet_at None l other = other
lease_packet_at (Some place) l other = lease_packet_of place (at_place place l).operation other

abbrev pub lease_packet : List Lease → Packet → Packet
lease_packet l other = lease_packet_at (position is_to_be_sent l) l other

abbrev pub packet_after : Packet → List Lease → Packet
packet_after (packets.Request r id) l = packets.Request r id
packet_after packets.Nothing l = lease_packet l packets.Nothing
packet_after (packets.KeepAlive id) l = lease_packet l (packets.KeepAlive id)
packet_after (packets.Lease place r id) l = packets.Lease place r id

-- the request of the allocation that waits for polling, else that of a lease, else a keep-alive
abbrev pub client_packet : Session → List Lease → Packet
client_packet s l = packet_after (packet_due s) l

abbrev pub PollsTurn : (List ℕ → List ℕ → List ℕ) → Option Credentials → Session → List Lease → List ℕ → Result (Option ℕ) StunError → List ℕ → Type 0
PollsTurn mac c s l old result new = PollsPacket (client_packet s l) mac c old result new

-- what was polled is polled once; after an error nothing is changed
abbrev pub after_poll : Result (Option ℕ) StunError → Packet → Session → Session
after_poll (Ok (Some n)) packet s = packet_polled packet s
after_poll _ packet s = s

abbrev pub lease_polled_in : Packet → List Lease → List Lease
lease_polled_in (packets.Lease place r id) l = slice_set l place (lease_polled (at_place place l))
lease_polled_in _ l = l

abbrev pub leases_after_poll : Result (Option ℕ) StunError → Packet → List Lease → List Lease
leases_after_poll (Ok (Some n)) packet l = lease_polled_in packet l
leases_after_poll _ packet l = l

-- ---- events

abbrev pub report_event : Option SocketAddr → Option NotPermitted → Option TurnEvent
report_event (Some peer) (Some report) = Some (events.NotPermitted (socket_ip peer) report.code)
report_event None report = None
report_event (Some peer) None = None

abbrev pub lease_event : Lease → Option TurnEvent
lease_event g = report_event g.peer g.report

abbrev pub reported_at : Option ℕ → List Lease → List Lease × Option TurnEvent
reported_at None l = (l, None)
reported_at (Some place) l = (slice_set l place (without_report (at_place place l)), lease_event (at_place place l))

-- the first permission that the server barred
abbrev pub reported : List Lease → List Lease × Option TurnEvent
reported l = reported_at (position is_reported l) l

abbrev pub event_or : Option TurnEvent → Option TurnEvent → Option TurnEvent
event_or None other = other
event_or (Some event) other = Some event

-- first the allocation, then barred permissions, then the end
abbrev pub client_event : Session → List Lease → Option TurnEvent
client_event s l = if is_some s.made then event_of s else event_or (reported l).1 (event_of s)

abbrev pub session_after_event : Session → List Lease → Session
session_after_event s l = if is_some s.made then after_event s else if is_some (reported l).1 then s else after_event s

abbrev pub leases_after_event : Session → List Lease → List Lease
leases_after_event s l = if is_some s.made then l else (reported l).0
