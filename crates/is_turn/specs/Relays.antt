-- The clients of a program: which of them a call is for. It changes no other.
use Rattle.std.specs.Prelude.{◌≡◌, ℕ, List, map, fold, position, min, nat_le, nat_lt, slice_get, slice_set, length, ◌++◌, ◌∷◌, [], Bool, true, false, Option, Some, None, option_map, Result, Ok, if◌then◌else◌}
use Rattle.std.specs.declared.net.socket_addr.SocketAddr.{SocketAddr}
use Rattle.rand_core.specs.Stream.{Stream}
use Rattle.is_proto.specs.declared.error.StunError.{StunError}
use Rattle.is_proto.specs.declared.proto.Instant.{Instant}
use Rattle.is_stun.specs.declared.trans_id.TransId.{TransId}
use Rattle.is_turn.specs.declared.relay.Outbound.{Outbound}
use Rattle.is_turn.specs.declared.relay.Outgoing.{Outgoing}
use Rattle.is_turn.specs.declared.relay.Outgoing.TheVariants as outgoing
use Rattle.is_turn.specs.declared.relay.Relay.{Relay}
use Rattle.is_turn.specs.declared.turn.TurnEvent.{TurnEvent}
use Rattle.is_turn.specs.Client.{at_time}
use Rattle.is_turn.specs.OneRelay.{is_at, is_of, has_event, has_packet, time_of_relay, is_due_at, Arrived, TakesDatagram, TakesPacket, PollsRelay, RelayTimesOut, ReportsEvent, PermitsPeer, Probes, Closes}

-- of the clients only the one in this place is changed, as the relation says
pub record ChangesAt {H : Type 0} (place : ℕ) (Changes : Relay H → Relay H → Type 0) (old new : List (Relay H)) : Type 0 where
  pub before : Relay H
  pub after : Relay H
  pub there : slice_get old place ≡ Some before
  pub changed : new ≡ slice_set old place after
  pub changes : Changes before after

-- ---- adding

-- the place of a client that is over is taken, or else a new one
abbrev pub relay_added : {H : Type 0} → Option ℕ → Relay H → List (Relay H) → List (Relay H) × ℕ
relay_added (Some place) r l = (slice_set l place r, place)
relay_added None r l = (l ++ (r ∷ []), length l)

-- ---- datagrams and packets

abbrev pub ReceivesAt : {H : Type 0} → Option ℕ → (H → List ℕ → List ℕ → List ℕ) → Instant → SocketAddr → SocketAddr → List ℕ → List (Relay H)
    → Option Arrived → List (Relay H) → Type 0
ReceivesAt None mac now local source bytes old result new =
    (result ≡ Some (record { source = source; destination = local; contents = bytes })) × (new ≡ old)
ReceivesAt (Some place) mac now local source bytes old result new = ChangesAt place (TakesDatagram mac now bytes result) old new

-- a datagram of a client's server, at its socket, is the first such client's; any other is given back as it is
abbrev pub Receives : {H : Type 0} → (H → List ℕ → List ℕ → List ℕ) → Instant → SocketAddr → SocketAddr → List ℕ → List (Relay H)
    → Option Arrived → List (Relay H) → Type 0
Receives mac now local source bytes old result new =
    ReceivesAt (position (is_at local source) old) mac now local source bytes old result new

abbrev pub SendsAt : {H : Type 0} → Option ℕ → Instant → SocketAddr → List ℕ → TransId → List ℕ → List ℕ → List (Relay H)
    → Result Outgoing StunError → List (Relay H) → Type 0
SendsAt None now destination contents id buf_old buf_new old result new = (result ≡ Ok outgoing.AsItIs) × (new ≡ old) × (buf_new ≡ buf_old)
SendsAt (Some place) now destination contents id buf_old buf_new old result new =
    ChangesAt place (TakesPacket now destination contents id buf_old buf_new result) old new

-- a packet whose source is the relayed address of a client goes through it; any other goes as it is
abbrev pub Sends : {H : Type 0} → Instant → SocketAddr → SocketAddr → List ℕ → TransId → List ℕ → List ℕ → List (Relay H)
    → Result Outgoing StunError → List (Relay H) → Type 0
Sends now source destination contents id buf_old buf_new old result new =
    SendsAt (position (is_of source) old) now destination contents id buf_old buf_new old result new

-- ---- the clock

abbrev pub earlier_time : Option Instant → Option Instant → Option Instant
earlier_time None time = time
earlier_time (Some a) None = Some a
earlier_time (Some a) (Some b) = Some (at_time (min a.0 b.0))

-- the earliest time of a client
abbrev pub earliest_time : {H : Type 0} → List (Relay H) → Option Instant
earliest_time l = fold earlier_time None (map time_of_relay l)

-- the place of the first client whose time is this one, if it has come
abbrev pub due_by : {H : Type 0} → Option Instant → Instant → List (Relay H) → Option ℕ
due_by None now l = None
due_by (Some first) now l = if nat_le first.0 now.0 then position (is_due_at first) l else None

-- the place of the client whose time comes first, if it has come
abbrev pub due_relay : {H : Type 0} → Instant → List (Relay H) → Option ℕ
due_relay now l = due_by (earliest_time l) now l

-- what the clock does to the client in this place, if there is one
abbrev pub TimesOutAt : {H : Type 0} → Option ℕ → Instant → Stream → Stream → List (Relay H) → List (Relay H) → Type 0
TimesOutAt None now stream stream_new old new = (new ≡ old) × (stream_new ≡ stream)
TimesOutAt (Some place) now stream stream_new old new = ChangesAt place (RelayTimesOut now stream stream_new) old new

-- ---- packets and events of the clients

abbrev pub PollsAt : {H : Type 0} → Option ℕ → (H → List ℕ → List ℕ → List ℕ) → List ℕ → List ℕ → List (Relay H)
    → Result (Option Outbound) StunError → List (Relay H) → Type 0
PollsAt None mac buf_old buf_new old result new = (result ≡ Ok None) × (new ≡ old) × (buf_new ≡ buf_old)
PollsAt (Some place) mac buf_old buf_new old result new = ChangesAt place (PollsRelay mac buf_old buf_new result) old new

-- the first client that has a packet is polled
abbrev pub Polls : {H : Type 0} → (H → List ℕ → List ℕ → List ℕ) → List ℕ → List ℕ → List (Relay H)
    → Result (Option Outbound) StunError → List (Relay H) → Type 0
Polls mac buf_old buf_new old result new = PollsAt (position has_packet old) mac buf_old buf_new old result new

abbrev pub with_place : ℕ → TurnEvent → ℕ × TurnEvent
with_place place event = (place, event)

-- the event of one client, with its place
pub record ReportsFrom {H : Type 0} (place : ℕ) (result : Option (ℕ × TurnEvent)) (before after : Relay H) : Type 0 where
  pub event : Option TurnEvent
  pub reports : ReportsEvent event before after
  pub placed : result ≡ option_map (with_place place) event

abbrev pub ReportsAt : {H : Type 0} → Option ℕ → List (Relay H) → Option (ℕ × TurnEvent) → List (Relay H) → Type 0
ReportsAt None old result new = (result ≡ None) × (new ≡ old)
ReportsAt (Some place) old result new = ChangesAt place (ReportsFrom place result) old new

-- the event of the first client that has one
abbrev pub Reports : {H : Type 0} → List (Relay H) → Option (ℕ × TurnEvent) → List (Relay H) → Type 0
Reports old result new = ReportsAt (position has_event old) old result new

-- ---- the user

abbrev pub within : {H : Type 0} → ℕ → List (Relay H) → Bool
within place l = nat_lt place (length l)

abbrev pub PermitsIf : {H : Type 0} → Bool → Instant → ℕ → SocketAddr → List (Relay H) → Bool → List (Relay H) → Type 0
PermitsIf false now place peer old result new = (result ≡ false) × (new ≡ old)
PermitsIf true now place peer old result new = ChangesAt place (PermitsPeer now peer result) old new

-- the client in a place, if there is one
abbrev pub Permits : {H : Type 0} → Instant → ℕ → SocketAddr → List (Relay H) → Bool → List (Relay H) → Type 0
Permits now place peer old result new = PermitsIf (within place old) now place peer old result new

abbrev pub ChangesIf : {H : Type 0} → Bool → ℕ → (Relay H → Relay H → Type 0) → List (Relay H) → List (Relay H) → Type 0
ChangesIf false place Changes old new = new ≡ old
ChangesIf true place Changes old new = ChangesAt place Changes old new

abbrev pub ProbesIn : {H : Type 0} → Instant → ℕ → List (Relay H) → List (Relay H) → Type 0
ProbesIn now place old new = ChangesIf (within place old) place (Probes now) old new

abbrev pub ClosesIn : {H : Type 0} → Instant → ℕ → List (Relay H) → List (Relay H) → Type 0
ClosesIn now place old new = ChangesIf (within place old) place (Closes now) old new
