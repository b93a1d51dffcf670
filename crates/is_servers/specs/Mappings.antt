-- The STUN clients of a program: which of them a call is for. It changes no other.
use Rattle.std.specs.Prelude.{◌≡◌, ℕ, Bool, false, List, map, fold, ◌++◌, ◌∷◌, [], position, nat_le, slice_get, slice_set, is_some, Option, Some, None, option_map, Result, Ok, Err, if◌then◌else◌}
use Rattle.std.specs.declared.net.socket_addr.SocketAddr.{SocketAddr}
use Rattle.rand_core.specs.Stream.{Stream}
use Rattle.is_proto.specs.declared.error.StunError.{StunError}
use Rattle.is_proto.specs.declared.proto.Instant.{Instant}
use Rattle.is_turn.specs.Relays.{earlier_time}
use Rattle.is_servers.specs.declared.events.Happened.{Happened}
use Rattle.is_servers.specs.declared.events.ServerEvent.{ServerEvent}
use Rattle.is_servers.specs.declared.mapping.Mapping.{Mapping}
use Rattle.is_servers.specs.declared.packets.ServerPacket.{ServerPacket}
use Rattle.is_servers.specs.declared.transport.Transport.TheVariants.{Udp}
use Rattle.is_servers.specs.Mapping.{new_mapping, is_at, is_over, is_asking, is_due_at, time_of, timed_out, has_packet, has_event, reported, TakesResponse, PollsMapping}

-- of the clients only the one in this place is changed, as the relation says
pub record ChangesAt (place : ℕ) (Changes : Mapping → Mapping → Type 0) (old new : List Mapping) : Type 0 where
  pub before : Mapping
  pub after : Mapping
  pub there : slice_get old place ≡ Some before
  pub changed : new ≡ slice_set old place after
  pub changes : Changes before after

-- ---- adding

-- the place of a client that is over is taken, or else a new one
abbrev pub placed : Option ℕ → Mapping → List Mapping → List Mapping
placed (Some place) m l = slice_set l place m
placed None m l = l ++ (m ∷ [])

-- a client is added, unless the socket has one at this server that has not ended
abbrev pub added : Instant → SocketAddr → SocketAddr → List Mapping → List Mapping
added now local server l =
    if is_some (position (is_at local server) l) then l else placed (position is_over l) (new_mapping now local server) l

-- ---- datagrams

abbrev pub TakesAt : Option ℕ → Instant → List ℕ → List Mapping → Bool → List Mapping → Type 0
TakesAt None now bytes old own new = (own ≡ false) × (new ≡ old)
TakesAt (Some place) now bytes old own new = ChangesAt place (TakesResponse now bytes own) old new

-- a datagram of this socket, from this server, is shown to the client that is there; `own` says whether it is its response
abbrev pub Takes : Instant → SocketAddr → SocketAddr → List ℕ → List Mapping → Bool → List Mapping → Type 0
Takes now local source bytes old own new = TakesAt (position (is_at local source) old) now bytes old own new

-- ---- the clock

abbrev pub earliest : List Mapping → Option Instant
earliest l = fold earlier_time None (map time_of l)

-- the place of the first client whose time is this one, if it has come
abbrev pub due_by : Option Instant → Instant → List Mapping → Option ℕ
due_by None now l = None
due_by (Some first) now l = if nat_le first.0 now.0 then position (is_due_at first) l else None

-- the place of the client whose time comes first, if it has come
abbrev pub due : Instant → List Mapping → Option ℕ
due now l = due_by (earliest l) now l

abbrev pub TimesOut : Instant → Stream → Stream → Mapping → Mapping → Type 0
TimesOut now stream stream_new before after = (after, stream_new) ≡ timed_out now stream before

abbrev pub TimesOutAt : Option ℕ → Instant → Stream → Stream → List Mapping → List Mapping → Type 0
TimesOutAt None now stream stream_new old new = (new ≡ old) × (stream_new ≡ stream)
TimesOutAt (Some place) now stream stream_new old new = ChangesAt place (TimesOut now stream stream_new) old new

-- ---- packets and events

abbrev pub some_packet : List Mapping → Bool
some_packet l = is_some (position has_packet l)

abbrev pub some_event : List Mapping → Bool
some_event l = is_some (position has_event l)

abbrev pub is_gathering : List Mapping → Bool
is_gathering l = is_some (position is_asking l)

-- a packet of the client goes from its socket to its server
abbrev pub packet_of : Mapping → ℕ → ServerPacket
packet_of m n = record { transport = Udp; local = m.local; server = m.client.server; len = n }

abbrev pub sent_by : Mapping → Result (Option ℕ) StunError → Result (Option ServerPacket) StunError
sent_by m (Ok None) = Ok None
sent_by m (Ok (Some n)) = Ok (Some (packet_of m n))
sent_by m (Err e) = Err e

pub record PollsOne (buf_old buf_new : List ℕ) (result : Result (Option ServerPacket) StunError) (before after : Mapping) : Type 0 where
  pub written : Result (Option ℕ) StunError
  pub polls : PollsMapping buf_old buf_new written before after
  pub passes : result ≡ sent_by before written

abbrev pub PollsAt : Option ℕ → List ℕ → List ℕ → List Mapping → Result (Option ServerPacket) StunError → List Mapping → Type 0
PollsAt None buf_old buf_new old result new = (result ≡ Ok None) × (new ≡ old) × (buf_new ≡ buf_old)
PollsAt (Some place) buf_old buf_new old result new = ChangesAt place (PollsOne buf_old buf_new result) old new

-- the first client that has a packet is polled
abbrev pub Polls : List ℕ → List ℕ → List Mapping → Result (Option ServerPacket) StunError → List Mapping → Type 0
Polls buf_old buf_new old result new = PollsAt (position has_packet old) buf_old buf_new old result new

abbrev pub event_of : Mapping → Happened → ServerEvent
event_of m what = record { transport = Udp; local = m.local; server = m.client.server; what = what }

pub record ReportsOne (result : Option ServerEvent) (before after : Mapping) : Type 0 where
  pub event : result ≡ option_map (event_of before) (reported before).1
  pub state : after ≡ (reported before).0

abbrev pub ReportsAt : Option ℕ → List Mapping → Option ServerEvent → List Mapping → Type 0
ReportsAt None old result new = (result ≡ None) × (new ≡ old)
ReportsAt (Some place) old result new = ChangesAt place (ReportsOne result) old new

-- the event of the first client that has one
abbrev pub Reports : List Mapping → Option ServerEvent → List Mapping → Type 0
Reports old result new = ReportsAt (position has_event old) old result new
