-- A client of a STUN server, and what each call and the clock do to it (RFC 8489, section 6.2.1).
use Rattle.std.specs.Prelude.{◌≡◌, ℕ, ◌+◌, true, false, List, length, nat_le, Option, Some, None, option_map, Result, Ok, Err, if◌then◌else◌}
use Rattle.std.specs.declared.net.socket_addr.SocketAddr.{SocketAddr}
use Rattle.rand_core.specs.Stream.{Stream, fill_bytes}
use Rattle.is_proto.specs.Hmac.{hmac_sha1}
use Rattle.is_proto.specs.Times.{later}
use Rattle.is_proto.specs.declared.error.StunError.{StunError}
use Rattle.is_proto.specs.declared.proto.Instant.{Instant}
use Rattle.is_stun.specs.declared.header.Class.TheVariants.{Request}
use Rattle.is_stun.specs.declared.header.Method.TheVariants.{Binding}
use Rattle.is_stun.specs.declared.trans_id.TransId.{TransId}
use Rattle.is_stun.specs.Builder.{built}
use Rattle.is_stun.specs.Message.{Message, no_attributes}
use Rattle.is_stun.specs.Writing.{rejection, written, WritesOr}
use Rattle.is_turn.specs.declared.client.Pending.{Pending}
use Rattle.is_turn.specs.declared.client.Phase.{Phase}
use Rattle.is_turn.specs.declared.client.Phase.TheVariants.{New, Running, Failed}
use Rattle.is_turn.specs.declared.client.StunClient.{StunClient}
use Rattle.is_turn.specs.declared.client.StunEvent.TheVariants as events
use Rattle.is_turn.specs.declared.timing.ClientTiming.{ClientTiming}
use Rattle.is_turn.specs.Timing.{first_wait, next_wait}

abbrev pub at_time : ℕ → Instant
at_time n = record { 0 = n }

-- the time later by so much
abbrev pub time_after : Instant → ℕ → Instant
time_after now by = at_time (later now.0 by)

-- ---- starting

-- a client that was not started: it sends nothing
abbrev pub new_client : SocketAddr → ClientTiming → StunClient
new_client server timing = record {
  server = server;
  timing = timing;
  phase = New;
  next = None;
  pending = None;
  mapped = None;
  event = None;
}

abbrev pub started : Phase → Instant → StunClient → StunClient
started New now c = record c { phase = Running; next = Some now }
started _ now c = c

abbrev pub after_start : Instant → StunClient → StunClient
after_start now c = started c.phase now c

-- ---- the clock

abbrev pub pending_id : StunClient → Option TransId
pending_id c = option_map (λ p. p.id) c.pending

-- when something is due: a request is sent again or times out, or the next one begins
abbrev pub time_of : Option Pending → Option Instant → Option Instant
time_of None next = next
time_of (Some p) next = Some p.due

abbrev pub next_time : StunClient → Option Instant
next_time c = time_of c.pending c.next

-- a request that is sent for the first time
abbrev pub first_sent : Instant → TransId → ClientTiming → Pending
first_sent now id t = record {
  id = id;
  sent = 1;
  wait = record { 0 = first_wait t };
  due = time_after now (first_wait t);
  is_waiting = true;
}

-- the pending request, sent once more
abbrev pub sent_again : Instant → ClientTiming → Pending → Pending
sent_again now t p =
    let wait = next_wait t (p.sent + 1) p.wait.0 in
    record { id = p.id; sent = p.sent + 1; wait = record { 0 = wait }; due = time_after now wait; is_waiting = true }

-- no answer came: without any before, the client fails; else the next request begins after the usual time
abbrev pub unanswered : Instant → Option SocketAddr → StunClient → StunClient
unanswered now None c = record c { pending = None; phase = Failed; event = Some (events.Failed None) }
unanswered now (Some at) c = record c { pending = None; next = Some (time_after now c.timing.keep_alive.0) }

abbrev pub timed_out : Instant → StunClient → StunClient
timed_out now c = unanswered now c.mapped c

abbrev pub repeated : Instant → Pending → StunClient → StunClient
repeated now p c =
    if nat_le c.timing.requests p.sent then timed_out now c else record c { pending = Some (sent_again now c.timing p) }

abbrev pub begun : Instant → TransId → StunClient → StunClient
begun now id c = record c { next = None; pending = Some (first_sent now id c.timing) }

abbrev pub begun_by : Instant → List ℕ × Stream → StunClient → StunClient × Stream
begun_by now drawn c = (begun now (record { 0 = drawn.0 }) c, drawn.1)

-- what is due is done, and nothing before
abbrev pub at_timeout : Instant → Stream → Option Pending → Option Instant → StunClient → StunClient × Stream
at_timeout now stream (Some p) next c = if nat_le p.due.0 now.0 then (repeated now p c, stream) else (c, stream)
at_timeout now stream None (Some next) c = if nat_le next.0 now.0 then begun_by now (fill_bytes 12 stream) c else (c, stream)
at_timeout now stream None None c = (c, stream)

abbrev pub after_timeout : Instant → Stream → StunClient → StunClient × Stream
after_timeout now stream c = at_timeout now stream c.pending c.next c

-- ---- packets

-- a Binding request without attributes; FINGERPRINT is added when it is written
abbrev pub request_of : TransId → Message
request_of id = built Binding Request id.0 no_attributes

abbrev pub to_poll : Option Pending → Option Pending
to_poll None = None
to_poll (Some p) = if p.is_waiting then Some p else None

-- the packet is at the front of the buffer and polled; or nothing is changed
abbrev pub PollsOf : Option Pending → StunClient → List ℕ → Result (Option ℕ) StunError → StunClient → List ℕ → Type 0
PollsOf None c old result polled new = (result ≡ Ok None) × (polled ≡ c) × (new ≡ old)
PollsOf (Some p) c old (Ok None) polled new = ⊥
PollsOf (Some p) c old (Ok (Some n)) polled new =
    WritesOr (Ok n) old new (rejection None (length old) (request_of p.id)) (written hmac_sha1 None (request_of p.id))
    × (polled ≡ record c { pending = Some (record p { is_waiting = false }) })
PollsOf (Some p) c old (Err e) polled new =
    WritesOr (Err e) old new (rejection None (length old) (request_of p.id)) (written hmac_sha1 None (request_of p.id)) × (polled ≡ c)

abbrev pub Polls : StunClient → List ℕ → Result (Option ℕ) StunError → StunClient → List ℕ → Type 0
Polls c old result polled new = PollsOf (to_poll c.pending) c old result polled new
