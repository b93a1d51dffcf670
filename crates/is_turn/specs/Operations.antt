-- A request of a TURN client with its repetitions: what is kept of it, and what happens to it (RFC 8489, sections 6.2.1 and 9.2.5).
use Rattle.std.specs.Prelude.{ℕ, ◌+◌, not, ◌&&◌, ◌||◌, ◌==◌, Bool, true, false, min, nat_le, nat_lt, Some, None, if◌then◌else◌}
use Rattle.is_proto.specs.Times.{later}
use Rattle.is_proto.specs.declared.proto.Instant.{Instant}
use Rattle.is_stun.specs.declared.trans_id.TransId.{TransId}
use Rattle.is_turn.specs.declared.attempts.Attempt.{Attempt}
use Rattle.is_turn.specs.declared.operation.Operation.{Operation}
use Rattle.is_turn.specs.declared.requests.Request.{Request}
use Rattle.is_turn.specs.declared.timing.ClientTiming.{ClientTiming}
use Rattle.is_turn.specs.Attempts.{no_attempts, with_attempt, is_last}
use Rattle.is_turn.specs.Client.{time_after}
use Rattle.is_turn.specs.Timing.{first_wait, next_wait}

-- due at once
abbrev pub new_operation : Request → Instant → Operation
new_operation request now = record {
  request = request;
  attempts = no_attempts;
  is_fresh = true;
  sent = 0;
  wait = record { 0 = 0 };
  due = now;
  is_waiting = false;
  is_denied = false;
  stale = 0;
  doubt = None;
}

-- ---- packets

-- the first packet of another attempt
abbrev pub attempted : Attempt → ClientTiming → Operation → Operation
attempted attempt t o = record o {
  attempts = with_attempt attempt o.attempts;
  is_fresh = false;
  sent = 1;
  wait = record { 0 = first_wait t };
  due = time_after attempt.since (first_wait t);
  is_waiting = true;
}

-- each packet of the last attempt was sent
abbrev pub is_exhausted : ClientTiming → Operation → Bool
is_exhausted t o = nat_le t.requests o.sent

-- the waits double; a client that is closed while it requests an allocation begins with the first one again
abbrev pub repeat_wait : ClientTiming → Operation → ℕ
repeat_wait t o = if o.sent == 0 then first_wait t else next_wait t (o.sent + 1) o.wait.0

-- the last attempt once more
abbrev pub sent_once_more : Instant → ClientTiming → Operation → Operation
sent_once_more now t o = record o {
  sent = o.sent + 1;
  wait = record { 0 = repeat_wait t o };
  due = time_after now (repeat_wait t o);
  is_waiting = true;
}

abbrev pub polled : Operation → Operation
polled o = record o { is_waiting = false }

-- ---- responses that nobody signed

abbrev pub doubted : ℕ → Operation → Operation
doubted code o = record o { doubt = Some code }

-- no more packets; a timeout one RTO later at the latest
abbrev pub hinted : Instant → ℕ → ClientTiming → Operation → Operation
hinted now code t o =
    record o { doubt = Some code; sent = t.requests; due = record { 0 = min o.due.0 (later now.0 t.rto.0) } }

-- ---- challenges

-- of 438, Stale Nonce, three are taken; of 401 to a signed request one
abbrev pub is_allowed : Bool → ℕ → Operation → Bool
is_allowed is_signed code o = if code == 438 then nat_lt o.stale 3 else not (is_signed && o.is_denied)

-- a challenge counts that answers the last attempt, within the limits
abbrev pub takes_challenge : TransId → Bool → ℕ → Operation → Bool
takes_challenge id is_signed code o = not o.is_fresh && is_last id o.attempts && is_allowed is_signed code o

abbrev pub stale_count : ℕ → ℕ → ℕ
stale_count code stale = if code == 438 then min (stale + 1) 0xffff_ffff else stale

-- another attempt is due at once; the ones before still count
abbrev pub another : Instant → Bool → ℕ → Operation → Operation
another now is_signed code o = record o {
  is_fresh = true;
  is_waiting = false;
  due = now;
  is_denied = o.is_denied || is_signed && code == 401;
  stale = stale_count code o.stale;
}
