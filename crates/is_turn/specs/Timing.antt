-- When a request is sent again (RFC 8489, section 6.2.1). Durations are in nanoseconds.
use Rattle.std.specs.Prelude.{ℕ, ◌*◌, nat_le, min, if◌then◌else◌}
use Rattle.is_proto.specs.Times.{MAX, MILLISECOND, SECOND}
use Rattle.is_turn.specs.declared.timing.ClientTiming.{ClientTiming}

-- after the last request the last wait
abbrev pub wait_after : ClientTiming → ℕ → ℕ → ℕ
wait_after t sent usual = if nat_le t.requests sent then t.last_wait.0 else min usual t.longest_wait.0

-- the wait after the first request
abbrev pub first_wait : ClientTiming → ℕ
first_wait t = wait_after t 1 t.rto.0

-- the wait after the nth request, given the one before: it doubles
abbrev pub next_wait : ClientTiming → ℕ → ℕ → ℕ
next_wait t sent wait = wait_after t sent (wait * 2)

-- the values of RFC 8489
abbrev pub rfc : ClientTiming
rfc = record {
  rto = record { 0 = 500 * MILLISECOND };
  longest_wait = record { 0 = MAX };
  last_wait = record { 0 = 16 * 500 * MILLISECOND };
  requests = 7;
  keep_alive = record { 0 = 20 * SECOND };
}

-- over TCP and TLS (RFC 8489, section 6.2.2): once, and then Ti
abbrev pub reliable : ClientTiming
reliable = record {
  rto = record { 0 = 500 * MILLISECOND };
  longest_wait = record { 0 = MAX };
  last_wait = record { 0 = 39500 * MILLISECOND };
  requests = 1;
  keep_alive = record { 0 = 20 * SECOND };
}

-- more requests, and sooner
abbrev pub modern : ClientTiming
modern = record {
  rto = record { 0 = 200 * MILLISECOND };
  longest_wait = record { 0 = SECOND };
  last_wait = record { 0 = SECOND };
  requests = 20;
  keep_alive = record { 0 = 20 * SECOND };
}
