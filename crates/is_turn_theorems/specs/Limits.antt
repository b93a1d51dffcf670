-- How late a caller and a server may be, and how far ahead the end of an allocation is then. Durations are in nanoseconds.
use Rattle.std.specs.Prelude.{ℕ, ◌+◌, ◌*◌, ◌-◌, ◌/◌, ◌<◌, min, zero, suc}
use Rattle.is_proto.specs.Times.{SECOND}
use Rattle.is_turn.specs.declared.timing.ClientTiming.{ClientTiming}
use Rattle.is_turn.specs.Session.{PACE, lifetime_of}
use Rattle.is_turn.specs.Timing.{first_wait, next_wait}

-- bounds on how late the caller and the server are, and on how much there is
pub record Limits : Type 0 where
  -- `handle_timeout` is called so late at most
  pub late : ℕ
  -- an attempt of a request is answered within so long of when it was first sent
  pub within : ℕ
  -- of the attempts of a request so many at most are answered by a challenge
  pub challenges : ℕ
  -- the server lets an allocation last so many seconds at least
  pub lifetime : ℕ
  -- the client has so many places for permissions and channels, its leases, at most
  pub places : ℕ
  -- while the request for a lease waits until it is sent, the allocation goes first so often at most
  pub others : ℕ

-- so long before its end an allocation is renewed
abbrev pub lead : Limits → ℕ
lead k = min (120 * SECOND) (lifetime_of k.lifetime / 2)

-- from when an attempt is due until it is answered
abbrev pub attempt_time : Limits → ℕ
attempt_time k = k.late + PACE + k.within

-- from when a renewal is due until it is answered by a success response, after so many challenges
abbrev pub renewal_time : Limits → ℕ
renewal_time k = k.late + (k.challenges + 1) * attempt_time k

-- what is left of the lead
abbrev pub margin : Limits → ℕ
margin k = lead k - renewal_time k

-- something is left of it
abbrev pub Leave : Limits → Type 0
Leave k = renewal_time k < lead k

-- ---- the repetitions of an attempt

-- the wait after the first packet, and after each further one
abbrev pub wait_at : ClientTiming → ℕ → ℕ
wait_at t zero = first_wait t
wait_at t (suc n) = next_wait t (n + 2) (wait_at t n)

-- the waits after so many packets, together
abbrev pub waits : ClientTiming → ℕ → ℕ
waits t zero = 0
waits t (suc n) = waits t n + wait_at t n

-- an attempt that is not answered times out so long after it was first sent
abbrev pub patience : ClientTiming → ℕ
patience t = waits t t.requests
