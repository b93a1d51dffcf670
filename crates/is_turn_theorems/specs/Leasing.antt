-- A TURN client with a lease in one of its places, a permission or a channel, that stays in use, and whose requests the server answers.
use Rattle.std.specs.Prelude.{◌≡◌, ◌⊎◌, ℕ, ◌+◌, ◌≤◌, ◌<◌, not, Bool, true, false, nat_lt, List, [], ◌∷◌, length, is_some, is_none, Option, Some, None, if◌then◌else◌}
use Rattle.is_stun.specs.Message.{Message}
use Rattle.is_turn.specs.declared.attempts.Attempt.{Attempt}
use Rattle.is_turn.specs.declared.lease.Lease.{Lease}
use Rattle.is_turn.specs.declared.operation.Operation.{Operation}
use Rattle.is_turn.specs.declared.session.Session.{Session}
use Rattle.is_turn.specs.declared.timing.ClientTiming.{ClientTiming}
use Rattle.is_turn.specs.Client.{at_time}
use Rattle.is_turn.specs.Incoming.{datagram_of, response}
use Rattle.is_turn.specs.Leases.{attempt_of, is_in_use, time_or_never}
use Rattle.is_turn.specs.Operations.{is_exhausted}
use Rattle.is_turn.specs.Places.{at_place}
use Rattle.is_turn.specs.Relaying.{is_idle_step}
use Rattle.is_turn.specs.Session.{is_ready, step_of, with_renewal}
use Rattle.is_turn.specs.Verdict.{code_of}
use Rattle.is_turn.specs.Worlds.{World, Call, handle_timeout, receive, IsBelievable}
use Rattle.is_turn_theorems.specs.Limits.{Limits}
use Rattle.is_turn_theorems.specs.LeaseLimits.{lease_margin}
use Rattle.is_turn_theorems.specs.Timely.{Entry, is_timeout, IsAnswered, IsSeldomStale, IsStale}

-- the server has given the permission, or bound the channel
abbrev pub is_given : Lease → Bool
is_given g = is_some g.until

-- ---- the user

-- when its renewal is due, it was used since the last one began
abbrev pub IsInUse : ℕ → Lease → Type 0
IsInUse now g = is_none g.operation ≡ true → g.renew.0 ≤ now → is_in_use g ≡ true

-- ---- the server

-- an attempt is answered before it times out
abbrev pub IsPatient : ClientTiming → ℕ → Option Operation → Type 0
IsPatient t now None = Unit {0}
IsPatient t now (Some o) = o.is_fresh ≡ false → is_exhausted t o ≡ true → now < o.due.0

-- while it is given
pub record IsLeaseKept (k : Limits) (t : ClientTiming) (now : ℕ) (g : Lease) : Type 0 where
  pub in_use : IsInUse now g
  pub answered : IsAnswered k.within now g.operation
  pub seldom_stale : IsSeldomStale k.challenges g.operation
  pub patient : IsPatient t now g.operation

-- the server's response to this attempt: while the lease is given it is an authentic success response, or a challenge
pub record IsLeaseServed (k : Limits) (mac : List ℕ → List ℕ → List ℕ) (now : ℕ) (w : World) (g : Lease) (m : Message) (a : Attempt) : Type 0 where
  pub after : code_of m ≡ None → a.since.0 ≤ now
  pub within : code_of m ≡ None → now ≤ a.since.0 + k.within
  pub authentic : is_given g ≡ true → ((code_of m ≡ None) × IsBelievable mac m a w.credentials) ⊎ IsStale m w.credentials

-- what is received: any response to the request for the lease is the server's
abbrev pub LeaseServes : Call → Limits → (List ℕ → List ℕ → List ℕ) → ℕ → ℕ → World → Type 0
LeaseServes (receive bytes result) k mac now place w =
    (m : Message) (a : Attempt) → datagram_of bytes ≡ response m → attempt_of m (at_place place w.leases) ≡ Some a
    → IsLeaseServed k mac now w (at_place place w.leases) m a
LeaseServes _ k mac now place w = Unit {0}

-- ---- the turns of the allocation

-- another attempt is to be sent
abbrev pub is_in_line : Option Operation → Bool
is_in_line None = false
is_in_line (Some o) = o.is_fresh

-- `handle_timeout` does what the allocation has due, and that is no keep-alive. Another call goes first if it puts off the next packet.
abbrev pub goes_first : Call → ℕ → Session → Session → Bool
goes_first (handle_timeout stream stream_new) now s new = not (is_idle_step (step_of (at_time now) (with_renewal (at_time now) s)))
goes_first _ now s new = nat_lt s.paced.0 new.paced.0

-- so often the allocation went first since the request for the lease began to wait
abbrev pub turns_after : ℕ → ℕ → World → Entry → ℕ
turns_after turns place w x =
    if is_in_line (at_place place w.leases).operation
    then (if goes_first x.call x.after.clock w.session x.after.session then turns + 1 else turns)
    else 0

-- ---- a run

pub record IsLeaseInTime (k : Limits) (mac : List ℕ → List ℕ → List ℕ) (place turns : ℕ) (w : World) (x : Entry) : Type 0 where
  pub serves : LeaseServes x.call k mac x.after.clock place w
  pub kept : is_ready w.session.phase ≡ true → is_given (at_place place w.leases) ≡ true
      → IsLeaseKept k w.session.timing x.after.clock (at_place place w.leases)
  pub seldom_passed : turns ≤ k.others
  pub few : length x.after.leases ≤ k.places
  -- neither the user nor a response ends the client
  pub stays : is_timeout x.call ≡ false → is_ready w.session.phase ≡ true → is_ready x.after.session.phase ≡ true

abbrev pub IsLeaseTimelyFrom : Limits → (List ℕ → List ℕ → List ℕ) → ℕ → ℕ → World → List Entry → Type 0
IsLeaseTimelyFrom k mac place turns w [] = Unit {0}
IsLeaseTimelyFrom k mac place turns w (x ∷ rest) =
    IsLeaseInTime k mac place turns w x × IsLeaseTimelyFrom k mac place (turns_after turns place w x) x.after rest

-- the calls of a client from its beginning, in addition to what is said of them for the allocation
abbrev pub IsLeaseTimely : Limits → (List ℕ → List ℕ → List ℕ) → ℕ → World → List Entry → Type 0
IsLeaseTimely k mac place w run = IsLeaseTimelyFrom k mac place 0 w run

-- ---- nothing lapses

-- at this call the believed end of the lease in this place is ahead, and the call does not end it
pub record IsLeaseAhead (k : Limits) (place : ℕ) (w : World) (x : Entry) : Type 0 where
  pub ahead : is_ready w.session.phase ≡ true → is_given (at_place place w.leases) ≡ true
      → x.after.clock + lease_margin k ≤ time_or_never (at_place place w.leases).until
  pub stays : is_ready w.session.phase ≡ true → is_given (at_place place w.leases) ≡ true → is_given (at_place place x.after.leases) ≡ true

-- At each of these calls the believed end of the lease in this place is ahead, and the call does not end it.
abbrev pub LeaseNeverLapses : Limits → ℕ → World → List Entry → Type 0
LeaseNeverLapses k place w [] = Unit {0}
LeaseNeverLapses k place w (x ∷ rest) = IsLeaseAhead k place w x × LeaseNeverLapses k place x.after rest
