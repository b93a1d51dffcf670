-- A TURN client whose caller is punctual and whose server answers: each call, its time, and what comes of it.
use Rattle.std.specs.Prelude.{◌≡◌, ◌⊎◌, ℕ, ◌+◌, ◌*◌, ◌≤◌, ◌<◌, Bool, true, false, List, [], ◌∷◌, is_some, max, min, Option, Some, None}
use Rattle.is_proto.specs.Times.{MAX, SECOND}
use Rattle.is_stun.specs.Message.{Message}
use Rattle.is_turn.specs.declared.attempts.Attempt.{Attempt}
use Rattle.is_turn.specs.declared.operation.Operation.{Operation}
use Rattle.is_turn.specs.declared.session.Session.{Session}
use Rattle.is_turn.specs.Credentials.{Credentials}
use Rattle.is_turn.specs.Incoming.{datagram_of, response}
use Rattle.is_turn.specs.Leases.{time_or_never}
use Rattle.is_turn.specs.Outcome.{attempt_answered, seconds_or_none}
use Rattle.is_turn.specs.Relaying.{next_client_time}
use Rattle.is_turn.specs.Session.{is_ready, request_timing}
use Rattle.is_turn.specs.Verdict.{code_of}
use Rattle.is_turn.specs.Worlds.{Acceptance, World, Call, handle_timeout, receive, IsBelievable, Does}
use Rattle.is_turn_theorems.specs.Limits.{Limits, margin, patience}

-- a call, and the client, the clock and what left after it
pub record Entry : Type 0 where
  pub call : Call
  pub after : World

-- ---- the caller

abbrev pub is_timeout : Call → Bool
is_timeout (handle_timeout stream stream_new) = true
is_timeout _ = false

-- the time of `poll_timeout`
abbrev pub timeout_of : World → ℕ
timeout_of w = time_or_never (next_client_time w.session w.leases)

-- Since when `handle_timeout` is due, or from when on: from the time of `poll_timeout`. If that is past, it is due since this call, or
-- since it was due before.
abbrev pub due_since : Call → ℕ → World → ℕ
due_since (handle_timeout stream stream_new) due w = max (timeout_of w) w.clock
due_since _ due w = max (timeout_of w) (min due w.clock)

-- ---- the server

abbrev pub IsWithin : ℕ → ℕ → Option Attempt → Type 0
IsWithin within now None = Unit {0}
IsWithin within now (Some a) = now ≤ a.since.0 + within

-- while the last attempt of the pending request is not answered, it is not long ago that it was first sent
abbrev pub IsAnswered : ℕ → ℕ → Option Operation → Type 0
IsAnswered within now None = Unit {0}
IsAnswered within now (Some o) = o.is_fresh ≡ false → IsWithin within now o.attempts.last

abbrev pub IsSeldomStale : ℕ → Option Operation → Type 0
IsSeldomStale challenges None = Unit {0}
IsSeldomStale challenges (Some o) = o.stale ≤ challenges

-- a success response to this attempt comes in time, and says that the allocation lasts long enough
pub record IsPrompt (k : Limits) (now : ℕ) (m : Message) (a : Attempt) : Type 0 where
  pub lasts : k.lifetime ≤ seconds_or_none m.attributes.lifetime
  pub after : a.since.0 ≤ now
  pub within : now ≤ a.since.0 + k.within

-- 438, Stale Nonce, to a client with credentials
abbrev pub IsStale : Message → Option Credentials → Type 0
IsStale m c = (code_of m ≡ Some 438) × (is_some c ≡ true)

-- the server's response to this attempt; of a client with an allocation it is an authentic success response, or a challenge
pub record IsServed (k : Limits) (mac : List ℕ → List ℕ → List ℕ) (now : ℕ) (w : World) (m : Message) (a : Attempt) : Type 0 where
  pub success : code_of m ≡ None → IsPrompt k now m a
  pub authentic : is_ready w.session.phase ≡ true → ((code_of m ≡ None) × IsBelievable mac m a w.credentials) ⊎ IsStale m w.credentials

-- what is received: any response to the pending request is the server's
abbrev pub Serves : Call → Limits → (List ℕ → List ℕ → List ℕ) → ℕ → World → Type 0
Serves (receive bytes result) k mac now w =
    (m : Message) (a : Attempt) → datagram_of bytes ≡ response m → attempt_answered m w.session ≡ Some a → IsServed k mac now w m a
Serves _ k mac now w = Unit {0}

-- while there is an allocation
pub record IsKept (k : Limits) (now : ℕ) (s : Session) : Type 0 where
  pub answered : IsAnswered k.within now s.operation
  pub seldom_stale : IsSeldomStale k.challenges s.operation
  -- an attempt is repeated for longer
  pub patient : k.within < patience (request_timing s)

-- ---- a run

-- A call. Since when `handle_timeout` is due, or from when on, is given.
pub record IsInTime (k : Limits) (mac : List ℕ → List ℕ → List ℕ) (accepted : List Acceptance) (due : ℕ) (w : World) (x : Entry) : Type 0 where
  pub forward : w.clock ≤ x.after.clock
  pub does : Does x.call mac accepted x.after.clock w x.after
  pub punctual : x.after.clock ≤ due + k.late
  pub serves : Serves x.call k mac x.after.clock w
  pub kept : is_ready w.session.phase ≡ true → IsKept k x.after.clock w.session
  -- no time is past the last one that a clock shows
  pub shown : x.after.clock + 3600 * SECOND < MAX

abbrev pub IsTimelyFrom : Limits → (List ℕ → List ℕ → List ℕ) → List Acceptance → ℕ → World → List Entry → Type 0
IsTimelyFrom k mac accepted due w [] = Unit {0}
IsTimelyFrom k mac accepted due w (x ∷ rest) =
    IsInTime k mac accepted due w x × IsTimelyFrom k mac accepted (due_since x.call due x.after) x.after rest

-- the calls of a client from its beginning, when nothing is due
abbrev pub IsTimely : Limits → (List ℕ → List ℕ → List ℕ) → List Acceptance → World → List Entry → Type 0
IsTimely k mac accepted w run = IsTimelyFrom k mac accepted MAX w run

-- ---- nothing lapses

-- at this call the believed end of an allocation is ahead, and the clock does not end the client
pub record IsAhead (k : Limits) (w : World) (x : Entry) : Type 0 where
  pub ahead : is_ready w.session.phase ≡ true → x.after.clock + margin k ≤ w.session.until.0
  pub stays : is_timeout x.call ≡ true → is_ready w.session.phase ≡ true → is_ready x.after.session.phase ≡ true

abbrev pub NothingLapses : Limits → World → List Entry → Type 0
NothingLapses k w [] = Unit {0}
NothingLapses k w (x ∷ rest) = IsAhead k w x × NothingLapses k x.after rest
