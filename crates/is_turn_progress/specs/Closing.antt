-- How soon a client with an allocation ends after `close`, with a punctual caller.
use Rattle.std.specs.Prelude.{◌≡◌, ◌⊎◌, ℕ, ◌+◌, ◌*◌, ◌≤◌, Bool, List, [], ◌∷◌}
use Rattle.is_turn.specs.declared.session.Phase.TheVariants as phases
use Rattle.is_turn.specs.declared.session.Session.{Session}
use Rattle.is_turn.specs.declared.timing.ClientTiming.{ClientTiming}
use Rattle.is_turn.specs.Client.{at_time}
use Rattle.is_turn.specs.Session.{PACE, turn_closed}
use Rattle.is_turn.specs.Worlds.{Call, start, close, lose, permit, send, probe, handle_timeout, poll_transmit, poll_event, receive}
use Rattle.is_turn_progress.specs.States.{State, Advances}
use Rattle.is_turn_progress.specs.Reaching.{IsPunctual}

-- as long as it may take: the waits after two requests, and three calls, each late and after the pace
abbrev pub CLOSING : ClientTiming → ℕ → ℕ
CLOSING t d = t.rto.0 + t.last_wait.0 + 3 * (d + PACE)

-- a client that had an allocation, just closed; its last packet left by then
pub record IsClosed (time d : ℕ) (x : State) : Type 0 where
  pub before : Session
  pub ready : before.phase ≡ phases.Ready
  pub paced : before.paced.0 ≤ time + PACE
  pub has_credentials : Bool
  pub session : x.session ≡ turn_closed (at_time time) has_credentials before

-- A datagram leaves the session as it is, or ends the client, as a genuine response does. A challenge does neither: it makes another attempt.
abbrev pub IsFinal : State → State → Type 0
IsFinal x new = (new.session ≡ x.session) ⊎ (new.session.phase ≡ phases.Ended)

abbrev pub IsUnchallenged : Call → State → State → Type 0
IsUnchallenged start x new = Unit {0}
IsUnchallenged (close has_credentials) x new = Unit {0}
IsUnchallenged lose x new = Unit {0}
IsUnchallenged (permit peer) x new = Unit {0}
IsUnchallenged (send peer media) x new = Unit {0}
IsUnchallenged probe x new = Unit {0}
IsUnchallenged (handle_timeout stream stream_new) x new = Unit {0}
IsUnchallenged (poll_transmit result) x new = Unit {0}
IsUnchallenged poll_event x new = Unit {0}
IsUnchallenged (receive bytes result) x new = IsFinal x new

pub record Passes (mac : List ℕ → List ℕ → List ℕ) (d : ℕ) (x new : State) : Type 0 where
  pub step : Advances mac x new
  pub unchallenged : IsUnchallenged step.call x new
  pub punctual : IsPunctual d x new.clock

-- the states after each of any calls
abbrev pub IsPunctualExecution : (List ℕ → List ℕ → List ℕ) → ℕ → State → List State → Type 0
IsPunctualExecution mac d x [] = Unit {0}
IsPunctualExecution mac d x (next ∷ rest) = Passes mac d x next × IsPunctualExecution mac d next rest

abbrev pub HasEnded : State → Type 0
HasEnded x = x.session.phase ≡ phases.Ended

-- until it has ended, and then, the clock is not past this time
abbrev pub IsEndedBy : ℕ → List State → Type 0
IsEndedBy by [] = Unit {0}
IsEndedBy by (x ∷ rest) = (x.clock ≤ by) × (HasEnded x ⊎ IsEndedBy by rest)
