-- When an agent has left a path on which consent ended (RFC 7675, section 5.1): after the first `handle_timeout` call from then on, which
-- comes in time if the caller is punctual.
use Rattle.std.specs.Prelude.{◌≡◌, ℕ, ◌+◌, ◌*◌, ◌<◌, ◌≤◌, ◌⊎◌, max, true, false, List, [], ◌∷◌, ◌++◌, None, Some, is_some}
use Rattle.std.specs.Prelude.{if◌then◌else◌}
use Rattle.is_proto.specs.Lists.{Has}
use Rattle.is_proto.specs.Times.{SECOND}
use Rattle.is_candidate.specs.Candidates.{CandidateRecord}
use Rattle.is_pair.specs.Pairs.{PairRecord}
use Rattle.is_stun.specs.declared.header.Class.TheVariants as class
use Rattle.is_stun.specs.declared.timing.Consent.{Consent}
use Rattle.is_stun.specs.Message.{Message}
use Rattle.is_stun.specs.Timing.{consent_of}
use Rattle.is_rules.specs.declared.emitted.Path.{Path}
use Rattle.is_rules.specs.Agent.{AgentRecord}
use Rattle.is_rules.specs.Brought.{Brings}
use Rattle.is_rules.specs.Connecting.{is_connected}
use Rattle.is_rules.specs.Emitted.{reversed}
use Rattle.is_rules.specs.Sending.{path_of}
use Rattle.is_rules.specs.Steps.{Call, Done, Entry, HandleTimeout}
use Rattle.is_theorems.specs.AskedExecutions.{EndsAlong, IsAnsweredAlong, selected_along}
use Rattle.is_theorems.specs.ConsentExecutions.{AreNeverLite}
use Rattle.is_theorems.specs.Executions.{ExecutionRound}
use Rattle.is_theorems.specs.Exchange.{Execution}
use Rattle.is_theorems.specs.FirstTimeouts.{AreInRound}
use Rattle.is_theorems.specs.InTime.{IsTimed}
use Rattle.is_theorems.specs.ReachedExecutions.{PassRounds}
use Rattle.is_theorems.specs.Runs.{IsFresh}

-- When consent on a path ends: so long after its last check with a response was sent, and unless consent is strict, 15 s after the peer's
-- last check arrived.
abbrev pub consent_until : Consent → (sent heard : ℕ) → ℕ
consent_until c sent heard = if c.strict then sent + c.timeout.0 else max (sent + c.timeout.0) (heard + 15 * SECOND)

-- One of these calls accepts a check of the peer that was received on the reverse path.
abbrev pub IsRequestedAlong : {P : Type 0} → List (Call P × Entry) → Path → Type 0
IsRequestedAlong xs path =
    (x : Call _ × Entry) × Has xs x
    × ((at : ℕ) × (by : Path) × (m : Message) × Brings x.0 x.1 at by m × (m.class ≡ class.Request) × (reversed by ≡ path))

-- A round with calls as in `AreInRound`: no check on the path gets a response, and unless consent is strict, no check of the peer arrives
-- on it.
pub record IsSilentRound {P : Type 0} (c : Consent) (path : Path) (r : ExecutionRound P) : Type 0 where
  pub done : r.timeout.answer ≡ Done
  pub between : AreInRound true r.following
  pub unanswered : ¬ IsAnsweredAlong r.following path
  pub unasked : c.strict ≡ false → ¬ IsRequestedAlong r.following path

-- The first of these rounds, if there is one, begins at this time or earlier.
abbrev pub BeginsBy : {P : Type 0} → ℕ → List (ExecutionRound P) → Type 0
BeginsBy limit [] = Unit {0}
BeginsBy limit (r ∷ later) = r.now ≤ limit

module _ {H P : Type 0} where
  -- The agent has the profile `Modern`, it knows its peer, and no early request waits. On this path the last check with a response was sent
  -- at time `sent`, and the peer's last check arrived at time `heard`, or earlier.
  pub record IsLastHeard (c : Consent) (sent heard : ℕ) (path : Path) (a : AgentRecord H P) : Type 0 where
    pub consent : consent_of a.timing ≡ Some c
    pub peer : is_some a.remote_creds ≡ true
    pub queue : a.queue ≡ []
    pub answered : (p : PairRecord) (at : ℕ) → Has a.pairs p → path_of a p ≡ path → p.consented ≡ Some at → at ≤ sent
    pub asked : (p : PairRecord) (at : ℕ) → Has a.pairs p → path_of a p ≡ path → p.last_request ≡ Some at → at ≤ heard

  -- After these calls the agent is connected, and the path is the one that it selected last.
  abbrev pub IsConnectedOn : List (Call P × Entry) → AgentRecord H P → Path → Type 0
  IsConnectedOn xs a path = (is_connected a.state ≡ true) × (selected_along None xs ≡ Some path)

  module _ (mac : H → List ℕ → List ℕ → List ℕ) (answers : P → CandidateRecord → ℕ → ℕ → Type 0) where
    -- In each of the rounds: if the agent is connected on the path after the `handle_timeout` call, consent ends later, and the next call
    -- comes by then or at most `slack` after it; unless a candidate that is added between these calls may remove a pair of the path.
    abbrev pub LeavesBy : (ends slack : ℕ) (path : Path) (before : List (Call P × Entry)) (rounds : List (ExecutionRound P))
        (old new : AgentRecord H P)
        → PassRounds mac answers rounds old new → Type 0
    LeavesBy ends slack path before [] old new run = Unit {0}
    LeavesBy ends slack path before (r ∷ later) old new run =
        (IsConnectedOn (before ++ (HandleTimeout r.now, r.timeout) ∷ []) run.0 path
        → (r.now < ends) × (BeginsBy (ends + slack) later ⊎ EndsAlong mac answers r.following run.0 run.1 run.5 path))
        × LeavesBy ends slack path (before ++ (HandleTimeout r.now, r.timeout) ∷ r.following) later run.1 new run.6

    -- An agent that is never lite, from its creation. Rounds begin in which nothing keeps consent on the path, and in which the caller is
    -- punctual. While the agent is connected on this path, the next `handle_timeout` call comes at most `pace + delay` after consent ends.
    -- After each call that comes at this end or later, it is not connected on this path.
    abbrev pub LeavesInTime : Type 0
    LeavesInTime =
        (first start last : AgentRecord H P) (before : List (Call P × Entry)) (r : ExecutionRound P) (later : List (ExecutionRound P))
        → (c : Consent) (path : Path) (sent heard pace delay : ℕ)
        → IsFresh first → AreNeverLite before → Execution mac answers before first start → IsLastHeard c sent heard path start
        → (run : PassRounds mac answers (r ∷ later) start last) → ((x : ExecutionRound P) → Has (r ∷ later) x → IsSilentRound c path x)
        → IsTimed pace delay start r later → LeavesBy (consent_until c sent heard) (pace + delay) path before (r ∷ later) start last run
