-- How soon a pair that is due is checked, for an agent that may share its random source: in an execution, as in a log. For a
-- controlling agent without a valid pair the bound is smaller.
use Rattle.std.specs.Prelude.{◌≡◌, ℕ, true, ◌+◌, ◌*◌, ◌<◌, ◌≤◌, ◌⊎◌, List, [], ◌∷◌, length, count_by, Some}
use Rattle.rand_core.specs.Stream.{Stream}
use Rattle.is_proto.specs.Lists.{Has}
use Rattle.is_proto.specs.Times.{MAX}
use Rattle.is_candidate.specs.Candidates.{CandidateRecord}
use Rattle.is_pair.specs.Pairs.{PairRecord}
use Rattle.is_pair.specs.Turns.{due_by}
use Rattle.is_stun.specs.declared.header.Class.TheVariants as class
use Rattle.is_stun.specs.Timing.{is_modern}
use Rattle.is_rules.specs.declared.emitted.Path.{Path}
use Rattle.is_rules.specs.Agent.{AgentRecord}
use Rattle.is_theorems.specs.AskedExecutions.{IsAnsweredAlong}
use Rattle.is_theorems.specs.Executions.{ExecutionRound, SelectsAmong, ExecutionRounds}
use Rattle.is_theorems.specs.Exchange.{AreBetween, Execution}
use Rattle.is_theorems.specs.Progress.{checks_for, Awaits, IsUnanswered}
use Rattle.is_rules.specs.Owed.{one_if}
use Rattle.is_theorems.specs.Reached.{IsInLine, IsLasting, nominations_ahead, selects}
use Rattle.is_theorems.specs.Runs.{IsFresh}
use Rattle.is_rules.specs.Sending.{path_of}
use Rattle.is_rules.specs.Steps.{Call, Entry, HandleTimeout, Done, Step}
use Rattle.is_rules.specs.Emitted.{issued_as}

-- a round whose `handle_timeout` call is later than `by` and returns Ok, and has only packets and polls after it
pub record IsPassed {P : Type 0} (by : ℕ) (r : ExecutionRound P) : Type 0 where
  pub done : r.timeout.answer ≡ Done
  pub late : by < r.now
  pub early : r.now < MAX
  pub between : AreBetween r.following

-- The `handle_timeout` call of one of the rounds sends a check on the path.
abbrev pub ChecksAmong : {P : Type 0} → List (ExecutionRound P) → Path → Type 0
ChecksAmong rounds path =
    (r : ExecutionRound _) × (id : List ℕ) × Has rounds r × (r.timeout.emitted.issued ≡ Some (issued_as path class.Request id))

-- In one of the rounds an accepted success response is received on the reverse path.
abbrev pub IsAnsweredAmong : {P : Type 0} → List (ExecutionRound P) → Path → Type 0
IsAnsweredAmong rounds path = (r : ExecutionRound _) × Has rounds r × IsAnsweredAlong r.following path

-- how many calls of the rounds select a path
abbrev pub selections_among : {P : Type 0} → List (ExecutionRound P) → ℕ
selections_among [] = 0
selections_among (r ∷ later) = one_if (selects r.timeout) + (count_by (λ (x : Call _ × Entry). selects x.1) r.following + selections_among later)

module _ {H P : Type 0} (mac : H → List ℕ → List ℕ → List ℕ) (answers : P → CandidateRecord → ℕ → ℕ → Type 0) where
  -- one round after another, in either role
  abbrev pub PassRounds : List (ExecutionRound P) → AgentRecord H P → AgentRecord H P → Type 0
  PassRounds [] old new = new ≡ old
  PassRounds (r ∷ later) old new =
      (mid next : AgentRecord H P) × (s t : Stream) × Step mac answers old s (HandleTimeout r.now) r.timeout mid t
      × Execution mac answers r.following mid next × PassRounds later next new

  -- An execution starts with a newly created agent. One of n pairs waits for its check, and at least 2n - 1 rounds follow, and
  -- one more for each pair that is added in them, and for each nomination that may be sent at once (`nominations_ahead`); if checks may
  -- go ahead, 4n - 1, and two more. Then a check is sent on the pair's path in one of them, unless a success response is received on
  -- the path in one of them. This holds in either role, whatever the agent receives and nominates.
  abbrev pub ExecutionsReach : Type 0
  ExecutionsReach =
      (first start last : AgentRecord H P) (xs : List (Call P × Entry)) (r : ExecutionRound P) (rounds : List (ExecutionRound P)) (p : PairRecord) (by : ℕ)
      → IsFresh first → Execution mac answers xs first start → IsInLine r.now by start p → PassRounds (r ∷ rounds) start last
      → ((x : ExecutionRound P) → Has (r ∷ rounds) x → IsPassed by x) → ((x : ExecutionRound P) → Has (r ∷ rounds) x → IsLasting x.now start p)
      → checks_for (is_modern start.timing) (2 * length start.pairs + last.next_number + nominations_ahead start (selections_among (r ∷ rounds)))
      ≤ length (r ∷ rounds) + 1 + checks_for (is_modern start.timing) start.next_number
      → ChecksAmong (r ∷ rounds) (path_of start p) ⊎ IsAnsweredAmong (r ∷ rounds) (path_of start p)

  -- An execution starts with a newly created agent. At the start of the rounds no pair is valid, and n pairs are due by an
  -- earlier time `by`, with due times computed at the time of the first round. At least n rounds follow, or 2n if checks may go
  -- ahead, in which the agent is controlling. Then a check is sent on the path of each of these pairs in one of the rounds,
  -- unless a path is selected in one.
  abbrev pub ExecutionsCheck : Type 0
  ExecutionsCheck =
      (first start last : AgentRecord H P) (xs : List (Call P × Entry)) (r : ExecutionRound P) (rounds : List (ExecutionRound P)) (p : PairRecord) (by : ℕ)
      → IsFresh first → Execution mac answers xs first start → start.controlling ≡ true → Awaits r.now by start p → IsUnanswered start p
      → ExecutionRounds mac answers (r ∷ rounds) start last → ((x : ExecutionRound P) → Has (r ∷ rounds) x → IsPassed by x)
      → checks_for (is_modern start.timing) (length (due_by by r.now start.timing start.pairs)) ≤ length (r ∷ rounds)
      → ChecksAmong (r ∷ rounds) (path_of start p) ⊎ SelectsAmong (r ∷ rounds)
