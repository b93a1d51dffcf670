-- Rounds of an execution: a `handle_timeout` call, and everything up to the next one. If the checks of a pair are answered in
-- their rounds, a path is selected in one of the rounds.
use Rattle.std.specs.Prelude.{◌≡◌, ℕ, ◌<◌, ◌≤◌, true, List, [], ◌∷◌, length, Some, is_some}
use Rattle.rand_core.specs.Stream.{Stream}
use Rattle.is_proto.specs.Lists.{Has}
use Rattle.is_proto.specs.Times.{MAX}
use Rattle.is_candidate.specs.Candidates.{CandidateRecord}
use Rattle.is_pair.specs.Pairs.{PairRecord}
use Rattle.is_pair.specs.Turns.{due_by}
use Rattle.is_stun.specs.declared.header.Class.TheVariants as class
use Rattle.is_stun.specs.Message.{Message}
use Rattle.is_stun.specs.Timing.{is_modern}
use Rattle.is_rules.specs.declared.emitted.Path.{Path}
use Rattle.is_rules.specs.Agent.{AgentRecord}
use Rattle.is_rules.specs.Brought.{Brings}
use Rattle.is_rules.specs.Effects.{last_of}
use Rattle.is_theorems.specs.Exchange.{AreBetween, Execution}
use Rattle.is_theorems.specs.Progress.{checks_for, Awaits, IsUnanswered}
use Rattle.is_theorems.specs.Runs.{IsFresh}
use Rattle.is_rules.specs.Sending.{path_of}
use Rattle.is_rules.specs.Steps.{Call, Entry, HandleTimeout, Done, Step}
use Rattle.is_rules.specs.Emitted.{issued_as}

-- a `handle_timeout` call with its recorded result, and what comes after it, oldest first
pub record ExecutionRound (P : Type 0) : Type 0 where
  pub now : ℕ
  pub timeout : Entry
  pub following : List (Call P × Entry)

-- An accepted success response was received.
abbrev pub AcceptsSuccess : {P : Type 0} → Call P → Entry → Type 0
AcceptsSuccess call e = (at : ℕ) × (by : Path) × (m : Message) × Brings call e at by m × (m.class ≡ class.Success)

-- Only packets and polls come after the `handle_timeout` call. If a check is sent on the path, an accepted success response is
-- received in the same round.
pub record IsAnsweredRound {P : Type 0} (by : ℕ) (path : Path) (r : ExecutionRound P) : Type 0 where
  pub done : r.timeout.answer ≡ Done
  pub late : by < r.now
  pub early : r.now < MAX
  pub between : AreBetween r.following
  pub met : (id : List ℕ) → r.timeout.emitted.issued ≡ Some (issued_as path class.Request id)
      → (x : Call P × Entry) × Has r.following x × AcceptsSuccess x.0 x.1

-- In one of the rounds an accepted success response selects a path.
abbrev pub SelectsAmong : {P : Type 0} → List (ExecutionRound P) → Type 0
SelectsAmong rounds =
    (r : ExecutionRound _) × Has rounds r × ((x : Call _ × Entry) × Has r.following x × AcceptsSuccess x.0 x.1 × (is_some (last_of x.1.emitted.selected_paths) ≡ true))

module _ {H P : Type 0} (mac : H → List ℕ → List ℕ → List ℕ) (answers : P → CandidateRecord → ℕ → ℕ → Type 0) where
  -- The agent is controlling after each call.
  abbrev pub ControlsAlong : (xs : List (Call P × Entry)) (old new : AgentRecord H P) → Execution mac answers xs old new → Type 0
  ControlsAlong [] old new execution = Unit {0}
  ControlsAlong (x ∷ rest) old new execution = (execution.0.controlling ≡ true) × ControlsAlong rest execution.0 new execution.5

  -- one round after another, with the agent controlling after each call
  abbrev pub ExecutionRounds : List (ExecutionRound P) → AgentRecord H P → AgentRecord H P → Type 0
  ExecutionRounds [] old new = new ≡ old
  ExecutionRounds (r ∷ later) old new =
      (mid next : AgentRecord H P) × (s t : Stream) × Step mac answers old s (HandleTimeout r.now) r.timeout mid t × (mid.controlling ≡ true)
      × (execution : Execution mac answers r.following mid next) × ControlsAlong r.following mid next execution × ExecutionRounds later next new

  -- An execution starts with a newly created agent. At the start of the rounds no pair is valid, and n pairs are due by an
  -- earlier time `by`, with due times computed at the time of the first round. At least n rounds follow, or 2n if checks may go
  -- ahead, in which the checks of one of these pairs are answered and the agent is controlling. Then it selects a path in one of the
  -- rounds.
  abbrev pub ExecutionsSelect : Type 0
  ExecutionsSelect =
      (first start last : AgentRecord H P) (xs : List (Call P × Entry)) (r : ExecutionRound P) (rounds : List (ExecutionRound P)) (p : PairRecord) (by : ℕ)
      → IsFresh first → Execution mac answers xs first start → start.controlling ≡ true → Awaits r.now by start p → IsUnanswered start p
      → ExecutionRounds (r ∷ rounds) start last → ((x : ExecutionRound P) → Has (r ∷ rounds) x → IsAnsweredRound by (path_of start p) x)
      → checks_for (is_modern start.timing) (length (due_by by r.now start.timing start.pairs)) ≤ length (r ∷ rounds)
      → SelectsAmong (r ∷ rounds)
