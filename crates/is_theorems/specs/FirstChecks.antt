-- A controlling agent checks each pair that is due by the first `handle_timeout` call of its rounds, or selects a path.
use Rattle.std.specs.Prelude.{◌≡◌, ℕ, true, ◌<◌, ◌≤◌, ◌⊎◌, List, [], ◌∷◌, length}
use Rattle.is_proto.specs.Lists.{Has}
use Rattle.is_proto.specs.Times.{MAX}
use Rattle.is_stun.specs.Timing.{is_modern}
use Rattle.is_candidate.specs.Candidates.{CandidateRecord}
use Rattle.is_pair.specs.Pairs.{PairRecord}
use Rattle.is_pair.specs.Turns.{due_by}
use Rattle.is_rules.specs.Agent.{AgentRecord}
use Rattle.is_theorems.specs.Executions.{ExecutionRound, SelectsAmong, ExecutionRounds}
use Rattle.is_theorems.specs.Exchange.{AreBetween, Execution}
use Rattle.is_theorems.specs.Progress.{checks_for, Awaits, IsUnanswered}
use Rattle.is_theorems.specs.ReachedExecutions.{IsPassed, ChecksAmong}
use Rattle.is_theorems.specs.Runs.{IsFresh}
use Rattle.is_rules.specs.Sending.{path_of}
use Rattle.is_rules.specs.Steps.{Call, Entry, Done}

-- There are as many of these times as pairs that are due by the time `by`, with due times computed at the first of them, or twice
-- as many if checks may go ahead.
abbrev pub AreAsManyAsDue : {H P : Type 0} → ℕ → AgentRecord H P → List ℕ → Type 0
AreAsManyAsDue by a [] = ⊥
AreAsManyAsDue by a (now ∷ later) = checks_for (is_modern a.timing) (length (due_by by now a.timing a.pairs)) ≤ length (now ∷ later)

-- Enough `handle_timeout` calls at these times follow one at the time `now`, for a pair that is due by the time `by`. If `by` is
-- earlier than the first call, as many calls suffice as pairs are due by then, the first included. A single pair needs only this
-- one. Otherwise other pairs may become due by then in the first round: as many calls after it suffice as pairs are due by `by`
-- when the second one comes. If checks may go ahead, it is twice as many.
abbrev pub SufficeForDue : {H P : Type 0} → ℕ → ℕ → AgentRecord H P → AgentRecord H P → List ℕ → Type 0
SufficeForDue by now first second later =
    ((by < now) × AreAsManyAsDue by first (now ∷ later)) ⊎ ((length first.pairs ≤ 1) ⊎ AreAsManyAsDue by second later)

-- the times of the rounds
abbrev pub times_of : {P : Type 0} → List (ExecutionRound P) → List ℕ
times_of [] = []
times_of (r ∷ later) = r.now ∷ times_of later

module _ {H P : Type 0} (mac : H → List ℕ → List ℕ → List ℕ) (answers : P → CandidateRecord → ℕ → ℕ → Type 0) where
  -- An execution starts with a newly created agent. At the start of the rounds no pair is valid, and this one is due by the time of
  -- the first one, with due times computed then. Enough rounds follow, in which the agent is controlling and only packets and polls
  -- come. Then a check is sent on the pair's path in one of them, unless a path is selected in one.
  abbrev pub ExecutionsCheckFromDue : Type 0
  ExecutionsCheckFromDue =
      (first start last : AgentRecord H P) (xs : List (Call P × Entry)) (r : ExecutionRound P) (later : List (ExecutionRound P)) (p : PairRecord) (by : ℕ)
      → IsFresh first → Execution mac answers xs first start → start.controlling ≡ true → Awaits r.now by start p → IsUnanswered start p
      → by ≤ r.now → r.timeout.answer ≡ Done → r.now < MAX → AreBetween r.following
      → (run : ExecutionRounds mac answers (r ∷ later) start last) → ((x : ExecutionRound P) → Has later x → IsPassed by x)
      → SufficeForDue by r.now start run.1 (times_of later)
      → ChecksAmong (r ∷ later) (path_of start p) ⊎ SelectsAmong (r ∷ later)
