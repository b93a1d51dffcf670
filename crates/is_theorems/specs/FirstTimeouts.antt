-- How soon a pair is checked if candidates may be added meanwhile, and if it is due at the first `handle_timeout` call of the rounds
-- and maybe not before it.
use Rattle.std.specs.Prelude.{◌≡◌, ℕ, Bool, true, ◌+◌, ◌*◌, ◌<◌, ◌≤◌, ◌⊎◌, List, [], ◌∷◌, ◌++◌, length}
use Rattle.rand_core.specs.Stream.{Stream}
use Rattle.is_proto.specs.Lists.{Has}
use Rattle.is_proto.specs.Times.{MAX}
use Rattle.is_stun.specs.Timing.{is_modern}
use Rattle.is_candidate.specs.Candidates.{CandidateRecord}
use Rattle.is_pair.specs.Pairs.{PairRecord}
use Rattle.is_rules.specs.declared.emitted.Path.{Path}
use Rattle.is_rules.specs.Agent.{AgentRecord}
use Rattle.is_theorems.specs.Asked.{IsAnsweredIn}
use Rattle.is_theorems.specs.AskedExecutions.{EndsAlong}
use Rattle.is_theorems.specs.Executions.{AcceptsSuccess, ExecutionRound}
use Rattle.is_theorems.specs.Exchange.{Execution}
use Rattle.is_theorems.specs.Logs.{Logged}
use Rattle.is_theorems.specs.Progress.{Awaits, IsUnanswered, checks_for}
use Rattle.is_theorems.specs.Reached.{IsInLine, IsLasting, is_in_round, IsPassing, ChecksIn, IsEndedIn, nominations_ahead, selection_count}
use Rattle.is_theorems.specs.ReachedExecutions.{ChecksAmong, IsAnsweredAmong, PassRounds, selections_among}
use Rattle.is_theorems.specs.Rounds.{LoggedRound, entries_of, Part}
use Rattle.is_theorems.specs.Runs.{IsFresh}
use Rattle.is_rules.specs.Sending.{path_of}
use Rattle.is_rules.specs.Steps.{Call, Entry, HandleTimeout, Done}

-- only packets and polls, candidates that are added, and settings that change neither pairs nor the timing of their checks
abbrev pub AreInRound : {P : Type 0} → (modern : Bool) → List (Call P × Entry) → Type 0
AreInRound modern xs = (x : Call _ × Entry) → Has xs x → is_in_round modern x.0 ≡ true

-- a round whose `handle_timeout` call is later than `by` and returns Ok, and has only such calls after it
pub record IsOpenRound {P : Type 0} (modern : Bool) (by : ℕ) (r : ExecutionRound P) : Type 0 where
  pub done : r.timeout.answer ≡ Done
  pub late : by < r.now
  pub early : r.now < MAX
  pub between : AreInRound modern r.following

-- Enough rounds follow the first one. Let there be n pairs when the first call comes, and m when the second one does. If n is 1, the
-- first round suffices. Otherwise 2m - 1 rounds after it do, and one more for each pair that is added in these; if checks may go
-- ahead, 4m - 1, and two more for each such pair. Each nomination that may be sent at once in these counts like such a pair: so many
-- are `ahead`.
abbrev pub SufficesFromDue : {H P : Type 0} → (first second last : AgentRecord H P) → (later ahead : ℕ) → Type 0
SufficesFromDue first second last later ahead =
    (length first.pairs ≤ 1)
    ⊎ (checks_for (is_modern second.timing) (2 * length second.pairs + last.next_number + ahead) ≤ later + 1 + checks_for (is_modern second.timing) second.next_number)

-- Enough rounds follow the first one for a pair that is due by the time `by`, if the first call comes at time `now`. If this is later than
-- `by`, 2n - 1 rounds suffice for n pairs, the first included, and one more for each pair that is added in them. If checks may go ahead,
-- 4n - 1 do, and two more. Each nomination that may be sent at once counts like such a pair: so many are `all_ahead` in all rounds, and
-- `ahead` in those after the first. Otherwise the rounds of `SufficesFromDue` do.
abbrev pub Suffices : {H P : Type 0} → (by now : ℕ) → (first second last : AgentRecord H P) → (later all_ahead ahead : ℕ) → Type 0
Suffices by now first second last later all_ahead ahead =
    ((by < now) × (checks_for (is_modern first.timing) (2 * length first.pairs + last.next_number + all_ahead) ≤ later + 2 + checks_for (is_modern first.timing) first.next_number))
    ⊎ SufficesFromDue first second last later ahead

-- In an execution enough rounds follow the first one for a pair that is due by the time `by` (`Suffices`), if `many` or more follow it.
abbrev pub RoundsSuffice : {H P : Type 0} → (by : ℕ) → (first second last : AgentRecord H P) → ExecutionRound P → List (ExecutionRound P) → (many : ℕ) → Type 0
RoundsSuffice by first second last r later many =
    Suffices by r.now first second last many (nominations_ahead first (selections_among (r ∷ later))) (nominations_ahead second (selections_among later))

module _ {H P : Type 0} (mac : H → List ℕ → List ℕ → List ℕ) (answers : P → CandidateRecord → ℕ → ℕ → Type 0) where
  -- ---- in an execution

  -- Between the `handle_timeout` calls a call may remove a pair that uses the path's addresses.
  abbrev pub EndsAmong : (rounds : List (ExecutionRound P)) (old new : AgentRecord H P) → PassRounds mac answers rounds old new → Path → Type 0
  EndsAmong [] old new run path = ⊥
  EndsAmong (r ∷ later) old new run path = EndsAlong mac answers r.following run.0 run.1 run.5 path ⊎ EndsAmong later run.1 new run.6 path

  -- A check is sent on the path in one of the rounds, unless a success response is received on the path in one of them, or a
  -- candidate that is added in them may remove a pair of the path.
  abbrev pub IsReached : (rounds : List (ExecutionRound P)) (old new : AgentRecord H P) → PassRounds mac answers rounds old new → Path → Type 0
  IsReached rounds old new run path = ChecksAmong rounds path ⊎ (IsAnsweredAmong rounds path ⊎ EndsAmong rounds old new run path)

  -- An execution starts with a newly created agent. One of n pairs waits for its check, due by an earlier time `by`. At least
  -- 2n - 1 rounds follow, and one more for each pair that is added in them, by the caller or by the peer, and for each nomination that
  -- may be sent at once; if checks may go ahead, 4n - 1, and two more. Then the pair's path is reached. This holds in either role,
  -- whatever the agent receives and nominates.
  abbrev pub OpenExecutionsReach : Type 0
  OpenExecutionsReach =
      (first start last : AgentRecord H P) (xs : List (Call P × Entry)) (r : ExecutionRound P) (rounds : List (ExecutionRound P)) (p : PairRecord) (by : ℕ)
      → IsFresh first → Execution mac answers xs first start → IsInLine r.now by start p → (run : PassRounds mac answers (r ∷ rounds) start last)
      → ((x : ExecutionRound P) → Has (r ∷ rounds) x → IsOpenRound (is_modern start.timing) by x) → ((x : ExecutionRound P) → Has (r ∷ rounds) x → IsLasting x.now start p)
      → checks_for (is_modern start.timing) (2 * length start.pairs + last.next_number + nominations_ahead start (selections_among (r ∷ rounds)))
      ≤ length (r ∷ rounds) + 1 + checks_for (is_modern start.timing) start.next_number
      → IsReached (r ∷ rounds) start last run (path_of start p)

  -- An execution starts with a newly created agent. A pair waits for its check, due by the first `handle_timeout` call of the rounds and
  -- maybe not before it. All others are later, and enough (`RoundsSuffice`). Then the pair's path is reached.
  abbrev pub ExecutionsReachFromDue : Type 0
  ExecutionsReachFromDue =
      (first start last : AgentRecord H P) (xs : List (Call P × Entry)) (r : ExecutionRound P) (later : List (ExecutionRound P)) (p : PairRecord) (by : ℕ)
      → IsFresh first → Execution mac answers xs first start → IsInLine r.now by start p
      → by ≤ r.now → r.timeout.answer ≡ Done → r.now < MAX → AreInRound (is_modern start.timing) r.following
      → (run : PassRounds mac answers (r ∷ later) start last) → ((x : ExecutionRound P) → Has later x → IsOpenRound (is_modern start.timing) by x)
      → ((x : ExecutionRound P) → Has later x → IsLasting x.now start p) → RoundsSuffice by start run.1 last r later (length later)
      → IsReached (r ∷ later) start last run (path_of start p)

  -- An execution starts with a newly created agent. It is controlling, has no valid pair, and sends no nomination at once, whether
  -- nominations have numbers or not. A pair is due by the first `handle_timeout` call of the rounds. The others are later, and enough
  -- (`Suffices`). Then the pair's path is reached, unless a success response is accepted in the rounds.
  abbrev pub ExecutionsReachUnanswered : Type 0
  ExecutionsReachUnanswered =
      (first start last : AgentRecord H P) (xs : List (Call P × Entry)) (r : ExecutionRound P) (later : List (ExecutionRound P)) (p : PairRecord) (by : ℕ)
      → IsFresh first → Execution mac answers xs first start → start.controlling ≡ true → Awaits r.now by start p → IsUnanswered start p
      → by ≤ r.now → r.timeout.answer ≡ Done → r.now < MAX → AreInRound (is_modern start.timing) r.following
      → (run : PassRounds mac answers (r ∷ later) start last) → ((x : ExecutionRound P) → Has later x → IsOpenRound (is_modern start.timing) by x)
      → Suffices by r.now start run.1 last (length later) 0 0
      → ((x : ExecutionRound P) × Has (r ∷ later) x × ((y : Call P × Entry) × Has x.following y × AcceptsSuccess y.0 y.1))
      ⊎ IsReached (r ∷ later) start last run (path_of start p)

  -- ---- in a log

  -- The path is reached in one of the rounds of a segment.
  abbrev pub IsReachedIn : {first : AgentRecord H P} {s : Stream} {log before : List (Logged P)} {start last : AgentRecord H P} → (rounds : List (LoggedRound P))
      → Part mac answers first s log before start (entries_of rounds) last → Path → Type 0
  IsReachedIn {before = before} {start = start} {last = last} rounds part path =
      ChecksIn rounds path
      ⊎ (IsAnsweredIn (entries_of rounds) path
      ⊎ IsEndedIn mac answers before start part.at (entries_of rounds) last part.following part.run path)

  -- A pair in the log is due by a `handle_timeout` call, and waits for its check. Other rounds follow, all later, and enough of them.
  -- Then the pair's path is reached in the call's round, or in one of the others.
  abbrev pub RoundsReachFromDue : AgentRecord H P → Stream → List (Logged P) → Type 0
  RoundsReachFromDue first s log =
      (before : List (Logged P)) (start second last : AgentRecord H P) (r : LoggedRound P) (later : List (LoggedRound P)) (p : PairRecord) (by : ℕ)
      → (one : Part mac answers first s log before start (entries_of (r ∷ [])) second)
      → (others : Part mac answers first s log (entries_of (r ∷ []) ++ before) second (entries_of later) last)
      → IsInLine r.now by start p → by ≤ r.now → r.timeout.call ≡ HandleTimeout r.now → r.timeout.entry.answer ≡ Done
      → ((x : Logged P) → Has r.following x → is_in_round (is_modern start.timing) x.call ≡ true) → ((x : LoggedRound P) → Has later x → IsPassing (is_modern start.timing) by x)
      → ((x : LoggedRound P) → Has later x → IsLasting x.now start p)
      → SufficesFromDue start second last (length later) (nominations_ahead second (selection_count (entries_of later)))
      → IsReachedIn (r ∷ []) one (path_of start p) ⊎ IsReachedIn later others (path_of start p)

  abbrev pub PairsAreReachedFromDue : Type 0
  PairsAreReachedFromDue = (first : AgentRecord H P) (s : Stream) (log : List (Logged P)) → IsFresh first → RoundsReachFromDue first s log
