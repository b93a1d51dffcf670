-- How soon a request triggers a check, with the profile `Modern` (RFC 8445, section 7.3.1.4): the pair on which it was served is urgent
-- until it is valid, so it is checked in two rounds, however many pairs there are.
use Rattle.std.specs.Prelude.{◌≡◌, ℕ, suc, ◌+◌, ◌*◌, ◌≤◌, ◌⊎◌, true, false, nat_lt, List, [], ◌∷◌, length}
use Rattle.rand_core.specs.Stream.{Stream}
use Rattle.is_proto.specs.Lists.{Has}
use Rattle.is_stun.specs.Timing.{is_modern}
use Rattle.is_candidate.specs.Candidates.{CandidateRecord}
use Rattle.is_pair.specs.Pairs.{PairRecord}
use Rattle.is_rules.specs.Agent.{AgentRecord}
use Rattle.is_rules.specs.Brought.{IsValidOn}
use Rattle.is_rules.specs.Sending.{path_of}
use Rattle.is_rules.specs.Steps.{Call, Entry, Done}
use Rattle.is_theorems.specs.Asked.{IsAnsweredIn}
use Rattle.is_theorems.specs.Executions.{AcceptsSuccess, ExecutionRound}
use Rattle.is_theorems.specs.Exchange.{Execution}
use Rattle.is_theorems.specs.FirstTimeouts.{AreInRound, IsOpenRound, IsReached}
use Rattle.is_theorems.specs.KindsInTurn.{WaitsInRounds}
use Rattle.is_theorems.specs.Logs.{Logged}
use Rattle.is_theorems.specs.Progress.{Awaits, IsUnanswered}
use Rattle.is_theorems.specs.InTime.{IsReachedBy, IsTimed}
use Rattle.is_theorems.specs.Reached.{ChecksIn, IsEndedIn, IsInLine, IsLasting, selects}
use Rattle.is_theorems.specs.ReachedExecutions.{PassRounds}
use Rattle.is_theorems.specs.Rounds.{LoggedRound, Part, entries_of}
use Rattle.is_theorems.specs.Runs.{IsFresh}
use Rattle.is_theorems.specs.UrgentFirst.{IsOvertaken, IsOvertakenIn}

module _ {H P : Type 0} where
  -- A request was served on the pair, and no pair on its path is valid. Its profile is `Modern`.
  pub record IsServed (a : AgentRecord H P) (p : PairRecord) : Type 0 where
    pub modern : is_modern a.timing ≡ true
    pub requested : nat_lt 0 p.requests ≡ true
    pub invalid : ¬ IsValidOn a (path_of a p)

  -- A request was served on the pair before the rounds, and the pair waits for its check. No `handle_timeout` call of the rounds selects a path.
  -- There are at least 2 * m rounds.
  pub record IsServedInRounds (by m : ℕ) (start : AgentRecord H P) (rounds : List (LoggedRound P)) (p : PairRecord) : Type 0 where
    pub waits : WaitsInRounds by start rounds p
    pub served : IsServed start p
    pub quiet : (r : LoggedRound P) → Has rounds r → selects r.timeout.entry ≡ false
    pub enough : 2 * m ≤ length rounds

  module _ (mac : H → List ℕ → List ℕ → List ℕ) (answers : P → CandidateRecord → ℕ → ℕ → Type 0) where
    -- ---- in a log

    -- In 2 * m such rounds a check is sent on the pair's path, or m of them check the selected pair or urgent pairs before it. The exceptions are
    -- those of `RoundsReach`.
    abbrev pub RoundsReachServed : AgentRecord H P → Stream → List (Logged P) → Type 0
    RoundsReachServed first s log =
        (before : List (Logged P)) (start last : AgentRecord H P) (rounds : List (LoggedRound P)) (p : PairRecord) (by m : ℕ)
        → (found : Part mac answers first s log before start (entries_of rounds) last) → IsServedInRounds by m start rounds p
        → ChecksIn rounds (path_of start p)
        ⊎ (IsAnsweredIn (entries_of rounds) (path_of start p)
        ⊎ (IsEndedIn mac answers before start found.at (entries_of rounds) last found.following found.run (path_of start p)
        ⊎ IsOvertakenIn mac answers p.number m before start found.at (entries_of rounds) last found.following found.run))

    abbrev pub ServedAreCheckedSoon : Type 0
    ServedAreCheckedSoon = (first : AgentRecord H P) (s : Stream) (log : List (Logged P)) → IsFresh first → RoundsReachServed first s log

    -- ---- in an execution

    -- So many `handle_timeout` calls of the rounds, or more, check the selected pair, or an urgent pair before the one with the number.
    abbrev pub IsOvertakenAmong : (number n : ℕ) (rounds : List (ExecutionRound P)) (old new : AgentRecord H P) → PassRounds mac answers rounds old new → Type 0
    IsOvertakenAmong number n [] old new run = n ≡ 0
    IsOvertakenAmong number n (r ∷ later) old new run =
        IsOvertakenAmong number n later run.1 new run.6
        ⊎ ((k : ℕ) × (n ≡ suc k) × IsOvertaken number r.now old r.timeout.emitted × IsOvertakenAmong number k later run.1 new run.6)

    -- In either role: a request was served on a pair that is due before the rounds, and no `handle_timeout` call of them selects a path.
    -- Then in 2 * m rounds the pair's path is reached, or m of them check the selected pair or urgent pairs before it.
    abbrev pub ServedExecutionsReach : Type 0
    ServedExecutionsReach =
        (first start last : AgentRecord H P) (xs : List (Call P × Entry)) (r : ExecutionRound P) (later : List (ExecutionRound P)) (p : PairRecord) (by m : ℕ)
        → IsFresh first → Execution mac answers xs first start → IsInLine r.now by start p → IsServed start p → (run : PassRounds mac answers (r ∷ later) start last)
        → ((x : ExecutionRound P) → Has (r ∷ later) x → IsOpenRound (is_modern start.timing) by x) → ((x : ExecutionRound P) → Has (r ∷ later) x → IsLasting x.now start p)
        → ((x : ExecutionRound P) → Has (r ∷ later) x → selects x.timeout ≡ false) → 2 * m ≤ length (r ∷ later)
        → IsReached mac answers (r ∷ later) start last run (path_of start p) ⊎ IsOvertakenAmong p.number m (r ∷ later) start last run

    -- With a punctual caller: by the time of the last round.
    abbrev pub ServedExecutionsReachInTime : Type 0
    ServedExecutionsReachInTime =
        (first start last : AgentRecord H P) (xs : List (Call P × Entry)) (r : ExecutionRound P) (later : List (ExecutionRound P)) (p : PairRecord) (by m pace delay : ℕ)
        → IsFresh first → Execution mac answers xs first start → IsInLine r.now by start p → IsServed start p → (run : PassRounds mac answers (r ∷ later) start last)
        → ((x : ExecutionRound P) → Has (r ∷ later) x → IsOpenRound (is_modern start.timing) by x) → ((x : ExecutionRound P) → Has (r ∷ later) x → IsLasting x.now start p)
        → ((x : ExecutionRound P) → Has (r ∷ later) x → selects x.timeout ≡ false) → 2 * m ≤ length (r ∷ later) → IsTimed pace delay start r later
        → IsReachedBy mac answers (r.now + length later * (pace + delay)) (r ∷ later) start last run (path_of start p) ⊎ IsOvertakenAmong p.number m (r ∷ later) start last run

    -- A request was served on the pair. At least 2 * m rounds follow, and fewer than m of them check the selected pair, or urgent pairs before
    -- this one. So 2 rounds suffice if none does, however many pairs there are.
    pub record SufficesForServed (start : AgentRecord H P) (p : PairRecord) (later : List (ExecutionRound P)) (second end : AgentRecord H P)
        (run : PassRounds mac answers later second end) : Type 0 where
      pub served : IsServed start p
      pub m : ℕ
      pub enough : 2 * m ≤ length later
      pub few : ¬ IsOvertakenAmong p.number m later second end run

    -- An execution starts with a newly created agent. At the start of the rounds the agent is controlling and no pair is valid. This one is due by
    -- the time of the first one, a request was served on it, and enough rounds follow. Then the pair's path is reached, unless a success
    -- response is accepted in the rounds.
    abbrev pub ExecutionsReachServed : Type 0
    ExecutionsReachServed =
        (first start last : AgentRecord H P) (xs : List (Call P × Entry)) (r : ExecutionRound P) (later : List (ExecutionRound P)) (p : PairRecord) (by : ℕ)
        → IsFresh first → Execution mac answers xs first start → start.controlling ≡ true → Awaits r.now by start p → IsUnanswered start p
        → by ≤ r.now → r.timeout.answer ≡ Done → AreInRound (is_modern start.timing) r.following
        → (run : PassRounds mac answers (r ∷ later) start last) → ((x : ExecutionRound P) → Has later x → IsOpenRound (is_modern start.timing) by x)
        → SufficesForServed start p later run.1 last run.6
        → ((x : ExecutionRound P) × Has (r ∷ later) x × ((y : Call P × Entry) × Has x.following y × AcceptsSuccess y.0 y.1))
        ⊎ IsReached mac answers (r ∷ later) start last run (path_of start p)
