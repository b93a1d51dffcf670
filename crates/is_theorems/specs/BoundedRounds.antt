-- With limits on pairs and on what packets bring: how many rounds suffice for a pair that is due, whatever pairs there are.
use Rattle.std.specs.Prelude.{◌≡◌, ℕ, ◌+◌, ◌*◌, ◌≤◌, ◌⊎◌, List, length, Some}
use Rattle.rand_core.specs.Stream.{Stream}
use Rattle.is_proto.specs.Lists.{Has}
use Rattle.is_stun.specs.Timing.{is_modern}
use Rattle.is_candidate.specs.Candidates.{CandidateRecord}
use Rattle.is_pair.specs.Pairs.{PairRecord}
use Rattle.is_rules.specs.Agent.{AgentRecord}
use Rattle.is_theorems.specs.Asked.{IsAnsweredIn}
use Rattle.is_theorems.specs.Bounds.{FormsFew, IsLimited, gathered_count, pair_bound, signal_count}
use Rattle.is_theorems.specs.Logs.{Logged}
use Rattle.is_theorems.specs.Progress.{checks_for}
use Rattle.is_theorems.specs.Reached.{ChecksIn, IsEndedIn, IsInLine, IsLasting, IsPassing, nominations_ahead, selection_count}
use Rattle.is_theorems.specs.Rounds.{LoggedRound, Part, began_at, entries_of}
use Rattle.is_theorems.specs.Runs.{IsFresh}
use Rattle.is_rules.specs.Sending.{path_of}

module _ {H P : Type 0} where
  -- The rounds suffice for a pair that is due by the time `by` when they begin. For a bound of n pairs there are at least 2n - 1
  -- rounds, and one more for each pair that is added in them, and for each nomination that may be sent at once; if checks may go
  -- ahead, 4n - 1, and two more.
  pub record SufficeWithin (bound by : ℕ) (start : AgentRecord H P) (rounds : List (LoggedRound P)) (last : AgentRecord H P)
      (p : PairRecord) : Type 0 where
    pub at : ℕ
    pub began : began_at rounds ≡ Some at
    pub line : IsInLine at by start p
    pub passing : (r : LoggedRound P) → Has rounds r → IsPassing (is_modern start.timing) by r
    pub lasting : (r : LoggedRound P) → Has rounds r → IsLasting r.now start p
    pub enough : checks_for (is_modern start.timing) (2 * bound + last.next_number + nominations_ahead start (selection_count (entries_of rounds)))
        ≤ length rounds + 1 + checks_for (is_modern start.timing) start.next_number

  module _ (mac : H → List ℕ → List ℕ → List ℕ) (answers : P → CandidateRecord → ℕ → ℕ → Type 0) where
    -- If the rounds suffice for as many pairs as the caller allows (`SufficeWithin`), a check is sent on the pair's path in one of them.
    -- The exceptions are a success response on the path in one of them, and a candidate that is added in them and may remove a pair of the
    -- path. This holds whatever the agent receives and received before.
    abbrev pub LimitedRoundsReach : AgentRecord H P → Stream → List (Logged P) → Type 0
    LimitedRoundsReach first s log =
        (most limit : ℕ) → IsLimited mac answers most first s log → FormsFew mac answers limit first s log
        → (before : List (Logged P)) (start last : AgentRecord H P) (rounds : List (LoggedRound P)) (p : PairRecord) (by : ℕ)
        → (found : Part mac answers first s log before start (entries_of rounds) last)
        → SufficeWithin (pair_bound limit most (gathered_count before) (signal_count before)) by start rounds last p
        → ChecksIn rounds (path_of start p)
        ⊎ (IsAnsweredIn (entries_of rounds) (path_of start p)
        ⊎ IsEndedIn mac answers before start found.at (entries_of rounds) last found.following found.run (path_of start p))

    abbrev pub LimitsReach : Type 0
    LimitsReach = (first : AgentRecord H P) (s : Stream) (log : List (Logged P)) → IsFresh first → LimitedRoundsReach first s log
