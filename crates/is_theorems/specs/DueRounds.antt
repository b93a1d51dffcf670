-- A controlling agent selects a path in rounds from the first `handle_timeout` call on by which one of its pairs is due, if the pair's
-- checks are answered in them.
use Rattle.std.specs.Prelude.{◌≡◌, ℕ, true, ◌≤◌, ◌⊎◌, List, [], ◌∷◌, ◌++◌, length}
use Rattle.rand_core.specs.Stream.{Stream}
use Rattle.is_proto.specs.Lists.{Has}
use Rattle.is_stun.specs.Timing.{is_modern}
use Rattle.is_candidate.specs.Candidates.{CandidateRecord}
use Rattle.is_pair.specs.Pairs.{PairRecord}
use Rattle.is_rules.specs.Agent.{AgentRecord}
use Rattle.is_theorems.specs.Logs.{Logged}
use Rattle.is_theorems.specs.Progress.{Awaits, IsUnanswered}
use Rattle.is_theorems.specs.Reached.{is_in_round, IsPassing, IsEndedIn}
use Rattle.is_theorems.specs.Rounds.{LoggedRound, entries_of, Part, IsControllingIn, SegmentSelects}
use Rattle.is_theorems.specs.Runs.{IsFresh}
use Rattle.is_rules.specs.Sending.{path_of}
use Rattle.is_rules.specs.Steps.{HandleTimeout, Done}
use Rattle.is_theorems.specs.FirstTimeouts.{SufficesFromDue}
use Rattle.is_theorems.specs.OpenRounds.{IsAnsweredInRound}

module _ {H P : Type 0} (mac : H → List ℕ → List ℕ → List ℕ) (answers : P → CandidateRecord → ℕ → ℕ → Type 0) where
  -- At a `handle_timeout` call in the log no pair is valid, and one is due by then, maybe not before. Packets, polls and candidates that
  -- are added follow, and enough rounds, all later (`SufficesFromDue`): none for a single pair, otherwise 2m - 1 for m pairs when the
  -- second call comes, and one more for each pair that is added in these, or 4m - 1 and two more if checks may go ahead. In each round
  -- the pair's check, if it is sent, is answered. Then a path is selected in one of the rounds, unless a candidate that is added in them
  -- may remove a pair of the path. This holds whatever else is received.
  abbrev pub DueRoundsSelect : AgentRecord H P → Stream → List (Logged P) → Type 0
  DueRoundsSelect first s log =
      (before : List (Logged P)) (start second last : AgentRecord H P) (r : LoggedRound P) (later : List (LoggedRound P)) (p : PairRecord) (by : ℕ)
      → (one : Part mac answers first s log before start (entries_of (r ∷ [])) second)
      → (others : Part mac answers first s log (entries_of (r ∷ []) ++ before) second (entries_of later) last)
      → Awaits r.now by start p → IsUnanswered start p → by ≤ r.now → r.timeout.call ≡ HandleTimeout r.now → r.timeout.entry.answer ≡ Done
      → ((x : Logged P) → Has r.following x → is_in_round (is_modern start.timing) x.call ≡ true) → ((x : LoggedRound P) → Has later x → IsPassing (is_modern start.timing) by x)
      → ((x : LoggedRound P) → Has (r ∷ later) x → IsAnsweredInRound (path_of start p) x)
      → IsControllingIn mac answers before start one.at (entries_of (r ∷ [])) second one.following one.run
      → IsControllingIn mac answers (entries_of (r ∷ []) ++ before) second others.at (entries_of later) last others.following others.run
      → SufficesFromDue start second last (length later) 0
      → SegmentSelects mac answers first s log (entries_of later ++ entries_of (r ∷ []))
      ⊎ (IsEndedIn mac answers before start one.at (entries_of (r ∷ [])) second one.following one.run (path_of start p)
      ⊎ IsEndedIn mac answers (entries_of (r ∷ []) ++ before) second others.at (entries_of later) last others.following others.run (path_of start p))

  abbrev pub AnsweredDueRoundsSelect : Type 0
  AnsweredDueRoundsSelect = (first : AgentRecord H P) (s : Stream) (log : List (Logged P)) → IsFresh first → DueRoundsSelect first s log
