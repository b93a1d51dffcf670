-- A controlling agent selects a path in rounds in which the checks of one of its pairs are answered, also if candidates are added in
-- the rounds.
use Rattle.std.specs.Prelude.{◌≡◌, ℕ, ◌+◌, ◌*◌, ◌≤◌, ◌⊎◌, true, List, length, Some}
use Rattle.rand_core.specs.Stream.{Stream}
use Rattle.is_proto.specs.Lists.{Has}
use Rattle.is_candidate.specs.Candidates.{CandidateRecord}
use Rattle.is_pair.specs.Pairs.{PairRecord}
use Rattle.is_pair.specs.Turns.{due_by}
use Rattle.is_stun.specs.declared.header.Class.TheVariants as class
use Rattle.is_stun.specs.Timing.{is_modern}
use Rattle.is_rules.specs.declared.emitted.Path.{Path}
use Rattle.is_rules.specs.Agent.{AgentRecord}
use Rattle.is_rules.specs.Emitted.{issued_as}
use Rattle.is_theorems.specs.Logs.{Logged}
use Rattle.is_theorems.specs.Progress.{checks_for, Awaits, IsUnanswered}
use Rattle.is_theorems.specs.Reached.{IsPassing, IsEndedIn}
use Rattle.is_theorems.specs.Rounds.{LoggedRound, entries_of, began_at, is_between, BringsSuccess, Part, IsControllingIn, SegmentSelects}
use Rattle.is_theorems.specs.Runs.{IsFresh}
use Rattle.is_rules.specs.Sending.{path_of}

-- If a check is sent on the path, an accepted success response is received in the same round.
abbrev pub IsAnsweredInRound : {P : Type 0} → Path → LoggedRound P → Type 0
IsAnsweredInRound path r =
    (id : List ℕ) → r.timeout.entry.emitted.issued ≡ Some (issued_as path class.Request id) → (x : Logged _) × Has r.following x × BringsSuccess x

-- Only packets and polls come after the `handle_timeout` calls.
abbrev pub ArePlain : {P : Type 0} → List (LoggedRound P) → Type 0
ArePlain rounds = (r : LoggedRound _) → Has rounds r → (x : Logged _) → Has r.following x → is_between x.call ≡ true

module _ {H P : Type 0} where
  -- The rounds suffice for each pair that is due by the time `by`, with due times computed at the time `at` at which they begin. If n
  -- pairs are due by then, n rounds suffice in which only packets and polls come after the `handle_timeout` calls. For n pairs in
  -- all 2n - 1 rounds suffice, and one more for each pair that is added in them. If checks may go ahead, it is 2n, and 4n - 1 and two more.
  abbrev pub OpenRoundsSuffice : ℕ → ℕ → AgentRecord H P → List (LoggedRound P) → AgentRecord H P → Type 0
  OpenRoundsSuffice at by start rounds last =
      ((checks_for (is_modern start.timing) (length (due_by by at start.timing start.pairs)) ≤ length rounds) × ArePlain rounds)
      ⊎ (checks_for (is_modern start.timing) (2 * length start.pairs + last.next_number) ≤ length rounds + 1 + checks_for (is_modern start.timing) start.next_number)

  module _ (mac : H → List ℕ → List ℕ → List ℕ) (answers : P → CandidateRecord → ℕ → ℕ → Type 0) where
    -- At a `handle_timeout` call in the log no pair is valid, and one is due by an earlier time `by`. The call begins rounds that
    -- suffice, all later than `by`, in which the checks of this pair are answered. Between their `handle_timeout` calls candidates
    -- may be added, and settings changed that change neither pairs nor the timing of their checks (`is_in_round`). Then a path is
    -- selected in one of the rounds, unless a candidate that is added in them may remove a pair of the path. This holds whatever
    -- else is received.
    abbrev pub OpenRoundsSelect : AgentRecord H P → Stream → List (Logged P) → Type 0
    OpenRoundsSelect first s log =
        (before : List (Logged P)) (start last : AgentRecord H P) (rounds : List (LoggedRound P)) (p : PairRecord) (at by : ℕ)
        → (part : Part mac answers first s log before start (entries_of rounds) last)
        → began_at rounds ≡ Some at → Awaits at by start p → IsUnanswered start p
        → ((r : LoggedRound P) → Has rounds r → IsPassing (is_modern start.timing) by r) → ((r : LoggedRound P) → Has rounds r → IsAnsweredInRound (path_of start p) r)
        → IsControllingIn mac answers before start part.at (entries_of rounds) last part.following part.run
        → OpenRoundsSuffice at by start rounds last
        → SegmentSelects mac answers first s log (entries_of rounds)
        ⊎ IsEndedIn mac answers before start part.at (entries_of rounds) last part.following part.run (path_of start p)

    abbrev pub AnsweredOpenRoundsSelect : Type 0
    AnsweredOpenRoundsSelect = (first : AgentRecord H P) (s : Stream) (log : List (Logged P)) → IsFresh first → OpenRoundsSelect first s log
