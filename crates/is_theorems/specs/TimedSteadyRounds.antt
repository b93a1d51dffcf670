-- How soon a pair is checked in rounds of a log, in nanoseconds, whatever pairs packets add in them, if the caller is punctual.
use Rattle.std.specs.Prelude.{◌≡◌, ℕ, true, ◌+◌, ◌*◌, ◌<◌, ◌≤◌, ◌⊎◌, List, ◌∷◌, length}
use Rattle.rand_core.specs.Stream.{Stream}
use Rattle.is_proto.specs.Lists.{Has}
use Rattle.is_proto.specs.Times.{MAX}
use Rattle.is_stun.specs.Timing.{is_modern}
use Rattle.is_candidate.specs.Candidates.{CandidateRecord}
use Rattle.is_pair.specs.Pairs.{PairRecord}
use Rattle.is_rules.specs.Agent.{AgentRecord}
use Rattle.is_rules.specs.Sending.{path_of}
use Rattle.is_rules.specs.Steps.{HandleTimeout, Done}
use Rattle.is_theorems.specs.Asked.{IsAnsweredIn}
use Rattle.is_theorems.specs.Bounds.{FormsFew, IsLimited, gathered_count, pair_bound, signal_count}
use Rattle.is_theorems.specs.Logs.{Logged}
use Rattle.is_theorems.specs.NotStarved.{AreEnough, AreSteady, ConsentLastsIn}
use Rattle.is_theorems.specs.Reached.{IsInLine, IsLasting, IsPassing, is_in_round, selection_count}
use Rattle.is_theorems.specs.Rounds.{LoggedRound, Part}
use Rattle.is_theorems.specs.Runs.{IsFresh}
use Rattle.is_theorems.specs.TimedRounds.{ChecksInBy, IsTimedIn, all_entries}

-- One of the rounds begins after this time.
abbrev pub BeginsAfter : {P : Type 0} → ℕ → List (LoggedRound P) → Type 0
BeginsAfter limit rounds = (x : LoggedRound _) × Has rounds x × (limit < x.now)

module _ {H P : Type 0} where
  -- So many rounds after the first are enough for a pair that is due by the time `by` (`AreEnough`). If the first one is later than this, it
  -- counts, too, and the pairs are those when it begins. Otherwise they are as many as there may be.
  abbrev pub AreEnoughLater : (by now later bound selections : ℕ) → AgentRecord H P → Type 0
  AreEnoughLater by now later bound selections a =
      ((by < now) × AreEnough (later + 1) (length a.pairs) bound selections a) ⊎ AreEnough later bound bound selections a

  module _ (mac : H → List ℕ → List ℕ → List ℕ) (answers : P → CandidateRecord → ℕ → ℕ → Type 0) where
    -- Rounds of the log in which no candidate is added and consent lasts: one that opens them, and later ones.
    pub record SteadyRounds (first : AgentRecord H P) (s : Stream) (log : List (Logged P)) : Type 0 where
      pub before : List (Logged P)
      pub start : AgentRecord H P
      pub opening : LoggedRound P
      pub later : List (LoggedRound P)
      pub last : AgentRecord H P
      pub found : Part mac answers first s log before start (all_entries opening later) last
      pub steady : AreSteady (is_modern start.timing) (all_entries opening later)
      pub consents : ConsentLastsIn mac answers before start found.at (all_entries opening later) last found.following found.run

    -- as many pairs as the caller allows in them (`pair_bound`)
    abbrev pub bound_in : {first : AgentRecord H P} {s : Stream} {log : List (Logged P)} → (most limit : ℕ) → SteadyRounds first s log → ℕ
    bound_in most limit k = pair_bound limit most (gathered_count k.before) (signal_count k.before)

    -- A pair waits for its check when they begin, and is due by the first `handle_timeout` call. The caller is punctual. So many rounds after
    -- the first are enough, for at most `bound` pairs. Either so many come, or the last one begins after so many times `pace + delay`.
    pub record SufficeSteadyInTime {first : AgentRecord H P} {s : Stream} {log : List (Logged P)} (k : SteadyRounds first s log) (p : PairRecord)
        (bound by pace delay many : ℕ) : Type 0 where
      pub line : IsInLine k.opening.now by k.start p
      pub due : by ≤ k.opening.now
      pub comes : k.opening.timeout.call ≡ HandleTimeout k.opening.now
      pub done : k.opening.timeout.entry.answer ≡ Done
      pub early : k.opening.now < MAX
      pub between : (x : Logged P) → Has k.opening.following x → is_in_round (is_modern k.start.timing) x.call ≡ true
      pub passing : (x : LoggedRound P) → Has k.later x → IsPassing (is_modern k.start.timing) by x
      pub lasting : (x : LoggedRound P) → Has k.later x → IsLasting x.now k.start p
      pub timed : IsTimedIn pace delay k.start k.opening k.later
      pub enough : AreEnoughLater by k.opening.now many bound (selection_count (all_entries k.opening k.later)) k.start
      pub long : (many ≤ length k.later) ⊎ BeginsAfter (k.opening.now + many * (pace + delay)) k.later

    -- If so many rounds are enough and the caller is punctual (`SufficeSteadyInTime`), a check is sent on the pair's path by so many times
    -- `pace + delay` after the first `handle_timeout` call. The exception is a success response on the path in one of the rounds. No
    -- packet in the rounds makes this time longer, if nominations have no numbers.
    abbrev pub SteadyRoundsReachInTime : AgentRecord H P → Stream → List (Logged P) → Type 0
    SteadyRoundsReachInTime first s log =
        (most limit : ℕ) → IsLimited mac answers most first s log → FormsFew mac answers limit first s log
        → (k : SteadyRounds first s log) (p : PairRecord) (by pace delay many : ℕ) → SufficeSteadyInTime k p (bound_in most limit k) by pace delay many
        → ChecksInBy (k.opening.now + many * (pace + delay)) (k.opening ∷ k.later) (path_of k.start p)
        ⊎ IsAnsweredIn (all_entries k.opening k.later) (path_of k.start p)

    abbrev pub NoneIsStarvedInTime : Type 0
    NoneIsStarvedInTime = (first : AgentRecord H P) (s : Stream) (log : List (Logged P)) → IsFresh first → SteadyRoundsReachInTime first s log
