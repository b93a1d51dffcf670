-- How soon a pair is checked in rounds of a log, in nanoseconds, if the caller is punctual: it calls `handle_timeout` at most `delay` after
-- a time that `poll_timeout` returned since the `handle_timeout` call before, or earlier.
use Rattle.std.specs.Prelude.{◌≡◌, ℕ, true, ◌+◌, ◌*◌, ◌<◌, ◌≤◌, ◌⊎◌, List, [], ◌∷◌, ◌++◌, length, Some}
use Rattle.rand_core.specs.Stream.{Stream}
use Rattle.is_proto.specs.Lists.{Has}
use Rattle.is_proto.specs.Times.{MAX}
use Rattle.is_stun.specs.Timing.{is_modern}
use Rattle.is_candidate.specs.Candidates.{CandidateRecord}
use Rattle.is_pair.specs.Pairs.{PairRecord}
use Rattle.is_rules.specs.declared.emitted.Path.{Path}
use Rattle.is_rules.specs.Agent.{AgentRecord}
use Rattle.is_theorems.specs.Asked.{IsAnsweredIn}
use Rattle.is_theorems.specs.FirstTimeouts.{Suffices}
use Rattle.is_theorems.specs.InTime.{SendsCheckOn}
use Rattle.is_theorems.specs.Logs.{Logged}
use Rattle.is_theorems.specs.Reached.{IsInLine, IsLasting, is_in_round, IsPassing, IsEndedIn, nominations_ahead, selection_count}
use Rattle.is_theorems.specs.Rounds.{LoggedRound, entries_of, Part}
use Rattle.is_theorems.specs.Runs.{IsFresh}
use Rattle.is_rules.specs.Sending.{path_of}
use Rattle.is_rules.specs.Steps.{HandleTimeout, PollTimeout, SetTimingAdvance, Done, NextTimeout}

-- ---- a punctual caller

module _ {P : Type 0} where
  -- One of these calls is `poll_timeout`, and `next` is at most `delay` later than the time that it returned.
  pub record IsPromptIn (delay next : ℕ) (xs : List (Logged P)) : Type 0 where
    pub poll : Logged P
    pub polled : Has xs poll
    pub call : poll.call ≡ PollTimeout
    pub deadline : ℕ
    pub answer : poll.entry.answer ≡ NextTimeout (Some deadline)
    pub soon : next ≤ deadline + delay

  -- the last of the rounds: r, if none follows it
  abbrev pub last_round : LoggedRound P → List (LoggedRound P) → LoggedRound P
  last_round r [] = r
  last_round r (x ∷ older) = x

  -- Each `handle_timeout` call after that of the first round is at most `delay` later than a time that `poll_timeout` returned in the
  -- round before it.
  abbrev pub IsPunctualIn : (delay : ℕ) → LoggedRound P → (later : List (LoggedRound P)) → Type 0
  IsPunctualIn delay r [] = Unit {0}
  IsPunctualIn delay r (x ∷ older) = IsPromptIn delay x.now (last_round r older).following × IsPunctualIn delay r older

  -- the entries of all rounds, newest first
  abbrev pub all_entries : LoggedRound P → (later : List (LoggedRound P)) → List (Logged P)
  all_entries r later = entries_of later ++ entries_of (r ∷ [])

  -- The `handle_timeout` call of one of the rounds sends a check on the path, and comes at this time or earlier.
  abbrev pub ChecksInBy : ℕ → List (LoggedRound P) → Path → Type 0
  ChecksInBy limit rounds path = (x : LoggedRound P) × Has rounds x × SendsCheckOn x.timeout.entry path × (x.now ≤ limit)

module _ {H P : Type 0} where
  -- The pacing interval is at most `pace` when the rounds begin, and no call in them sets a longer one. The caller is punctual.
  pub record IsTimedIn (pace delay : ℕ) (start : AgentRecord H P) (r : LoggedRound P) (later : List (LoggedRound P)) : Type 0 where
    pub begins : start.timing_advance ≤ pace
    pub keeps : (x : Logged P) (by : ℕ) → Has (all_entries r later) x → x.call ≡ SetTimingAdvance by → by ≤ pace
    pub punctual : IsPunctualIn delay r later

  -- So many rounds after the first suffice for a pair that is due by the time `by` (`Suffices`).
  abbrev pub LoggedRoundsSuffice : (by : ℕ) → (start second last : AgentRecord H P) → LoggedRound P → (later : List (LoggedRound P)) → (many : ℕ) → Type 0
  LoggedRoundsSuffice by start second last r later many =
      Suffices by r.now start second last many (nominations_ahead start (selection_count (all_entries r later))) (nominations_ahead second (selection_count (entries_of later)))

  module _ (mac : H → List ℕ → List ℕ → List ℕ) (answers : P → CandidateRecord → ℕ → ℕ → Type 0) where
    -- The path is reached in one of the rounds of a segment: a check is sent on it by this time, or a success response is received on it, or
    -- a candidate that is added may remove a pair of the path.
    abbrev pub IsReachedInBy : {first : AgentRecord H P} {s : Stream} {log before : List (Logged P)} {start last : AgentRecord H P} → (limit : ℕ) (rounds : List (LoggedRound P))
        → Part mac answers first s log before start (entries_of rounds) last → Path → Type 0
    IsReachedInBy {before = before} {start = start} {last = last} limit rounds part path =
        ChecksInBy limit rounds path
        ⊎ (IsAnsweredIn (entries_of rounds) path
        ⊎ IsEndedIn mac answers before start part.at (entries_of rounds) last part.following part.run path)

    -- A pair in the log is due by a `handle_timeout` call, and waits for its check. Other rounds follow, all later. The caller is punctual, and
    -- so many rounds after the first suffice. Then the pair's path is reached in the first round or in another one, by so many times
    -- `pace + delay` after the first `handle_timeout` call.
    abbrev pub RoundsReachInTime : AgentRecord H P → Stream → List (Logged P) → Type 0
    RoundsReachInTime first s log =
        (before : List (Logged P)) (start second last : AgentRecord H P) (r : LoggedRound P) (later : List (LoggedRound P)) (p : PairRecord) (by pace delay many : ℕ)
        → (one : Part mac answers first s log before start (entries_of (r ∷ [])) second)
        → (others : Part mac answers first s log (entries_of (r ∷ []) ++ before) second (entries_of later) last)
        → IsInLine r.now by start p → by ≤ r.now → r.timeout.call ≡ HandleTimeout r.now → r.timeout.entry.answer ≡ Done → r.now < MAX
        → ((x : Logged P) → Has r.following x → is_in_round (is_modern start.timing) x.call ≡ true) → ((x : LoggedRound P) → Has later x → IsPassing (is_modern start.timing) by x)
        → ((x : LoggedRound P) → Has later x → IsLasting x.now start p)
        → LoggedRoundsSuffice by start second last r later many → many ≤ length later → IsTimedIn pace delay start r later
        → IsReachedInBy (r.now + many * (pace + delay)) (r ∷ []) one (path_of start p)
        ⊎ IsReachedInBy (r.now + many * (pace + delay)) later others (path_of start p)

    abbrev pub PairsAreReachedInTime : Type 0
    PairsAreReachedInTime = (first : AgentRecord H P) (s : Stream) (log : List (Logged P)) → IsFresh first → RoundsReachInTime first s log
