-- How soon a pair is checked, in nanoseconds, if the caller is punctual: it calls `handle_timeout` at most `delay` after a time that
-- `poll_timeout` returned since the `handle_timeout` call before, or earlier.
use Rattle.std.specs.Prelude.{◌≡◌, ℕ, true, ◌+◌, ◌*◌, ◌<◌, ◌≤◌, ◌⊎◌, List, [], ◌∷◌, length, Some}
use Rattle.rand_core.specs.Stream.{Stream}
use Rattle.is_proto.specs.Lists.{Has}
use Rattle.is_proto.specs.Times.{MAX}
use Rattle.is_stun.specs.Timing.{is_modern}
use Rattle.is_candidate.specs.Candidates.{CandidateRecord}
use Rattle.is_pair.specs.Pairs.{PairRecord}
use Rattle.is_stun.specs.declared.header.Class.TheVariants as class
use Rattle.is_rules.specs.declared.emitted.Path.{Path}
use Rattle.is_rules.specs.Agent.{AgentRecord}
use Rattle.is_theorems.specs.AskedExecutions.{EndsAlong, IsAnsweredAlong}
use Rattle.is_theorems.specs.Executions.{SelectsAmong, ExecutionRound, ExecutionRounds}
use Rattle.is_rules.specs.Emitted.{issued_as}
use Rattle.is_theorems.specs.Exchange.{AreBetween, Execution}
use Rattle.is_theorems.specs.Progress.{Awaits, IsUnanswered}
use Rattle.is_theorems.specs.Reached.{IsInLine, IsLasting}
use Rattle.is_theorems.specs.ReachedExecutions.{IsAnsweredAmong, IsPassed, PassRounds}
use Rattle.is_theorems.specs.Runs.{IsFresh}
use Rattle.is_rules.specs.Sending.{path_of}
use Rattle.is_rules.specs.Steps.{Call, Entry, HandleTimeout, PollTimeout, SetTimingAdvance, Done, NextTimeout, Step}
use Rattle.is_theorems.specs.FirstChecks.{SufficeForDue, times_of}
use Rattle.is_theorems.specs.FirstTimeouts.{AreInRound, IsOpenRound, EndsAmong, RoundsSuffice}

-- A `handle_timeout` call sends a check on the path.
abbrev pub SendsCheckOn : Entry → Path → Type 0
SendsCheckOn e path = (id : List ℕ) × (e.emitted.issued ≡ Some (issued_as path class.Request id))

-- The `handle_timeout` call of one of the rounds sends a check on the path, and comes at this time or earlier.
abbrev pub ChecksBy : {P : Type 0} → ℕ → List (ExecutionRound P) → Path → Type 0
ChecksBy limit rounds path = (r : ExecutionRound _) × Has rounds r × SendsCheckOn r.timeout path × (r.now ≤ limit)

-- The first round begins at this time or earlier, and each later one may begin so much later than the one before it.
abbrev pub ComeBy : {P : Type 0} → ℕ → ℕ → List (ExecutionRound P) → Type 0
ComeBy limit each [] = Unit {0}
ComeBy limit each (r ∷ later) = (r.now ≤ limit) × ComeBy (limit + each) each later

-- ---- a punctual caller

-- One of these calls is `poll_timeout`, and `next` is at most `delay` later than the time that it returned. It may come before packets
-- are polled or after that.
abbrev pub IsPrompt : {P : Type 0} → (delay next : ℕ) → List (Call P × Entry) → Type 0
IsPrompt delay next xs =
    (x : Call _ × Entry) × (deadline : ℕ) × Has xs x × (x.0 ≡ PollTimeout) × (x.1.answer ≡ NextTimeout (Some deadline)) × (next ≤ deadline + delay)

-- Each `handle_timeout` call after that of the first round is at most `delay` later than a time that `poll_timeout` returned in the round
-- before it.
abbrev pub IsPunctual : {P : Type 0} → (delay : ℕ) → ExecutionRound P → List (ExecutionRound P) → Type 0
IsPunctual delay r [] = Unit {0}
IsPunctual delay r (x ∷ later) = IsPrompt delay x.now r.following × IsPunctual delay x later

-- In these calls `set_timing_advance` sets no longer pacing interval than this one.
abbrev pub KeepsPace : {P : Type 0} → ℕ → List (Call P × Entry) → Type 0
KeepsPace pace xs = (x : Call _ × Entry) (by : ℕ) → Has xs x → x.0 ≡ SetTimingAdvance by → by ≤ pace

-- The pacing interval is at most `pace` when the rounds begin, and stays so in them. The caller is punctual.
pub record IsTimed {H P : Type 0} (pace delay : ℕ) (start : AgentRecord H P) (r : ExecutionRound P) (later : List (ExecutionRound P)) : Type 0 where
  pub begins : start.timing_advance ≤ pace
  pub keeps : (x : ExecutionRound P) → Has (r ∷ later) x → KeepsPace pace x.following
  pub punctual : IsPunctual delay r later

module _ {H P : Type 0} (mac : H → List ℕ → List ℕ → List ℕ) (answers : P → CandidateRecord → ℕ → ℕ → Type 0) where
  -- ---- the theorems

  -- An execution starts with a newly created agent. A pair is due by a `handle_timeout` call. Then the next one of a punctual caller
  -- comes at most `pace + delay` later, unless the first one sends a check on the pair's path, or a success response is received on the
  -- path between them, or a candidate that is added between them may remove a pair of the path.
  abbrev pub NextComesInTime : Type 0
  NextComesInTime =
      (first start mid after : AgentRecord H P) (xs following : List (Call P × Entry)) (s t : Stream) (timeout : Entry) (p : PairRecord) (by pace delay now next : ℕ)
      → IsFresh first → Execution mac answers xs first start → IsInLine now by start p → by ≤ now → timeout.answer ≡ Done
      → Step mac answers start s (HandleTimeout now) timeout mid t → AreInRound (is_modern start.timing) following → (execution : Execution mac answers following mid after)
      → start.timing_advance ≤ pace → KeepsPace pace following → IsPrompt delay next following
      → (next ≤ now + (pace + delay))
      ⊎ (SendsCheckOn timeout (path_of start p) ⊎ (IsAnsweredAlong following (path_of start p) ⊎ EndsAlong mac answers following mid after execution (path_of start p)))

  -- A check is sent on the path in one of the rounds by this time, unless a success response is received on the path in one of them, or a
  -- candidate that is added in them may remove a pair of the path.
  abbrev pub IsReachedBy : (limit : ℕ) (rounds : List (ExecutionRound P)) (old new : AgentRecord H P) → PassRounds mac answers rounds old new → Path → Type 0
  IsReachedBy limit rounds old new run path = ChecksBy limit rounds path ⊎ (IsAnsweredAmong rounds path ⊎ EndsAmong mac answers rounds old new run path)

  -- Any rounds of a punctual caller: the kth one after the first begins at most k times `pace + delay` after it, or the pair's path is
  -- reached.
  abbrev pub RoundsComeInTime : Type 0
  RoundsComeInTime =
      (first start last : AgentRecord H P) (xs : List (Call P × Entry)) (r : ExecutionRound P) (later : List (ExecutionRound P)) (p : PairRecord) (by pace delay : ℕ)
      → IsFresh first → Execution mac answers xs first start → IsInLine r.now by start p
      → by ≤ r.now → r.timeout.answer ≡ Done → r.now < MAX → AreInRound (is_modern start.timing) r.following
      → (run : PassRounds mac answers (r ∷ later) start last) → ((x : ExecutionRound P) → Has later x → IsOpenRound (is_modern start.timing) by x)
      → ((x : ExecutionRound P) → Has later x → IsLasting x.now start p) → IsTimed pace delay start r later
      → ComeBy r.now (pace + delay) (r ∷ later) ⊎ IsReachedBy (r.now + length later * (pace + delay)) (r ∷ later) start last run (path_of start p)

  -- Rounds of a punctual caller: if so many after the first suffice for the pair, its path is reached by this time, though more may
  -- follow.
  abbrev pub ExecutionsReachInTime : Type 0
  ExecutionsReachInTime =
      (first start last : AgentRecord H P) (xs : List (Call P × Entry)) (r : ExecutionRound P) (later : List (ExecutionRound P)) (p : PairRecord) (by pace delay many : ℕ)
      → IsFresh first → Execution mac answers xs first start → IsInLine r.now by start p
      → by ≤ r.now → r.timeout.answer ≡ Done → r.now < MAX → AreInRound (is_modern start.timing) r.following
      → (run : PassRounds mac answers (r ∷ later) start last) → ((x : ExecutionRound P) → Has later x → IsOpenRound (is_modern start.timing) by x)
      → ((x : ExecutionRound P) → Has later x → IsLasting x.now start p) → RoundsSuffice by start run.1 last r later many → many ≤ length later → IsTimed pace delay start r later
      → IsReachedBy (r.now + many * (pace + delay)) (r ∷ later) start last run (path_of start p)

  -- A controlling agent without a valid pair, in rounds in which only packets and polls come: if they suffice for the pair, a check is
  -- sent on its path by the time of the last one, unless a path is selected in one of them.
  abbrev pub ExecutionsCheckInTime : Type 0
  ExecutionsCheckInTime =
      (first start last : AgentRecord H P) (xs : List (Call P × Entry)) (r : ExecutionRound P) (later : List (ExecutionRound P)) (p : PairRecord) (by pace delay : ℕ)
      → IsFresh first → Execution mac answers xs first start → start.controlling ≡ true → Awaits r.now by start p → IsUnanswered start p
      → by ≤ r.now → r.timeout.answer ≡ Done → r.now < MAX → AreBetween r.following
      → (run : ExecutionRounds mac answers (r ∷ later) start last) → ((x : ExecutionRound P) → Has later x → IsPassed by x)
      → SufficeForDue by r.now start run.1 (times_of later) → IsTimed pace delay start r later
      → ChecksBy (r.now + length later * (pace + delay)) (r ∷ later) (path_of start p) ⊎ SelectsAmong (r ∷ later)
