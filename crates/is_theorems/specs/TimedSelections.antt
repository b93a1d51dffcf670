-- When a controlling agent selects its first path in rounds of a log, in nanoseconds, if the caller is punctual and checks are answered
-- within a round trip. The response may come several rounds after its check.
use Rattle.std.specs.Prelude.{◌≡◌, ℕ, true, ◌+◌, ◌*◌, ◌<◌, ◌≤◌, ◌⊎◌, List, [], ◌∷◌, ◌++◌, length}
use Rattle.rand_core.specs.Stream.{Stream}
use Rattle.is_proto.specs.Lists.{Has}
use Rattle.is_proto.specs.Times.{MAX}
use Rattle.is_stun.specs.Timing.{is_modern}
use Rattle.is_candidate.specs.Candidates.{CandidateRecord}
use Rattle.is_pair.specs.Pairs.{PairRecord}
use Rattle.is_rules.specs.declared.emitted.Path.{Path}
use Rattle.is_rules.specs.Agent.{AgentRecord}
use Rattle.is_rules.specs.Sending.{path_of}
use Rattle.is_rules.specs.Steps.{HandleTimeout, Done}
use Rattle.is_theorems.specs.FirstChecks.{SufficeForDue}
use Rattle.is_theorems.specs.FirstTimeouts.{Suffices}
use Rattle.is_theorems.specs.InTime.{SendsCheckOn}
use Rattle.is_theorems.specs.Logs.{Logged}
use Rattle.is_theorems.specs.OpenRounds.{ArePlain}
use Rattle.is_theorems.specs.Progress.{Awaits, IsUnanswered}
use Rattle.is_theorems.specs.Reached.{is_in_round, IsEndedIn, IsPassing, selects}
use Rattle.is_theorems.specs.Rounds.{LoggedRound, entries_of, BringsSuccess, Part, IsControllingIn}
use Rattle.is_theorems.specs.Runs.{IsFresh}
use Rattle.is_theorems.specs.ServedSoon.{IsServed}
use Rattle.is_theorems.specs.TimedRounds.{IsTimedIn}
use Rattle.is_theorems.specs.UrgentFirst.{IsOvertakenIn}

module _ {P : Type 0} where
  -- the times of the rounds, the oldest first
  abbrev pub logged_times : List (LoggedRound P) → List ℕ
  logged_times [] = []
  logged_times (r ∷ older) = logged_times older ++ r.now ∷ []

  -- A success response is accepted in one of the rounds. This round, and each one before it, begins at this time or earlier.
  pub record AcceptsInBy (limit : ℕ) (rounds : List (LoggedRound P)) : Type 0 where
    pub newer : List (LoggedRound P)
    pub round : LoggedRound P
    pub older : List (LoggedRound P)
    pub split : rounds ≡ newer ++ round ∷ older
    pub response : Logged P
    pub received : Has round.following response
    pub accepted : BringsSuccess response
    pub in_time : (x : LoggedRound P) → Has (round ∷ older) x → x.now ≤ limit

  -- If a check is sent on the path in one of the rounds, a success response has been accepted in a round that begins at most `trip` later.
  abbrev pub IsAnsweredInBy : ℕ → List (LoggedRound P) → Path → Type 0
  IsAnsweredInBy trip rounds path = (x : LoggedRound P) → Has rounds x → SendsCheckOn x.timeout.entry path → AcceptsInBy (x.now + trip) rounds

  -- In one of the rounds an accepted success response selects a path. This round begins at this time or earlier.
  pub record SelectsInBy (limit : ℕ) (rounds : List (LoggedRound P)) : Type 0 where
    pub round : LoggedRound P
    pub there : Has rounds round
    pub response : Logged P
    pub received : Has round.following response
    pub accepted : BringsSuccess response
    pub selected : selects response.entry ≡ true
    pub in_time : round.now ≤ limit

module _ {H P : Type 0} (mac : H → List ℕ → List ℕ → List ℕ) (answers : P → CandidateRecord → ℕ → ℕ → Type 0) where
  -- In each state of the segment the agent is controlling.
  abbrev pub IsControllingOver : {first : AgentRecord H P} {s : Stream} {log before : List (Logged P)} {start last : AgentRecord H P} → (xs : List (Logged P))
      → Part mac answers first s log before start xs last → Type 0
  IsControllingOver {before = before} {start = start} {last = last} xs part = IsControllingIn mac answers before start part.at xs last part.following part.run

  -- A candidate that is added in the segment may remove a pair of the path.
  abbrev pub MayEndOver : {first : AgentRecord H P} {s : Stream} {log before : List (Logged P)} {start last : AgentRecord H P} → (xs : List (Logged P))
      → Part mac answers first s log before start xs last → Path → Type 0
  MayEndOver {before = before} {start = start} {last = last} xs part path = IsEndedIn mac answers before start part.at xs last part.following part.run path

  -- Rounds of the log: one that opens them, later ones, and maybe more after these. In each of them `handle_timeout` is called, and calls
  -- may follow that may come in a round (`is_in_round`): so candidates may be added. The agent is controlling in each state.
  pub record ControllingRounds (first : AgentRecord H P) (s : Stream) (log : List (Logged P)) : Type 0 where
    pub before : List (Logged P)
    pub start : AgentRecord H P
    pub opening : LoggedRound P
    pub second : AgentRecord H P
    pub later : List (LoggedRound P)
    pub end : AgentRecord H P
    pub more : List (LoggedRound P)
    pub last : AgentRecord H P
    pub one : Part mac answers first s log before start (entries_of (opening ∷ [])) second
    pub others : Part mac answers first s log (entries_of (opening ∷ []) ++ before) second (entries_of later) end
    pub onward : Part mac answers first s log (entries_of later ++ (entries_of (opening ∷ []) ++ before)) end (entries_of more) last
    pub comes : (x : LoggedRound P) → Has (more ++ (later ++ opening ∷ [])) x → x.timeout.call ≡ HandleTimeout x.now
    pub between : (x : LoggedRound P) → Has (more ++ (later ++ opening ∷ [])) x → (y : Logged P) → Has x.following y → is_in_round (is_modern start.timing) y.call ≡ true
    pub controls : IsControllingOver (entries_of (opening ∷ [])) one
    pub controls_later : IsControllingOver (entries_of later) others
    pub controls_onward : IsControllingOver (entries_of more) onward

  -- all of them, the newest first
  abbrev pub rounds_of : {first : AgentRecord H P} {s : Stream} {log : List (Logged P)} → ControllingRounds first s log → List (LoggedRound P)
  rounds_of k = k.more ++ (k.later ++ k.opening ∷ [])

  -- So many of the later rounds check the selected pair, or an urgent pair before the one with the number.
  abbrev pub OvertakeLater : {first : AgentRecord H P} {s : Stream} {log : List (Logged P)} → ControllingRounds first s log → (number n : ℕ) → Type 0
  OvertakeLater k number n =
      IsOvertakenIn mac answers number n (entries_of (k.opening ∷ []) ++ k.before) k.second k.others.at (entries_of k.later) k.end k.others.following k.others.run

  -- A request was served on the pair when the rounds begin. There are at least 2 * m later rounds, and fewer than m of them check other pairs
  -- before this one.
  pub record LaterSufficeForServed {first : AgentRecord H P} {s : Stream} {log : List (Logged P)} (k : ControllingRounds first s log) (p : PairRecord) : Type 0 where
    pub served : IsServed k.start p
    pub m : ℕ
    pub enough : 2 * m ≤ length k.later
    pub few : ¬ OvertakeLater k p.number m

  -- The later rounds suffice for the check of a pair that is due by the time `by`, while no pair is valid: those of `SufficeForDue`, if only
  -- packets and polls come in them and in the first one; otherwise those of `Suffices`, or, if a request was served on the pair, those of
  -- `LaterSufficeForServed`. No nomination is sent at once in them.
  abbrev pub LaterSuffice : {first : AgentRecord H P} {s : Stream} {log : List (Logged P)} → ControllingRounds first s log → (p : PairRecord) (by : ℕ) → Type 0
  LaterSuffice k p by =
      (ArePlain (k.later ++ k.opening ∷ []) × SufficeForDue by k.opening.now k.start k.second (logged_times k.later))
      ⊎ (Suffices by k.opening.now k.start k.second k.end (length k.later) 0 0 ⊎ LaterSufficeForServed k p)

  -- At the start of the rounds no pair is valid, and this one is due by the time of the first `handle_timeout` call. The later rounds suffice
  -- for its check, and up to the last of these the caller is punctual: at most `delay` late, with a pacing interval of at most `pace`. If a
  -- check is sent on the pair's path in any of the rounds, a success response is accepted within `trip`.
  pub record SufficeInTime {first : AgentRecord H P} {s : Stream} {log : List (Logged P)} (k : ControllingRounds first s log) (p : PairRecord)
      (by pace delay trip : ℕ) : Type 0 where
    pub waits : Awaits k.opening.now by k.start p
    pub unanswered : IsUnanswered k.start p
    pub due : by ≤ k.opening.now
    pub done : k.opening.timeout.entry.answer ≡ Done
    pub early : k.opening.now < MAX
    pub passing : (x : LoggedRound P) → Has k.later x → IsPassing (is_modern k.start.timing) by x
    pub enough : LaterSuffice k p by
    pub timed : IsTimedIn pace delay k.start k.opening k.later
    pub answered : IsAnsweredInBy trip (rounds_of k) (path_of k.start p)

  -- If the rounds suffice and checks are answered in time (`SufficeInTime`), a path is selected in one of them. This round begins after
  -- the first one by at most `pace + delay` for each of the later ones, and `trip`. The exception: a candidate that is added in the first
  -- or in a later one may remove a pair of the path.
  abbrev pub RoundsSelectInTime : AgentRecord H P → Stream → List (Logged P) → Type 0
  RoundsSelectInTime first s log =
      (k : ControllingRounds first s log) (p : PairRecord) (by pace delay trip : ℕ) → SufficeInTime k p by pace delay trip
      → SelectsInBy (k.opening.now + length k.later * (pace + delay) + trip) (rounds_of k)
      ⊎ (MayEndOver (entries_of (k.opening ∷ [])) k.one (path_of k.start p) ⊎ MayEndOver (entries_of k.later) k.others (path_of k.start p))

  abbrev pub PathsAreSelectedInTime : Type 0
  PathsAreSelectedInTime = (first : AgentRecord H P) (s : Stream) (log : List (Logged P)) → IsFresh first → RoundsSelectInTime first s log
