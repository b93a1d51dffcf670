-- When a controlling agent selects its first path, in nanoseconds, if the caller is punctual and checks are answered within a round trip. The
-- response may come several rounds after its check.
use Rattle.std.specs.Prelude.{◌≡◌, ℕ, true, ◌+◌, ◌*◌, ◌<◌, ◌≤◌, ◌⊎◌, List, [], ◌∷◌, ◌++◌, length, is_some}
use Rattle.is_proto.specs.Lists.{Has}
use Rattle.is_proto.specs.Times.{MAX}
use Rattle.is_stun.specs.Timing.{is_modern}
use Rattle.is_candidate.specs.Candidates.{CandidateRecord}
use Rattle.is_pair.specs.Pairs.{PairRecord}
use Rattle.is_rules.specs.declared.emitted.Path.{Path}
use Rattle.is_rules.specs.Agent.{AgentRecord}
use Rattle.is_rules.specs.Effects.{last_of}
use Rattle.is_theorems.specs.Executions.{AcceptsSuccess, ExecutionRound, ExecutionRounds}
use Rattle.is_theorems.specs.Exchange.{AreBetween, Execution}
use Rattle.is_theorems.specs.FirstChecks.{SufficeForDue, times_of}
use Rattle.is_theorems.specs.FirstTimeouts.{AreInRound, IsOpenRound, EndsAmong, Suffices}
use Rattle.is_theorems.specs.InTime.{IsTimed, SendsCheckOn}
use Rattle.is_theorems.specs.Progress.{Awaits, IsUnanswered}
use Rattle.is_theorems.specs.ReachedExecutions.{PassRounds}
use Rattle.is_theorems.specs.Runs.{IsFresh}
use Rattle.is_theorems.specs.ServedSoon.{SufficesForServed}
use Rattle.is_rules.specs.Sending.{path_of}
use Rattle.is_rules.specs.Steps.{Call, Entry, Done}

-- One of these calls accepts a success response.
abbrev pub AcceptsSuccessAlong : {P : Type 0} → List (Call P × Entry) → Type 0
AcceptsSuccessAlong xs = (x : Call _ × Entry) × Has xs x × AcceptsSuccess x.0 x.1

-- A success response is accepted in one of the rounds. This round, and each one before it, begins at this time or earlier.
abbrev pub AcceptsBy : {P : Type 0} → ℕ → List (ExecutionRound P) → Type 0
AcceptsBy limit [] = ⊥
AcceptsBy limit (r ∷ later) = (r.now ≤ limit) × (AcceptsSuccessAlong r.following ⊎ AcceptsBy limit later)

-- If a check is sent on the path in one of the rounds, a success response has been accepted in a round that begins at most `trip` later.
abbrev pub IsAnsweredWithin : {P : Type 0} → ℕ → List (ExecutionRound P) → Path → Type 0
IsAnsweredWithin trip rounds path = (r : ExecutionRound _) → Has rounds r → SendsCheckOn r.timeout path → AcceptsBy (r.now + trip) rounds

-- In one of the rounds an accepted success response selects a path. This round begins at this time or earlier.
abbrev pub SelectsBy : {P : Type 0} → ℕ → List (ExecutionRound P) → Type 0
SelectsBy limit rounds =
    (r : ExecutionRound _) × Has rounds r
    × ((x : Call _ × Entry) × Has r.following x × AcceptsSuccess x.0 x.1 × (is_some (last_of x.1.emitted.selected_paths) ≡ true))
    × (r.now ≤ limit)

module _ {H P : Type 0} (mac : H → List ℕ → List ℕ → List ℕ) (answers : P → CandidateRecord → ℕ → ℕ → Type 0) where
  -- the rounds, whatever the agent's role is in them
  abbrev pub in_any_role : (rounds : List (ExecutionRound P)) (old new : AgentRecord H P) → ExecutionRounds mac answers rounds old new → PassRounds mac answers rounds old new
  in_any_role [] old new run = run
  in_any_role (r ∷ later) old new run = (run.0, run.1, run.2, run.3, run.4, run.6, in_any_role later run.1 new run.8)

  -- Enough rounds follow the first one for the check of a pair that is due by the time `by`, while no pair is valid: those of `SufficeForDue`,
  -- if only packets and polls come in all of them; otherwise those of `Suffices`, in which candidates may be added, or, if a request was
  -- served on the pair, those of `SufficesForServed`, however many pairs there are. No nomination is sent at once in them.
  abbrev pub SufficeForCheck : ℕ → PairRecord → (start second end : AgentRecord H P) → ExecutionRound P → (later : List (ExecutionRound P)) → PassRounds mac answers later second end → Type 0
  SufficeForCheck by p start second end r later run =
      (((x : ExecutionRound P) → Has (r ∷ later) x → AreBetween x.following) × SufficeForDue by r.now start second (times_of later))
      ⊎ (Suffices by r.now start second end (length later) 0 0 ⊎ SufficesForServed mac answers start p later second end run)

  -- An execution starts with a newly created agent. At the start of the rounds no pair is valid, and this one is due by the time of the
  -- first one. The agent is controlling in the rounds, between whose `handle_timeout` calls candidates may be added. Enough rounds follow the
  -- first one, in which the caller is punctual; more may follow. If a success response is accepted within `trip` after a check on the pair's
  -- path, a path is selected. The round of this begins after the first one by at most `pace + delay` for each of the later ones, and `trip`.
  -- The exception: a candidate that is added in the first or in a later one may remove a pair of the path.
  abbrev pub ExecutionsSelectInTime : Type 0
  ExecutionsSelectInTime =
      (first start end last : AgentRecord H P) (xs : List (Call P × Entry)) (r : ExecutionRound P) (later more : List (ExecutionRound P)) (p : PairRecord) (by pace delay trip : ℕ)
      → IsFresh first → Execution mac answers xs first start → start.controlling ≡ true → Awaits r.now by start p → IsUnanswered start p
      → by ≤ r.now → r.timeout.answer ≡ Done → r.now < MAX → AreInRound (is_modern start.timing) r.following
      → (run : ExecutionRounds mac answers (r ∷ later) start end) → ExecutionRounds mac answers more end last
      → ((x : ExecutionRound P) → Has later x → IsOpenRound (is_modern start.timing) by x) → ((x : ExecutionRound P) → Has more x → AreInRound (is_modern start.timing) x.following)
      → SufficeForCheck by p start run.1 end r later (in_any_role later run.1 end run.8) → IsTimed pace delay start r later
      → IsAnsweredWithin trip (r ∷ (later ++ more)) (path_of start p)
      → SelectsBy (r.now + length later * (pace + delay) + trip) (r ∷ (later ++ more))
      ⊎ EndsAmong mac answers (r ∷ later) start end (in_any_role (r ∷ later) start end run) (path_of start p)
