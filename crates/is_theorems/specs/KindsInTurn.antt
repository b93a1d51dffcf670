-- How soon a pair is checked while kinds of pairs take turns: whatever the agent receives and adds, the pair waits only for pairs of its own
-- kind that go before it, and for pairs that go before all kinds.
use Rattle.std.specs.Prelude.{◌≡◌, ◌≢◌, ℕ, suc, ◌*◌, ◌≤◌, ◌⊎◌, true, List, [], ◌∷◌, length, Some, is_some}
use Rattle.rand_core.specs.Stream.{Stream}
use Rattle.is_proto.specs.Lists.{Has}
use Rattle.is_stun.specs.Timing.{is_modern}
use Rattle.is_candidate.specs.Candidates.{CandidateRecord}
use Rattle.is_pair.specs.Due.{GoesBefore}
use Rattle.is_pair.specs.Pairs.{PairRecord}
use Rattle.is_rules.specs.Agent.{AgentRecord}
use Rattle.is_rules.specs.Checking.{precedence}
use Rattle.is_rules.specs.Connecting.{is_connected}
use Rattle.is_rules.specs.declared.emitted.Emitted.{Emitted}
use Rattle.is_rules.specs.Kinds.{goes_first, kind_of}
use Rattle.is_rules.specs.Sending.{path_of}
use Rattle.is_rules.specs.Steps.{HandleTimeout}
use Rattle.is_theorems.specs.Asked.{IsAnsweredIn}
use Rattle.is_theorems.specs.Logs.{Logged}
use Rattle.is_theorems.specs.Progress.{ChecksOn}
use Rattle.is_theorems.specs.Reached.{ChecksIn, IsEndedIn, IsInLine, IsLasting, IsPassing}
use Rattle.is_theorems.specs.Rounds.{LoggedRound, Part, RunsOn, began_at, entries_of}
use Rattle.is_theorems.specs.Runs.{IsFresh}

module _ {H P : Type 0} where
  -- the kind of a pair of the agent
  abbrev pub kind_in : AgentRecord H P → PairRecord → ℕ
  kind_in a p = kind_of a.local a.remote p

  -- A `handle_timeout` call of an agent with the profile `Modern`, by which kinds take turns until a path is selected. When it begins, each pair has
  -- one of these kinds, and the pair with the number has this one.
  pub record TakesTurns (kinds : List ℕ) (kind number : ℕ) (old new : AgentRecord H P) : Type 0 where
    pub modern : is_modern new.timing ≡ true
    pub listed : (q : PairRecord) → Has old.pairs q → Has kinds (kind_in old q)
    pub keeps : (q : PairRecord) → Has old.pairs q → q.number ≡ number → kind_in old q ≡ kind

  -- A path is selected, or the agent is Connected or Completed.
  abbrev pub HasPath : AgentRecord H P → Type 0
  HasPath a = (is_some a.selected_pair ≡ true) ⊎ (is_connected a.state ≡ true)

  -- The call checks another pair than the one with the number and this kind: one that goes before all kinds, or one of the kind that is
  -- due earlier, or at the same time with no smaller priority.
  pub record IsDelayed (kind number now : ℕ) (old : AgentRecord H P) (emitted : Emitted) : Type 0 where
    pub other : PairRecord
    pub there : Has old.pairs other
    pub apart : other.number ≢ number
    pub sent : ChecksOn old emitted other
    pub before : (goes_first (precedence old) other ≡ true)
        ⊎ ((kind_in old other ≡ kind) × ((q : PairRecord) → Has old.pairs q → q.number ≡ number → GoesBefore now old.timing other q))

  -- The pair waits for its check when the rounds begin, and is not removed in them after timeout, or when consent ends, before it.
  pub record WaitsInRounds (by : ℕ) (start : AgentRecord H P) (rounds : List (LoggedRound P)) (p : PairRecord) : Type 0 where
    pub at : ℕ
    pub began : began_at rounds ≡ Some at
    pub line : IsInLine at by start p
    pub passing : (r : LoggedRound P) → Has rounds r → IsPassing (is_modern start.timing) by r
    pub lasting : (r : LoggedRound P) → Has rounds r → IsLasting r.now start p

  module _ (mac : H → List ℕ → List ℕ → List ℕ) (answers : P → CandidateRecord → ℕ → ℕ → Type 0) where
    -- This holds of the states before and after each `handle_timeout` call of a segment.
    abbrev pub AtTimeoutsIn : (Holds : AgentRecord H P → AgentRecord H P → Type 0) (before : List (Logged P)) (start : AgentRecord H P) (s : Stream)
        (part : List (Logged P)) (last : AgentRecord H P) (t : Stream)
        → RunsOn mac answers before start s part last t → Type 0
    AtTimeoutsIn Holds before start s [] last t run = Unit {0}
    AtTimeoutsIn Holds before start s (x ∷ part) last t run =
        ((now : ℕ) → x.call ≡ HandleTimeout now → Holds run.0 last) × AtTimeoutsIn Holds before start s part run.0 run.1 run.2

    -- At each `handle_timeout` call of a segment kinds take turns, if no path is selected.
    abbrev pub TakeTurnsIn : (kinds : List ℕ) (kind number : ℕ) (before : List (Logged P)) (start : AgentRecord H P) (s : Stream) (part : List (Logged P))
        (last : AgentRecord H P) (t : Stream)
        → RunsOn mac answers before start s part last t → Type 0
    TakeTurnsIn kinds kind number = AtTimeoutsIn (TakesTurns kinds kind number)

    -- After one of the calls of a segment the agent has a path, so kinds take no turns.
    abbrev pub HasPathIn : (before : List (Logged P)) (start : AgentRecord H P) (s : Stream) (part : List (Logged P)) (last : AgentRecord H P) (t : Stream)
        → RunsOn mac answers before start s part last t → Type 0
    HasPathIn before start s [] last t run = ⊥
    HasPathIn before start s (x ∷ part) last t run = HasPath last ⊎ HasPathIn before start s part run.0 run.1 run.2

    -- This holds of so many `handle_timeout` calls of a segment, or more: of their times, the states before them, and what they emit.
    abbrev pub OfTimeoutsIn : (Holds : ℕ → AgentRecord H P → Emitted → Type 0) (n : ℕ) (before : List (Logged P)) (start : AgentRecord H P) (s : Stream)
        (part : List (Logged P)) (last : AgentRecord H P) (t : Stream)
        → RunsOn mac answers before start s part last t → Type 0
    OfTimeoutsIn Holds n before start s [] last t run = n ≡ 0
    OfTimeoutsIn Holds n before start s (x ∷ part) last t run =
        OfTimeoutsIn Holds n before start s part run.0 run.1 run.2
        ⊎ ((now k : ℕ) × (n ≡ suc k) × (x.call ≡ HandleTimeout now) × Holds now run.0 x.entry.emitted × OfTimeoutsIn Holds k before start s part run.0 run.1 run.2)

    -- So many `handle_timeout` calls of a segment, or more, delay the pair.
    abbrev pub IsDelayedIn : (kind number n : ℕ) (before : List (Logged P)) (start : AgentRecord H P) (s : Stream) (part : List (Logged P))
        (last : AgentRecord H P) (t : Stream)
        → RunsOn mac answers before start s part last t → Type 0
    IsDelayedIn kind number = OfTimeoutsIn (IsDelayed kind number)

    -- Kinds take turns in the rounds, and pairs have k kinds. In 2 * k * m rounds a check is sent on the pair's path, or m of them delay it:
    -- they check pairs that go before all kinds, or pairs of its kind that go before it. Or the agent has a path after a call of the rounds.
    -- The other exceptions are those of `RoundsReach`.
    abbrev pub RoundsReachInTurn : AgentRecord H P → Stream → List (Logged P) → Type 0
    RoundsReachInTurn first s log =
        (before : List (Logged P)) (start last : AgentRecord H P) (rounds : List (LoggedRound P)) (p : PairRecord) (by m : ℕ) (kinds : List ℕ)
        → (found : Part mac answers first s log before start (entries_of rounds) last) → WaitsInRounds by start rounds p
        → TakeTurnsIn kinds (kind_in start p) p.number before start found.at (entries_of rounds) last found.following found.run
        → 2 * (length kinds * m) ≤ length rounds
        → ChecksIn rounds (path_of start p)
        ⊎ (IsAnsweredIn (entries_of rounds) (path_of start p)
        ⊎ (IsEndedIn mac answers before start found.at (entries_of rounds) last found.following found.run (path_of start p)
        ⊎ (HasPathIn before start found.at (entries_of rounds) last found.following found.run
        ⊎ IsDelayedIn (kind_in start p) p.number m before start found.at (entries_of rounds) last found.following found.run)))

    abbrev pub KindsAreReachedInTurn : Type 0
    KindsAreReachedInTurn = (first : AgentRecord H P) (s : Stream) (log : List (Logged P)) → IsFresh first → RoundsReachInTurn first s log
