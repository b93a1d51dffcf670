-- How often the pairs of one kind delay each other while kinds take turns and urgent pairs go first: each of them that exists when the rounds
-- begin delays a pair of the kind at most once, and none that is formed later does.
use Rattle.std.specs.Prelude.{◌≡◌, ◌≢◌, ℕ, ◌+◌, ◌*◌, ◌<◌, ◌≤◌, ◌⊎◌, true, List, length}
use Rattle.rand_core.specs.Stream.{Stream}
use Rattle.is_proto.specs.Lists.{Has}
use Rattle.is_stun.specs.Timing.{is_modern}
use Rattle.is_candidate.specs.Candidates.{CandidateRecord}
use Rattle.is_pair.specs.Pairs.{PairRecord}
use Rattle.is_rules.specs.Agent.{AgentRecord}
use Rattle.is_rules.specs.Checking.{precedence}
use Rattle.is_rules.specs.declared.emitted.Emitted.{Emitted}
use Rattle.is_rules.specs.Kinds.{goes_first}
use Rattle.is_rules.specs.Sending.{path_of}
use Rattle.is_theorems.specs.Asked.{IsAnsweredIn}
use Rattle.is_theorems.specs.KindsInTurn.{AtTimeoutsIn, HasPathIn, OfTimeoutsIn, TakesTurns, WaitsInRounds, kind_in}
use Rattle.is_theorems.specs.Logs.{Logged}
use Rattle.is_theorems.specs.Progress.{ChecksOn}
use Rattle.is_theorems.specs.Reached.{ChecksIn, IsEndedIn}
use Rattle.is_theorems.specs.Rounds.{LoggedRound, Part, entries_of}
use Rattle.is_theorems.specs.Runs.{IsFresh}

module _ {H P : Type 0} where
  -- A `handle_timeout` call of an agent by whose profile kinds take turns and urgent pairs go first. When it begins, each other pair of the
  -- kind has one of these numbers, unless it was formed after the pairs with numbers below `next`.
  pub record TakesTurnsAmong (others : List ℕ) (next : ℕ) (kinds : List ℕ) (kind number : ℕ) (old new : AgentRecord H P) : Type 0 where
    pub turns : TakesTurns kinds kind number old new
    pub urgent : is_modern old.timing ≡ true
    pub among : (q : PairRecord) → Has old.pairs q → kind_in old q ≡ kind → q.number ≢ number → q.number < next → Has others q.number

  -- The call checks another pair than the one with the number, one that goes before all kinds: an urgent one.
  pub record IsHeldUp (number now : ℕ) (old : AgentRecord H P) (emitted : Emitted) : Type 0 where
    pub other : PairRecord
    pub there : Has old.pairs other
    pub apart : other.number ≢ number
    pub sent : ChecksOn old emitted other
    pub first : goes_first (precedence old) other ≡ true

  module _ (mac : H → List ℕ → List ℕ → List ℕ) (answers : P → CandidateRecord → ℕ → ℕ → Type 0) where
    -- Kinds take turns in the rounds, and pairs have k kinds; n others of the pairs at the start have the kind in the rounds. In
    -- 2 * k * (n + m) rounds a check is sent on the pair's path, or m of them check pairs that go before all kinds, or the agent has a path after
    -- a call of the rounds. The other exceptions are those of `RoundsReach`.
    abbrev pub RoundsReachInKind : AgentRecord H P → Stream → List (Logged P) → Type 0
    RoundsReachInKind first s log =
        (before : List (Logged P)) (start last : AgentRecord H P) (rounds : List (LoggedRound P)) (p : PairRecord) (by m : ℕ) (kinds others : List ℕ)
        → (found : Part mac answers first s log before start (entries_of rounds) last) → WaitsInRounds by start rounds p
        → AtTimeoutsIn mac answers (TakesTurnsAmong others start.next_number kinds (kind_in start p) p.number) before start found.at (entries_of rounds) last
        found.following found.run
        → 2 * (length kinds * (length others + m)) ≤ length rounds
        → ChecksIn rounds (path_of start p)
        ⊎ (IsAnsweredIn (entries_of rounds) (path_of start p)
        ⊎ (IsEndedIn mac answers before start found.at (entries_of rounds) last found.following found.run (path_of start p)
        ⊎ (HasPathIn mac answers before start found.at (entries_of rounds) last found.following found.run
        ⊎ OfTimeoutsIn mac answers (IsHeldUp p.number) m before start found.at (entries_of rounds) last found.following found.run)))

    abbrev pub PairsAreReachedInKind : Type 0
    PairsAreReachedInKind = (first : AgentRecord H P) (s : Stream) (log : List (Logged P)) → IsFresh first → RoundsReachInKind first s log
