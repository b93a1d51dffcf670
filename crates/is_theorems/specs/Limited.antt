-- With a limit on what packets bring, what an agent stores is bounded, whatever it receives, and also if it shares its random source.
use Rattle.std.specs.Prelude.{◌≡◌, ℕ, ◌+◌, ◌*◌, ◌≤◌, true, List, length}
use Rattle.is_candidate.specs.Candidates.{CandidateRecord}
use Rattle.is_rules.specs.Agent.{AgentRecord}
use Rattle.is_theorems.specs.Bounds.{gathered_count, IsBounded, IsWithin, may_form, may_serve, signal_count}
use Rattle.is_theorems.specs.Logs.{Logged}
use Rattle.is_theorems.specs.Shared.{IsNewlyCreated, SharedRun, BeforeEach}
use Rattle.is_theorems.specs.Waiting.{discovery_count}

module _ {H P : Type 0} where
  -- The limit is at most this one if a packet or a timeout comes.
  abbrev pub IsLimitedAt : ℕ → AgentRecord H P → Logged P → Type 0
  IsLimitedAt most a x = may_serve x.call ≡ true → IsWithin most a.max_discovered

  -- The limit on pairs is at most this one if pairs may be formed.
  abbrev pub FormsFewAt : ℕ → AgentRecord H P → Logged P → Type 0
  FormsFewAt limit a x = may_form x.call ≡ true → a.max_pairs ≤ limit

  module _ (mac : H → List ℕ → List ℕ → List ℕ) (answers : P → CandidateRecord → ℕ → ℕ → Type 0) where
    -- At most as many candidates of each side as the limit and the caller's together, and at most as many sources as the limit.
    abbrev pub ListsStayBounded : Type 0
    ListsStayBounded =
        (most : ℕ) (first last : AgentRecord H P) (log : List (Logged P)) → IsNewlyCreated first → (run : SharedRun mac answers first log last)
        → BeforeEach mac answers (IsLimitedAt most) first log last run → IsBounded most (gathered_count log) (signal_count log) last

    -- At most as many `DiscoveredRecv` events wait as the limit, however seldom events are polled.
    abbrev pub DiscoveriesStayFew : Type 0
    DiscoveriesStayFew =
        (most : ℕ) (first last : AgentRecord H P) (log : List (Logged P)) → IsNewlyCreated first → (run : SharedRun mac answers first log last)
        → BeforeEach mac answers (IsLimitedAt most) first log last run → discovery_count last.events ≤ most

    -- At most as many pairs as the limit on pairs, plus the local candidates times the remote ones.
    abbrev pub PairsStayFew : Type 0
    PairsStayFew =
        (limit : ℕ) (first last : AgentRecord H P) (log : List (Logged P)) → IsNewlyCreated first → (run : SharedRun mac answers first log last)
        → BeforeEach mac answers (FormsFewAt limit) first log last run → length last.pairs ≤ limit + length last.local * length last.remote
