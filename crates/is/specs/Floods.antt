-- What an agent stores, and what waits in it, stays bounded, whatever it receives: along its log, and along that of two agents.
use Rattle.std.specs.Prelude.{◌≡◌, ℕ, ◌+◌, ◌*◌, ◌≤◌, List, [], ◌∷◌, ◌++◌, length}
use Rattle.rand_core.specs.Stream.{Stream}
use Rattle.is_proto.specs.Lists.{Has}
use Rattle.is_candidate.specs.Candidates.{CandidateRecord}
use Rattle.is_rules.specs.Agent.{AgentRecord}
use Rattle.is_theorems.specs.Bounds.{gathered_count, IsBounded, IsLimited, signal_count}
use Rattle.is_theorems.specs.Logs as agent
use Rattle.is_theorems.specs.Runs.{AtEach}
use Rattle.is_theorems.specs.Limited.{FormsFewAt, IsLimitedAt}
use Rattle.is_theorems.specs.Waiting.{IsShort, discovery_count}
use Rattle.is_theorems.specs.Shared.{IsNewlyCreated}
use Rattle.is.specs.declared.world_events.Side.{Side}
use Rattle.is.specs.AcceptedNominationsIn.{Occurrence, occurrences_in}
use Rattle.is.specs.Sides.{own_at, own_log}
use Rattle.is.specs.World.{WorldRecord, LoggedEvent, WorldRun, at, Streams}

-- ---- one agent

module _ {H P : Type 0} (mac : H → List ℕ → List ℕ → List ℕ) (answers : P → CandidateRecord → ℕ → ℕ → Type 0) where
  -- After each call the queues are short.
  abbrev pub QueuesStayShort : AgentRecord H P → Stream → List (agent.Logged P) → Type 0
  QueuesStayShort first s log = AtEach mac answers first s log (λ before mid x after. IsShort (x ∷ before) after)

  -- The limit is at most this one whenever a packet or a timeout comes. Then at most as many `DiscoveredRecv` events wait after each call.
  abbrev pub DiscoveriesAreFew : AgentRecord H P → Stream → List (agent.Logged P) → Type 0
  DiscoveriesAreFew first s log =
      (most : ℕ) → IsLimited mac answers most first s log → AtEach mac answers first s log (λ before mid x after. discovery_count after.events ≤ most)

-- ---- two agents

module _ {H P : Type 0} where
  -- The side's limit is at most this one whenever it receives a packet, or a timeout comes.
  abbrev pub IsLimitedFor : Side → ℕ → List (Occurrence H P) → Type 0
  IsLimitedFor side most part = (z : Occurrence H P) → Has part z → (y : agent.Logged P) → Has (own_at side z) y → IsLimitedAt most (at side z.before) y

  -- The side's limit on pairs is at most this one whenever it may form pairs.
  abbrev pub FormsFewFor : Side → ℕ → List (Occurrence H P) → Type 0
  FormsFewFor side limit part = (z : Occurrence H P) → Has part z → (y : agent.Logged P) → Has (own_at side z) y → FormsFewAt limit (at side z.before) y

  module _ (mac : H → List ℕ → List ℕ → List ℕ) (answers : P → CandidateRecord → ℕ → ℕ → Type 0) where
    -- Two agents are newly created. After each entry of the log the property holds of the log up to this entry, of either side, and
    -- of the state of that side.
    abbrev pub AfterEach : WorldRecord H P → Streams → List (LoggedEvent P) → (List (Occurrence H P) → Side → AgentRecord H P → Type 0) → Type 0
    AfterEach first s log Holds =
        (last : WorldRecord H P) (t : Streams) (run : WorldRun mac answers first s 0 log last t) (before rest : List (Occurrence H P)) (x : Occurrence H P) (side : Side)
        → ((z : Side) → IsNewlyCreated (at z first)) → occurrences_in mac answers first s 0 log last t run ≡ (before ++ x ∷ []) ++ rest
        → Holds (before ++ x ∷ []) side (at side x.following)

    -- With its limit, a side has at most as many local candidates as the limit and its calls that add one together, likewise remote
    -- candidates, and at most as many sources as the limit.
    abbrev pub BothAreBounded : WorldRecord H P → Streams → List (LoggedEvent P) → Type 0
    BothAreBounded first s log =
        AfterEach first s log (λ part side a. (most : ℕ) → IsLimitedFor side most part → IsBounded most (gathered_count (own_log side [] part)) (signal_count (own_log side [] part)) a)

    -- A side has at most as many pairs as its limit on pairs, plus its local candidates times its remote ones.
    abbrev pub BothHaveFewPairs : WorldRecord H P → Streams → List (LoggedEvent P) → Type 0
    BothHaveFewPairs first s log =
        AfterEach first s log (λ part side a. (limit : ℕ) → FormsFewFor side limit part → length a.pairs ≤ limit + length a.local * length a.remote)

    -- At most as much waits in a side as its own log says.
    abbrev pub BothAreShort : WorldRecord H P → Streams → List (LoggedEvent P) → Type 0
    BothAreShort first s log = AfterEach first s log (λ part side a. IsShort (own_log side [] part) a)

    -- With its limit, at most as many `DiscoveredRecv` events wait in a side.
    abbrev pub BothDiscoverFew : WorldRecord H P → Streams → List (LoggedEvent P) → Type 0
    BothDiscoverFew first s log =
        AfterEach first s log (λ part side a. (most : ℕ) → IsLimitedFor side most part → discovery_count a.events ≤ most)
