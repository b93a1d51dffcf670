-- With a limit on what received packets bring, both lists of candidates and the remembered sources stay bounded, whatever the agent
-- receives. With a limit on pairs too, so do the pairs.
use Rattle.std.specs.Prelude.{◌≡◌, ℕ, ◌+◌, ◌*◌, ◌≤◌, Bool, true, false, not, List, ◌∷◌, length, count_by, Option, Some, None}
use Rattle.rand_core.specs.Stream.{Stream}
use Rattle.is_candidate.specs.Candidates.{CandidateRecord}
use Rattle.is_candidate.specs.Equality.{is_temporary}
use Rattle.is_rules.specs.Agent.{AgentRecord}
use Rattle.is_theorems.specs.Logs.{Logged}
use Rattle.is_theorems.specs.Runs.{IsFresh, AtEach}
use Rattle.is_rules.specs.Steps.{Call, AddLocalCandidate, AddRemoteCandidate, RecreateCandidatePairs, ReceivePacket, HandleTimeout}

-- A packet or a timeout comes: only then a request is served, or a response is taken.
abbrev pub may_serve : {P : Type 0} → Call P → Bool
may_serve (ReceivePacket _ _ _) = true
may_serve (HandleTimeout _) = true
may_serve _ = false

-- A candidate is added, or the pairs are recreated: only then pairs are formed, and the limit on pairs is applied.
abbrev pub may_form : {P : Type 0} → Call P → Bool
may_form (AddLocalCandidate _) = true
may_form (AddRemoteCandidate _) = true
may_form RecreateCandidatePairs = true
may_form _ = false

abbrev pub is_gathered : {P : Type 0} → Call P → Bool
is_gathered (AddLocalCandidate _) = true
is_gathered _ = false

-- how many local candidates the caller added, or tried to add
abbrev pub gathered_count : {P : Type 0} → List (Logged P) → ℕ
gathered_count log = count_by (λ (x : Logged _). is_gathered x.call) log

abbrev pub is_signal : {P : Type 0} → Call P → Bool
is_signal (AddRemoteCandidate _) = true
is_signal _ = false

-- how many remote candidates the caller added, or tried to add
abbrev pub signal_count : {P : Type 0} → List (Logged P) → ℕ
signal_count log = count_by (λ (x : Logged _). is_signal x.call) log

-- remote candidates that no request brought
abbrev pub is_signaled : CandidateRecord → Bool
is_signaled c = not (is_temporary c)

-- The limit is set, to this number or less.
abbrev pub IsWithin : ℕ → Option ℕ → Type 0
IsWithin most None = ⊥
IsWithin most (Some limit) = limit ≤ most

-- As many pairs as the caller allows: the limit on pairs plus the number of its local candidates times that of remote ones, of which
-- requests bring `most`.
abbrev pub pair_bound : ℕ → ℕ → ℕ → ℕ → ℕ
pair_bound limit most gathered signals = limit + gathered * (most + signals)

module _ {H P : Type 0} where
  -- At most as many candidates of each side as the limit allows and the caller added, and at most as many sources as the limit
  -- allows.
  pub record IsBounded (most gathered signals : ℕ) (a : AgentRecord H P) : Type 0 where
    pub local : length a.local ≤ most + gathered
    pub remote : length a.remote ≤ most + signals
    pub sources : length a.discovered_sources ≤ most

  module _ (mac : H → List ℕ → List ℕ → List ℕ) (answers : P → CandidateRecord → ℕ → ℕ → Type 0) where
    -- The limit is at most this one whenever a packet or a timeout comes.
    abbrev pub IsLimited : ℕ → AgentRecord H P → Stream → List (Logged P) → Type 0
    IsLimited most first s log = AtEach mac answers first s log (λ before mid x after. may_serve x.call ≡ true → IsWithin most mid.max_discovered)

    -- If the limit is at most this one whenever a packet or a timeout comes, the lists are bounded after each call.
    abbrev pub ListsAreBounded : AgentRecord H P → Stream → List (Logged P) → Type 0
    ListsAreBounded first s log =
        (most : ℕ) → IsLimited most first s log
        → AtEach mac answers first s log (λ before mid x after. IsBounded most (gathered_count (x ∷ before)) (signal_count (x ∷ before)) after)

    abbrev pub LimitsBound : Type 0
    LimitsBound = (first : AgentRecord H P) (s : Stream) (log : List (Logged P)) → IsFresh first → ListsAreBounded first s log

    -- ---- pairs

    -- The limit on pairs is at most this one whenever pairs may be formed. Packets and timeouts do not form pairs.
    abbrev pub FormsFew : ℕ → AgentRecord H P → Stream → List (Logged P) → Type 0
    FormsFew limit first s log = AtEach mac answers first s log (λ before mid x after. may_form x.call ≡ true → mid.max_pairs ≤ limit)

    -- Forming leaves at most that many pairs. Then a packet adds a pair only of two candidates that have none. So there are at most
    -- as many pairs as the limit plus the number of local candidates times that of remote ones.
    abbrev pub PairsAreFew : AgentRecord H P → Stream → List (Logged P) → Type 0
    PairsAreFew first s log =
        (limit : ℕ) → FormsFew limit first s log
        → AtEach mac answers first s log (λ before mid x after. length after.pairs ≤ limit + length after.local * length after.remote)

    -- With both limits the bound depends on the caller only. Local candidates that responses bring do not count: packets add pairs only
    -- at host and relayed ones.
    abbrev pub PairsAreBounded : AgentRecord H P → Stream → List (Logged P) → Type 0
    PairsAreBounded first s log =
        (most limit : ℕ) → IsLimited most first s log → FormsFew limit first s log
        → AtEach mac answers first s log (λ before mid x after.
        length after.pairs ≤ pair_bound limit most (gathered_count (x ∷ before)) (signal_count (x ∷ before)))

    abbrev pub LimitsPairs : Type 0
    LimitsPairs = (first : AgentRecord H P) (s : Stream) (log : List (Logged P)) → IsFresh first → PairsAreFew first s log

    abbrev pub BoundsPairs : Type 0
    BoundsPairs = (first : AgentRecord H P) (s : Stream) (log : List (Logged P)) → IsFresh first → PairsAreBounded first s log
