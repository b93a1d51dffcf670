-- Pairs that the limit removes with kinds in turn, all at once: contracts of internal functions.
use Rattle.std.specs.Prelude.{◌≡◌, ℕ, ◌+◌, ◌-◌, ◌≤◌, ◌<◌, ◌&&◌, Bool, List, [], ◌∷◌, slice_index, slice_set}
use Rattle.is_candidate.specs.Candidates.{CandidateRecord}
use Rattle.is_pair.specs.Pairs.{PairRecord}
use Rattle.is_pair.specs.Lowest.{is_low}
use Rattle.is_rules.specs.Kept.{is_placed}
use Rattle.is_rules.specs.Kinds.{kind_of, KINDS}
use Rattle.is_rules.specs.Evicting.{EvictsOfMost}

-- pairs were removed so that, whatever is evicted then, all of them are evicted
abbrev pub EvictsSomeOfMost : (PairRecord → ℕ) → ℕ → List PairRecord → List PairRecord → Type 0
EvictsSomeOfMost kinds limit old mid = (new : List PairRecord) → EvictsOfMost kinds limit mid new → EvictsOfMost kinds limit old new

-- ---- the counts of the kinds

-- no count is greater than that of the kind
abbrev pub IsGreatestCount : List ℕ → ℕ → Type 0
IsGreatestCount counts kind = (other : ℕ) → other < KINDS → slice_index counts other ≤ slice_index counts kind

-- the count of the kind, less one
abbrev pub lowered : List ℕ → ℕ → List ℕ
lowered counts kind = slice_set counts kind (slice_index counts kind - 1)

-- One is taken from the greatest count, again and again, as long as there are more pairs than the limit.
abbrev pub TakesInTurn : (limit left : ℕ) → List ℕ → List ℕ → List ℕ → Type 0
TakesInTurn limit left [] old new = new ≡ old
TakesInTurn limit left (kind ∷ kinds) old new =
    (limit < left) × (kind < KINDS) × (0 < slice_index old kind) × IsGreatestCount old kind × TakesInTurn limit (left - 1) kinds (lowered old kind) new

abbrev pub Takes : (limit left : ℕ) → List ℕ → List ℕ → Type 0
Takes limit left old new = (kinds : List ℕ) × TakesInTurn limit left kinds old new

-- Each count is that of the pairs that go, and of those that stay.
abbrev pub AreSums : List ℕ → List ℕ → List ℕ → Type 0
AreSums gone stays counts = (kind : ℕ) → kind < KINDS → slice_index gone kind + slice_index stays kind ≡ slice_index counts kind

-- The pair is among the lowest of its kind: of lower priority than what is noted for the kind, or of the same and no greater number.
abbrev pub is_low_of_kind : (local remote : List CandidateRecord) (priorities numbers : List ℕ) → PairRecord → Bool
is_low_of_kind local remote priorities numbers p =
    is_placed local remote p && is_low (slice_index priorities (kind_of local remote p)) (slice_index numbers (kind_of local remote p)) p
