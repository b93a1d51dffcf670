-- The limit on pairs with the profile `Modern`: the kind with the most pairs loses one.
use Rattle.std.specs.Prelude.{◌≡◌, ℕ, ◌≤◌, ◌<◌, ◌==◌, Bool, List, [], ◌∷◌, length, count_by, Option, Some, None, ◌&&◌, slice_index}
use Rattle.is_proto.specs.Lists.{Has, NonePass}
use Rattle.is_pair.specs.Pairs.{PairRecord}
use Rattle.is_pair.specs.Multiset.{is_numbered, without}
use Rattle.is_candidate.specs.Candidates.{CandidateRecord}
use Rattle.is_rules.specs.Kept.{is_placed}
use Rattle.is_rules.specs.Kinds.{KINDS}
use Rattle.is_rules.specs.Kinds as kinds

module _ (kind_of : PairRecord → ℕ) where
  abbrev pub is_of_kind : ℕ → PairRecord → Bool
  is_of_kind kind p = kind_of p == kind

  -- how many of the pairs are of the kind
  abbrev pub kind_count : List PairRecord → ℕ → ℕ
  kind_count pairs kind = count_by (is_of_kind kind) pairs

  -- The counts of the kinds are these.
  abbrev pub AreCounted : List PairRecord → List ℕ → Type 0
  AreCounted pairs counts = (kind : ℕ) → kind < KINDS → slice_index counts kind ≡ kind_count pairs kind

  abbrev pub AreOfOneKind : List PairRecord → Type 0
  AreOfOneKind pairs = (kind : ℕ) × (kind_count pairs kind ≡ length pairs)

  -- No other kind has more pairs than this one.
  abbrev pub HasMost : List PairRecord → ℕ → Type 0
  HasMost pairs kind = (other : ℕ) → kind_count pairs other ≤ kind_count pairs kind

  -- a pair of lowest priority of a kind, or none if it has no pair; ties may be broken in any way
  abbrev pub IsLeastOfKind : ℕ → List PairRecord → Option PairRecord → Type 0
  IsLeastOfKind kind pairs None = NonePass (is_of_kind kind) pairs
  IsLeastOfKind kind pairs (Some least) =
      Has pairs least × (kind_of least ≡ kind) × ((p : PairRecord) → Has pairs p → kind_of p ≡ kind → least.priority ≤ p.priority)

  -- a pair of lowest priority of a kind that no other has more pairs than; ties may be broken in any way
  abbrev pub IsLeastOfMost : List PairRecord → PairRecord → Type 0
  IsLeastOfMost pairs least = HasMost pairs (kind_of least) × IsLeastOfKind (kind_of least) pairs (Some least)

  -- a pair of lowest priority of a kind with the most pairs, or none if there is no pair
  abbrev pub IsLowestOfMost : List PairRecord → Option PairRecord → Type 0
  IsLowestOfMost pairs None = pairs ≡ []
  IsLowestOfMost pairs (Some least) = IsLeastOfMost pairs least

  -- these pairs are removed one after another: when one is removed, it has the lowest priority of the kind with the most
  -- pairs, and the list is over the limit until then
  abbrev pub EvictsOfMostInTurn : ℕ → List PairRecord → List PairRecord → List PairRecord → Type 0
  EvictsOfMostInTurn limit [] old new = (length old ≤ limit) × (new ≡ old)
  EvictsOfMostInTurn limit (p ∷ gone) old new =
      (limit < length old) × IsLeastOfMost old p × EvictsOfMostInTurn limit gone (without (is_numbered p.number) old) new

  -- pairs of the most numerous kind are removed until the limit holds (RFC 8445, section 6.1.2.5)
  abbrev pub EvictsOfMost : ℕ → List PairRecord → List PairRecord → Type 0
  EvictsOfMost limit old new = (gone : List PairRecord) × EvictsOfMostInTurn limit gone old new

-- the test of a pair that may be any: its places are in the lists, and it is of the kind
abbrev pub is_placed_of_kind : List CandidateRecord → List CandidateRecord → ℕ → PairRecord → Bool
is_placed_of_kind local remote kind p = is_placed local remote p && is_of_kind (kinds.kind_of local remote) kind p
