-- The limit on pairs: which pairs stay, and which are removed.
use Rattle.std.specs.Prelude.{◌≡◌, ℕ, ◌+◌, ◌<◌, ◌≤◌, Bool, true, false, List, filter, length, min}
use Rattle.is_proto.specs.Lists.{Has}
use Rattle.is_pair.specs.Pairs.{PairRecord}
use Rattle.is_pair.specs.Multiset.{rises, Evicts}
use Rattle.is_rules.specs.Evicting.{kind_count, EvictsOfMost}

-- As many pairs stay as the limit allows, and no removed pair has a higher priority than one that stays. Ties are broken
-- arbitrarily.
abbrev pub IsCut : ℕ → List PairRecord → List PairRecord → Type 0
IsCut limit old new =
    (keep : PairRecord → Bool) × (new ≡ filter keep old) × (length new ≡ min (length old) limit)
    × ((p q : PairRecord) → Has old p → keep p ≡ false → Has new q → p.priority ≤ q.priority)

abbrev pub EvictionCuts : Type 0
EvictionCuts = (limit : ℕ) (old new : List PairRecord) → rises old ≡ true → Evicts limit old new → IsCut limit old new

-- ---- with kinds in turn

module _ (kind_of : PairRecord → ℕ) where
  -- No removed pair has a higher priority than one of its kind that stays.
  abbrev pub CutsEachKind : (PairRecord → Bool) → List PairRecord → List PairRecord → Type 0
  CutsEachKind keep old new = (p q : PairRecord) → Has old p → keep p ≡ false → Has new q → kind_of p ≡ kind_of q → p.priority ≤ q.priority

  -- A kind that lost a pair has at most one pair fewer than any other kind. So none loses its last pair while another keeps more
  -- than one.
  abbrev pub SharesOut : List PairRecord → List PairRecord → Type 0
  SharesOut old new =
      (kind other : ℕ) → kind_count kind_of new kind < kind_count kind_of old kind → kind_count kind_of new other ≤ kind_count kind_of new kind + 1

  -- As many pairs stay as the limit allows. Each kind loses its pairs of lowest priority, and the limit is shared out among the
  -- kinds. Ties are broken arbitrarily.
  abbrev pub IsCutByKind : ℕ → List PairRecord → List PairRecord → Type 0
  IsCutByKind limit old new =
      (keep : PairRecord → Bool) × (new ≡ filter keep old) × (length new ≡ min (length old) limit) × CutsEachKind keep old new × SharesOut old new

abbrev pub KindsStay : Type 0
KindsStay =
    (kind_of : PairRecord → ℕ) (limit : ℕ) (old new : List PairRecord) → rises old ≡ true → EvictsOfMost kind_of limit old new → IsCutByKind kind_of limit old new
