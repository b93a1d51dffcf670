-- The order by priority, and pairs of lowest priority that are removed at once.
use Rattle.std.specs.Prelude.{◌≡◌, ℕ, ◌==◌, ◌&&◌, ◌||◌, ◌++◌, ◌∷◌, [], Bool, true, nat_lt, nat_le, List, length, reverse, if◌then◌else◌}
use Rattle.std.specs.List.{filter_map, list_all}
use Rattle.is_proto.specs.Lists.{Has}
use Rattle.is_pair.specs.declared.checklist.Checklist.{Checklist}
use Rattle.is_pair.specs.declared.checklist.entries.Rank.{Rank}
use Rattle.is_pair.specs.declared.checklist.removed.Removal.TheVariants.{Evicted}
use Rattle.is_pair.specs.declared.checklist.removed.RemovedPair.{RemovedPair}
use Rattle.is_pair.specs.Pairs.{PairRecord}
use Rattle.is_pair.specs.Multiset.{pair_numbered, EvictsInTurn}
use Rattle.is_pair.specs.Removed.{removed_after}

-- the pairs of these entries, in their order
abbrev pub pairs_of : List Rank → List PairRecord → List PairRecord
pairs_of rs pairs = filter_map (λ (r : Rank). pair_numbered r.number pairs) rs

-- the pairs in the order by priority, the least first; those of one priority are in any order
abbrev pub ranked_of : Checklist → List PairRecord
ranked_of list = pairs_of (reverse list.ranks.items) list.pairs.items

-- the pairs of entries by priority, the least first, or all pairs by number
abbrev pub listed_by : Bool → List Rank → List PairRecord → List PairRecord
listed_by by_priority rs pairs = if by_priority then pairs_of (reverse rs) pairs else pairs

abbrev pub order_of : Bool → Checklist → List PairRecord
order_of by_priority list = listed_by by_priority list.ranks.items list.pairs.items

-- priorities do not fall along the list
abbrev pub priorities_rise : List PairRecord → Bool
priorities_rise [] = true
priorities_rise (p ∷ ps) = list_all (λ q. nat_le p.priority q.priority) ps && priorities_rise ps

-- these are all pairs, each once, the one of least priority first
abbrev pub AreRanked : (pairs order : List PairRecord) → Type 0
AreRanked pairs order =
    (priorities_rise order ≡ true) × (length order ≡ length pairs) × ((p : PairRecord) → Has pairs p → Has order p)
    × ((p : PairRecord) → Has order p → Has pairs p)

-- the pair has a lower priority than this, or this one and no greater number
abbrev pub is_low : (priority number : ℕ) → PairRecord → Bool
is_low priority number p = nat_lt p.priority priority || (p.priority == priority && nat_le p.number number)

-- These pairs were removed in this order, each as one of lowest priority: whatever is evicted then, all of them are evicted.
abbrev pub EvictsFirst : ℕ → List PairRecord → List PairRecord → List PairRecord → Type 0
EvictsFirst limit gone old mid = (rest new : List PairRecord) → EvictsInTurn limit rest mid new → EvictsInTurn limit (gone ++ rest) old new

-- pairs were removed, each as one of lowest priority (`EvictsFirst`), and are listed in this order
abbrev pub EvictsSome : ℕ → (old mid : List PairRecord) → (listed after : List RemovedPair) → Type 0
EvictsSome limit old mid listed after =
    (gone : List PairRecord) × EvictsFirst limit gone old mid × (after ≡ removed_after (λ p. Evicted) gone listed)

-- pairs of lowest priority are removed until the limit holds, and are listed in the order in which they go
abbrev pub EvictsAll : ℕ → (old new : List PairRecord) → (listed after : List RemovedPair) → Type 0
EvictsAll limit old new listed after =
    (gone : List PairRecord) × EvictsInTurn limit gone old new × (after ≡ removed_after (λ p. Evicted) gone listed)
