use Rattle.is_rules.proofs.Common.{◌≡◌, are_below, are_placed, AreCounted, EvictsOfMostInTurn, kind_of, length, List, multiset_of}
use Rattle.is_rules.proofs.Common.{PairRecord, true, ℕ}
use Rattle.is_rules.proofs.evicting.evict_each_by_kind.Given as goal

-- however it goes on from here, it goes so from the start
abbrev pub invariant-loop-counts : goal.invariant-loop-counts
invariant-loop-counts l = record {
  drops : (gone : List PairRecord) (end : List PairRecord) → EvictsOfMostInTurn (kind_of l.kinds.local.now l.kinds.remote.now) l.limit gone (multiset_of l.pairs) end
      → (all : List PairRecord) × EvictsOfMostInTurn (kind_of l.kinds.local.now l.kinds.remote.now) l.limit all (multiset_of l.fn.pairs) end;
  counted : AreCounted (kind_of l.kinds.local.now l.kinds.remote.now) (multiset_of l.pairs) l.counts;
  placed : are_placed l.kinds.local.now l.kinds.remote.now (multiset_of l.pairs) ≡ true;
  below : (n : ℕ) → are_below n (multiset_of l.fn.pairs) ≡ true → are_below n (multiset_of l.pairs) ≡ true;
}

abbrev pub decreases-loop-counts : goal.decreases-loop-counts
decreases-loop-counts l = length (multiset_of l.pairs)
