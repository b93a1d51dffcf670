use Rattle.is_rules.proofs.Common.{◌+◌, ◌<◌, ◌≡◌, are_placed, drop, kind_count, kind_of, KINDS, length, multiset_of, slice_index, true, ℕ}
use Rattle.is_rules.proofs.evicting.kind_counts.Given as goal

-- the pairs so far and those that are left are all
abbrev pub invariant-loop-pair : goal.invariant-loop-pair
invariant-loop-pair l = record {
  counted : (kind : ℕ) → kind < KINDS
      → slice_index l.counts kind + kind_count (kind_of l.kinds.local.now l.kinds.remote.now) (drop l.pair-index l.pair-items) kind ≡ kind_count (kind_of l.kinds.local.now l.kinds.remote.now) (multiset_of l.pairs) kind;
  long : length l.counts ≡ KINDS;
  placed : are_placed l.kinds.local.now l.kinds.remote.now (drop l.pair-index l.pair-items) ≡ true;
}
