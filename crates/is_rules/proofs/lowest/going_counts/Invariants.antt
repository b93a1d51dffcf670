use Rattle.is_rules.proofs.Common.{◌+◌, ◌<◌, ◌≡◌, are_placed, drop, filter, is_low_of_kind, kind_count, kind_of, KINDS, length, multiset_of}
use Rattle.is_rules.proofs.Common.{slice_index, true, ℕ}
use Rattle.is_rules.proofs.lowest.going_counts.Given as goal

-- the pairs so far that go and those that are left to go are all
abbrev pub invariant-loop-pair : goal.invariant-loop-pair
invariant-loop-pair l = record {
  counted : (kind : ℕ) → kind < KINDS
      → slice_index l.counts kind
      + kind_count (kind_of l.going.kinds.now.local.now l.going.kinds.now.remote.now)
      (filter (is_low_of_kind l.going.kinds.now.local.now l.going.kinds.now.remote.now l.going.last.now.priorities l.going.last.now.numbers) (drop l.pair-index l.pair-items)) kind
      ≡ kind_count (kind_of l.going.kinds.now.local.now l.going.kinds.now.remote.now)
      (filter (is_low_of_kind l.going.kinds.now.local.now l.going.kinds.now.remote.now l.going.last.now.priorities l.going.last.now.numbers) (multiset_of l.pairs)) kind;
  long : length l.counts ≡ KINDS;
  placed : are_placed l.going.kinds.now.local.now l.going.kinds.now.remote.now (drop l.pair-index l.pair-items) ≡ true;
}
