use Rattle.is_pair.proofs.Common.{◌≡◌, are_below, EvictsSome, HasCheckRoom, HasRoom, length, multiset_of, removed_of, true, ℕ}
use Rattle.is_pair.proofs.checklist.Checklist.evict_each.Given as goal

abbrev pub invariant-loop-self : goal.invariant-loop-self
invariant-loop-self l = record {
  evicted : EvictsSome l.limit (multiset_of l.fn.self) (multiset_of l.self) (removed_of l.fn.self) (removed_of l.self);
  room : (n : ℕ) → HasRoom n l.fn.self → HasRoom n l.self;
  check_room : (n : ℕ) → HasCheckRoom n l.fn.self → HasCheckRoom n l.self;
  below : (n : ℕ) → are_below n (multiset_of l.fn.self) ≡ true → are_below n (multiset_of l.self) ≡ true;
}

abbrev pub decreases-loop-self : goal.decreases-loop-self
decreases-loop-self l = length (multiset_of l.self)
