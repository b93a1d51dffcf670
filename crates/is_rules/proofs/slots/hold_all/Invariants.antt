use Rattle.is_rules.proofs.Common.{◌<◌, ◌≡◌, ◌⊎◌, are_placed, drop, Has, IsHeld, length, multiset_of, PairRecord, sides_view, slot_of, true}
use Rattle.is_rules.proofs.slots.hold_all.Given as goal

-- each pair is still to come, or its slot holds it
abbrev pub invariant-loop-pair : goal.invariant-loop-pair
invariant-loop-pair l = record {
  held : (p : PairRecord) → Has (multiset_of l.pairs) p → Has (drop l.pair-index l.pair-items) p
      ⊎ (0 < length l.held → IsHeld l.held (slot_of (sides_view l.sides) (length l.held) (p.local, p.remote)) p.number);
  placed : are_placed l.sides.local.now l.sides.remote.now (drop l.pair-index l.pair-items) ≡ true;
}
