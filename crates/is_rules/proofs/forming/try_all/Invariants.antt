use Rattle.is_rules.specs.Each.{Each}
use Rattle.is_rules.proofs.Common.{◌+◌, ◌-◌, ◌≡◌, ◌≤◌, are_below, are_placed, AreHeld, drop, Formed, formed_as, HasRoom, length, MAX}
use Rattle.is_rules.proofs.Common.{multiset_of, sides_view, Tries, true}
use Rattle.is_rules.proofs.forming.try_all.Given as goal

-- however it goes on from here, it goes so from the start
abbrev pub invariant-loop-at : goal.invariant-loop-at
invariant-loop-at l = record {
  goes : (end : Formed) → Each (Tries (sides_view l.sides)) (drop l.at-index l.all) (formed_as (multiset_of l.pairs) l.next_number) end
      → Each (Tries (sides_view l.sides)) l.all (formed_as (multiset_of l.fn.pairs) l.fn.next_number) end;
  room : HasRoom (length l.all - l.at-index) l.pairs;
  numbers : l.next_number + length l.all ≤ MAX + l.at-index;
  last : are_below l.next_number (multiset_of l.pairs) ≡ true;
  placed : are_placed l.sides.local.now l.sides.remote.now (multiset_of l.pairs) ≡ true;
  held : AreHeld (sides_view l.sides) l.held (multiset_of l.pairs);
}
