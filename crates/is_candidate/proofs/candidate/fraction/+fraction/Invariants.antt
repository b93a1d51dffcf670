use Rattle.is_candidate.proofs.Common.{◌++◌, ◌≡◌, Entry, items_have_float, items_view, List, members_have_float, members_view, take}
use Rattle.is_candidate.proofs.candidate.fraction.+fraction.Given as goal

abbrev pub invariant-items_hold_fraction-loop-item : goal.invariant-items_hold_fraction-loop-item
invariant-items_hold_fraction-loop-item l = l.found ≡ items_have_float (items_view (take l.item-index l.item-items))

abbrev pub invariant-members_hold_fraction-loop-key : goal.invariant-members_hold_fraction-loop-key
invariant-members_hold_fraction-loop-key l =
    (done : List Entry) × (l.members.entries ≡ done ++ l._key-iterator) × (l.found ≡ members_have_float (members_view done))
