use Rattle.is_pair.proofs.Common.{◌≡◌, ◌≤◌, long_count, take}
use Rattle.is_pair.proofs.checklist.records.long_before.Given as goal

abbrev pub invariant-loop-place : goal.invariant-loop-place
invariant-loop-place l = record {
  counted : l.count ≡ long_count (take l.place l.places.items);
  few : l.count ≤ l.place;
}
