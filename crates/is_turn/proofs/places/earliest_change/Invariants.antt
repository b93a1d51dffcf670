use Rattle.is_turn.proofs.Common.{◌≡◌, change_time, drop, fold, map, MAX, min}
use Rattle.is_turn.proofs.places.earliest_change.Given as goal

-- the least of what is left and of what was visited is the least of all
abbrev pub invariant-loop-lease : goal.invariant-loop-lease
invariant-loop-lease l = fold min l.first.0 (map change_time (drop l.lease-index l.leases)) ≡ fold min MAX (map change_time l.leases)
