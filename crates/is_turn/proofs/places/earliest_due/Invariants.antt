use Rattle.is_turn.proofs.Common.{◌≡◌, drop, due_of, fold, map, MAX, min}
use Rattle.is_turn.proofs.places.earliest_due.Given as goal

-- the least of what is left and of what was visited is the least of all
abbrev pub invariant-loop-lease : goal.invariant-loop-lease
invariant-loop-lease l = fold min l.first.0 (map due_of (drop l.lease-index l.leases)) ≡ fold min MAX (map due_of l.leases)
