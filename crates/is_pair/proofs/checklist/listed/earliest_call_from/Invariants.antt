use Rattle.is_pair.proofs.Common.{◌≡◌, call_time_of, drop, fold, map, MAX, min}
use Rattle.is_pair.proofs.checklist.listed.earliest_call_from.Given as goal

-- the least of what is left and of what was visited is the least of all
abbrev pub invariant-loop-pair : goal.invariant-loop-pair
invariant-loop-pair l =
    fold min l.first.0 (map (call_time_of l.now.0 l.timing) (drop l.pair-index l.pairs)) ≡ fold min MAX (map (call_time_of l.now.0 l.timing) l.pairs)
