use Rattle.is_pair.proofs.Common.{◌++◌, ◌≡◌, drop, map, take, vec_capacity, vec_len, with_priority}
use Rattle.is_pair.proofs.checklist.listed.set_priorities.Given as goal

abbrev pub invariant-loop-place : goal.invariant-loop-place
invariant-loop-place g l = record {
  items : l.pairs.items ≡ map (with_priority (g.R.PairPriority.gives l.rule)) (take l.place l.fn.pairs.items) ++ drop l.place l.fn.pairs.items;
  len : vec_len l.pairs ≡ vec_len l.fn.pairs;
  capacity : vec_capacity l.pairs ≡ vec_capacity l.fn.pairs;
}
