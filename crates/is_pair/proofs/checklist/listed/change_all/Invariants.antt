use Rattle.std.proofs.Common.{◌≡◌, ◌++◌, map, take, drop, vec_len, vec_capacity}
use Rattle.is_pair.proofs.checklist.listed.change_all.Given as goal

abbrev pub invariant-loop-place : goal.invariant-loop-place
invariant-loop-place g l = record {
  items : l.pairs.items ≡ map (g.C.PairChange.makes l.change) (take l.place l.fn.pairs.items) ++ drop l.place l.fn.pairs.items;
  len : vec_len l.pairs ≡ vec_len l.fn.pairs;
  capacity : vec_capacity l.pairs ≡ vec_capacity l.fn.pairs;
}
