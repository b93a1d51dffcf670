use Rattle.is_rules.proofs.Common.{◌<◌, ◌≡◌, candidate_at, length, reach_of, slice_index, ℕ}
use Rattle.is_rules.proofs.kind_table.reaches_of.Given as goal

-- those before the place are right
abbrev pub invariant-loop-place : goal.invariant-loop-place
invariant-loop-place l = record {
  filled : (place : ℕ) → place < l.place → slice_index l.reaches place ≡ reach_of l.local (candidate_at l.local place);
  long : length l.reaches ≡ 100;
}
