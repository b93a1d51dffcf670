use Rattle.is_rules.proofs.Common.{◌<◌, ◌≡◌, candidate_at, length, remote_rank, slice_index, ℕ}
use Rattle.is_rules.proofs.kind_table.ranks_of.Given as goal

-- those before the place are right
abbrev pub invariant-loop-place : goal.invariant-loop-place
invariant-loop-place l = record {
  filled : (place : ℕ) → place < l.place → slice_index l.ranks place ≡ remote_rank (candidate_at l.remote place);
  long : length l.ranks ≡ 100;
}
