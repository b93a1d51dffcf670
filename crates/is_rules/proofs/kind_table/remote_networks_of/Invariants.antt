use Rattle.is_rules.proofs.Common.{◌<◌, ◌≡◌, own_network, candidate_at, length, slice_index, ℕ}
use Rattle.is_rules.proofs.kind_table.remote_networks_of.Given as goal

-- those before the place are right
abbrev pub invariant-loop-place : goal.invariant-loop-place
invariant-loop-place l = record {
  filled : (place : ℕ) → place < l.place → slice_index l.networks place ≡ own_network (candidate_at l.remote place);
  long : length l.networks ≡ 100;
}
