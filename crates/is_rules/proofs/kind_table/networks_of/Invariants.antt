use Rattle.is_rules.proofs.Common.{◌<◌, ◌≡◌, base_network, candidate_at, length, slice_index, ℕ}
use Rattle.is_rules.specs.Kinds.{UNKNOWN}
use Rattle.is_rules.proofs.kind_table.networks_of.Given as goal

-- those before the place are right
abbrev pub invariant-loop-place : goal.invariant-loop-place
invariant-loop-place l = record {
  filled : (place : ℕ) → place < l.place → slice_index l.reaches place ≡ UNKNOWN → slice_index l.networks place ≡ base_network (candidate_at l.local place);
  long : length l.networks ≡ 100;
}
