use Rattle.is_rules.proofs.Common.{◌<◌, ◌≤◌, KINDS, slice_index, ℕ}
use Rattle.is_rules.proofs.evicting.most_numerous.Given as goal

abbrev pub invariant-loop-kind : goal.invariant-loop-kind
invariant-loop-kind l = record {
  within : l.most < KINDS;
  most : (kind : ℕ) → kind < l.kind → slice_index l.counts kind ≤ slice_index l.counts l.most;
}
