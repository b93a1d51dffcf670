use Rattle.is_pair.proofs.Common.{◌<◌, ◌≡◌, drop, keep_fewer, true, ℕ}
use Rattle.is_pair.proofs.checklist.listed.reserve_beyond_all.Given as goal

-- if the pairs that are left store fewer, all do
abbrev pub invariant-loop-pair : goal.invariant-loop-pair
invariant-loop-pair l = (m : ℕ) → l.most < m → keep_fewer l.limit m (drop l.pair-index l.pairs) ≡ true → keep_fewer l.limit m l.pairs ≡ true
