-- With limits on pairs and on what packets bring, how many pairs there are.
use Rattle.is_theorems.proofs.Common.{◌*◌, ◌+◌, ◌∷◌, ◌≤◌, AgentRecord, arith, BoundsPairs, CandidateRecord, count_by, FormsFew}
use Rattle.is_theorems.proofs.Common.{gathered_count, IsFresh, IsLimited, length, List, Logged, mul-le-mul, pair_bound, Run, run_to}
use Rattle.is_theorems.proofs.Common.{signal_count, Stream, ℕ}
use Rattle.is_theorems.proofs.StorageBounds.ListsInExecutions.{within_run}
use Rattle.is_theorems.proofs.StorageBounds.BoundedLists.{is_own}
use Rattle.is_theorems.proofs.StorageBounds.PairsByCellInExecutions.{few_pairs}
use Rattle.is_theorems.proofs.ExecutionLogs.PointsOfSegments.{deeper}

module _ {H P : Type 0} (mac : H → List ℕ → List ℕ → List ℕ) (answers : P → CandidateRecord → ℕ → ℕ → Type 0) where
  pub pairs_within : (most limit : ℕ) (first : AgentRecord H P) (s : Stream) (log : List (Logged P)) (last : AgentRecord H P) (t : Stream) → IsFresh first → IsLimited mac answers most first s log
      → FormsFew mac answers limit first s log → Run mac answers first s log last t → length last.pairs ≤ pair_bound limit most (gathered_count log) (signal_count log)
  pairs_within most limit first s log last t is_fresh limited few run =
      let pairs : length last.pairs ≤ limit + count_by is_own last.local * length last.remote = few_pairs mac answers limit first s log last t is_fresh few run in
      let l = within_run mac answers most first s log last t is_fresh limited run in
      let wider : count_by is_own last.local * length last.remote ≤ gathered_count log * (most + signal_count log) = mul-le-mul l.local.own l.remote.all in
      omega (arith, pairs, wider)

  pub bounds_pairs : BoundsPairs {H = H} mac answers
  bounds_pairs first s log is_fresh most limit limited few before mid after x point =
      pairs_within most limit first s (x ∷ before) after point.following is_fresh
      (λ b m a y p. limited b m a y (deeper mac answers first s log (x ∷ before) point.rest b m y a point.split p))
      (λ b m a y p. few b m a y (deeper mac answers first s log (x ∷ before) point.rest b m y a point.split p))
      (run_to mac answers first s log before mid x after point)
