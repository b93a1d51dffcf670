use Rattle.is_theorems.proofs.StorageBounds.NumberOfPairs.{bounds_pairs}
use Rattle.is_theorems.proofs.StorageBounds.PairsByCellInExecutions.{limits_pairs}
use Rattle.is_theorems.proofs.flooding.limits_pairs.Goals as goal

pub returns-clause-few : goal.returns-clause-few
returns-clause-few g c = limits_pairs _ _

pub returns-clause-bounded : goal.returns-clause-bounded
returns-clause-bounded g c = bounds_pairs _ _
