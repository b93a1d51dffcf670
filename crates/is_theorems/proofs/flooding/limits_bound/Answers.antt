use Rattle.is_theorems.proofs.StorageBounds.ListsInExecutions.{limits_bound}
use Rattle.is_theorems.proofs.flooding.limits_bound.Goals as goal

pub returns : goal.returns
returns g c = limits_bound _ _
