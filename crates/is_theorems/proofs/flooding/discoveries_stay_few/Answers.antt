use Rattle.is_theorems.proofs.StorageBounds.QueuesInExecutions.{discoveries_stay_few}
use Rattle.is_theorems.proofs.flooding.discoveries_stay_few.Goals as goal

pub returns : goal.returns
returns g c = discoveries_stay_few _ _
