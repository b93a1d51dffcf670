use Rattle.is_theorems.proofs.StorageBounds.QueuesInExecutions.{queues_are_short}
use Rattle.is_theorems.proofs.flooding.queues_are_short.Goals as goal

pub returns : goal.returns
returns g c = queues_are_short _ _
