use Rattle.is_c_theorems.proofs.AlongExecutions.{queues_one}
use Rattle.is_c_theorems.proofs.executions.each_queues_one.Goals as goal

pub returns : goal.returns
returns c = queues_one c.queues_are_kept.ensures
