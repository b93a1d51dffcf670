use Rattle.is_theorems.proofs.ExecutionLogs.PollingOrder.{queues_theorem}
use Rattle.is_theorems.proofs.logs.queues_are_kept.Goals as goal

pub returns : goal.returns
returns g c = queues_theorem _ _
