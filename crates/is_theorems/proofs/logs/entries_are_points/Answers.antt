use Rattle.is_theorems.proofs.ExecutionLogs.LogTheorems.{entries_are_points}
use Rattle.is_theorems.proofs.logs.entries_are_points.Goals as goal

pub returns : goal.returns
returns g c = entries_are_points _ _
