use Rattle.is_theorems.proofs.ExecutionLogs.LogSegments.{cycles-are-of-use}
use Rattle.is_theorems.proofs.starving.cycles_are_of_use.Goals as goal

pub returns : goal.returns
returns g c = cycles-are-of-use _ _
