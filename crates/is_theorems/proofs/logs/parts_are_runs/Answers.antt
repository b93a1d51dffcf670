use Rattle.is_theorems.proofs.ExecutionLogs.LogSegments.{parts-are-runs}
use Rattle.is_theorems.proofs.logs.parts_are_runs.Goals as goal

pub returns : goal.returns
returns g c = parts-are-runs _ _
