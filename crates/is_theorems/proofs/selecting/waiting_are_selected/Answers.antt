use Rattle.is_theorems.proofs.ExecutionLogs.PolledSelections.{waiting_are_selected}
use Rattle.is_theorems.proofs.selecting.waiting_are_selected.Goals as goal

pub returns : goal.returns
returns g c = waiting_are_selected _ _
