use Rattle.is_theorems.proofs.ExecutionLogs.UnacceptedBytes.{unaccepted_quiet}
use Rattle.is_theorems.proofs.logs.unaccepted_change_nothing.Goals as goal

pub returns : goal.returns
returns g c = unaccepted_quiet _ _
