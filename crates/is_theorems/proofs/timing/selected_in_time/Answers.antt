use Rattle.is_theorems.proofs.PunctualTimeouts.SelectedInTimeInLogs.{selected-in-time}
use Rattle.is_theorems.proofs.timing.selected_in_time.Goals as goal

pub returns : goal.returns
returns g c = selected-in-time _ _ c.executions_select_in_time.ensures
