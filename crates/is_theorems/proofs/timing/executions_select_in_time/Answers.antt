use Rattle.is_theorems.proofs.PunctualTimeouts.SelectedInTime.{executions-select-in-time}
use Rattle.is_theorems.proofs.timing.executions_select_in_time.Goals as goal

pub returns : goal.returns
returns g c = executions-select-in-time _ _ c.executions_check_from_due.ensures c.executions_reach_unanswered.ensures c.executions_reach_served.ensures c.successes_select.ensures
