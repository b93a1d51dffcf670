use Rattle.is_theorems.proofs.PunctualTimeouts.ChecksInTime.{executions-check-in-time}
use Rattle.is_theorems.proofs.timing.executions_check_in_time.Goals as goal

pub returns : goal.returns
returns g c = executions-check-in-time _ _ c.executions_check_from_due.ensures c.successes_select.ensures
