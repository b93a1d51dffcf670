use Rattle.is_theorems.proofs.PunctualTimeouts.ChecksInTimeInLogs.{reached-in-time}
use Rattle.is_theorems.proofs.timing.reached_in_time.Goals as goal

pub returns : goal.returns
returns g c = reached-in-time _ _ c.executions_reach_in_time.ensures
