use Rattle.is_theorems.proofs.PunctualTimeouts.ChecksInTime.{executions-reach-in-time}
use Rattle.is_theorems.proofs.timing.executions_reach_in_time.Goals as goal

pub returns : goal.returns
returns g c = executions-reach-in-time _ _ c.executions_reach_from_due.ensures
