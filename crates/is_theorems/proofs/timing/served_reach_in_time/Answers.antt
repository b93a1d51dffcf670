use Rattle.is_theorems.proofs.PunctualTimeouts.ServedInTime.{served-reach-in-time}
use Rattle.is_theorems.proofs.timing.served_reach_in_time.Goals as goal

pub returns : goal.returns
returns g c = served-reach-in-time _ _ c.served_executions_reach.ensures c.rounds_come_in_time.ensures
