use Rattle.is_theorems.proofs.PunctualTimeouts.ChecksInTime.{rounds-come-in-time}
use Rattle.is_theorems.proofs.timing.rounds_come_in_time.Goals as goal

pub returns : goal.returns
returns g c = rounds-come-in-time _ _
