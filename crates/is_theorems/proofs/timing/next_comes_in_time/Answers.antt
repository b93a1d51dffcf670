use Rattle.is_theorems.proofs.PunctualTimeouts.ChecksInTime.{next-comes-in-time}
use Rattle.is_theorems.proofs.timing.next_comes_in_time.Goals as goal

pub returns : goal.returns
returns g c = next-comes-in-time _ _
