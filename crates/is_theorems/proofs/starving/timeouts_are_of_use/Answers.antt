use Rattle.is_theorems.proofs.DuePairs.PollingCycles.{timeouts-are-of-use}
use Rattle.is_theorems.proofs.starving.timeouts_are_of_use.Goals as goal

pub returns : goal.returns
returns g c = timeouts-are-of-use _
