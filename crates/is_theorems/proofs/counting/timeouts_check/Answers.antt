use Rattle.is_theorems.proofs.CheckCounts.PacedChecks.{timeouts-check}
use Rattle.is_theorems.proofs.counting.timeouts_check.Goals as goal

pub returns : goal.returns
returns g c = timeouts-check _ _
