use Rattle.is_theorems.proofs.CheckCounts.ChecksInSecond.{seconds-have-few}
use Rattle.is_theorems.proofs.CheckCounts.PacedChecks.{checks-are-paced}
use Rattle.is_theorems.proofs.counting.checks_are_paced.Goals as goal

pub returns-clause-paced : goal.returns-clause-paced
returns-clause-paced g c = checks-are-paced _ _

pub returns-clause-seconds : goal.returns-clause-seconds
returns-clause-seconds g c = seconds-have-few _ _
