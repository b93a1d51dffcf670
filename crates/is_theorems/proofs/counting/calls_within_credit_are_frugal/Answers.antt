use Rattle.is_theorems.proofs.CheckCounts.CallsWithinCredit.{credit-is-frugal}
use Rattle.is_theorems.proofs.counting.calls_within_credit_are_frugal.Goals as goal

pub returns : goal.returns
returns g c = credit-is-frugal _ _
