use Rattle.is_theorems.proofs.ExecutionLogs.SharedRandomSource.{lists_stay_bounded}
use Rattle.is_theorems.proofs.flooding.lists_stay_bounded.Goals as goal

pub returns : goal.returns
returns g c = lists_stay_bounded _ _
