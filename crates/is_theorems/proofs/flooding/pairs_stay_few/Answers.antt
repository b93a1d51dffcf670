use Rattle.is_theorems.proofs.ExecutionLogs.SharedRandomSource.{pairs_stay_few}
use Rattle.is_theorems.proofs.flooding.pairs_stay_few.Goals as goal

pub returns : goal.returns
returns g c = pairs_stay_few _ _
