use Rattle.is_theorems.proofs.RemainingChecks.PairsThatPacketsAdd.{packets-add-few}
use Rattle.is_theorems.proofs.starving.packets_add_few.Goals as goal

pub returns : goal.returns
returns g c = packets-add-few _ _
