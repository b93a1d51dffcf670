use Rattle.is_theorems.proofs.RenominatedPaths.GreatestNumber.{greatest-selected}
use Rattle.is_theorems.proofs.renominating.greatest_are_selected.Goals as goal

pub returns : goal.returns
returns g c = greatest-selected _ _
