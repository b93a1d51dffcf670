use Rattle.is_theorems.proofs.RenominatedPaths.GreatestNumber.{greatest-stay}
use Rattle.is_theorems.proofs.renominating.greatest_stay.Goals as goal

pub returns : goal.returns
returns g c = greatest-stay _ _
