use Rattle.is_theorems.proofs.RenominatedPaths.GreatestNumber.{greatest-kept}
use Rattle.is_theorems.proofs.renominating.greatest_are_kept.Goals as goal

pub returns : goal.returns
returns g c = greatest-kept _ _
