use Rattle.is_theorems.proofs.RenominatedPaths.GreatestNumber.{greatest-last}
use Rattle.is_theorems.proofs.renominating.greatest_are_last.Goals as goal

pub returns : goal.returns
returns g c = greatest-last _ _
