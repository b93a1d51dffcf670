use Rattle.is_theorems.proofs.StoredPairs.PairsThatStay.{pairs-stay}
use Rattle.is_theorems.proofs.staying.pairs_stay.Goals as goal

pub returns : goal.returns
returns g c = pairs-stay _ _
