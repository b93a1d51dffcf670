use Rattle.is_theorems.proofs.StoredPairs.PairsThatStay.{pairs-stay-on}
use Rattle.is_theorems.proofs.staying.pairs_stay_in_logs.Goals as goal

pub returns : goal.returns
returns g c = pairs-stay-on _ _
