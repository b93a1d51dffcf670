use Rattle.is_theorems.proofs.UrgentPairs.RoundsOfServedPairs.{served-are-checked-soon}
use Rattle.is_theorems.proofs.reaching.served_are_checked_soon.Goals as goal

pub returns : goal.returns
returns g c = served-are-checked-soon _ _
