use Rattle.is_theorems.proofs.UrgentPairs.RoundsOfUrgentPairs.{urgent-pairs-are-reached}
use Rattle.is_theorems.proofs.reaching.urgent_are_reached.Goals as goal

pub returns : goal.returns
returns g c = urgent-pairs-are-reached _ _
