use Rattle.is_theorems.proofs.UrgentPairs.ServedPairsPerAgent.{served-executions-reach}
use Rattle.is_theorems.proofs.reaching.served_executions_reach.Goals as goal

pub returns : goal.returns
returns g c = served-executions-reach _ _ c.served_are_checked_soon.ensures
