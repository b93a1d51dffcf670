use Rattle.is_theorems.proofs.UrgentPairs.ServedPairsPerAgent.{executions-reach-served}
use Rattle.is_theorems.proofs.reaching.executions_reach_served.Goals as goal

pub returns : goal.returns
returns g c = executions-reach-served _ _ c.served_are_checked_soon.ensures
