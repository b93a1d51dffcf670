use Rattle.is_theorems.proofs.PollingRounds.LimitedPairs.{limits_reach}
use Rattle.is_theorems.proofs.reaching.limits_reach.Goals as goal

pub returns : goal.returns
returns g c = limits_reach _ _ c.pairs_are_reached.ensures
