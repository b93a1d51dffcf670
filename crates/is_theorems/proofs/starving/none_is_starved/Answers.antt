use Rattle.is_theorems.proofs.PollingRounds.LimitedPairsAndPackets.{none-starved}
use Rattle.is_theorems.proofs.starving.none_is_starved.Goals as goal

pub returns : goal.returns
returns g c = none-starved _ _ c.pairs_are_reached.ensures
