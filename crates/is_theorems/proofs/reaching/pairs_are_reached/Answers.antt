use Rattle.is_theorems.proofs.PollingRounds.DuePairsInLogs.{pairs-are-reached}
use Rattle.is_theorems.proofs.reaching.pairs_are_reached.Goals as goal

pub returns : goal.returns
returns g c = pairs-are-reached _ _
