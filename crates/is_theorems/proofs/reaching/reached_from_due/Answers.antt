use Rattle.is_theorems.proofs.PollingRounds.FirstRound.{reached-from-due}
use Rattle.is_theorems.proofs.reaching.reached_from_due.Goals as goal

pub returns : goal.returns
returns g c = reached-from-due _ _
