use Rattle.is_theorems.proofs.RenominatedPaths.LastNominatedPerAgent.{nominated-last}
use Rattle.is_theorems.proofs.renominating.nominated_are_last.Goals as goal

pub returns : goal.returns
returns g c = nominated-last _ _
