use Rattle.is_theorems.proofs.RenominatedPaths.LastNominatedPerAgent.{last-nomination_accepted}
use Rattle.is_theorems.proofs.renominating.last_accepted_nominations_are_last.Goals as goal

pub returns : goal.returns
returns g c = last-nomination_accepted _ _
