use Rattle.is_theorems.proofs.RenominatedPaths.OnePathAtBothAgents.{last-asked-selected}
use Rattle.is_theorems.proofs.renominating.last_asked_are_selected.Goals as goal

pub returns : goal.returns
returns g c = last-asked-selected _ _
