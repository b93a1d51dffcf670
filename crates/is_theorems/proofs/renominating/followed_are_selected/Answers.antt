use Rattle.is_theorems.proofs.RenominatedPaths.OnePathAtBothAgents.{followed-selected}
use Rattle.is_theorems.proofs.renominating.followed_are_selected.Goals as goal

pub returns : goal.returns
returns g c = followed-selected _ _
