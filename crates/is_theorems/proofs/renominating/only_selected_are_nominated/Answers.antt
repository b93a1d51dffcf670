use Rattle.is_theorems.proofs.RenominatedPaths.OnePathAtBothAgents.{only-selected}
use Rattle.is_theorems.proofs.renominating.only_selected_are_nominated.Goals as goal

pub returns : goal.returns
returns g c = only-selected _ _
