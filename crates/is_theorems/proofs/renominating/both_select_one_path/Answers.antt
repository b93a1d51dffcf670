use Rattle.is_theorems.proofs.RenominatedPaths.OnePathAtBothAgents.{both-select}
use Rattle.is_theorems.proofs.renominating.both_select_one_path.Goals as goal

pub returns : goal.returns
returns g c = both-select _ _ c.only_selected_are_nominated.ensures c.last_asked_are_selected.ensures
