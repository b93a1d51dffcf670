use Rattle.is_theorems.proofs.PathSelection.SelectedInCall.{completed-nominations-are-selected}
use Rattle.is_theorems.proofs.selecting.completed_nominations_are_selected.Goals as goal

pub returns : goal.returns
returns g c = completed-nominations-are-selected _ _
