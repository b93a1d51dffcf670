use Rattle.is_theorems.proofs.PathSelection.NominatedByPeer.{asked-are-selected_paths}
use Rattle.is_theorems.proofs.selecting.asked_are_selected.Goals as goal

pub returns : goal.returns
returns g c = asked-are-selected_paths _ _
