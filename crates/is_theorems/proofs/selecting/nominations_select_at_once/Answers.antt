use Rattle.is_theorems.proofs.PathSelection.SelectedAtRequests.{nominations_select_at_once}
use Rattle.is_theorems.proofs.selecting.nominations_select_at_once.Goals as goal

pub returns : goal.returns
returns g c = nominations_select_at_once _ _
