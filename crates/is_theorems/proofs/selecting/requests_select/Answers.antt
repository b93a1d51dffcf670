use Rattle.is_theorems.proofs.PathSelection.SelectedAtRequests.{requests_select}
use Rattle.is_theorems.proofs.selecting.requests_select.Goals as goal

pub returns : goal.returns
returns g c = requests_select _ _
