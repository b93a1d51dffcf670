use Rattle.is_theorems.proofs.PathSelection.SelectedAfterResponse.{timeouts-select}
use Rattle.is_theorems.proofs.selecting.timeouts_select.Goals as goal

pub returns : goal.returns
returns g c = timeouts-select _ _
