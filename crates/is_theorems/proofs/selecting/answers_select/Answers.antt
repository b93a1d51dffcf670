use Rattle.is_theorems.proofs.PathSelection.SelectedAfterResponse.{answers-select}
use Rattle.is_theorems.proofs.selecting.answers_select.Goals as goal

pub returns : goal.returns
returns g c = answers-select _ _
