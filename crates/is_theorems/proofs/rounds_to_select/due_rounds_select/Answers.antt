use Rattle.is_theorems.proofs.PollingRounds.AddedCandidatesInLogs.{due-rounds-select}
use Rattle.is_theorems.proofs.rounds_to_select.due_rounds_select.Goals as goal

pub returns : goal.returns
returns g c = due-rounds-select _ _
