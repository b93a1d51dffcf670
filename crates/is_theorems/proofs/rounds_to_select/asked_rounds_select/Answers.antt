use Rattle.is_theorems.proofs.PollingRounds.DuePairsInLogs.{asked-rounds-select}
use Rattle.is_theorems.proofs.rounds_to_select.asked_rounds_select.Goals as goal

pub returns : goal.returns
returns g c = asked-rounds-select _ _
