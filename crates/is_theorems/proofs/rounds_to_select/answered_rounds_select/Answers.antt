use Rattle.is_theorems.proofs.PollingRounds.AnsweredRoundsInLogs.{answered-rounds-select}
use Rattle.is_theorems.proofs.rounds_to_select.answered_rounds_select.Goals as goal

pub returns : goal.returns
returns g c = answered-rounds-select _ _
