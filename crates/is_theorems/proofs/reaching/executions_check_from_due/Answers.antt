use Rattle.is_theorems.proofs.PollingRounds.FirstRoundWithoutValidPair.{executions-check-from-due}
use Rattle.is_theorems.proofs.reaching.executions_check_from_due.Goals as goal

pub returns : goal.returns
returns g c = executions-check-from-due _ _ c.executions_check.ensures c.successes_select.ensures
