use Rattle.is_theorems.proofs.PollingRounds.AddedCandidatesPerAgent.{open-executions-reach}
use Rattle.is_theorems.proofs.reaching.open_executions_reach.Goals as goal

pub returns : goal.returns
returns g c = open-executions-reach _ _
