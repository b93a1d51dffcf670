use Rattle.is_theorems.proofs.PollingRounds.AddedCandidatesPerAgent.{executions-reach-from-due}
use Rattle.is_theorems.proofs.reaching.executions_reach_from_due.Goals as goal

pub returns : goal.returns
returns g c = executions-reach-from-due _ _
