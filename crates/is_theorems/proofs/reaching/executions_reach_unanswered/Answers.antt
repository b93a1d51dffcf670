use Rattle.is_theorems.proofs.PollingRounds.AddedCandidatesPerAgent.{executions-reach-unanswered}
use Rattle.is_theorems.proofs.reaching.executions_reach_unanswered.Goals as goal

pub returns : goal.returns
returns g c = executions-reach-unanswered _ _
