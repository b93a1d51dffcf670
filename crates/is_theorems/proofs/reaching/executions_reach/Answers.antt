use Rattle.is_theorems.proofs.PollingRounds.DuePairsPerAgent.{executions-reach}
use Rattle.is_theorems.proofs.reaching.executions_reach.Goals as goal

pub returns : goal.returns
returns g c = executions-reach g.H.Sha1HmacProvider.mac g.P.LocalPreference.answers
