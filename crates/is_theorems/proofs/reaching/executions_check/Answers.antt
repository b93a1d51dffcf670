use Rattle.is_theorems.proofs.PollingRounds.DuePairsPerAgent.{executions-check}
use Rattle.is_theorems.proofs.reaching.executions_check.Goals as goal

pub returns : goal.returns
returns g c = executions-check g.H.Sha1HmacProvider.mac g.P.LocalPreference.answers
