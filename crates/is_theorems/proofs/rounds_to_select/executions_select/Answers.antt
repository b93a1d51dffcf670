use Rattle.is_theorems.proofs.ExecutionLogs.PerAgentExecutions.{executions-select}
use Rattle.is_theorems.proofs.rounds_to_select.executions_select.Goals as goal

pub returns : goal.returns
returns g c = executions-select g.H.Sha1HmacProvider.mac g.P.LocalPreference.answers
