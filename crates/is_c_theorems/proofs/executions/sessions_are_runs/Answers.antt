use Rattle.is_c_theorems.proofs.LogsOfCalls.{sessions_are_runs}
use Rattle.is_c_theorems.proofs.executions.sessions_are_runs.Goals as goal

pub returns : goal.returns
returns c = sessions_are_runs c.all_settings_are_set_in_turn.ensures
