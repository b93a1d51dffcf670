use Rattle.is_c_theorems.proofs.AlongExecutions.{alive}
use Rattle.is_c_theorems.proofs.executions.connected_are_alive.Goals as goal

pub returns : goal.returns
returns c = alive c.settings_are_set.ensures c.connected_are_answered.ensures
