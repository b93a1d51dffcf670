use Rattle.is_c_theorems.proofs.AlongExecutions.{connected_have_path}
use Rattle.is_c_theorems.proofs.executions.connected_have_path.Goals as goal

pub returns : goal.returns
returns c = connected_have_path c.settings_are_set.ensures c.states_agree.ensures
