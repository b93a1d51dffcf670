use Rattle.is_c_theorems.proofs.SettingsOfCalls.{those_set}
use Rattle.is_c_theorems.proofs.executions.settings_are_those_set.Goals as goal

pub returns : goal.returns
returns c = those_set c.settings_are_set.ensures c.all_settings_are_set_in_turn.ensures
