use Rattle.is_c_theorems.proofs.ConnectedAgents.{responses_connect}
use Rattle.is_c_theorems.proofs.connecting.responses_connect.Goals as goal

pub returns : goal.returns
returns c = responses_connect c.all_settings_are_set_in_turn.ensures c.path_effect.ensures c.settings_are_set.ensures c.states_agree.ensures
