use Rattle.is_c_theorems.proofs.SettledRoles.{stay_opposite}
use Rattle.is_c_theorems.proofs.two_agents.roles_stay_opposite.Goals as goal

pub returns : goal.returns
returns c = stay_opposite c.path_effect.ensures c.trade_effect.ensures c.fresh_is_sound.ensures c.all_settings_are_set_in_turn.ensures
