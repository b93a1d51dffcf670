use Rattle.is_c_theorems.proofs.SettledRoles.{greater_keeps}
use Rattle.is_c_theorems.proofs.two_agents.greater_keeps_role.Goals as goal

pub returns : goal.returns
returns c = greater_keeps c.path_effect.ensures c.trade_effect.ensures c.fresh_is_sound.ensures c.all_settings_are_set_in_turn.ensures
