use Rattle.is_c_theorems.proofs.SettledRoles.{lesser_switches}
use Rattle.is_c_theorems.proofs.two_agents.lesser_switches_once.Goals as goal

pub returns : goal.returns
returns c = lesser_switches c.path_effect.ensures c.trade_effect.ensures c.fresh_is_sound.ensures c.all_settings_are_set_in_turn.ensures
