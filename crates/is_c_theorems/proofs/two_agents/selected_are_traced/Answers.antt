use Rattle.is_c_theorems.proofs.TracedPaths.{selected_traced}
use Rattle.is_c_theorems.proofs.two_agents.selected_are_traced.Goals as goal

pub returns : goal.returns
returns c = selected_traced c.path_effect.ensures c.trade_effect.ensures c.fresh_is_sound.ensures c.all_settings_are_set_in_turn.ensures c.waiting_are_answered.ensures
