use Rattle.is_c_theorems.proofs.AnsweredPaths.{are_answered}
use Rattle.is_c_theorems.proofs.headline.selected_are_answered.Goals as goal

pub returns : goal.returns
returns c = are_answered c.all_settings_are_set_in_turn.ensures c.path_effect.ensures c.fresh_is_sound.ensures c.trade_effect.ensures c.queues_are_kept.ensures c.waiting_are_answered.ensures
