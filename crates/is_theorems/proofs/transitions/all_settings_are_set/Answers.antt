use Rattle.is_theorems.proofs.CallEffects.SettingsInTurn.{all-are-set}
use Rattle.is_theorems.proofs.transitions.all_settings_are_set.Goals as goal

pub returns : goal.returns
returns g c = all-are-set _ _
