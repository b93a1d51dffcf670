use Rattle.is_theorems.proofs.CallEffects.KeptSettings.{settings-are-set}
use Rattle.is_theorems.proofs.transitions.settings_are_set.Goals as goal

pub returns : goal.returns
returns g c = settings-are-set _ _
