use Rattle.is_theorems.proofs.CallEffects.ExternalViews.{role_theorem}
use Rattle.is_theorems.proofs.transitions.role_effect.Goals as goal

pub returns : goal.returns
returns g c = role_theorem _ _
