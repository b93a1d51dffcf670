use Rattle.is_theorems.proofs.CallEffects.PathAndTradeEffects.{path_theorem}
use Rattle.is_theorems.proofs.transitions.path_effect.Goals as goal

pub returns : goal.returns
returns g c = path_theorem _ _
