use Rattle.is_theorems.proofs.CallEffects.PathAndTradeEffects.{trade_theorem}
use Rattle.is_theorems.proofs.transitions.trade_effect.Goals as goal

pub returns : goal.returns
returns g c = trade_theorem _ _
