use Rattle.is_theorems.proofs.CallEffects.PathAndTradeEffects.{path_theorem}
use Rattle.is_theorems.proofs.ExecutionLogs.LogTheorems.{replies_among}
use Rattle.is_theorems.proofs.logs.replies_are_among.Goals as goal

pub returns : goal.returns
returns g c = replies_among _ _ (path_theorem _ _)
