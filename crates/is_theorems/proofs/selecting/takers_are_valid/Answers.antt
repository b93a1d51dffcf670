use Rattle.is_theorems.proofs.CallEffects.PathAndTradeEffects.{path_theorem}
use Rattle.is_theorems.proofs.ExecutionLogs.LogTheorems.{takers_are_valid}
use Rattle.is_theorems.proofs.selecting.takers_are_valid.Goals as goal

pub returns : goal.returns
returns g c = takers_are_valid _ _ (path_theorem _ _)
