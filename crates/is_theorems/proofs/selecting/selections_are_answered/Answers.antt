use Rattle.is_theorems.proofs.CallEffects.PathAndTradeEffects.{path_theorem}
use Rattle.is_theorems.proofs.ExecutionLogs.SharedLogTheorems.{selections_are_answered}
use Rattle.is_theorems.proofs.selecting.selections_are_answered.Goals as goal

pub returns : goal.returns
returns g c = selections_are_answered _ _ (path_theorem _ _)
