use Rattle.is_theorems.proofs.CallEffects.PathAndTradeEffects.{path_theorem}
use Rattle.is_theorems.proofs.ExecutionLogs.LogTheorems.{all_answered}
use Rattle.is_theorems.proofs.selecting.selected_are_answered.Goals as goal

pub returns : goal.returns
returns g c = all_answered _ _ (path_theorem _ _)
