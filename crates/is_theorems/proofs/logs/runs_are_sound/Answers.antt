use Rattle.is_theorems.proofs.CallEffects.PathAndTradeEffects.{path_theorem}
use Rattle.is_theorems.proofs.ExecutionLogs.LogTheorems.{runs_sound}
use Rattle.is_theorems.proofs.logs.runs_are_sound.Goals as goal

pub returns : goal.returns
returns g c = runs_sound _ _ (path_theorem _ _)
