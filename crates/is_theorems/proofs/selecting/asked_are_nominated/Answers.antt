use Rattle.is_theorems.proofs.CallEffects.PathAndTradeEffects.{path_theorem}
use Rattle.is_theorems.proofs.ExecutionLogs.LogTheorems.{asked_are_nominated}
use Rattle.is_theorems.proofs.selecting.asked_are_nominated.Goals as goal

pub returns : goal.returns
returns g c = asked_are_nominated _ _ (path_theorem _ _)
