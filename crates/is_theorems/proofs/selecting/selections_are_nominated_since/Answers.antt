use Rattle.is_theorems.proofs.CallEffects.PathAndTradeEffects.{path_theorem}
use Rattle.is_theorems.proofs.ExecutionLogs.NominatedSinceRestart.{selections_are_nominated_since}
use Rattle.is_theorems.proofs.selecting.selections_are_nominated_since.Goals as goal

pub returns : goal.returns
returns g c = selections_are_nominated_since _ _ (path_theorem _ _)
