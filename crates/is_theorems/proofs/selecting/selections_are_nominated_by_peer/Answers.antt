use Rattle.is_theorems.proofs.CallEffects.PathAndTradeEffects.{path_theorem}
use Rattle.is_theorems.proofs.ExecutionLogs.SharedLogTheorems.{selections_are_nominated_by_peer}
use Rattle.is_theorems.proofs.selecting.selections_are_nominated_by_peer.Goals as goal

pub returns : goal.returns
returns g c = selections_are_nominated_by_peer _ _ (path_theorem _ _)
