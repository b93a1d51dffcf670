use Rattle.is_theorems.proofs.CallEffects.PathAndTradeEffects.{path_theorem}
use Rattle.is_theorems.proofs.ExecutionLogs.LogTheorems.{all_scheduled}
use Rattle.is_theorems.proofs.selecting.selected_are_nominated_by_peer.Goals as goal

pub returns : goal.returns
returns g c = all_scheduled _ _ (path_theorem _ _)
