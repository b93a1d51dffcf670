use Rattle.is_theorems.proofs.CallEffects.FailedCallsAndNewAgents.{rejection_keeps}
use Rattle.is_theorems.proofs.transitions.rejection_keeps.Goals as goal

pub returns : goal.returns
returns g c = rejection_keeps _ _
