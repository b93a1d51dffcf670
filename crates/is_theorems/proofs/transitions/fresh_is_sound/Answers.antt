use Rattle.is_theorems.proofs.CallEffects.FailedCallsAndNewAgents.{fresh_sound}
use Rattle.is_theorems.proofs.transitions.fresh_is_sound.Goals as goal

pub returns : goal.returns
returns g c = fresh_sound _ _
