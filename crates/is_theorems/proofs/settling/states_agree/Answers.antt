use Rattle.is_theorems.proofs.SettledStates.AgreeingStates.{states-agree}
use Rattle.is_theorems.proofs.settling.states_agree.Goals as goal

pub returns : goal.returns
returns g c = states-agree _ _
