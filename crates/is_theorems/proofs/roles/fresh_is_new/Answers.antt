use Rattle.is_theorems.proofs.CallEffects.ExternalViews.{fresh_new}
use Rattle.is_theorems.proofs.roles.fresh_is_new.Goals as goal

pub returns : goal.returns
returns g c = fresh_new _ (Unit {0})
