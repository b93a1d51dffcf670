use Rattle.is_theorems.proofs.ConnectedConsent.LeftPaths.{leaves-in-time}
use Rattle.is_theorems.proofs.consent.leaves_in_time.Goals as goal

pub returns : goal.returns
returns g c = leaves-in-time _ _
