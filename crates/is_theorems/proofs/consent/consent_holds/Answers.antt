use Rattle.is_theorems.proofs.PunctualTimeouts.ConsentInTime.{consent-holds}
use Rattle.is_theorems.proofs.consent.consent_holds.Goals as goal

pub returns : goal.returns
returns g c = consent-holds _ _
