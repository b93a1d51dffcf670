use Rattle.is_theorems.proofs.PunctualTimeouts.ConsentInTime.{consent-ends-in-time}
use Rattle.is_theorems.proofs.consent.consent_ends_in_time.Goals as goal

pub returns : goal.returns
returns g c = consent-ends-in-time _ _
