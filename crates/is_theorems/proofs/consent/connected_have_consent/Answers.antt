use Rattle.is_theorems.proofs.ConnectedConsent.ConnectedExecutions.{connected-have-consent}
use Rattle.is_theorems.proofs.consent.connected_have_consent.Goals as goal

pub returns : goal.returns
returns g c = connected-have-consent _ _
