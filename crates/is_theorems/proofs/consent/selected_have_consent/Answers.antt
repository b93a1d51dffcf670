use Rattle.is_theorems.proofs.ConnectedConsent.ConnectedLogs.{selected-have-consent}
use Rattle.is_theorems.proofs.consent.selected_have_consent.Goals as goal

pub returns : goal.returns
returns g c = selected-have-consent _ _ c.connected_have_consent.ensures
