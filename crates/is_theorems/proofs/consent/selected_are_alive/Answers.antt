use Rattle.is_theorems.proofs.ConnectedConsent.ConnectedLogs.{selected-are-alive}
use Rattle.is_theorems.proofs.consent.selected_are_alive.Goals as goal

pub returns : goal.returns
returns g c = selected-are-alive _ _ c.connected_are_answered.ensures
