use Rattle.is_theorems.proofs.ConnectedConsent.AnsweredLately.{connected-are-answered}
use Rattle.is_theorems.proofs.consent.connected_are_answered.Goals as goal

pub returns : goal.returns
returns g c = connected-are-answered _ _
