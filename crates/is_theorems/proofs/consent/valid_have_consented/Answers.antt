use Rattle.is_theorems.proofs.ConnectedConsent.AnsweredExecutions.{valid-have-consented}
use Rattle.is_theorems.proofs.consent.valid_have_consented.Goals as goal

pub returns : goal.returns
returns g c = valid-have-consented _ _
