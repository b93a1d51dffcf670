use Rattle.is_theorems.proofs.CheckExchanges.ReturnedResponses.{exchanges-succeed}
use Rattle.is_theorems.proofs.exchanging.exchanges_succeed.Goals as goal

pub returns : goal.returns
returns g c = exchanges-succeed _ _ c.checks_are_answered.ensures.served c.checks_are_answered.ensures.kept c.checks_are_answered.ensures.accepted
