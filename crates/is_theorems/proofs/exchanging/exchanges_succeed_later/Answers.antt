use Rattle.is_theorems.proofs.StoredPairs.TransactionsThatStay.{carried-succeed-later, exchanges-succeed-later}
use Rattle.is_theorems.proofs.exchanging.exchanges_succeed_later.Goals as goal

pub returns-clause-same : goal.returns-clause-same
returns-clause-same g c =
    exchanges-succeed-later _ _ (carried-succeed-later _ _ c.checks_are_answered.ensures.carried_served c.checks_are_answered.ensures.carried_accepted)

pub returns-clause-carried : goal.returns-clause-carried
returns-clause-carried g c = carried-succeed-later _ _ c.checks_are_answered.ensures.carried_served c.checks_are_answered.ensures.carried_accepted
