use Rattle.is_theorems.proofs.CheckExchanges.UseCandidateChecks.{carried-ask, checks-ask}
use Rattle.is_theorems.proofs.exchanging.checks_ask.Goals as goal

pub returns-clause-same : goal.returns-clause-same
returns-clause-same g c =
    checks-ask _ _ c.written_is_read.ensures c.checks_fit.ensures.numbered_fits
    (carried-ask _ _ c.written_is_read.ensures c.checks_fit.ensures.numbered_fits c.checks_are_answered.ensures.carried_served)

pub returns-clause-carried : goal.returns-clause-carried
returns-clause-carried g c = carried-ask _ _ c.written_is_read.ensures c.checks_fit.ensures.numbered_fits c.checks_are_answered.ensures.carried_served
