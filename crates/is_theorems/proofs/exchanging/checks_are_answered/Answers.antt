use Rattle.is_theorems.proofs.CheckExchanges.DeliveredChecks as lemmas
use Rattle.is_theorems.proofs.StoredPairs.StoredChecks.{checks-are-kept}
use Rattle.is_theorems.proofs.exchanging.checks_are_answered.Goals as goal

pub returns-clause-served : goal.returns-clause-served
returns-clause-served g c = lemmas.checks-are-served _ _ c.written_is_read.ensures (search c.checks_fit.ensures.numbered_fits)

pub returns-clause-accepted : goal.returns-clause-accepted
returns-clause-accepted g c = lemmas.replies-are-accepted _ _ c.written_is_read.ensures c.addresses_are_written_plain.ensures c.replies_fit.ensures.fits

pub returns-clause-kept : goal.returns-clause-kept
returns-clause-kept g c = checks-are-kept _ g.P.LocalPreference.answers

pub returns-clause-carried_served : goal.returns-clause-carried_served
returns-clause-carried_served g c = lemmas.carried-are-served _ _ c.written_is_read.ensures (search c.checks_fit.ensures.numbered_fits)

pub returns-clause-carried_accepted : goal.returns-clause-carried_accepted
returns-clause-carried_accepted g c = lemmas.carried-are-accepted _ _ c.written_is_read.ensures c.addresses_are_written_plain.ensures c.replies_fit.ensures.fits
