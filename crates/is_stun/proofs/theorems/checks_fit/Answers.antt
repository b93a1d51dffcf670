use Rattle.is_stun.proofs.WrittenMessages.LengthsOfMessages.{check_takes, check_fits, numbered_fits}
use Rattle.is_stun.proofs.theorems.checks_fit.Goals as goal

pub returns-clause-takes : goal.returns-clause-takes
returns-clause-takes c = check_takes

pub returns-clause-fits : goal.returns-clause-fits
returns-clause-fits c = check_fits

pub returns-clause-numbered_fits : goal.returns-clause-numbered_fits
returns-clause-numbered_fits c = numbered_fits
