use Rattle.is_stun.proofs.WrittenMessages.LengthsOfMessages.{reply_takes, reply_fits, conflict_takes}
use Rattle.is_stun.proofs.theorems.replies_fit.Goals as goal

pub returns-clause-takes : goal.returns-clause-takes
returns-clause-takes c = reply_takes

pub returns-clause-fits : goal.returns-clause-fits
returns-clause-fits c = reply_fits

pub returns-clause-conflict_takes : goal.returns-clause-conflict_takes
returns-clause-conflict_takes c = conflict_takes

pub returns-clause-conflict_fits : goal.returns-clause-conflict_fits
returns-clause-conflict_fits c = λ key id. (conflict_takes key id).fits
