use Rattle.is_rules.proofs.PollsAndResponses.TimesWithinCredit.{timeouts-within}
use Rattle.is_rules.proofs.theorems.timeout_keeps_credit.Goals as goal

pub returns : goal.returns
returns g c = timeouts-within
