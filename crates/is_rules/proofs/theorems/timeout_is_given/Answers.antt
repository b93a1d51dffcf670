use Rattle.is_rules.proofs.PollsAndResponses.NextTimeout.{timeouts-given}
use Rattle.is_rules.proofs.theorems.timeout_is_given.Goals as goal

pub returns : goal.returns
returns g c = timeouts-given
