use Rattle.is_rules.proofs.PollsAndResponses.NextTimeout.{timeouts-ahead}
use Rattle.is_rules.proofs.theorems.timeout_is_ahead.Goals as goal

pub returns : goal.returns
returns g c = timeouts-ahead
