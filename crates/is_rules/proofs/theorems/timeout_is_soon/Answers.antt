use Rattle.is_rules.proofs.PollsAndResponses.NextTimeout.{timeouts-soon}
use Rattle.is_rules.proofs.theorems.timeout_is_soon.Goals as goal

pub returns : goal.returns
returns g c = timeouts-soon
