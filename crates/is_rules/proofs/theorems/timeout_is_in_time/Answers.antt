use Rattle.is_rules.proofs.PollsAndResponses.NextTimeout.{timeouts-in-time}
use Rattle.is_rules.proofs.theorems.timeout_is_in_time.Goals as goal

pub returns : goal.returns
returns g c = timeouts-in-time
