use Rattle.is_rules.proofs.PollsAndResponses.CalmTimeouts.{nominations-sent}
use Rattle.is_rules.proofs.theorems.nominations_are_sent.Goals as goal

pub returns : goal.returns
returns g c = nominations-sent g.H.Sha1HmacProvider.mac
