use Rattle.is_rules.proofs.PollsAndResponses.LastTime.{calls-followed, calls-noted}
use Rattle.is_rules.proofs.theorems.calls_are_noted.Goals as goal

pub returns-clause-noted : goal.returns-clause-noted
returns-clause-noted g c = calls-noted g.H.Sha1HmacProvider.mac

pub returns-clause-followed : goal.returns-clause-followed
returns-clause-followed g c = calls-followed g.H.Sha1HmacProvider.mac
