use Rattle.is_pair.proofs.DueTimes.CountOfDuePairs.{fewer-ahead}
use Rattle.is_pair.proofs.theorems.fewer_are_ahead.Goals as goal

pub returns : goal.returns
returns c = fewer-ahead
