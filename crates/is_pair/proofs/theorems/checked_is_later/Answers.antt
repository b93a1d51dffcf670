use Rattle.is_pair.proofs.DueTimes.LaterAfterCheck.{checked-later}
use Rattle.is_pair.proofs.theorems.checked_is_later.Goals as goal

pub returns : goal.returns
returns c = checked-later
