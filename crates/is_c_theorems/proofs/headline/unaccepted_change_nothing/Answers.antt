use Rattle.is_c_theorems.proofs.AlongExecutions.{unaccepted}
use Rattle.is_c_theorems.proofs.headline.unaccepted_change_nothing.Goals as goal

pub returns : goal.returns
returns c = unaccepted
