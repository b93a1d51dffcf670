use Rattle.is_c_theorems.proofs.AlongExecutions.{answered}
use Rattle.is_c_theorems.proofs.executions.paths_are_answered.Goals as goal

pub returns : goal.returns
returns c = answered c.selections_are_answered.ensures
