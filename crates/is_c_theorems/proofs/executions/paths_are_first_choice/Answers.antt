use Rattle.is_c_theorems.proofs.AlongExecutions.{first_choice}
use Rattle.is_c_theorems.proofs.executions.paths_are_first_choice.Goals as goal

pub returns : goal.returns
returns c = first_choice c.selections_are_top.ensures
