use Rattle.is_c_theorems.proofs.AlongExecutions.{asked}
use Rattle.is_c_theorems.proofs.executions.paths_are_nominated_by_peer.Goals as goal

pub returns : goal.returns
returns c = asked c.selections_are_nominated_since.ensures
