use Rattle.is_theorems.proofs.PathSelection.ReplacedPaths.{paths-are-replaced}
use Rattle.is_theorems.proofs.selecting.paths_are_replaced.Goals as goal

pub returns : goal.returns
returns g c = paths-are-replaced _ _
