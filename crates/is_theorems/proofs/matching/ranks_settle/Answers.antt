use Rattle.is_theorems.proofs.MatchingPaths.PairsOfTwoAgents.{settle}
use Rattle.is_theorems.proofs.matching.ranks_settle.Goals as goal

pub returns : goal.returns
returns g c seen a d p q p2 q2 alike = settle seen a d c.priorities_are_symmetric.ensures alike p q p2 q2
