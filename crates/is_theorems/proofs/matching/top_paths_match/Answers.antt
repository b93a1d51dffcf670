use Rattle.is_theorems.proofs.MatchingPaths.PairsOfTwoAgents.{match}
use Rattle.is_theorems.proofs.matching.top_paths_match.Goals as goal

pub returns : goal.returns
returns g c seen a d p q p2 q2 top top2 ps qs settled = match seen a d p q p2 q2 (search top) (search top2) (search ps) (search qs) (search settled)
