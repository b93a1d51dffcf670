use Rattle.is_theorems.proofs.MatchingPaths.PathsOfTwoAgents.{may-match}
use Rattle.is_theorems.proofs.matching.pairs_may_match.Goals as goal

pub returns : goal.returns
returns g c = may-match _ _
