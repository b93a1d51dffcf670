use Rattle.is_theorems.proofs.MatchingPaths.PairsOfTwoAgents as lemmas
use Rattle.is_theorems.proofs.matching.disputes_split.Goals as goal

pub returns : goal.returns
returns g c = lemmas.disputes_split _ _
