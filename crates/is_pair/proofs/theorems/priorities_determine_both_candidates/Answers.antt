use Rattle.is_pair.proofs.PriorityOrder.PairPriorities.{combined_returns}
use Rattle.is_pair.proofs.theorems.priorities_determine_both_candidates.Goals as goal

pub returns : goal.returns
returns c = combined_returns
