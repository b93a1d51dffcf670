use Rattle.is_turn.proofs.BeliefRuns.{fresh_held}
use Rattle.is_turn.proofs.theorems.belief_is_below_truth.Goals as goal

pub returns : goal.returns
returns c = fresh_held
