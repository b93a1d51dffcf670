use Rattle.is_turn_progress.proofs.ReachedAllocations.{reached_in_time}
use Rattle.is_turn_progress.proofs.progress.an_allocation_is_reached.Goals as goal

pub returns : goal.returns
returns c = reached_in_time
