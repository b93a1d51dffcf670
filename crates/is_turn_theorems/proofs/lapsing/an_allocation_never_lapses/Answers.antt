use Rattle.is_turn_theorems.proofs.TimelyRuns.{nothing_lapses}
use Rattle.is_turn_theorems.proofs.lapsing.an_allocation_never_lapses.Goals as goal

pub returns : goal.returns
returns c = nothing_lapses
