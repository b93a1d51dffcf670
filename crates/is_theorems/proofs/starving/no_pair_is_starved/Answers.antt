use Rattle.is_theorems.proofs.DuePairs.PollingCycles.{no-pair-starved}
use Rattle.is_theorems.proofs.starving.no_pair_is_starved.Goals as goal

pub returns : goal.returns
returns g c = no-pair-starved _
