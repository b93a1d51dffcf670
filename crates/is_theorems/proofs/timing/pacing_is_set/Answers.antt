use Rattle.is_theorems.proofs.PunctualTimeouts.UnchangedPacing.{pacing-is-set}
use Rattle.is_theorems.proofs.timing.pacing_is_set.Goals as goal

pub returns : goal.returns
returns g c = pacing-is-set _ _
