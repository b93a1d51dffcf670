use Rattle.is_theorems.proofs.CallEffects.QueuedSelections.{events-are-selected}
use Rattle.is_theorems.proofs.transitions.events_are_selected.Goals as goal

pub returns : goal.returns
returns g c = events-are-selected _ _
