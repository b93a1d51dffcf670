use Rattle.is_turn_progress.proofs.LittleChanges.{changes_little}
use Rattle.is_turn_progress.proofs.authentic.unauthentic_datagrams_change_little.Goals as goal

pub returns : goal.returns
returns c = changes_little
