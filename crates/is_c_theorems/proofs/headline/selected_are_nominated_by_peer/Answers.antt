use Rattle.is_c_theorems.proofs.NominatedPaths.{are_nominated_by_peer}
use Rattle.is_c_theorems.proofs.headline.selected_are_nominated_by_peer.Goals as goal

pub returns : goal.returns
returns c = are_nominated_by_peer c.all_settings_are_set_in_turn.ensures c.waiting_are_nominated_since.ensures
