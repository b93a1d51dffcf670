use Rattle.is_theorems.proofs.PathSelection.NominatedByPeerPerAgent.{nomination_accepted-are-selected_paths}
use Rattle.is_theorems.proofs.selecting.accepted_nominations_are_selected.Goals as goal

pub returns : goal.returns
returns g c = nomination_accepted-are-selected_paths g.H.Sha1HmacProvider.mac g.P.LocalPreference.answers
