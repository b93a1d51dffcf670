use Rattle.is.proofs.SelectedPaths.SelectedAfterNomination.{accepted_select}
use Rattle.is.proofs.world_theorems.accepted_nominations_select.Goals as goal

pub returns : goal.returns
returns g c =
    accepted_select g.H.Sha1HmacProvider.mac g.P.LocalPreference.answers c.path_effect.ensures c.fresh_is_sound.ensures c.checks_ask.ensures.carried
    c.exchanges_succeed_later.ensures.carried c.accepted_nominations_are_selected.ensures
