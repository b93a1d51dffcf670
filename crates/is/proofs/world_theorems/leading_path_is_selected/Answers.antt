use Rattle.is.proofs.SelectedPaths.LastNominatedPath.{leading_path}
use Rattle.is.proofs.world_theorems.leading_path_is_selected.Goals as goal

pub returns : goal.returns
returns g c =
    leading_path g.H.Sha1HmacProvider.mac g.P.LocalPreference.answers c.path_effect.ensures c.fresh_is_sound.ensures c.checks_ask.ensures.carried
    c.nominated_are_last.ensures c.last_accepted_nominations_are_last.ensures c.greatest_are_last.ensures
