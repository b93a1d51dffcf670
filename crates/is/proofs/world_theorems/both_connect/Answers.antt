use Rattle.is.proofs.SelectedPaths.BothSelectInRounds.{both_connect}
use Rattle.is.proofs.world_theorems.both_connect.Goals as goal

pub returns : goal.returns
returns g c =
    both_connect g.H.Sha1HmacProvider.mac g.P.LocalPreference.answers c.path_effect.ensures c.fresh_is_sound.ensures
    c.checks_ask.ensures.carried c.exchanges_succeed_later.ensures.carried c.accepted_nominations_are_selected.ensures c.executions_reach_from_due.ensures c.served_executions_reach.ensures
