use Rattle.is.proofs.SelectedPaths.SelectionsInTime.{selections_in_time}
use Rattle.is.proofs.world_theorems.selections_come_in_time.Goals as goal

pub returns : goal.returns
returns g c =
    selections_in_time g.H.Sha1HmacProvider.mac g.P.LocalPreference.answers c.path_effect.ensures c.fresh_is_sound.ensures c.exchanges_succeed_later.ensures.carried
    c.successes_select.ensures c.executions_select_in_time.ensures
