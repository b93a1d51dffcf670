use Rattle.is.proofs.SelectedPaths.SelectedInRounds.{rounds_select}
use Rattle.is.proofs.world_theorems.delivered_rounds_select.Goals as goal

pub returns : goal.returns
returns g c =
    rounds_select g.H.Sha1HmacProvider.mac g.P.LocalPreference.answers c.path_effect.ensures c.fresh_is_sound.ensures
    c.exchanges_succeed_later.ensures.carried c.executions_check_from_due.ensures c.executions_reach_unanswered.ensures c.executions_reach_served.ensures c.successes_select.ensures
