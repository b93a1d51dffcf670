use Rattle.is.proofs.SelectedPaths.NewAgentsSelect.{both_select}
use Rattle.is.proofs.world_theorems.both_select.Goals as goal

pub returns : goal.returns
returns g c =
    both_select g.H.Sha1HmacProvider.mac g.P.LocalPreference.answers c.path_effect.ensures c.role_effect.ensures c.fresh_is_sound.ensures
    c.conflicts_resolve.ensures.carried c.checks_ask.ensures.carried c.exchanges_succeed_later.ensures.carried c.accepted_nominations_are_selected.ensures
    c.executions_check_from_due.ensures c.executions_reach_from_due.ensures c.served_executions_reach.ensures c.executions_reach_unanswered.ensures c.executions_reach_served.ensures c.successes_select.ensures
