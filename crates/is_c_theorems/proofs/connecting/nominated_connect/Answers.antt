use Rattle.is_c_theorems.proofs.ConnectedAgents.{nominated_connect}
use Rattle.is_c_theorems.proofs.connecting.nominated_connect.Goals as goal

pub returns : goal.returns
returns c =
    nominated_connect c.all_settings_are_set_in_turn.ensures c.path_effect.ensures c.settings_are_set.ensures c.states_agree.ensures c.trade_effect.ensures
    c.macs_have_twenty_bytes.ensures c.checks_are_answered.ensures.carried_served c.checks_are_answered.ensures.carried_accepted c.checks_ask.ensures.carried
