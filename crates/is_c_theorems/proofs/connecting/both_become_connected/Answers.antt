use Rattle.is_c_theorems.proofs.ConnectedAgents.{both_become_connected}
use Rattle.is_c_theorems.proofs.connecting.both_become_connected.Goals as goal

pub returns : goal.returns
returns c =
    both_become_connected c.all_settings_are_set_in_turn.ensures c.path_effect.ensures c.settings_are_set.ensures c.states_agree.ensures c.trade_effect.ensures
    c.macs_have_twenty_bytes.ensures c.checks_are_answered.ensures.carried_served c.checks_are_answered.ensures.carried_accepted c.checks_ask.ensures.carried
