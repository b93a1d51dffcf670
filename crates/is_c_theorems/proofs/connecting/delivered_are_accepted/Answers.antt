use Rattle.is_c_theorems.proofs.DeliveredChecks.{are_accepted}
use Rattle.is_c_theorems.proofs.connecting.delivered_are_accepted.Goals as goal

pub returns : goal.returns
returns c =
    are_accepted c.all_settings_are_set_in_turn.ensures c.path_effect.ensures c.trade_effect.ensures c.macs_have_twenty_bytes.ensures
    c.checks_are_answered.ensures.carried_served c.checks_are_answered.ensures.carried_accepted
