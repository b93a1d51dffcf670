use Rattle.is_c_theorems.proofs.CreditOfDeadlines.{deadlines_keep}
use Rattle.is_c_theorems.proofs.frugal.deadlines_keep_credit.Goals as goal

pub returns : goal.returns
returns c = deadlines_keep c.all_settings_are_set_in_turn.ensures c.settings_are_set.ensures
