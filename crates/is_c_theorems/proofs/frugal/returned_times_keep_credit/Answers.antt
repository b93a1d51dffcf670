use Rattle.is_c_theorems.proofs.CreditOfDeadlines.{returned_keep}
use Rattle.is_c_theorems.proofs.frugal.returned_times_keep_credit.Goals as goal

pub returns : goal.returns
returns c = returned_keep c.all_settings_are_set_in_turn.ensures c.settings_are_set.ensures
