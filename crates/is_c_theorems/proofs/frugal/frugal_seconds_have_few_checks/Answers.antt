use Rattle.is_c_theorems.proofs.FrugalSeconds.{few_checks}
use Rattle.is_c_theorems.proofs.frugal.frugal_seconds_have_few_checks.Goals as goal

pub returns : goal.returns
returns c = few_checks c.all_settings_are_set_in_turn.ensures c.settings_are_set.ensures c.checks_are_paced.ensures.seconds
