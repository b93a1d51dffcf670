use Rattle.is_c_theorems.proofs.AlongExecutions.{bounded}
use Rattle.is_c_theorems.proofs.executions.stays_bounded.Goals as goal

pub returns : goal.returns
returns c = bounded c.settings_are_set.ensures c.lists_stay_bounded.ensures c.discoveries_stay_few.ensures c.queues_are_short.ensures
