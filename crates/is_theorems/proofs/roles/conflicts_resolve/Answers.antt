use Rattle.is_theorems.proofs.CheckExchanges.RoleConflicts.{carried-settle, conflicts-settle}
use Rattle.is_theorems.proofs.roles.conflicts_resolve.Goals as goal

pub returns-clause-same : goal.returns-clause-same
returns-clause-same g c =
    conflicts-settle _ _ c.written_is_read.ensures c.replies_fit.ensures.conflict_fits c.checks_fit.ensures.numbered_fits c.checks_are_answered.ensures.kept

pub returns-clause-carried : goal.returns-clause-carried
returns-clause-carried g c = carried-settle _ _ c.written_is_read.ensures c.replies_fit.ensures.conflict_fits c.checks_fit.ensures.numbered_fits
