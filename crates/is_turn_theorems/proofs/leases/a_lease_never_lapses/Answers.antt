use Rattle.is_turn_theorems.proofs.LeaseRuns.{lease_never_lapses}
use Rattle.is_turn_theorems.proofs.leases.a_lease_never_lapses.Goals as goal

pub returns : goal.returns
returns c = lease_never_lapses
