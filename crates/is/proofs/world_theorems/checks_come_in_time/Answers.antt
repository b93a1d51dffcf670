use Rattle.is.proofs.SelectedPaths.ChecksInTime.{checks_in_time}
use Rattle.is.proofs.world_theorems.checks_come_in_time.Goals as goal

pub returns : goal.returns
returns g c = checks_in_time g.H.Sha1HmacProvider.mac g.P.LocalPreference.answers c.executions_reach_in_time.ensures c.served_reach_in_time.ensures
