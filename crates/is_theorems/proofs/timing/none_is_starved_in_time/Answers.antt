use Rattle.is_theorems.proofs.PunctualTimeouts.SteadyRoundsInTime.{none-starved-in-time}
use Rattle.is_theorems.proofs.timing.none_is_starved_in_time.Goals as goal

pub returns : goal.returns
returns g c = none-starved-in-time _ _ c.reached_in_time.ensures c.rounds_come_in_time.ensures
