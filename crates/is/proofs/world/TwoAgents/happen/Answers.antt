use Rattle.is.specs.World.{sources}
use Rattle.is.proofs.world.TwoAgents.happen.Goals as goal

pub returns-in-Stray-clause-did : goal.returns-in-Stray-clause-did
returns-in-Stray-clause-did g c = rw c.in-Stray.is (rw c.deref.ensures.value at (c.stray.ensures.did (sources (g.R.Rng.stream c.args.rng_a.now) (g.S.Rng.stream c.args.rng_b.now))))
