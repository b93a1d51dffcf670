use Rattle.is.proofs.steps.step.Goals as goal

pub returns-in-AddLocalCandidate-clause-did : goal.returns-in-AddLocalCandidate-clause-did
returns-in-AddLocalCandidate-clause-did g c = rw (c.in-AddLocalCandidate.is) (c.take_local.ensures.did (g.R.Rng.stream c.args.rng.now))

pub returns-in-AddRemoteCandidate-clause-did : goal.returns-in-AddRemoteCandidate-clause-did
returns-in-AddRemoteCandidate-clause-did g c = rw (c.in-AddRemoteCandidate.is) (c.take_remote.ensures.did (g.R.Rng.stream c.args.rng.now))
