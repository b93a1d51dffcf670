use Rattle.is_agent.specs.View.{record_of}
use Rattle.is_agent.proofs.AgentParts.DuePairsAfterRemoval.{next-has}
use Rattle.is_agent.proofs.agent.Agent.next_number.Goals as goal

pub returns-in-Some-clause-has : goal.returns-in-Some-clause-has
returns-in-Some-clause-has g c = rw (c.id.ensures) (next-has (record_of c.args.self.now) c.args.now.0 c.in-Some.pair.now c.in-Some.ensures)
