use Rattle.is_agent.proofs.AgentParts.LiveCandidates.{discards-live}
use Rattle.is_agent.proofs.agent.Agent.remote_to_discard.Goals as goal

pub returns-clause-live : goal.returns-clause-live
returns-clause-live g c = let self = c.args.self.now in rw (c.place_to_discard.ensures.place, c.deref.ensures.value) (discards-live c.is_modern.result c.args.candidate.now self.remote.items)
