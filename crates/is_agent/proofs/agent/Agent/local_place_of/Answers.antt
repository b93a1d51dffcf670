use Rattle.std.proofs.Common.{◌<◌, length, sym, subst}
use Rattle.is_pair.specs.Checklists.{multiset_of}
use Rattle.is_agent.proofs.AgentParts.PairsInLists.{numbered-in}
use Rattle.is_agent.proofs.agent.Agent.local_place_of.Goals as goal

pub returns-clause-within : goal.returns-clause-within
returns-clause-within g c =
    let self = c.args.self.now in
    subst (λ k. k < length self.local.items) (sym c.local_idx.ensures)
    (numbered-in self.local.items self.remote.items c.args.number (multiset_of self.pairs) c.in-Some.pair.now self.placed (sym c.in-Some.ensures.found)).0
