use Rattle.std.proofs.Common.{sym}
use Rattle.is_pair.specs.Checklists.{multiset_of}
use Rattle.is_agent.proofs.AgentParts.PairsInLists.{numbered-in}
use Rattle.is_agent.proofs.agent.Agent.draft_of.Goals as goal

pub draft-requires-clause-local : goal.draft-requires-clause-local
draft-requires-clause-local g c =
    let self = c.args.self.now in
    (numbered-in self.local.items self.remote.items c.args.number (multiset_of self.pairs) c.in-Some.pair.now self.placed (sym c.in-Some.ensures.found)).0

pub draft-requires-clause-remote : goal.draft-requires-clause-remote
draft-requires-clause-remote g c =
    let self = c.args.self.now in
    (numbered-in self.local.items self.remote.items c.args.number (multiset_of self.pairs) c.in-Some.pair.now self.placed (sym c.in-Some.ensures.found)).1
