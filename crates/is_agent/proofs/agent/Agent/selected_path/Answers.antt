use Rattle.is_pair.specs.Checklists.{multiset_of}
use Rattle.is_rules.proofs.PairLists.PairsInLists.{in-lists}
use Rattle.is_agent.proofs.AgentParts.DuePairsAfterRemoval.{selected-has}
use Rattle.is_agent.proofs.agent.Agent.selected_path.Goals as goal

pub path_of-requires-clause-local : goal.path_of-requires-clause-local
path_of-requires-clause-local g c =
    let self = c.args.self.now in let pairs = multiset_of self.pairs in
    (in-lists self.local.items self.remote.items pairs c.in-Some.pair.now self.placed (selected-has self.selected_pair pairs c.in-Some.pair.now c.in-Some.ensures)).0

pub path_of-requires-clause-remote : goal.path_of-requires-clause-remote
path_of-requires-clause-remote g c =
    let self = c.args.self.now in let pairs = multiset_of self.pairs in
    (in-lists self.local.items self.remote.items pairs c.in-Some.pair.now self.placed (selected-has self.selected_pair pairs c.in-Some.pair.now c.in-Some.ensures)).1
