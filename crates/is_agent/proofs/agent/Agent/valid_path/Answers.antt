use Rattle.std.proofs.Common.{Some, ap}
use Rattle.is_pair.specs.Checklists.{multiset_of}
use Rattle.is_rules.proofs.PairLists.PairsInLists.{in-lists}
use Rattle.is_agent.proofs.agent.Agent.valid_path.Goals as goal

pub path_of-requires-clause-local : goal.path_of-requires-clause-local
path_of-requires-clause-local g c =
    let self = c.args.self.now in
    (in-lists self.local.items self.remote.items (multiset_of self.pairs) c.in-Some.pair.now self.placed c.in-Some.ensures.0).0

pub path_of-requires-clause-remote : goal.path_of-requires-clause-remote
path_of-requires-clause-remote g c =
    let self = c.args.self.now in
    (in-lists self.local.items self.remote.items (multiset_of self.pairs) c.in-Some.pair.now self.placed c.in-Some.ensures.0).1

pub returns-in-Some : goal.returns-in-Some
returns-in-Some g c = (Some c.in-Some.pair.now, c.in-Some.ensures, ap Some c.path_of.ensures)
