use Rattle.std.proofs.Common.{sym}
use Rattle.is_pair.specs.Checklists.{multiset_of}
use Rattle.is_rules.proofs.PairLists.PairsInLists.{in-is}
use Rattle.is_agent.proofs.AgentParts.PairsInLists.{numbered-in}
use Rattle.is_agent.proofs.agent.Agent.kind_after.Goals as goal

pub kind_of-requires : goal.kind_of-requires
kind_of-requires g c =
    let self = c.args.self.now in let pair = c.in-Some.pair.now in
    let its = numbered-in self.local.items self.remote.items c.args.number (multiset_of self.pairs) pair self.placed (sym c.in-Some.ensures.found) in
    record { placed = rw (c.deref.ensures.value, c.deref-in-Some.ensures.value) (in-is self.local.items self.remote.items pair its.0 its.1) }
