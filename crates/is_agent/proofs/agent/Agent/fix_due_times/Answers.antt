use Rattle.is_pair.specs.Checklists.{multiset_of}
use Rattle.is_agent.proofs.AgentParts.PairsInLists.{placed-scheduled}
use Rattle.std.proofs.Common.{length, ap, arith}
use Rattle.std.proofs.lemmas.List.{length-map}
use Rattle.is_pair.specs.Due.{scheduled}
use Rattle.is_agent.proofs.agent.Agent.fix_due_times.Goals as goal

pub invariant_of-self-clause-placed : goal.invariant_of-self-clause-placed
invariant_of-self-clause-placed g c =
    let self = c.args.self.now in
    rw (c.fix_due_times.ensures.scheduled) (placed-scheduled self.local.items self.remote.items c.args.last.0 self.timing (multiset_of self.pairs) self.placed)

pub invariant_of-self-clause-room_suffices : goal.invariant_of-self-clause-room_suffices
invariant_of-self-clause-room_suffices g c = let self = c.args.self.now in omega (arith, ap length c.fix_due_times.ensures.scheduled, length-map (multiset_of self.pairs) (scheduled c.args.last.0 self.timing), self.room_suffices)
