use Rattle.is_pair.specs.Checklists.{multiset_of}
use Rattle.is_agent.proofs.AgentParts.PairsInLists.{placed-undue}
use Rattle.std.proofs.Common.{length, ap, arith}
use Rattle.std.proofs.lemmas.List.{length-map}
use Rattle.is_pair.specs.Pairs.{undue}
use Rattle.is_agent.proofs.agent.Agent.set_initial_stun_rto.Goals as goal

pub invariant_of-self-clause-placed : goal.invariant_of-self-clause-placed
invariant_of-self-clause-placed g c =
    let self = c.args.self.now in
    rw (c.reset_next_binding_attempts.ensures.reset) (placed-undue self.local.items self.remote.items (multiset_of self.pairs) self.placed)

pub invariant_of-self-clause-room_suffices : goal.invariant_of-self-clause-room_suffices
invariant_of-self-clause-room_suffices g c = let self = c.args.self.now in omega (arith, ap length c.reset_next_binding_attempts.ensures.reset, length-map (multiset_of self.pairs) undue, self.room_suffices)
