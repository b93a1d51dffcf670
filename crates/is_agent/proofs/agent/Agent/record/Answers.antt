use Rattle.is_pair.specs.Checklists.{multiset_of}
use Rattle.is_rules.proofs.PairLists.PairsInLists.{longer}
use Rattle.is_agent.proofs.AgentParts.PairsInLists.{joined-longer, placed-answered}
use Rattle.std.proofs.Common.{◌+◌, ◌≤◌, length, arith}
use Rattle.is_agent.specs.Live.{live_count}
use Rattle.is_agent.proofs.AgentParts.LiveCandidates.{live-joined}
use Rattle.is_agent.proofs.AgentParts.PairCounts.{as-many-answered}
use Rattle.is_agent.proofs.agent.Agent.record.Goals as goal

pub invariant_of-self-clause-placed : goal.invariant_of-self-clause-placed
invariant_of-self-clause-placed g c =
    let self = c.args.self.now in let pairs = multiset_of c.record_binding_response.new.self in
    let kept = placed-answered self.local.items self.remote.items c.args.number c.args.now.0 c.args.id.0 (multiset_of self.pairs) pairs
    c.record_binding_response.ensures.answered self.placed in
    let more : length self.local.items ≤ length c.join.new.local.items = rw (c.join.ensures.items) (joined-longer c.args.mapped self.local.items) in
    longer self.local.items self.remote.items c.join.new.local.items self.remote.items pairs more (omega arith) kept

pub invariant_of-self-clause-none_too_high : goal.invariant_of-self-clause-none_too_high
invariant_of-self-clause-none_too_high g c = c.join.ensures.all_low

pub invariant_of-self-clause-room_suffices : goal.invariant_of-self-clause-room_suffices
invariant_of-self-clause-room_suffices g c =
    let self = c.args.self.now in
    let more : live_count c.join.new.local.items ≤ live_count self.local.items + 1 = rw (c.join.ensures.items) (live-joined c.args.mapped self.local.items) in
    let same = as-many-answered c.args.number c.args.now.0 c.args.id.0 (multiset_of self.pairs) _ c.record_binding_response.ensures.answered in
    omega (arith, more, same, c.requires.room.2)

pub returns-clause-pairs : goal.returns-clause-pairs
returns-clause-pairs g c = λ n room.
    let self = c.args.self.now in
    let more : live_count c.join.new.local.items ≤ live_count self.local.items + 1 = rw (c.join.ensures.items) (live-joined c.args.mapped self.local.items) in
    let same = as-many-answered c.args.number c.args.now.0 c.args.id.0 (multiset_of self.pairs) _ c.record_binding_response.ensures.answered in
    (c.record_binding_response.ensures.room n room.1, omega (arith, more, same, room.2))
