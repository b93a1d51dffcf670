use Rattle.std.proofs.Common.{◌+◌, ◌≤◌, arith}
use Rattle.is_pair.specs.Checklists.{multiset_of}
use Rattle.is_rules.proofs.PairLists.PairsInLists.{longer}
use Rattle.is_agent.proofs.AgentParts.PairsInLists.{one-longer}
use Rattle.is_agent.specs.Live.{live_count}
use Rattle.is_agent.proofs.AgentParts.LiveCandidates.{live-appended}
use Rattle.is_agent.proofs.agent.Agent.store_local.Goals as goal

pub invariant_of-self-clause-placed : goal.invariant_of-self-clause-placed
invariant_of-self-clause-placed g c =
    let self = c.args.self.now in
    let long = one-longer c.append-place.new.local.items self.local.items c.args.own c.append-place.ensures.items in
    longer self.local.items self.remote.items c.append-place.new.local.items self.remote.items (multiset_of self.pairs) (omega (arith, long)) (omega arith) self.placed

pub invariant_of-self-clause-room_suffices : goal.invariant_of-self-clause-room_suffices
invariant_of-self-clause-room_suffices g c =
    let self = c.args.self.now in
    let more : live_count c.append-place.new.local.items ≤ live_count self.local.items + 1 = rw (c.append-place.ensures.items) (live-appended self.local.items c.args.own) in
    omega (arith, more, c.requires.room.2)

pub form-requires-clause-room : goal.form-requires-clause-room
form-requires-clause-room g c =
    let self = c.args.self.now in
    let more : live_count c.append-place.new.local.items ≤ live_count self.local.items + 1 = rw (c.append-place.ensures.items) (live-appended self.local.items c.args.own) in
    (c.requires.room.1, omega (arith, more, c.requires.room.2))
