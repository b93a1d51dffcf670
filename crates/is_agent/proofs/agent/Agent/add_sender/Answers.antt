use Rattle.std.proofs.Common.{◌+◌, ◌≤◌, arith, length, ap}
use Rattle.is_pair.specs.Checklists.{multiset_of}
use Rattle.is_rules.proofs.PairLists.PairsInLists.{longer}
use Rattle.is_agent.proofs.AgentParts.PairsInLists.{as-long, one-longer}
use Rattle.is_agent.specs.Live.{live_count}
use Rattle.is_agent.proofs.AgentParts.LiveCandidates.{live-appended, live-set}
use Rattle.is_agent.proofs.agent.Agent.add_sender.Goals as goal

pub invariant_of-self-clause-placed : goal.invariant_of-self-clause-placed
invariant_of-self-clause-placed g c =
    let self = c.args.self.now in
    let long = one-longer c.push_reserved.new.self.items self.remote.items c.in-Unknown-Some.sender c.push_reserved.ensures.items in
    longer self.local.items self.remote.items self.local.items c.push_reserved.new.self.items (multiset_of self.pairs) (omega arith) (omega (arith, long)) self.placed

pub invariant_of-self-in-Vacant-Some-clause-placed : goal.invariant_of-self-in-Vacant-Some-clause-placed
invariant_of-self-in-Vacant-Some-clause-placed g c =
    let self = c.args.self.now in let r = c.in-Vacant-Some.r in let sender = c.in-Vacant-Some.sender in
    let long = as-long c.put.new.list.items self.remote.items r sender c.put.ensures in
    rw (c.forget_removed.ensures.multiset)
    (longer self.local.items self.remote.items self.local.items c.put.new.list.items (multiset_of self.pairs) (omega arith) (omega (arith, long)) self.placed)

pub invariant_of-self-in-Vacant-Some-clause-numbered : goal.invariant_of-self-in-Vacant-Some-clause-numbered
invariant_of-self-in-Vacant-Some-clause-numbered g c = rw (c.forget_removed.ensures.multiset) c.args.self.now.numbered

pub invariant_of-self-clause-room_suffices : goal.invariant_of-self-clause-room_suffices
invariant_of-self-clause-room_suffices g c =
    let self = c.args.self.now in
    let more : live_count c.push_reserved.new.self.items ≤ live_count self.remote.items + 1 = rw (c.push_reserved.ensures.items) (live-appended self.remote.items c.in-Unknown-Some.sender) in
    omega (arith, more, c.requires.room.3)

pub invariant_of-self-in-Vacant-Some-clause-room_suffices : goal.invariant_of-self-in-Vacant-Some-clause-room_suffices
invariant_of-self-in-Vacant-Some-clause-room_suffices g c =
    let self = c.args.self.now in let r = c.in-Vacant-Some.r in let sender = c.in-Vacant-Some.sender in
    let more : live_count c.put.new.list.items ≤ live_count self.remote.items + 1 = rw (c.put.ensures) (live-set self.remote.items r sender) in
    omega (arith, more, ap length c.forget_removed.ensures.multiset, c.requires.room.3)

pub returns-in-Known-default-clause-pairs : goal.returns-in-Known-default-clause-pairs
returns-in-Known-default-clause-pairs g c = (c.requires.room.1, omega (arith, c.requires.room.3))

pub returns-in_default-clause-pairs : goal.returns-in_default-clause-pairs
returns-in_default-clause-pairs g c = (c.requires.room.1, omega (arith, c.requires.room.3))

pub returns-in-Unknown-Some-clause-pairs : goal.returns-in-Unknown-Some-clause-pairs
returns-in-Unknown-Some-clause-pairs g c =
    let self = c.args.self.now in
    let more : live_count c.push_reserved.new.self.items ≤ live_count self.remote.items + 1 = rw (c.push_reserved.ensures.items) (live-appended self.remote.items c.in-Unknown-Some.sender) in
    (c.requires.room.1, omega (arith, more, c.requires.room.3))

pub returns-in-Vacant-Some-clause-pairs : goal.returns-in-Vacant-Some-clause-pairs
returns-in-Vacant-Some-clause-pairs g c =
    let self = c.args.self.now in let r = c.in-Vacant-Some.r in let sender = c.in-Vacant-Some.sender in
    let more : live_count c.put.new.list.items ≤ live_count self.remote.items + 1 = rw (c.put.ensures) (live-set self.remote.items r sender) in (
      c.forget_removed.ensures.room 1 c.requires.room.1,
      omega (arith, more, ap length c.forget_removed.ensures.multiset, c.requires.room.3),
    )
