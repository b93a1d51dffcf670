use Rattle.std.proofs.Common.{◌+◌, ◌<◌, ◌≤◌, length, arith, subst, sym}
use Rattle.is_pair.specs.Checklists.{multiset_of}
use Rattle.is_rules.specs.Forming.{AreIn}
use Rattle.is_rules.specs.Remote.{place_or_end}
use Rattle.is_rules.proofs.PairLists.CombinationsInLists.{their-in}
use Rattle.is_rules.proofs.PairLists.PairsInLists.{longer}
use Rattle.is_agent.proofs.AgentParts.PairsInLists.{stored-longer, place-stored}
use Rattle.is_agent.specs.Live.{live_count}
use Rattle.is_agent.proofs.AgentParts.LiveCandidates.{live-stored}
use Rattle.is_agent.proofs.agent.Agent.store_at.Goals as goal

pub invariant_of-self-clause-placed : goal.invariant_of-self-clause-placed
invariant_of-self-clause-placed g c =
    let self = c.args.self.now in
    let more : length self.remote.items ≤ length c.store.new.remote.items = rw (c.store.ensures) (stored-longer c.args.candidate c.args.place self.remote.items) in
    longer self.local.items self.remote.items self.local.items c.store.new.remote.items (multiset_of self.pairs) (omega arith) more self.placed

pub form-requires-clause-within : goal.form-requires-clause-within
form-requires-clause-within g c =
    let self = c.args.self.now in let end = place_or_end c.args.place self.remote.items in let remotes = length c.store.new.remote.items in
    let stored : end < remotes = rw (c.store.ensures) (place-stored c.args.candidate c.args.place self.remote.items c.requires.within) in
    subst (AreIn (length self.local.items) remotes) (sym c.requires.all) (their-in c.args.candidate end self.local.items remotes stored)

pub invariant_of-self-clause-room_suffices : goal.invariant_of-self-clause-room_suffices
invariant_of-self-clause-room_suffices g c =
    let self = c.args.self.now in
    let more : live_count c.store.new.remote.items ≤ live_count self.remote.items + 1 = rw (c.store.ensures) (live-stored c.args.candidate c.args.place self.remote.items) in
    omega (arith, more, c.requires.room.2)

pub form-requires-clause-room : goal.form-requires-clause-room
form-requires-clause-room g c =
    let self = c.args.self.now in
    let more : live_count c.store.new.remote.items ≤ live_count self.remote.items + 1 = rw (c.store.ensures) (live-stored c.args.candidate c.args.place self.remote.items) in
    (c.requires.room.1, omega (arith, more, c.requires.room.2))
