use Rattle.is_pair.specs.Checklists.{multiset_of}
use Rattle.is_rules.proofs.PairLists.PairsInLists.{longer, placed-without}
use Rattle.std.proofs.Common.{◌+◌, ◌≤◌, arith, length, ap, not}
use Rattle.is_agent.specs.Live.{live_count}
use Rattle.is_agent.proofs.AgentParts.LiveCandidates.{live-discarded, live-lost}
use Rattle.is_rules.specs.Discarding.{is_remote_at}
use Rattle.is_agent.proofs.AgentParts.PairCounts.{few-left}
use Rattle.is_agent.proofs.agent.Agent.discard_remote.Goals as goal

pub invariant_of-self-clause-placed : goal.invariant_of-self-clause-placed
invariant_of-self-clause-placed g c =
    let self = c.args.self.now in
    rw (c.remove_where.ensures.left)
    (placed-without self.local.items _ _ (multiset_of self.pairs)
    (longer self.local.items self.remote.items self.local.items _ (multiset_of self.pairs) (omega arith) (omega (arith, c.discard_at.ensures.len)) self.placed))

pub invariant_of-self-clause-room_suffices : goal.invariant_of-self-clause-room_suffices
invariant_of-self-clause-room_suffices g c =
    let self = c.args.self.now in
    let less : live_count c.discard_at.new.candidates.items ≤ live_count self.remote.items = rw (c.discard_at.ensures.items) (live-discarded self.remote.items c.args.place c.requires) in
    omega (arith, less, ap length c.remove_where.ensures.left, few-left (λ p. not (is_remote_at c.args.place p)) (multiset_of self.pairs), self.room_suffices)

pub returns-clause-room : goal.returns-clause-room
returns-clause-room g c = λ live fewer.
    let self = c.args.self.now in
    let less : live_count c.discard_at.new.candidates.items + 1 ≤ live_count self.remote.items = rw (c.discard_at.ensures.items) (live-lost self.remote.items c.args.place c.requires live) in
    omega (arith, less, fewer, self.room_suffices)
