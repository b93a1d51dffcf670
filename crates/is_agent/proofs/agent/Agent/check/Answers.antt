use Rattle.std.proofs.Common.{rules, length, ap, arith}
use Rattle.is_pair.specs.Checklists.{multiset_of}
use Rattle.is_pair.specs.Pairs.{checked, renominated}
use Rattle.is_rules.proofs.PairLists.PairsInLists.{placed-changed}
use Rattle.is_agent.proofs.AgentParts.PairsInLists.{checked-places}
use Rattle.is_agent.proofs.AgentParts.PairCounts.{as-many-begun, as-many-changed}
use Rattle.is_agent.proofs.agent.Agent.check.Goals as goal

pub returns-clause-checked : goal.returns-clause-checked
returns-clause-checked g c peer p known numbered found drafted =
    let put = c.send.ensures.put peer p known drafted in
    let sent = c.send.ensures.sent peer p known drafted in
    let turn = c.requires.turn in
    let kind = c.next_kind_after-self.ensures c.args.now.0 p turn found in
    (c.new_attempt-id.result.0, c.new_attempt-id.ensures.drawn, put, search rules, search rules)

pub invariant_of-self-3-clause-placed : goal.invariant_of-self-3-clause-placed
invariant_of-self-3-clause-placed g c =
    let self = c.args.self.now in
    rw (c.new_attempt-id.ensures.sent)
    (placed-changed self.local.items self.remote.items c.args.number _ (multiset_of c.begin_nomination.new.pairs) (checked-places c.args.now.0 self.timing self.controlling c.new_attempt-id.result.0)
    (c.begin_nomination.ensures.placed self.local.items self.remote.items self.placed))

pub invariant_of-self-3-clause-room_suffices : goal.invariant_of-self-3-clause-room_suffices
invariant_of-self-3-clause-room_suffices g c =
    let self = c.args.self.now in
    let begun = multiset_of c.begin_nomination.new.pairs in
    let checked = as-many-changed c.args.number (checked c.args.now.0 self.timing self.controlling c.new_attempt-id.result.0) begun in
    let many = as-many-begun c.args.begins c.args.number renominated (multiset_of self.pairs) in
    omega (arith, ap length c.new_attempt-id.ensures.sent, checked, ap length c.begin_nomination.ensures.begun, many, self.room_suffices)
