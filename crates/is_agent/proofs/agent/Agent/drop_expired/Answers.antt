use Rattle.std.proofs.Common.{◌||◌, is_some, not, length, ap, arith}
use Rattle.std.specs.List.{list_any}
use Rattle.is_pair.specs.Checklists.{multiset_of}
use Rattle.is_rules.specs.Due.{falls_due, may_nominate}
use Rattle.is_rules.specs.Timeouts.{is_expired}
use Rattle.is_agent.specs.View.{record_of}
use Rattle.is_agent.proofs.AgentParts.DuePairsAfterRemoval.{and-third, falls-left, or-second}
use Rattle.is_rules.proofs.PairLists.PairsInLists.{placed-without}
use Rattle.is_agent.proofs.AgentParts.PairCounts.{few-left}
use Rattle.is_agent.proofs.agent.Agent.drop_expired.Goals as goal

pub returns-clause-checks : goal.returns-clause-checks
returns-clause-checks g c = λ t room falls.
    let self = c.args.self.now in let due = falls_due self.controlling t self.timing in
    let fewer = falls-left due (is_expired c.args.now.0 (record_of self)) (multiset_of self.pairs) in
    let nominates = may_nominate (record_of self) in
    let before = and-third (not self.lite) (is_some self.remote_creds) (nominates || list_any due (multiset_of self.pairs)) (nominates || list_any due (multiset_of c.remove_where.new.self))
    (or-second nominates (list_any due (multiset_of self.pairs)) (list_any due (multiset_of c.remove_where.new.self)) (λ h. fewer (rw (c.remove_where.ensures.left) at h))) falls in
    let old = room before in
    (old.0, c.remove_where.ensures.check_room _ old.1, old.2)

pub invariant_of-self-clause-placed : goal.invariant_of-self-clause-placed
invariant_of-self-clause-placed g c =
    let self = c.args.self.now in
    rw (c.remove_where.ensures.left) (placed-without self.local.items self.remote.items _ (multiset_of self.pairs) self.placed)

pub invariant_of-self-clause-room_suffices : goal.invariant_of-self-clause-room_suffices
invariant_of-self-clause-room_suffices g c = let self = c.args.self.now in omega (arith, ap length c.remove_where.ensures.left, few-left (λ p. not (is_expired c.args.now.0 (record_of self) p)) (multiset_of self.pairs), self.room_suffices)
