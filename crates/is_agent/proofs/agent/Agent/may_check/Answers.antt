use Rattle.std.proofs.Common.{List, ◌≡◌, ◌||◌, ap, is_some, map, not, rules, true, length, arith}
use Rattle.std.specs.List.{list_any}
use Rattle.is_pair.specs.Pairs.{PairRecord, heard}
use Rattle.is_pair.specs.Checklists.{multiset_of}
use Rattle.is_pair.specs.Due.{scheduled, is_due}
use Rattle.is_rules.specs.Checking.{all_scheduled}
use Rattle.is_rules.specs.Due.{falls_due, may_nominate}
use Rattle.is_rules.specs.Nominating.{nominates_at_once}
use Rattle.is_agent.specs.View.{record_of}
use Rattle.is_agent.proofs.AgentParts.DuePairsAfterRemoval.{all-three, falls-scheduled, may-check, nominates-may, or-both}
use Rattle.is_agent.proofs.AgentParts.PairsInLists.{placed-scheduled, placed-heard}
use Rattle.std.proofs.lemmas.List.{length-map}
use Rattle.is_agent.proofs.agent.Agent.may_check.Goals as goal

pub check_next-requires : goal.check_next-requires
check_next-requires g c =
    let self = c.args.self.now in let now = c.args.now.0 in
    let full : not self.lite ≡ true = ap not c.if-self.false in
    let known : is_some self.remote_creds ≡ true = search rules in
    record {
      room = λ due.
          let all = all_scheduled now (record_of self) in
          let either : nominates_at_once all || list_any (is_due now self.timing) (map (scheduled now self.timing) (multiset_of self.pairs)) ≡ true = rw (c.fix_due_times.ensures.scheduled) at due in
          let before = list_any (falls_due self.controlling now self.timing) (multiset_of self.pairs) in
          let falls = or-both (nominates_at_once all) (list_any (is_due now self.timing) (map (scheduled now self.timing) (multiset_of self.pairs))) (may_nominate (record_of self)) before
          (λ h. nominates-may all h) (λ h. falls-scheduled self.controlling now self.timing (multiset_of self.pairs) h) either in
          let old = c.requires (all-three (not self.lite) (is_some self.remote_creds) (may_nominate (record_of self) || before) full known falls) in
          (old.0, c.fix_due_times.ensures.check_room _ old.1, old.2);
    }

pub returns-else-self : goal.returns-else-self
returns-else-self g c first second emitted =
    let (issued, checked, reports) = c.check_next.ensures c.in-Some.field-0 first second c.in-Some.is emitted in
    let old = record_of c.args.self.now in
    let asked = ap (λ (ps : List PairRecord). record old { pairs = ps }) c.fix_due_times.ensures.scheduled in
    let may = may-check g.H.Sha1HmacProvider.mac c.args.now.0 c.args.self.now.remote_creds c.in-Some.field-0 old _ _ _ issued _ c.in-Some.is c.if-self.false asked checked in
    (issued, may, reports)

pub invariant_of-self-clause-placed : goal.invariant_of-self-clause-placed
invariant_of-self-clause-placed g c =
    let self = c.args.self.now in
    rw (c.hear_all.ensures.heard) (placed-heard self.local.items self.remote.items c.args.now.0 (multiset_of self.pairs) self.placed)

pub invariant_of-self-in-Some-clause-placed : goal.invariant_of-self-in-Some-clause-placed
invariant_of-self-in-Some-clause-placed g c =
    let self = c.args.self.now in
    rw (c.fix_due_times.ensures.scheduled) (placed-scheduled self.local.items self.remote.items c.args.now.0 self.timing (multiset_of self.pairs) self.placed)

pub invariant_of-self-clause-room_suffices : goal.invariant_of-self-clause-room_suffices
invariant_of-self-clause-room_suffices g c = let self = c.args.self.now in omega (arith, ap length c.hear_all.ensures.heard, length-map (multiset_of self.pairs) (heard c.args.now.0), self.room_suffices)

pub invariant_of-self-in-Some-clause-room_suffices : goal.invariant_of-self-in-Some-clause-room_suffices
invariant_of-self-in-Some-clause-room_suffices g c = let self = c.args.self.now in omega (arith, ap length c.fix_due_times.ensures.scheduled, length-map (multiset_of self.pairs) (scheduled c.args.now.0 self.timing), self.room_suffices)
