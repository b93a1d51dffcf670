use Rattle.std.proofs.Common.{◌||◌, is_some, not, subst, arith}
use Rattle.std.specs.List.{list_any}
use Rattle.is_pair.specs.Checklists.{multiset_of}
use Rattle.is_rules.specs.Due.{falls_due, may_nominate}
use Rattle.is_agent.specs.View.{record_of}
use Rattle.is_rules.specs.Forming.{sides_of}
use Rattle.is_rules.specs.Nominating.{Names, selection}
use Rattle.is_agent.proofs.AgentParts.DuePairsAfterRemoval.{and-third, or-second}
use Rattle.is_agent.proofs.AgentParts.PairCounts.{as-many-named}
use Rattle.is_agent.proofs.agent.Agent.evaluate_nomination.Goals as goal

pub returns-clause-nominates : goal.returns-clause-nominates
returns-clause-nominates g c =
    let self = c.args.self.now in let chosen = selection (multiset_of c.select_pair-path.new.pairs) c.select_pair-path.new.selected in
    let by_result : Names (sides_of (record_of self)) c.followed-followed.result (selection (multiset_of self.pairs) self.selected_pair) c.select_pair-path.result chosen =
    rw (c.deref.ensures.value, c.deref-2.ensures.value) at c.select_pair-path.ensures.named in
    let named = subst (λ f. Names (sides_of (record_of self)) f (selection (multiset_of self.pairs) self.selected_pair) c.select_pair-path.result chosen) c.followed-followed.ensures by_result in
    (chosen, named, c.emit_nominated.ensures.emitted)

pub returns-clause-checks : goal.returns-clause-checks
returns-clause-checks g c = λ now room.
    let self = c.args.self.now in
    c.emit_nominated.ensures.checks now (λ falls.
    let nominates = may_nominate (record_of self) in
    let before = list_any (falls_due self.controlling now self.timing) (multiset_of self.pairs) in
    let named = list_any (falls_due self.controlling now self.timing) (multiset_of c.select_pair-path.new.pairs) in
    let all = and-third (not self.lite) (is_some self.remote_creds) (nominates || before) (nominates || named)
    (or-second nominates before named (c.select_pair-path.ensures.due now self.timing)) falls in
    let old = room all in
    (old.0, c.select_pair-path.ensures.check_room _ old.1, old.2))

pub invariant_of-self-clause-room_suffices : goal.invariant_of-self-clause-room_suffices
invariant_of-self-clause-room_suffices g c =
    let self = c.args.self.now in
    let sides = sides_of (record_of self) in
    let before = selection (multiset_of self.pairs) self.selected_pair in let chosen = selection (multiset_of c.select_pair-path.new.pairs) c.select_pair-path.new.selected in
    let named : Names sides c.followed-followed.result before c.select_pair-path.result chosen = rw (c.deref.ensures.value, c.deref-2.ensures.value) at c.select_pair-path.ensures.named in
    omega (arith, as-many-named sides c.followed-followed.result before chosen c.select_pair-path.result named, self.room_suffices)

pub invariant_of-self-clause-placed : goal.invariant_of-self-clause-placed
invariant_of-self-clause-placed g c = rw (c.deref.ensures.value, c.deref-2.ensures.value) at c.select_pair-path.ensures.placed
