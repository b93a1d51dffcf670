use Rattle.std.proofs.Common.{refl, arith}
use Rattle.is_pair.specs.Checklists.{multiset_of}
use Rattle.is_agent.specs.View.{record_of}
use Rattle.is_rules.specs.Forming.{FormsEach, formed_as, sides_of, formed_of}
use Rattle.is_agent.proofs.AgentParts.PairCounts.{formed-more}
use Rattle.is_agent.proofs.agent.Agent.form.Goals as goal

pub returns-clause-formed : goal.returns-clause-formed
returns-clause-formed g c =
    let self = c.args.self.now in
    let after = formed_as (multiset_of c.form_each.new.pairs) c.form_each.new.next_number in
    let forms : FormsEach (sides_of (record_of self)) self.max_pairs c.args.all.now (formed_of (record_of self)) after = rw (c.deref.ensures.value, c.deref-2.ensures.value, c.is_modern.ensures) at c.form_each.ensures.forms in
    (after, forms, refl)

pub invariant_of-self-clause-room_suffices : goal.invariant_of-self-clause-room_suffices
invariant_of-self-clause-room_suffices g c =
    let self = c.args.self.now in
    let after = formed_as (multiset_of c.form_each.new.pairs) c.form_each.new.next_number in
    let forms : FormsEach (sides_of (record_of self)) self.max_pairs c.args.all.now (formed_of (record_of self)) after = rw (c.deref.ensures.value, c.deref-2.ensures.value, c.is_modern.ensures) at c.form_each.ensures.forms in
    omega (arith, formed-more (sides_of (record_of self)) self.max_pairs c.args.all.now (formed_of (record_of self)) after forms, c.requires.room.1)

pub invariant_of-self-clause-placed : goal.invariant_of-self-clause-placed
invariant_of-self-clause-placed g c = rw (c.deref.ensures.value, c.deref-2.ensures.value) at c.form_each.ensures.placed
