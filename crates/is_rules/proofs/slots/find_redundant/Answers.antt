use Rattle.is_rules.proofs.Common.{◌<◌, ◌≡◌, ap, length, multiset_of, rules, sides_view, slice_index, subst, sym}
use Rattle.is_rules.proofs.FunctionProofs.SlotsOfPairs.{none-held, only-held}
use Rattle.is_rules.proofs.slots.find_redundant.Goals as goal

pub returns-then-next-eq0 : goal.returns-then-next-eq0
returns-then-next-eq0 c =
    let held = c.args.held.now in
    let some : 0 < length held = search rules in
    none-held (sides_view c.args.sides) c.args.at held (multiset_of c.args.pairs.now) c.requires.held some
    (subst (λ k. slice_index held k ≡ 0) c.slot_of.ensures.slot c.if-next-eq0.true)

pub redundant_numbered-requires-clause-only : goal.redundant_numbered-requires-clause-only
redundant_numbered-requires-clause-only c =
    let held = c.args.held.now in
    let some : 0 < length held = search rules in
    only-held (sides_view c.args.sides) c.args.at held (multiset_of c.args.pairs.now) c.requires.held some (slice_index held c.slot_of.result)
    (ap (λ k. slice_index held k) (sym c.slot_of.ensures.slot)) c.if-next-lt-SEVERAL.true
