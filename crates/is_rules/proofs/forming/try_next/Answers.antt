use Rattle.is_rules.proofs.Common.{formed_as, multiset_of, refl, sides_view}
use Rattle.is_rules.proofs.FunctionProofs.SlotsOfPairs.{next-held}
use Rattle.is_rules.proofs.forming.try_next.Goals as goal

pub returns-clause-held : goal.returns-clause-held
returns-clause-held c =
    let tries = c.try_one.ensures.tries in
    next-held (sides_view c.args.sides) c.args.held.now c.hold_at.new.held c.hold_at.ensures.len c.hold_at.ensures.others c.args.at c.args.next_number.now tries.0
    (formed_as (multiset_of c.args.pairs.now) c.args.next_number.now) (formed_as (multiset_of c.try_one.new.pairs) c.try_one.new.next_number) tries.2 refl c.requires.held c.hold_at.ensures.here
