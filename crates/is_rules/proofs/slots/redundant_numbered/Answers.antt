use Rattle.is_rules.proofs.Common.{◌∙◌, is_placed, is_redundant, multiset_of, sides_view, sym}
use Rattle.is_rules.proofs.FunctionProofs.SlotsOfPairs.{found-in, one-fails, one-greatest, one-none}
use Rattle.is_rules.proofs.PairLists.PairsInLists.{all-has}
use Rattle.is_rules.proofs.slots.redundant_numbered.Goals as goal

pub returns-in-None : goal.returns-in-None
returns-in-None c =
    one-none (is_redundant (sides_view c.args.sides) c.args.at) (multiset_of c.args.pairs.now) c.args.number c.requires.rising c.requires.only (sym c.in-None.ensures.found)

pub is_redundant-requires-clause-placed : goal.is_redundant-requires-clause-placed
is_redundant-requires-clause-placed c =
    let ps = multiset_of c.args.pairs.now in
    all-has (is_placed c.args.sides.local.now c.args.sides.remote.now) ps c.in-Some.pair.now c.requires.placed (found-in c.args.number ps c.in-Some.pair.now (sym c.in-Some.ensures.found))

pub returns-then-is_redundant : goal.returns-then-is_redundant
returns-then-is_redundant c =
    let ps = multiset_of c.args.pairs.now in
    one-greatest (is_redundant (sides_view c.args.sides) c.args.at) ps c.args.number c.requires.rising c.requires.only c.in-Some.pair.now (sym c.in-Some.ensures.found)
    (found-in c.args.number ps c.in-Some.pair.now (sym c.in-Some.ensures.found)) (sym c.is_redundant.ensures ∙ c.if-is_redundant.true)

pub returns-else-is_redundant : goal.returns-else-is_redundant
returns-else-is_redundant c =
    one-fails (is_redundant (sides_view c.args.sides) c.args.at) (multiset_of c.args.pairs.now) c.args.number c.requires.rising c.requires.only c.in-Some.pair.now
    (sym c.in-Some.ensures.found) (sym c.is_redundant.ensures ∙ c.if-is_redundant.false)
