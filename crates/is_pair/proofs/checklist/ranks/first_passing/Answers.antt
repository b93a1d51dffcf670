use Rattle.std.proofs.lemmas.Iterator.Adapters.{YieldsList-from_rev_slice}
use Rattle.is_pair.proofs.Common.{find_from_yields_List, has_passing, rules, tests}
use Rattle.is_pair.proofs.checklist.ranks.first_passing.Goals as goal

pub returns : goal.returns
returns g c =
    let found = find_from_yields_List (has_passing (g.T.PairTest.passes c.args.test.now) c.args.pairs.now) _ _ c.find.result c.find.ensures.ran (YieldsList-from_rev_slice c.args.ranks.now (search rules)) (λ x b q k. search (rules, tests)) in
    search rules
