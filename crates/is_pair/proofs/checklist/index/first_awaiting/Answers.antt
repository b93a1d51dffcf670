use Rattle.is_pair.proofs.Common.{find_from_yields_List, names_passing, rules, tests, YieldsList-from_slice}
use Rattle.is_pair.proofs.checklist.index.first_awaiting.Goals as goal

pub returns : goal.returns
returns g c =
    let found = find_from_yields_List (names_passing c.args.id.0 (g.T.PairTest.passes c.args.test.now) c.args.pairs.now) _ _ c.find.result c.find.ensures.ran (YieldsList-from_slice c.args.index.now (search rules)) (λ x b q k. search (rules, tests)) in
    search rules
