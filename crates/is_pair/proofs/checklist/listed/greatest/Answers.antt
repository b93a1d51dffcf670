use Rattle.is_pair.proofs.Common.{[], ◌∷◌, drop_all}
use Rattle.is_pair.proofs.PriorityOrder.VisitedGreatest.{visited-all, visited-more, visited-none}
use Rattle.is_pair.proofs.PairEntries.VisitedPairs.{left-more}
use Rattle.is_pair.proofs.checklist.listed.greatest.Goals as goal

pub loop-pair-init : goal.loop-pair-init
loop-pair-init g c = ([], visited-none (g.T.PairTest.passes c.args.test.now) c.args.pairs.now)

pub loop-pair-preserved : goal.loop-pair-preserved
loop-pair-preserved g c =
    let so_far = c.loop-pair.invariant in
    let more = left-more c.args.pairs.now c.loop-pair.pair-index c.pair-item.result c.loop-pair-test.true c.pair-item.is in
    (c.pair-item.result ∷ so_far.0, visited-more (g.T.PairTest.passes c.args.test.now) c.args.pairs.now so_far.0 _ _ c.pair-item.result _ _ more so_far.1 (c.greater-top.ensures so_far.0 so_far.1.0))

pub returns : goal.returns
returns g c =
    let so_far = c.loop-pair.invariant in
    let none = drop_all c.loop-pair.pair-index c.args.pairs.now c.loop-pair-test.false in
    visited-all (g.T.PairTest.passes c.args.test.now) c.args.pairs.now so_far.0 _ _ none so_far.1
