use Rattle.is_pair.proofs.Common.{[], ◌∷◌, drop_all}
use Rattle.is_pair.proofs.DueTimes.FirstDuePair.{seen-all, seen-more, seen-none}
use Rattle.is_pair.proofs.PairEntries.VisitedPairs.{left-more}
use Rattle.is_pair.proofs.checklist.listed.earliest.Goals as goal

pub loop-pair-init : goal.loop-pair-init
loop-pair-init c = ([], seen-none c.args.now.0 c.args.timing.now c.args.pairs.now)

pub loop-pair-preserved : goal.loop-pair-preserved
loop-pair-preserved c =
    let so_far = c.loop-pair.invariant in
    let more = left-more c.args.pairs.now c.loop-pair.pair-index c.pair-item.result c.loop-pair-test.true c.pair-item.is in
    (c.pair-item.result ∷ so_far.0, seen-more c.args.now.0 c.args.timing.now c.args.pairs.now so_far.0 _ _ c.pair-item.result _ _ more so_far.1 (c.earlier-first.ensures so_far.0 so_far.1.0))

pub returns : goal.returns
returns c =
    let so_far = c.loop-pair.invariant in
    let none = drop_all c.loop-pair.pair-index c.args.pairs.now c.loop-pair-test.false in
    seen-all c.args.now.0 c.args.timing.now c.args.pairs.now so_far.0 _ _ none so_far.1
