use Rattle.is_rules.proofs.Common.{◌+◌, ◌∙◌, ap, drop, first_after, List, None, Option, option_copied, PairRecord, sym}
use Rattle.is_rules.proofs.PairLists.VisitedPairs.{left-more}
use Rattle.is_rules.proofs.nomination.followed_by_number.Goals as goal

pub loop-pair-init : goal.loop-pair-init
loop-pair-init c = ap (λ (ps : List PairRecord). first_after c.args.controlling c.args.selected None ps) c.as_slice-pair-items.ensures

pub loop-pair-preserved : goal.loop-pair-preserved
loop-pair-preserved c =
    let items = c.as_slice-pair-items.result.now in
    let i = c.loop-pair.pair-index in
    let more = left-more items i c.pair-item.result c.loop-pair-test.true c.pair-item.is in
    ap (λ (o : Option PairRecord). first_after c.args.controlling c.args.selected o (drop (i + 1) items)) c.first_with-first.ensures
    ∙ sym (ap (λ (ps : List PairRecord). first_after c.args.controlling c.args.selected (option_copied c.loop-pair.first) ps) more)
    ∙ c.loop-pair.invariant
