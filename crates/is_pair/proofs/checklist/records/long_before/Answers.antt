use Rattle.is_pair.proofs.Common.{[], ◌+◌, ◌∙◌, ◌∷◌, ap, arith, get_or, long_count, Place, rules, sym, take, take_more}
use Rattle.is_pair.proofs.ShortRecords.{count-both, long-few}
use Rattle.is_pair.proofs.checklist.records.long_before.Goals as goal

pub loop-place-preserved : goal.loop-place-preserved
loop-place-preserved c =
    let ps = c.args.places.now.items in
    let i = c.loop-place.place in
    let p = c.index.result.now in
    let more = ap long_count (take_more ps i p (search rules)) ∙ count-both (take i ps) (get_or ps i p ∷ [])
    ∙ ap (λ (q : Place). long_count (take i ps) + long_count (q ∷ [])) (sym c.index.ensures) in
    let one = long-few (p ∷ []) in
    record {
      counted = omega (arith, more, c.long_count-count.ensures, c.loop-place.invariant.counted);
      few = omega (arith, one, c.long_count-count.ensures, c.loop-place.invariant.few);
    }
