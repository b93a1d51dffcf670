use Rattle.is_pair.proofs.Common.{◌∙◌, length, refl, slice_get_read, sym}
use Rattle.is_pair.proofs.PairEntries.PlaceOfNumber.{place-direct}
use Rattle.is_pair.proofs.checklist.listed.place_of.Goals as goal

pub returns-then-id-number-clause-place : goal.returns-then-id-number-clause-place
returns-then-id-number-clause-place c =
    let n = c.args.number in let ps = c.args.pairs.now in let i = c.place_without_gaps-place.result in
    let at = slice_get_read ps (length ps) i c.index-pairs-place.result refl c.if-place-pairs.true c.index-pairs-place.is in
    sym (place-direct n ps i c.index-pairs-place.result c.requires.rising at (sym c.id.ensures ∙ c.if-id-number.true))
