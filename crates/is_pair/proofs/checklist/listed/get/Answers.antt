use Rattle.is_pair.proofs.Common.{◌∙◌, length, refl, rules, slice_get_read, sym}
use Rattle.is_pair.proofs.PairEntries.PlaceOfNumber.{place-found, place-none}
use Rattle.is_pair.proofs.checklist.listed.get.Goals as goal

pub returns-in-Some-clause-found : goal.returns-in-Some-clause-found
returns-in-Some-clause-found c =
    let ps = c.args.pairs.now in
    let at = slice_get_read ps (length ps) c.in-Some.place c.index-pairs-place.result refl c.in-Some.ensures.within c.index-pairs-place.is in
    sym (place-found c.args.number ps c.in-Some.place (search rules) ∙ at)

pub returns-in-None-clause-found : goal.returns-in-None-clause-found
returns-in-None-clause-found c = sym (place-none c.args.number c.args.pairs.now (search rules))
