use Rattle.is_pair.proofs.Common.{◌∙◌, ◌≡◌, arith, pair_numbered, rules, slice_get, slice_get_read, Some, sym}
use Rattle.is_pair.proofs.PairEntries.ChangedEntry.{found-number, unwritten, writes}
use Rattle.is_pair.proofs.PairEntries.PlaceOfNumber.{place-found, place-none}
use Rattle.is_pair.proofs.checklist.listed.change.Goals as goal

pub returns-in-Some-clause-changed : goal.returns-in-Some-clause-changed
returns-in-Some-clause-changed g c =
    let ps = c.args.pairs.now.items in
    let p = c.index_mut.result.now in
    let at : slice_get ps c.in-Some.place ≡ Some p = slice_get_read _ _ _ _ c.args.pairs.now.ok.0 (omega (arith, c.in-Some.ensures.within, c.deref.ensures.len)) c.index_mut.ensures.value in
    let found : pair_numbered c.args.number ps ≡ Some p = place-found c.args.number ps c.in-Some.place (search rules) ∙ at in
    writes c.args.number (g.C.PairChange.makes c.args.change.now) ps c.in-Some.place p c.change.new.pair c.requires.rising at (found-number c.args.number ps p found) c.change.ensures

pub returns-in_default-clause-changed : goal.returns-in_default-clause-changed
returns-in_default-clause-changed g c =
    let ps = c.args.pairs.now.items in
    sym (unwritten c.args.number (g.C.PairChange.makes c.args.change.now) ps (place-none c.args.number ps (search rules)))
