use Rattle.is_pair.proofs.Common.{◌-◌, ◌∙◌, ap, drop, find, ids_rise, Kept, length, list_any, names_passing, passes_at, take}
use Rattle.is_pair.proofs.ChecklistIndex.SortedById.{find-following, find-within, from-here, rising-drop}
use Rattle.is_pair.proofs.checklist.index.awaiting.Goals as goal

pub count_through-many-requires : goal.count_through-many-requires
count_through-many-requires g c =
    let from = c.count_before.result in
    record { rising = ap ids_rise (from-here from c.args.index.now) ∙ rising-drop from c.args.index.now c.requires.rising }

pub returns : goal.returns
returns g c =
    let xs = c.args.index.now in
    let from = c.count_before.result in
    let following = take (length xs - from) (drop from xs) in
    let test = λ (k : Kept). list_any (passes_at k.number (g.T.PairTest.passes c.args.test.now)) c.args.pairs.now in
    let passes = names_passing c.args.id.0 (g.T.PairTest.passes c.args.test.now) c.args.pairs.now in
    let within = find-within c.args.id.0 test following c.count_through-many.result c.count_through-many.ensures.within c.count_through-many.ensures.point in
    c.first_awaiting.ensures ∙ within ∙ ap (find passes) (from-here from xs) ∙ find-following c.args.id.0 test xs from c.count_before.ensures.within c.count_before.ensures.point
