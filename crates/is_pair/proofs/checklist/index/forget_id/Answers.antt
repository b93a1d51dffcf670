use Rattle.is_pair.proofs.Common.{◌-◌, ◌<◌, ◌∙◌, ◌≡◌, ◌≤◌, ap, arith, drop, ids_rise, Kept, length, length-drop, List, rules, subst, sym}
use Rattle.is_pair.proofs.Common.{take, ℕ}
use Rattle.is_pair.proofs.ChecklistIndex.IndexAfterCut.{filter-around}
use Rattle.is_pair.proofs.ChecklistIndex.SortedById.{IsEnd, IsPoint, from-here, rising-drop}
use Rattle.is_pair.proofs.checklist.index.forget_id.Goals as goal

pub count_through-requires : goal.count_through-requires
count_through-requires c =
    let xs = c.deref-2.result.now in let from = c.count_before-place.result in
    record { rising = ap ids_rise (from-here from xs) ∙ rising-drop from xs (ap ids_rise c.deref-2.ensures.value ∙ c.requires.rising) }

pub returns-then-count_through-eq1-clause-items : goal.returns-then-count_through-eq1-clause-items
returns-then-count_through-eq1-clause-items c =
    let items = c.args.index.now.items in let xs = c.deref-2.result.now in let from = c.count_before-place.result in let id = c.args.id.0 in
    let following = take (length xs - from) (drop from xs) in
    let one : c.count_through.result ≡ 1 = search rules in
    let same : following ≡ drop from items = from-here from xs ∙ ap (drop from) c.deref-2.ensures.value in
    let point : IsPoint id items from = subst (λ (ks : List Kept). IsPoint id ks from) c.deref.ensures.value c.count_before-place.ensures.point in
    let end : IsEnd id (drop from items) 1 = subst (λ (ks : List Kept). IsEnd id ks 1) same (subst (λ (n : ℕ). IsEnd id following n) one c.count_through.ensures.point) in
    let some : c.count_through.result ≤ length (drop from items) = subst (λ (ks : List Kept). c.count_through.result ≤ length ks) same c.count_through.ensures.within in
    let left = length-drop from items in
    let within : from < length items = omega (arith, some, one, left) in
    let d : Kept = record { id = c.args.id; number = 0 } in
    c.forget_at.ensures.items d ∙ sym (filter-around id c.args.pair.now items from d within c.requires.left point end)
