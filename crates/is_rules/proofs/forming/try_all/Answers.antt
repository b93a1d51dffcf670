use Rattle.std.proofs.Math.Seq.{drop-cons}
use Rattle.is_rules.proofs.Common.{◌+◌, ◌-◌, ◌<◌, ◌∷◌, ◌≡◌, arith, drop, formed_as, get_or, HasRoom, length, List, multiset_of, rules}
use Rattle.is_rules.proofs.Common.{subst, suc, ℕ}
use Rattle.is_rules.proofs.forming.try_all.Goals as goal

drop-next : {X : Type 0} (xs : List X) (i : ℕ) (d : X) → i < length xs → drop i xs ≡ get_or xs i d ∷ drop (i + 1) xs
drop-next xs i d within =
    let next : suc i ≡ i + 1 = omega arith in
    subst (λ n. drop i xs ≡ get_or xs i d ∷ drop n xs) next (drop-cons xs i d within)

pub loop-at-preserved : goal.loop-at-preserved
loop-at-preserved c =
    let all = length c.args.all.now in let i = c.loop-at.at-index in
    let within : i < all = search rules in
    let next : all - i ≡ (all - (i + 1)) + 1 = omega (arith, within) in
    let mid = formed_as (multiset_of c.try_next.new.pairs) c.try_next.new.next_number in
    record {
      goes = λ end rest. c.loop-at.invariant.goes end (rw (drop-next c.args.all.now i (0, 0) within) (mid, c.try_next.ensures.tries, rest));
      room = c.try_next.ensures.room (all - (i + 1)) (subst (λ n. HasRoom n c.loop-at.pairs) next c.loop-at.invariant.room);
      numbers = search rules;
      last = c.try_next.ensures.below;
      placed = c.try_next.ensures.placed;
      held = c.try_next.ensures.held;
    }
