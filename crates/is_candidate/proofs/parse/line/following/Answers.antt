use Rattle.is_candidate.proofs.Common.{◌-◌, ◌∙◌, ◌≡◌, ap, arith, drop, drop-map, drop_min, length, length-drop, List, min, sym, take}
use Rattle.is_candidate.proofs.Common.{take_all, texts, ℕ}
use Rattle.is_candidate.proofs.parse.line.following.Goals as goal

whole-rest : {X : Type 0} (xs : List X) (n : ℕ) → take (length xs - n) (drop n xs) ≡ drop n xs
whole-rest xs n = take_all (length xs - n) (drop n xs) (omega (arith, length-drop n xs))

pub returns : goal.returns
returns c =
    rw c.min.ensures
    (ap texts (whole-rest c.args.words.now (min c.args.count (length c.args.words.now)) ∙ drop_min c.args.count c.args.words.now)
    ∙ sym (drop-map (λ w. w.now) c.args.count c.args.words.now))
