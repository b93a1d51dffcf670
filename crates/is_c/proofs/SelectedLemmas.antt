-- The pair that was selected last, looked for among the pairs, one after the other.
use Rattle.std.proofs.Common.{◌≡◌, ℕ, suc, ◌+◌, ◌==◌, false, true, List, ◌∷◌, drop, get_or, Option, Some, None, slice_get, refl, ap, sym, ◌∙◌, arith}
use Rattle.std.specs.List.{find}
use Rattle.std.proofs.Math.Seq.{drop-cons}
use Rattle.std.proofs.lemmas.Bool.{eqb-true, eqb-false, eq-eqb, ne_eqb, cond-true, cond-false}
use Rattle.std.proofs.lemmas.Option.{slice_get_within, get_or_from_slice_get}
use Rattle.is_pair.specs.Multiset.{is_numbered, is_named_by}
use Rattle.is_pair.specs.Pairs.{PairRecord}
use Rattle.is_rules.specs.Nominating.{pair_selected}

-- ---- the first pair of a list

named : (number : Option ℕ) (p : PairRecord) (ps : List PairRecord) → is_named_by number p ≡ true → pair_selected number (p ∷ ps) ≡ Some p
named None p ps is = let isnt : false ≡ true = is in absurd (cc)
named (Some n) p ps is =
    cond-true (p.number == n) (Some p) (find (is_numbered n) ps) (eq-eqb p.number n (sym (eqb-true n p.number is)))

other : (number : Option ℕ) (p : PairRecord) (ps : List PairRecord) → is_named_by number p ≡ false
    → pair_selected number (p ∷ ps) ≡ pair_selected number ps
other None p ps isnt = refl
other (Some n) p ps isnt =
    cond-false (p.number == n) (Some p) (find (is_numbered n) ps) (ne_eqb p.number n (λ e. eqb-false n p.number isnt (sym e)))

-- ---- the pair at an index

from_here : (ps : List PairRecord) (i : ℕ) (p : PairRecord) → slice_get ps i ≡ Some p → drop i ps ≡ p ∷ drop (i + 1) ps
from_here ps i p e =
    let one : suc i ≡ i + 1 = omega arith in
    let all : drop i ps ≡ get_or ps i p ∷ drop (suc i) ps = drop-cons ps i p (slice_get_within ps i p e) in
    let here : get_or ps i p ≡ p = get_or_from_slice_get ps i p p e in
    all ∙ ap (λ (x : PairRecord). x ∷ drop (suc i) ps) here ∙ ap (λ (k : ℕ). p ∷ drop k ps) one

-- it is the one
pub found_here : (number : Option ℕ) (ps : List PairRecord) (i : ℕ) (p : PairRecord) → slice_get ps i ≡ Some p
    → is_named_by number p ≡ true → pair_selected number (drop i ps) ≡ Some p
found_here number ps i p e is = ap (λ (x : List PairRecord). pair_selected number x) (from_here ps i p e) ∙ named number p (drop (i + 1) ps) is

-- it is another one
pub found_later : (number : Option ℕ) (ps : List PairRecord) (i : ℕ) (p : PairRecord) → slice_get ps i ≡ Some p
    → is_named_by number p ≡ false → pair_selected number (drop (i + 1) ps) ≡ pair_selected number (drop i ps)
found_later number ps i p e isnt =
    sym (ap (λ (x : List PairRecord). pair_selected number x) (from_here ps i p e) ∙ other number p (drop (i + 1) ps) isnt)
