-- If all pairs are of one kind, those of lowest priority are those of lowest priority of the kind with the most pairs.
use Rattle.is_rules.specs.Evicting.{AreOfOneKind}
use Rattle.is_rules.proofs.Common.{[], ◌+◌, ◌==◌, ◌∙◌, ◌∷◌, ◌≡◌, ◌≤◌, ap, arith, Bool, count_by-le-length, eq-eqb, eqb-true, Evicts}
use Rattle.is_rules.proofs.Common.{EvictsInTurn, EvictsOfMost, EvictsOfMostInTurn, false, Has, HasMost, inl, inr, is_numbered}
use Rattle.is_rules.proofs.Common.{is_of_kind, kind_count, length, List, not, one_if, PairRecord, refl, sym, true, without, ℕ}
use Rattle.is_rules.proofs.FunctionProofs.EvictedPairs.{filtered-had}
use Rattle.is_rules.proofs.PairLists.CountedPairs.{count-head}

module _ (kinds : PairRecord → ℕ) (kind : ℕ) where
  abbrev Each : List PairRecord → Type 0
  Each pairs = (p : PairRecord) → Has pairs p → kinds p ≡ kind

  each-of : (xs : List PairRecord) → kind_count kinds xs kind ≡ length xs → Each xs
  each-of [] all = λ p has. elim has [ ]
  each-of (x ∷ xs) all = by (each-of xs) (kinds x == kind) refl where
    head : kind_count kinds (x ∷ xs) kind ≡ one_if (kinds x == kind) + kind_count kinds xs kind
    head = count-head (is_of_kind kinds kind) x xs

    few : kind_count kinds xs kind ≤ length xs
    few = count_by-le-length (is_of_kind kinds kind) xs

    by : (kind_count kinds xs kind ≡ length xs → Each xs) → (b : Bool) → kinds x == kind ≡ b → Each (x ∷ xs)
    by rest true is p (inl e) = ap kinds (sym e) ∙ eqb-true (kinds x) kind is
    by rest true is p (inr has) = let one : one_if (kinds x == kind) ≡ 1 = ap one_if is in rest (omega (arith, head, all, one)) p has
    by rest false is p has = let none : one_if (kinds x == kind) ≡ 0 = ap one_if is in absurd (omega (arith, head, few, all, none))

  count-all : (xs : List PairRecord) → Each xs → kind_count kinds xs kind ≡ length xs
  count-all [] each = refl
  count-all (x ∷ xs) each =
      let head = count-head (is_of_kind kinds kind) x xs in
      let one : one_if (kinds x == kind) ≡ 1 = ap one_if (eq-eqb (kinds x) kind (each x (inl refl))) in
      let rest = count-all xs (λ p has. each p (inr has)) in
      omega (arith, head, one, rest)

  has-most : (xs : List PairRecord) → Each xs → (p : PairRecord) → Has xs p → HasMost kinds xs (kinds p)
  has-most xs each p has = λ other.
      let few = count_by-le-length (is_of_kind kinds other) xs in
      let own : kind_count kinds xs (kinds p) ≡ length xs = ap (kind_count kinds xs) (each p has) ∙ count-all xs each in
      omega (arith, few, own)

  in-turn : (limit : ℕ) (gone old new : List PairRecord) → Each old → EvictsInTurn limit gone old new → EvictsOfMostInTurn kinds limit gone old new
  in-turn limit [] old new each h = h
  in-turn limit (p ∷ gone) old new each h = (
    h.0,
    (has-most old each p h.1.0, (h.1.0, refl, λ q has _. h.1.1 q has)),
    in-turn limit gone (without (is_numbered p.number) old) new (λ q has. each q (filtered-had (λ x. not (is_numbered p.number x)) old q has)) h.2,
  )

pub evicted-of-one : (kinds : PairRecord → ℕ) (limit : ℕ) (old new : List PairRecord) → AreOfOneKind kinds old → Evicts limit old new → EvictsOfMost kinds limit old new
evicted-of-one kinds limit old new one h = (h.0, in-turn kinds one.0 limit h.0 old new (each-of kinds one.0 old one.1) h.1)
