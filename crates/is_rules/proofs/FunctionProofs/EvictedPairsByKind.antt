-- Eviction with kinds in turn leaves a cut of each kind, and shares the limit out among the kinds.
use Rattle.is_rules.specs.Cuts.{IsCutByKind, SharesOut}
use Rattle.is_rules.proofs.Common.{[], ◌&&◌, ◌+◌, ◌<◌, ◌==◌, ◌∙◌, ◌∷◌, ◌≡◌, ◌≤◌, ap, arith, Bool, count_by, eq-eqb, eqb-true}
use Rattle.is_rules.proofs.Common.{EvictsOfMostInTurn, false, filter, Has, if◌then◌else◌, inl, inr, is_numbered, is_of_kind, IsLeastOfMost}
use Rattle.is_rules.proofs.Common.{kind_count, List, not, one_if, PairRecord, refl, subst, sym, true, ℕ}
use Rattle.is_rules.proofs.FunctionProofs.EvictedPairs.{others, filter-all, filter-both, filtered-had, has-filtered, named-once, one-goes}
use Rattle.is_rules.proofs.FunctionProofs.EvictedPairs.{rising-filter}
use Rattle.is_rules.proofs.PairLists.CountedPairs.{count-filter, count-head, less-or}
use Rattle.is_rules.proofs.PairLists.RisingNumbers.{AreRising}

-- ---- one pair is removed

module _ (t : PairRecord → Bool) (n : ℕ) where
  -- it does not pass
  pub count-same : (xs : List PairRecord) → ((q : PairRecord) → Has xs q → q.number ≡ n → t q ≡ false) → count_by t (others n xs) ≡ count_by t xs
  count-same [] fails = refl
  count-same (x ∷ xs) fails =
      let k : count_by t (others n xs) ≡ count_by t xs = count-same xs (λ q has. fails q (inr has)) in
      let r : count_by t (x ∷ xs) ≡ one_if (t x) + count_by t xs = count-head t x xs in
      let l : count_by t (x ∷ others n xs) ≡ one_if (t x) + count_by t (others n xs) = count-head t x (others n xs) in
      elim (x.number == n) as (λ b. x.number == n ≡ b → count_by t (if not b then x ∷ others n xs else others n xs) ≡ count_by t (x ∷ xs)) [
        | true ↦ λ is. let none : one_if (t x) ≡ 0 = ap one_if (fails x (inl refl) (eqb-true x.number n is)) in omega (arith, k, r, none)
        | false ↦ λ is. omega (arith, k, l, r)
      ] refl

  one-most : (b : Bool) → one_if b ≤ 1
  one-most true = omega arith
  one-most false = omega arith

  pub count-one : (xs : List PairRecord) → AreRising xs → count_by t xs ≤ count_by t (others n xs) + 1
  count-one [] h = omega arith
  count-one (x ∷ xs) h =
      let r : count_by t (x ∷ xs) ≡ one_if (t x) + count_by t xs = count-head t x xs in
      let l : count_by t (x ∷ others n xs) ≡ one_if (t x) + count_by t (others n xs) = count-head t x (others n xs) in
      let one = one-most (t x) in
      elim (x.number == n) as (λ b. x.number == n ≡ b → count_by t (x ∷ xs) ≤ count_by t (if not b then x ∷ others n xs else others n xs) + 1) [
        | true ↦ λ is.
            let number : x.number ≡ n = eqb-true x.number n is in
            let stay = count-same xs (λ q has same. let above = h.0 q has in absurd (omega (arith, above, same, number))) in
            omega (arith, stay, r, one)
        | false ↦ λ is. let rest = count-one xs h.1 in omega (arith, rest, l, r)
      ] refl

  -- A pair is removed: it no longer counts.
  pub count-goes : (xs : List PairRecord) (p : PairRecord) → AreRising xs → Has xs p → p.number ≡ n → count_by t xs ≡ count_by t (others n xs) + one_if (t p)
  count-goes [] p h has number = elim has [ ]
  count-goes (x ∷ xs) p h (inl same) number =
      let here : x.number ≡ n = ap (λ (q : PairRecord). q.number) same ∙ number in
      let stay = count-same xs (λ q has its. let above = h.0 q has in absurd (omega (arith, above, its, here))) in
      let r : count_by t (x ∷ xs) ≡ one_if (t x) + count_by t xs = count-head t x xs in
      let own : one_if (t x) ≡ one_if (t p) = ap (λ q. one_if (t q)) same in
      rw (eq-eqb x.number n here) (omega (arith, stay, r, own))
  count-goes (x ∷ xs) p h (inr has) number =
      let above : x.number < p.number = h.0 p has in
      let rest = count-goes xs p h.1 has number in
      let r : count_by t (x ∷ xs) ≡ one_if (t x) + count_by t xs = count-head t x xs in
      let l : count_by t (x ∷ others n xs) ≡ one_if (t x) + count_by t (others n xs) = count-head t x (others n xs) in
      elim (x.number == n) as (λ b. x.number == n ≡ b → count_by t (x ∷ xs) ≡ count_by t (if not b then x ∷ others n xs else others n xs) + one_if (t p)) [
        | true ↦ λ is. let its = eqb-true x.number n is in absurd (omega (arith, above, number, its))
        | false ↦ λ is. omega (arith, rest, l, r)
      ] refl

-- ---- all that are removed

module _ (kind_of : PairRecord → ℕ) where
  -- A pair of the most numerous kind is removed, and then others.
  shares-out : (p : PairRecord) (old new : List PairRecord) (keep : PairRecord → Bool) → AreRising old → IsLeastOfMost kind_of old p → new ≡ filter keep (others p.number old)
      → SharesOut kind_of (others p.number old) new → SharesOut kind_of old new
  shares-out p old new keep rising (most, (here, _, _)) kept rest kind other less = elim (less-or (kind_count kind_of new kind) (kind_count kind_of mid kind)) [
    | inl later ↦ rest kind other later
    | inr last ↦ omega (arith, by (kind_of p == kind) refl last)
  ] where
    mid : List PairRecord
    mid = others p.number old

    by : (b : Bool) → kind_of p == kind ≡ b → kind_count kind_of mid kind ≤ kind_count kind_of new kind → kind_count kind_of new other ≤ kind_count kind_of new kind + 1
    by true is last =
        let its : kind_of p ≡ kind = eqb-true (kind_of p) kind is in
        let one : kind_count kind_of old kind ≤ kind_count kind_of mid kind + 1 = count-one (is_of_kind kind_of kind) p.number old rising in
        let top : kind_count kind_of old other ≤ kind_count kind_of old kind = subst (λ k. kind_count kind_of old other ≤ kind_count kind_of old k) its (most other) in
        let left : kind_count kind_of mid other ≤ kind_count kind_of old other = count-filter (is_of_kind kind_of other) (λ q. not (is_numbered p.number q)) old in
        let right : kind_count kind_of (filter keep mid) other ≤ kind_count kind_of mid other = count-filter (is_of_kind kind_of other) keep mid in
        let end : kind_count kind_of new other ≡ kind_count kind_of (filter keep mid) other = ap (λ ps. kind_count kind_of ps other) kept in
        omega (arith, one, top, left, right, end, last)
    by false is last =
        let same : kind_count kind_of mid kind ≡ kind_count kind_of old kind = count-same (is_of_kind kind_of kind) p.number old (λ q has number.
        subst (λ (x : PairRecord). is_of_kind kind_of kind x ≡ false) (named-once old p q rising here has (sym number)) is) in
        absurd (omega (arith, same, last, less))

  pub goes-by-kind : (limit : ℕ) (gone old new : List PairRecord) → AreRising old → EvictsOfMostInTurn kind_of limit gone old new → IsCutByKind kind_of limit old new
  goes-by-kind limit [] old new rising h = (
    (λ p. true),
    h.1 ∙ filter-all old,
    rw h.1 (omega (arith, h.0)),
    (λ p q its out stays same. absurd (cc)),
    λ kind other less. let same : kind_count kind_of new kind ≡ kind_count kind_of old kind = ap (λ ps. kind_count kind_of ps kind) h.1 in absurd (omega (arith, less, same)),
  )
  goes-by-kind limit (p ∷ gone) old new rising h =
      let n = p.number in
      let rest = goes-by-kind limit gone (others n old) new (rising-filter (λ q. not (is_numbered n q)) old rising) h.2 in
      let few = one-goes n old rising in
      let here : Has old p = h.1.1.0 in (
        (λ q. not (is_numbered n q) && rest.0 q),
        rest.1 ∙ filter-both (λ q. not (is_numbered n q)) rest.0 old,
        omega (arith, few, rest.2, h.0),
        (λ q r its out stays same. elim (q.number == n) as (λ b. q.number == n ≡ b → (not b && rest.0 q) ≡ false → q.priority ≤ r.priority) [
          | true ↦ λ is none.
              let number : n ≡ q.number = sym (eqb-true q.number n is) in
              let one : p ≡ q = named-once old p q rising here its number in
              let left = filtered-had rest.0 (others n old) r (subst (λ (xs : List PairRecord). Has xs r) rest.1 stays) in
              let low = h.1.1.2 r (filtered-had (λ x. not (is_numbered n x)) old r left) cc in
              omega (arith, low, ap (λ (x : PairRecord). x.priority) one)
          | false ↦ λ is none. rest.3 q r (has-filtered (λ x. not (is_numbered n x)) old q its (ap not is)) none stays same
        ] refl out),
        shares-out p old new rest.0 rising h.1 rest.1 rest.4,
      )
