-- The pair of lowest priority of a kind, and the kind with the most pairs.
use Rattle.is_rules.specs.Kinds as kinds
use Rattle.is_rules.proofs.Common.{[], ◌+◌, ◌<◌, ◌==◌, ◌∙◌, ◌∷◌, ◌≡◌, ◌≤◌, ap, are_placed, AreCounted, arith, Bool, CandidateRecord, eq-eqb}
use Rattle.is_rules.proofs.Common.{eqb-true, false, filter, Has, HasMost, inl, inr, is_of_kind, is_placed, is_placed_of_kind, IsLeastOfKind}
use Rattle.is_rules.proofs.Common.{IsLeastPassing, IsLowestOfMost, kind_count, length, length-filter, List, nat_tests, None, one_if, Option}
use Rattle.is_rules.proofs.Common.{PairRecord, refl, slice_index, Some, subst, sym, true, ℕ}
use Rattle.is_rules.proofs.PairLists.ChosenPair.{none_pass}
use Rattle.is_rules.proofs.PairLists.CountedPairs.{count-head, count-zero, less-or}
use Rattle.is_rules.proofs.PairLists.PairKinds.{kind-below}
use Rattle.is_rules.proofs.PairLists.PairsByNumber.{both}
use Rattle.is_rules.proofs.PairLists.PairsInLists.{all-has}

none-from : (t : PairRecord → Bool) (xs : List PairRecord) → ((x : PairRecord) → Has xs x → t x ≡ false) → filter t xs ≡ []
none-from t [] fails = refl
none-from t (x ∷ xs) fails = rw (fails x (inl refl)) (none-from t xs (λ y has. fails y (inr has)))

-- Among pairs whose places are in the lists, the test by kind and place is the test by kind.
module _ (local remote : List CandidateRecord) (kind : ℕ) (pairs : List PairRecord) where
  passes-of-kind : (q : PairRecord) → are_placed local remote pairs ≡ true → Has pairs q → kinds.kind_of local remote q ≡ kind → is_placed_of_kind local remote kind q ≡ true
  passes-of-kind q placed has same =
      let in_lists : is_placed local remote q ≡ true = all-has (is_placed local remote) pairs q placed has in
      rw (in_lists) (eq-eqb (kinds.kind_of local remote q) kind same)

  pub least-placed : (o : Option PairRecord) → are_placed local remote pairs ≡ true → IsLeastPassing (is_placed_of_kind local remote kind) pairs o
      → IsLeastOfKind (kinds.kind_of local remote) kind pairs o
  least-placed None placed none = none-from (is_of_kind (kinds.kind_of local remote) kind) pairs (λ q has. fails q has (kinds.kind_of local remote q == kind) refl) where
    fails : (q : PairRecord) → Has pairs q → (b : Bool) → (kinds.kind_of local remote q == kind) ≡ b → b ≡ false
    fails q has false is = refl
    fails q has true is =
        absurd (none_pass (is_placed_of_kind local remote kind) pairs q none has (passes-of-kind q placed has (eqb-true (kinds.kind_of local remote q) kind is)))
  least-placed (Some p) placed (has, passes, low) = (
    has,
    eqb-true (kinds.kind_of local remote p) kind (both (is_placed local remote p) (is_of_kind (kinds.kind_of local remote) kind p) passes).1,
    λ q there same. low q there (passes-of-kind q placed there same),
  )

-- ---- the kind with the most pairs

module _ (kind_of : PairRecord → ℕ) (kind : ℕ) where
  -- A pair of its own kind is one of the pairs.
  counts-one : (p : PairRecord) (ps : List PairRecord) → 0 < kind_count kind_of (p ∷ ps) (kind_of p)
  counts-one p ps =
      let head : kind_count kind_of (p ∷ ps) (kind_of p) ≡ one_if (kind_of p == kind_of p) + kind_count kind_of ps (kind_of p) = count-head (is_of_kind kind_of (kind_of p)) p ps in
      let one : one_if (kind_of p == kind_of p) ≡ 1 = ap one_if (eq-eqb (kind_of p) (kind_of p) refl) in
      omega (arith, head, one)

  pub lowest-of-most : (pairs : List PairRecord) (o : Option PairRecord) → HasMost kind_of pairs kind → IsLeastOfKind kind_of kind pairs o → IsLowestOfMost kind_of pairs o
  lowest-of-most [] None most none = refl
  lowest-of-most (p ∷ ps) None most none =
      let count : length (filter (is_of_kind kind_of kind) (p ∷ ps)) ≡ kind_count kind_of (p ∷ ps) kind = length-filter (is_of_kind kind_of kind) (p ∷ ps) in
      let zero_long : length (filter (is_of_kind kind_of kind) (p ∷ ps)) ≡ 0 = ap length none in
      let one = counts-one p ps in
      let top = most (kind_of p) in
      absurd (omega (arith, count, zero_long, one, top))
  lowest-of-most pairs (Some p) most (has, its, low) = (subst (λ k. HasMost kind_of pairs k) (sym its) most, (has, refl, λ q there same. low q there (same ∙ its)))

  -- All kinds are below a bound, and none of those below it has more.
  pub most-below : (bound : ℕ) (pairs : List PairRecord) → ((p : PairRecord) → Has pairs p → kind_of p < bound)
      → ((other : ℕ) → other < bound → kind_count kind_of pairs other ≤ kind_count kind_of pairs kind) → HasMost kind_of pairs kind
  most-below bound pairs below most other = elim (less-or other bound) [
    | inl less ↦ most other less
    | inr beyond ↦
        let none = count-zero (is_of_kind kind_of other) pairs (λ p has. let less = below p has in grind (arith, nat_tests, less, beyond)) in
        omega (arith, none)
  ]

-- the kind with the greatest count
pub most-counted : (local remote : List CandidateRecord) (pairs : List PairRecord) (counts : List ℕ) (kind : ℕ) → AreCounted (kinds.kind_of local remote) pairs counts → kind < kinds.KINDS
    → ((other : ℕ) → other < kinds.KINDS → slice_index counts other ≤ slice_index counts kind) → HasMost (kinds.kind_of local remote) pairs kind
most-counted local remote pairs counts kind counted within most =
    most-below (kinds.kind_of local remote) kind kinds.KINDS pairs (λ p has. kind-below local remote p) (λ other less.
    let own = counted kind within in
    let its = counted other less in
    let top = most other less in
    omega (arith, own, its, top))
