-- No two entries of the order by priority have the same number.
use Rattle.std.proofs.lemmas.Map.Keys.{IsDistinct-IsPermutation}
use Rattle.std.specs.List.{IsDistinct}
use Rattle.is_pair.proofs.Common.{[], ◌&&◌, ◌==◌, ◌||◌, ◌∙◌, ◌∷◌, ◌≡◌, AllByRecursion, ap, are_below, are_single, Bool, eq-eqb, eqb-true}
use Rattle.is_pair.proofs.Common.{false, filter, if◌then◌else◌, IsPermutation, IsPermutation-map, List, list_all, list_any, map, nat_lt}
use Rattle.is_pair.proofs.Common.{None, not, pair_numbered, PairRecord, Rank, rank_now, refl, sym, true, ℕ}
use Rattle.is_pair.proofs.PairEntries.ChangedEntry.{all-filter, below-apart, both}
use Rattle.is_pair.proofs.PriorityOrder.RecomputedPriorities.{number-now}

pub single-filter : (t : Rank → Bool) (rs : List Rank) → are_single rs ≡ true → are_single (filter t rs) ≡ true
single-filter t [] h = refl
single-filter t (r ∷ rs) h =
    let b = both (list_all (λ (q : Rank). not (q.number == r.number)) rs) (are_single rs) h in
    elim (t r) as (λ b. are_single (if b then r ∷ filter t rs else filter t rs) ≡ true) [
      | true ↦ rw (all-filter (λ (q : Rank). not (q.number == r.number)) t rs b.0) (single-filter t rs b.1)
      | false ↦ single-filter t rs b.1
    ]

-- one with another number comes first
pub single-more : (r : Rank) (rs : List Rank) → are_single rs ≡ true → list_any (λ (q : Rank). q.number == r.number) rs ≡ false → are_single (r ∷ rs) ≡ true
single-more r rs single none = rw (others rs none) single where
  others : (qs : List Rank) → list_any (λ (q : Rank). q.number == r.number) qs ≡ false → list_all (λ (q : Rank). not (q.number == r.number)) qs ≡ true
  others [] none = refl
  others (q ∷ qs) none =
      elim (q.number == r.number) as (λ b. (b || list_any (λ (q : Rank). q.number == r.number) qs) ≡ false → (not b && list_all (λ (q : Rank). not (q.number == r.number)) qs) ≡ true) [
        | true ↦ λ h. absurd (cc)
        | false ↦ λ h. others qs h
      ] none

-- ---- in another order

flips : (x y : ℕ) → (y == x) ≡ (x == y)
flips x y = elim (y == x) as (λ b. y == x ≡ b → b ≡ (x == y)) [
  | true ↦ λ is. sym (eq-eqb x y (sym (eqb-true y x is)))
  | false ↦ λ no. elim (x == y) as (λ c. x == y ≡ c → false ≡ c) [
    | true ↦ λ is. let its = eq-eqb y x (sym (eqb-true x y is)) in absurd (cc)
    | false ↦ λ _. refl
  ] refl
] refl

fails-not : (b : Bool) → not b ≡ true → b ≡ false
fails-not true h = absurd (cc)
fails-not false h = refl

apart : (n : ℕ) (rs : List Rank) → list_all (λ (q : Rank). not (q.number == n)) rs ≡ true → AllByRecursion (λ (m : ℕ). (m == n) ≡ false) (map (λ (r : Rank). r.number) rs)
apart n [] h = tt
apart n (r ∷ rs) h = let b = both (not (r.number == n)) (list_all (λ (q : Rank). not (q.number == n)) rs) h in (fails-not (r.number == n) b.0, apart n rs b.1)

apart-back : (n : ℕ) (rs : List Rank) → AllByRecursion (λ (m : ℕ). (m == n) ≡ false) (map (λ (r : Rank). r.number) rs) → list_all (λ (q : Rank). not (q.number == n)) rs ≡ true
apart-back n [] h = refl
apart-back n (r ∷ rs) h = rw (h.0) (apart-back n rs h.1)

distinct : (rs : List Rank) → are_single rs ≡ true → IsDistinct (λ a b. b == a) (map (λ (r : Rank). r.number) rs)
unfolding IsDistinct
distinct [] h = tt
distinct (r ∷ rs) h = let b = both (list_all (λ (q : Rank). not (q.number == r.number)) rs) (are_single rs) h in (apart r.number rs b.0, distinct rs b.1)

single-of : (rs : List Rank) → IsDistinct (λ a b. b == a) (map (λ (r : Rank). r.number) rs) → are_single rs ≡ true
unfolding IsDistinct
single-of [] h = refl
single-of (r ∷ rs) h = rw (apart-back r.number rs h.0) (single-of rs h.1)

pub single-permuted : (xs ys : List Rank) → IsPermutation xs ys → are_single xs ≡ true → are_single ys ≡ true
single-permuted xs ys same single =
    single-of ys (IsDistinct-IsPermutation (λ a b. b == a) (λ x y. flips x y) (map (λ (r : Rank). r.number) xs) (map (λ (r : Rank). r.number) ys)
    (IsPermutation-map (λ (r : Rank). r.number) xs ys same) (distinct xs single))

-- with the current priorities
pub single-now : (ps : List PairRecord) (rs : List Rank) → are_single rs ≡ true → are_single (map (rank_now ps) rs) ≡ true
single-now ps [] h = refl
single-now ps (r ∷ rs) h =
    let b = both (list_all (λ (q : Rank). not (q.number == r.number)) rs) (are_single rs) h in
    rw (others rs b.0) (single-now ps rs b.1)
  where
    others : (qs : List Rank) → list_all (λ (q : Rank). not (q.number == r.number)) qs ≡ true
        → list_all (λ (q : Rank). not (q.number == (rank_now ps r).number)) (map (rank_now ps) qs) ≡ true
    others [] h = refl
    others (q ∷ qs) h =
        let b = both (not (q.number == r.number)) (list_all (λ (q : Rank). not (q.number == r.number)) qs) h in
        let first : not ((rank_now ps q).number == (rank_now ps r).number) ≡ true =
        ap (λ (n : ℕ). not (n == (rank_now ps r).number)) (number-now ps q) ∙ ap (λ (n : ℕ). not (q.number == n)) (number-now ps r) ∙ b.0 in
        rw first (others qs b.1)

-- ---- of pairs below a number

pub below-none : (n : ℕ) (ps : List PairRecord) → are_below n ps ≡ true → pair_numbered n ps ≡ None
below-none n [] h = refl
below-none n (p ∷ ps) h =
    let b = both (nat_lt p.number n) (list_all (λ (q : PairRecord). nat_lt q.number n) ps) h in
    rw (below-apart n p.number b.0) (below-none n ps b.1)
