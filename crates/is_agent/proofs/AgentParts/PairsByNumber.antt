-- If numbers rise along a list of pairs, a pair is found, replaced and bounded by its number.
use Rattle.std.proofs.Common.{if◌then◌else◌, ◌≡◌, ◌==◌, ℕ, ◌≤◌, ◌&&◌, ◌||◌, Bool, true, false, List, [], ◌∷◌, find, nat_lt, slice_get, slice_set, Some, unwrap_or, inl, inr, zero, suc, refl, sym, ap, subst, arith}
use Rattle.std.proofs.lemmas.Bool.{eqb-true}
use Rattle.std.proofs.lemmas.Bool.Decides.{nat_tests}
use Rattle.std.specs.List.{list_any, list_all}
use Rattle.is_proto.specs.Lists.{Has}
use Rattle.is_pair.specs.Pairs.{PairRecord}
use Rattle.is_pair.specs.Multiset.{is_numbered, are_below, change_pair, keeps, keeps_check, pair_numbered, passes_at, put_pair, rises}

-- a pair that is found is in the list and passes
pub find-Some : {X : Type 0} (test : X → Bool) (xs : List X) (x : X) → find test xs ≡ Some x → Has xs x × (test x ≡ true)
find-Some test [] x h = absurd (cc)
find-Some test (y ∷ ys) x h =
    elim (test y) as (λ b. test y ≡ b → (if b then Some y else find test ys) ≡ Some x → Has (y ∷ ys) x × (test x ≡ true)) [
      | true ↦ λ is found. let same : y ≡ x = cc in (inl same, rw (← same) is)
      | false ↦ λ is found. let rest = find-Some test ys x found in (inr rest.0, rest.1)
    ] refl h

pub both : (a b : Bool) → a && b ≡ true → (a ≡ true) × (b ≡ true)
both true b h = (refl, h)
both false b h = absurd (cc)

-- all numbers are above n
abbrev above : ℕ → List PairRecord → Bool
above n ps = list_all (λ q. nat_lt n q.number) ps

apart : (n m : ℕ) → nat_lt n m ≡ true → m == n ≡ false
apart n m h = grind (arith, nat_tests, h)

untouched : (n : ℕ) (f : PairRecord → PairRecord) (ps : List PairRecord) → above n ps ≡ true → change_pair n f ps ≡ ps
untouched n f [] h = refl
untouched n f (p ∷ ps) h =
    let b = both (nat_lt n p.number) (above n ps) h in
    rw (apart n p.number b.0) (ap (λ xs. p ∷ xs) (untouched n f ps b.1))

-- the index of the pair with a number
place-at : (ps : List PairRecord) (n : ℕ) (p after : PairRecord) → rises ps ≡ true → pair_numbered n ps ≡ Some p
    → (place : ℕ) × (slice_get ps place ≡ Some p) × (change_pair n (λ _. after) ps ≡ slice_set ps place after)
place-at [] n p after rising found = absurd (cc)
place-at (q ∷ qs) n p after rising found =
    let r = both (above q.number qs) (rises qs) rising in
    elim (is_numbered n q) as (λ b. is_numbered n q ≡ b → (if b then Some q else find (is_numbered n) qs) ≡ Some p
    → (place : ℕ) × (slice_get (q ∷ qs) place ≡ Some p) × ((if b then after else q) ∷ change_pair n (λ _. after) qs ≡ slice_set (q ∷ qs) place after)) [
      | true ↦ λ is h.
          let same : q ≡ p = ap (λ o. unwrap_or o q) h in
          let over = subst (λ m. above m qs ≡ true) (eqb-true q.number n is) r.0 in
          (zero, ap Some same, ap (λ xs. after ∷ xs) (untouched n (λ _. after) qs over))
      | false ↦ λ is h. let rest = place-at qs n p after r.1 h in (suc rest.0, rest.1, ap (λ xs. q ∷ xs) rest.2)
    ] refl found

-- a pair that replaces the one with its number
pub put-place : (ps : List PairRecord) (n : ℕ) (p after : PairRecord) → rises ps ≡ true → pair_numbered n ps ≡ Some p → after.number ≡ n
    → (place : ℕ) × (slice_get ps place ≡ Some p) × (put_pair after ps ≡ slice_set ps place after)
put-place ps n p after rising found its =
    let at = place-at ps n p after rising found in
    (at.0, at.1, subst (λ m. change_pair m (λ _. after) ps ≡ slice_set ps at.0 after) (sym its) at.2)

pub has-any : {X : Type 0} (t : X → Bool) (xs : List X) (x : X) → Has xs x → t x ≡ true → list_any t xs ≡ true
has-any t [] x none is = absurd none
has-any t (y ∷ ys) x (inl e) is = rw (e, is) refl
has-any t (y ∷ ys) x (inr has) is = elim (t y) as (λ b. (b || list_any t ys) ≡ true) [ true ↦ refl | false ↦ has-any t ys x has is ]

-- the pair with the number stores the check
pub kept-at : (id : List ℕ) (n : ℕ) (ps : List PairRecord) (p : PairRecord) → pair_numbered n ps ≡ Some p → keeps_check id p ≡ true → keeps id n ps ≡ true
kept-at id n ps p found kept =
    let is = find-Some (is_numbered n) ps p found in
    has-any (passes_at n (keeps_check id)) ps p is.0 (rw (is.1) kept)

grown : (a n m : ℕ) → n ≤ m → nat_lt a n ≡ true → nat_lt a m ≡ true
grown a n m more h = grind (arith, nat_tests, h, more)

pub below-grown : (n m : ℕ) (ps : List PairRecord) → n ≤ m → are_below n ps ≡ true → are_below m ps ≡ true
below-grown n m [] more h = refl
below-grown n m (p ∷ ps) more h =
    let b = both (nat_lt p.number n) (are_below n ps) h in
    rw (grown p.number n m more b.0) (below-grown n m ps more b.1)
