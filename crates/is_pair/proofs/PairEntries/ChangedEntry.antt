-- The pairs of a checklist by their numbers, when one of them is changed.
use Rattle.is_pair.proofs.Common.{[], ◌&&◌, ◌++◌, ◌+◌, ◌==◌, ◌||◌, ◌∙◌, ◌∷◌, ◌≡◌, ap, are_below, arith, Bool, change_at, change_pair, cond}
use Rattle.is_pair.proofs.Common.{eq-eqb, eqb-true, false, filter, if◌then◌else◌, is_numbered, List, list_all, list_all-append, list_any}
use Rattle.is_pair.proofs.Common.{map, nat_lt, nat_tests, None, option_map, pair_numbered, PairRecord, passes_at, refl, rises, slice_get}
use Rattle.is_pair.proofs.Common.{slice_set, Some, subst, suc, sym, true, unwrap_or, zero, ℕ}

pub both : (a b : Bool) → a && b ≡ true → (a ≡ true) × (b ≡ true)
both true b h = (refl, h)
both false b h = absurd (cc)

-- all numbers are above n
abbrev pub above : ℕ → List PairRecord → Bool
above n ps = list_all (λ q. nat_lt n q.number) ps

pub apart : (n m : ℕ) → nat_lt n m ≡ true → m == n ≡ false
apart n m h = grind (arith, nat_tests, h)

pub below-apart : (n m : ℕ) → nat_lt m n ≡ true → m == n ≡ false
below-apart n m h = grind (arith, nat_tests, h)

pub none-above : (n : ℕ) (test : PairRecord → Bool) (ps : List PairRecord) → above n ps ≡ true → list_any (passes_at n test) ps ≡ false
none-above n test [] h = refl
none-above n test (p ∷ ps) h =
    let b = both (nat_lt n p.number) (above n ps) h in
    rw (apart n p.number b.0) (none-above n test ps b.1)

untouched : (n : ℕ) (f : PairRecord → PairRecord) (ps : List PairRecord) → above n ps ≡ true → change_pair n f ps ≡ ps
untouched n f [] h = refl
untouched n f (p ∷ ps) h =
    let b = both (nat_lt n p.number) (above n ps) h in
    rw (apart n p.number b.0) (ap (λ xs. p ∷ xs) (untouched n f ps b.1))

following : (n m : ℕ) (ps : List PairRecord) → m ≡ n → above m ps ≡ true → above n ps ≡ true
following n m ps is h = subst (λ k. above k ps ≡ true) is h

all-got : {X : Type 0} (t : X → Bool) (xs : List X) (k : ℕ) (x : X) → list_all t xs ≡ true → slice_get xs k ≡ Some x → t x ≡ true
all-got t [] k x h at = absurd (cc)
all-got t (y ∷ ys) zero x h at = let same : y ≡ x = cc in ap t (sym same) ∙ (both (t y) (list_all t ys) h).0
all-got t (y ∷ ys) (suc k) x h at = all-got t ys k x (both (t y) (list_all t ys) h).1 at

-- the pair at an index is written
pub writes : (n : ℕ) (f : PairRecord → PairRecord) (ps : List PairRecord) (k : ℕ) (v w : PairRecord) → rises ps ≡ true → slice_get ps k ≡ Some v → v.number ≡ n → w ≡ f v
    → slice_set ps k w ≡ change_pair n f ps
writes n f [] k v w rising at numbered is = absurd (cc)
writes n f (p ∷ ps) zero v w rising at numbered is =
    let same : p ≡ v = cc in
    let here : p.number ≡ n = ap (λ (q : PairRecord). q.number) same ∙ numbered in
    let r = both (above p.number ps) (rises ps) rising in
    rw (eq-eqb p.number n here, untouched n f ps (following n p.number ps here r.0)) (ap (λ x. x ∷ ps) (is ∙ ap f (sym same)))
writes n f (p ∷ ps) (suc k) v w rising at numbered is =
    let r = both (above p.number ps) (rises ps) rising in
    let less : nat_lt p.number v.number ≡ true = all-got (λ q. nat_lt p.number q.number) ps k v r.0 at in
    let other = below-apart n p.number (subst (λ m. nat_lt p.number m ≡ true) numbered less) in
    rw other (ap (λ xs. p ∷ xs) (writes n f ps k v w r.1 at numbered is))

-- the pair that is found has the number
pub found-number : (n : ℕ) (ps : List PairRecord) (v : PairRecord) → pair_numbered n ps ≡ Some v → v.number ≡ n
found-number n [] v found = absurd (cc)
found-number n (p ∷ ps) v found =
    elim (p.number == n) as (λ b. p.number == n ≡ b → cond b (Some p) (pair_numbered n ps) ≡ Some v → v.number ≡ n) [
      | true ↦ λ is h. ap (λ (q : PairRecord). q.number) (sym (ap (λ o. unwrap_or o p) h)) ∙ eqb-true p.number n is
      | false ↦ λ is h. found-number n ps v h
    ] refl found

-- if no pair is found none is changed
pub unwritten : (n : ℕ) (f : PairRecord → PairRecord) (ps : List PairRecord) → pair_numbered n ps ≡ None → change_pair n f ps ≡ ps
unwritten n f [] none = refl
unwritten n f (p ∷ ps) none =
    elim (p.number == n) as (λ b. cond b (Some p) (pair_numbered n ps) ≡ None → (if b then f p else p) ∷ change_pair n f ps ≡ p ∷ ps) [
      | true ↦ λ h. absurd (cc)
      | false ↦ λ h. ap (λ xs. p ∷ xs) (unwritten n f ps h)
    ] none

-- the pair that is found is the one of its number
pub one-passes : (n : ℕ) (test : PairRecord → Bool) (ps : List PairRecord) (v : PairRecord) → rises ps ≡ true → pair_numbered n ps ≡ Some v → list_any (passes_at n test) ps ≡ test v
one-passes n test [] v rising found = absurd (cc)
one-passes n test (p ∷ ps) v rising found =
    let r = both (above p.number ps) (rises ps) rising in
    elim (p.number == n) as (λ b. p.number == n ≡ b → cond b (Some p) (pair_numbered n ps) ≡ Some v → ((b && test p) || list_any (passes_at n test) ps) ≡ test v) [
      | true ↦ λ is h.
          let same : p ≡ v = ap (λ o. unwrap_or o p) h in
          rw (none-above n test ps (following n p.number ps (eqb-true p.number n is) r.0)) (or-false (test p) ∙ ap test same)
      | false ↦ λ is h. one-passes n test ps v r.1 h
    ] refl found
  where
    or-false : (b : Bool) → (b || false) ≡ b
    or-false true = refl
    or-false false = refl

pub none-passes : (n : ℕ) (test : PairRecord → Bool) (ps : List PairRecord) → pair_numbered n ps ≡ None → list_any (passes_at n test) ps ≡ false
none-passes n test [] none = refl
none-passes n test (p ∷ ps) none =
    elim (p.number == n) as (λ b. cond b (Some p) (pair_numbered n ps) ≡ None → ((b && test p) || list_any (passes_at n test) ps) ≡ false) [
      | true ↦ λ h. absurd (cc)
      | false ↦ λ h. none-passes n test ps h
    ] none

-- ---- what a change keeps

pub any-changed : {X : Type 0} (t : X → Bool) (g : X → X) → ((x : X) → t (g x) ≡ t x) → (xs : List X) → list_any t (map g xs) ≡ list_any t xs
any-changed t g same [] = refl
any-changed t g same (x ∷ xs) = rw (same x, any-changed t g same xs) refl

all-changed : {X : Type 0} (t : X → Bool) (g : X → X) → ((x : X) → t (g x) ≡ t x) → (xs : List X) → list_all t (map g xs) ≡ list_all t xs
all-changed t g same [] = refl
all-changed t g same (x ∷ xs) = rw (same x, all-changed t g same xs) refl

pub rises-changed : (g : PairRecord → PairRecord) → ((p : PairRecord) → (g p).number ≡ p.number) → (ps : List PairRecord) → rises (map g ps) ≡ rises ps
rises-changed g same [] = refl
rises-changed g same (p ∷ ps) =
    rw (same p, all-changed (λ q. nat_lt p.number q.number) g (λ q. ap (nat_lt p.number) (same q)) ps, rises-changed g same ps) refl

pub change-keeps : {B : Type 0} (read : PairRecord → B) (n : ℕ) (f : PairRecord → PairRecord) → ((p : PairRecord) → read (f p) ≡ read p) → (p : PairRecord) → read (change_at n f p) ≡ read p
change-keeps read n f same p = elim (is_numbered n p) as (λ b. read (if b then f p else p) ≡ read p) [ true ↦ same p | false ↦ refl ]

-- a changed pair is found under the number that it had
pub numbered-changed : (n : ℕ) (g : PairRecord → PairRecord) → ((p : PairRecord) → (g p).number ≡ p.number) → (ps : List PairRecord) → pair_numbered n (map g ps) ≡ option_map g (pair_numbered n ps)
numbered-changed n g same [] = refl
numbered-changed n g same (p ∷ ps) =
    subst (λ (m : ℕ). cond (m == n) (Some (g p)) (pair_numbered n (map g ps)) ≡ option_map g (cond (p.number == n) (Some p) (pair_numbered n ps))) (sym (same p))
    (elim (p.number == n) as (λ b. cond b (Some (g p)) (pair_numbered n (map g ps)) ≡ option_map g (cond b (Some p) (pair_numbered n ps))) [
      | true ↦ refl
      | false ↦ numbered-changed n g same ps
    ])

pub changed-found : (n : ℕ) (f : PairRecord → PairRecord) (ps : List PairRecord) (v : PairRecord) → ((p : PairRecord) → (f p).number ≡ p.number) → pair_numbered n ps ≡ Some v
    → pair_numbered n (change_pair n f ps) ≡ Some (f v)
changed-found n f ps v same found =
    numbered-changed n (change_at n f) (change-keeps (λ q. q.number) n f same) ps ∙ ap (option_map (change_at n f)) found
    ∙ rw (eq-eqb v.number n (found-number n ps v found)) refl

-- ---- pairs that are removed

pub all-filter : {X : Type 0} (q t : X → Bool) (xs : List X) → list_all q xs ≡ true → list_all q (filter t xs) ≡ true
all-filter q t [] h = refl
all-filter q t (x ∷ xs) h =
    let b = both (q x) (list_all q xs) h in
    elim (t x) as (λ b. list_all q (if b then x ∷ filter t xs else filter t xs) ≡ true) [
      | true ↦ rw (b.0) (all-filter q t xs b.1)
      | false ↦ all-filter q t xs b.1
    ]

pub rises-filter : (t : PairRecord → Bool) (ps : List PairRecord) → rises ps ≡ true → rises (filter t ps) ≡ true
rises-filter t [] h = refl
rises-filter t (p ∷ ps) h =
    let r = both (above p.number ps) (rises ps) h in
    elim (t p) as (λ b. rises (if b then p ∷ filter t ps else filter t ps) ≡ true) [
      | true ↦ rw (all-filter (λ q. nat_lt p.number q.number) t ps r.0) (rises-filter t ps r.1)
      | false ↦ rises-filter t ps r.1
    ]

none-numbered : (n : ℕ) (ps : List PairRecord) → above n ps ≡ true → list_any (is_numbered n) ps ≡ false
none-numbered n [] h = refl
none-numbered n (p ∷ ps) h =
    let b = both (nat_lt n p.number) (above n ps) h in
    rw (apart n p.number b.0) (none-numbered n ps b.1)

-- if the pair with the number stays, everything about it stays, and otherwise nothing
pub stays-whole : (n : ℕ) (test t : PairRecord → Bool) (ps : List PairRecord) → rises ps ≡ true
    → list_any (passes_at n test) (filter t ps) ≡ (list_any (is_numbered n) (filter t ps) && list_any (passes_at n test) ps)
stays-whole n test t [] h = refl
stays-whole n test t (p ∷ ps) h =
    let r = both (above p.number ps) (rises ps) h in
    let rest = stays-whole n test t ps r.1 in
    elim (p.number == n) as (λ b. p.number == n ≡ b → list_any (passes_at n test) (if t p then p ∷ filter t ps else filter t ps) ≡ (list_any (is_numbered n) (if t p then p ∷ filter t ps else filter t ps) && ((b && test p) || list_any (passes_at n test) ps))) [
      | true ↦ λ is.
          let over : above n ps ≡ true = subst (λ m. above m ps ≡ true) (eqb-true p.number n is) r.0 in
          let none = none-above n test ps over in
          let left = none-above n test (filter t ps) (all-filter (λ q. nat_lt n q.number) t ps over) in
          let gone = none-numbered n (filter t ps) (all-filter (λ q. nat_lt n q.number) t ps over) in
          elim (t p) as (λ b. list_any (passes_at n test) (if b then p ∷ filter t ps else filter t ps) ≡ (list_any (is_numbered n) (if b then p ∷ filter t ps else filter t ps) && (test p || list_any (passes_at n test) ps))) [
            | true ↦ rw (is, left, none) refl
            | false ↦ rw (left, gone) refl
          ]
      | false ↦ λ is. elim (t p) as (λ b. list_any (passes_at n test) (if b then p ∷ filter t ps else filter t ps) ≡ (list_any (is_numbered n) (if b then p ∷ filter t ps else filter t ps) && list_any (passes_at n test) ps)) [
        | true ↦ rw is rest
        | false ↦ rest
      ]
    ] refl

-- ---- one more pair

pub rises-last : (ps : List PairRecord) (p : PairRecord) → rises ps ≡ true → are_below p.number ps ≡ true → rises (ps ++ p ∷ []) ≡ true
rises-last [] p h below = refl
rises-last (q ∷ ps) p h below =
    let r = both (above q.number ps) (rises ps) h in
    let b = both (nat_lt q.number p.number) (are_below p.number ps) below in
    rw (list_all-append (λ x. nat_lt q.number x.number) ps (p ∷ []), r.0, b.0) (rises-last ps p r.1 b.1)

-- ---- what holds for all

pub filter-whole : {X : Type 0} (t : X → Bool) (xs : List X) → list_all t xs ≡ true → filter t xs ≡ xs
filter-whole t [] h = refl
filter-whole t (x ∷ xs) h = let b = both (t x) (list_all t xs) h in rw (b.0) (ap (λ ys. x ∷ ys) (filter-whole t xs b.1))

pub all-mapped : (t : PairRecord → Bool) (g : PairRecord → PairRecord) → ((p : PairRecord) → t (g p) ≡ t p) → (ps : List PairRecord) → list_all t ps ≡ true → list_all t (map g ps) ≡ true
all-mapped t g same ps h = all-changed t g same ps ∙ h

below-next : (n : ℕ) (ps : List PairRecord) → are_below n ps ≡ true → are_below (n + 1) ps ≡ true
below-next n [] h = refl
below-next n (p ∷ ps) h =
    let b = both (nat_lt p.number n) (are_below n ps) h in
    let less : nat_lt p.number (n + 1) ≡ true = grind (arith, nat_tests, b.0) in
    rw less (below-next n ps b.1)

pub below-added : (ps : List PairRecord) (p : PairRecord) → are_below p.number ps ≡ true → are_below (p.number + 1) (ps ++ p ∷ []) ≡ true
below-added ps p below =
    let less : nat_lt p.number (p.number + 1) ≡ true = grind (arith, nat_tests) in
    rw (list_all-append (λ q. nat_lt q.number (p.number + 1)) ps (p ∷ []), below-next p.number ps below, less) refl
