-- Counting the pairs that are due by a time.
use Rattle.is_pair.proofs.Common.{[], ◌<◌, ◌∙◌, ◌∷◌, ◌≡◌, ◌≤◌, ap, arith, Bool, change_at, change_pair, checked, due_by, due_time_of}
use Rattle.is_pair.proofs.Common.{eq-eqb, false, FewerAreAhead, filter, Has, if◌then◌else◌, inl, inr, is_due_by, is_numbered, IsPaced}
use Rattle.is_pair.proofs.Common.{length, List, map, MAX, min, nat_le, nat_tests, PairRecord, refl, StunTiming, sym, true, ℕ}
use Rattle.is_pair.proofs.DueTimes.LaterAfterCheck.{checked-later}

-- ---- how many pass

head-count : {X Y : Type 0} (a b : Bool) (x : X) (y : Y) (xs : List X) (ys : List Y) → (a ≡ true → b ≡ true) → length xs ≤ length ys
    → length (if a then x ∷ xs else xs) ≤ length (if b then y ∷ ys else ys)
head-count true true x y xs ys h k = omega arith
head-count true false x y xs ys h k = let no : false ≡ true = h refl in absurd (cc)
head-count false true x y xs ys h k = omega arith
head-count false false x y xs ys h k = k

pub no-more : {X Y : Type 0} (t : X → Bool) (u : Y → Bool) (f : X → Y) (xs : List X) → ((x : X) → Has xs x → u (f x) ≡ true → t x ≡ true)
    → length (filter u (map f xs)) ≤ length (filter t xs)
no-more t u f [] h = omega arith
no-more t u f (x ∷ xs) h = head-count (u (f x)) (t x) (f x) x (filter u (map f xs)) (filter t xs) (h x (inl refl)) (no-more t u f xs (λ y has. h y (inr has)))

head-fewer : {X Y : Type 0} (a b : Bool) (x : X) (y : Y) (xs : List X) (ys : List Y) → a ≡ false → b ≡ true → length xs ≤ length ys
    → length (if a then x ∷ xs else xs) < length (if b then y ∷ ys else ys)
head-fewer false true x y xs ys h k le = omega (arith, le)
head-fewer true b x y xs ys h k le = absurd (cc)
head-fewer false false x y xs ys h k le = absurd (cc)

tail-fewer : {X Y : Type 0} (a b : Bool) (x : X) (y : Y) (xs : List X) (ys : List Y) → (a ≡ true → b ≡ true) → length xs < length ys
    → length (if a then x ∷ xs else xs) < length (if b then y ∷ ys else ys)
tail-fewer true true x y xs ys h k = omega (arith, k)
tail-fewer true false x y xs ys h k = let no : false ≡ true = h refl in absurd (cc)
tail-fewer false true x y xs ys h k = omega (arith, k)
tail-fewer false false x y xs ys h k = k

-- one that passed does not pass any more
pub fewer : {X Y : Type 0} (t : X → Bool) (u : Y → Bool) (f : X → Y) (xs : List X) (x : X) → ((y : X) → Has xs y → u (f y) ≡ true → t y ≡ true)
    → Has xs x → t x ≡ true → u (f x) ≡ false → length (filter u (map f xs)) < length (filter t xs)
fewer t u f [] x h has passed fails = absurd has
fewer t u f (y ∷ ys) x h (inl e) passed fails =
    head-fewer (u (f y)) (t y) (f y) y (filter u (map f ys)) (filter t ys) (ap (λ z. u (f z)) e ∙ fails) (ap t e ∙ passed) (no-more t u f ys (λ z has. h z (inr has)))
fewer t u f (y ∷ ys) x h (inr has) passed fails =
    tail-fewer (u (f y)) (t y) (f y) y (filter u (map f ys)) (filter t ys) (h y (inl refl)) (fewer t u f ys x (λ z k. h z (inr k)) has passed fails)

-- if each that passes the one test passes the other
pub no-more-pass : {X : Type 0} (t u : X → Bool) (xs : List X) → ((x : X) → Has xs x → u x ≡ true → t x ≡ true) → length (filter u xs) ≤ length (filter t xs)
no-more-pass t u [] h = omega arith
no-more-pass t u (x ∷ xs) h = head-count (u x) (t x) x x (filter u xs) (filter t xs) (h x (inl refl)) (no-more-pass t u xs (λ y has. h y (inr has)))

pub thinner : {X : Type 0} (t keep : X → Bool) (xs : List X) → length (filter t (filter keep xs)) ≤ length (filter t xs)
thinner t keep [] = omega arith
thinner t keep (x ∷ xs) = kept (keep x) (thinner t keep xs) where
  kept : (b : Bool) → length (filter t (filter keep xs)) ≤ length (filter t xs) → length (filter t (if b then x ∷ filter keep xs else filter keep xs)) ≤ length (if t x then x ∷ filter t xs else filter t xs)
  kept true le = head-count (t x) (t x) x x (filter t (filter keep xs)) (filter t xs) (λ is. is) le
  kept false le = skip (t x) le where
    skip : (b : Bool) → length (filter t (filter keep xs)) ≤ length (filter t xs) → length (filter t (filter keep xs)) ≤ length (if b then x ∷ filter t xs else filter t xs)
    skip true le = omega (arith, le)
    skip false le = le

-- one that passes is counted
pub some-pass : {X : Type 0} (t : X → Bool) (xs : List X) (x : X) → Has xs x → t x ≡ true → 0 < length (filter t xs)
some-pass t [] x has passes = absurd has
some-pass t (y ∷ ys) x (inl e) passes = there (t y) (ap t e ∙ passes) where
  there : (b : Bool) → b ≡ true → 0 < length (if b then y ∷ filter t ys else filter t ys)
  there true is = omega arith
  there false is = absurd (cc)
some-pass t (y ∷ ys) x (inr has) passes = there (t y) (some-pass t ys x has passes) where
  there : (b : Bool) → 0 < length (filter t ys) → 0 < length (if b then y ∷ filter t ys else filter t ys)
  there true k = omega arith
  there false k = k

-- ---- a check

pub not-by : (at by : ℕ) → by < at → nat_le at by ≡ false
not-by at by h = grind (arith, nat_tests, h)

module _ (now by : ℕ) (t : StunTiming) (controlling : Bool) (id : List ℕ) (paced : IsPaced t) (early : now < MAX) (from : by ≤ now) where
  later-now : (p : PairRecord) → is_due_by by now t (checked now t controlling id p) ≡ false
  later-now p =
      let following : min now now < due_time_of now t (checked now t controlling id p) = checked-later now now t controlling id p paced early in
      not-by (due_time_of now t (checked now t controlling id p)) by (omega (arith, following, from))

  by-number : (b : Bool) (q : PairRecord) → is_due_by by now t (if b then checked now t controlling id q else q) ≡ true → is_due_by by now t q ≡ true
  by-number true q is = let no : true ≡ false = sym is ∙ later-now q in absurd (cc)
  by-number false q is = is

  at-own : (b : Bool) (q : PairRecord) → b ≡ true → is_due_by by now t (if b then checked now t controlling id q else q) ≡ false
  at-own true q is = later-now q
  at-own false q is = absurd (cc)

  pub fewer-due : (pairs : List PairRecord) (p : PairRecord) → Has pairs p → is_due_by by now t p ≡ true
      → length (due_by by now t (change_pair p.number (checked now t controlling id) pairs)) < length (due_by by now t pairs)
  fewer-due pairs p has due =
      fewer (is_due_by by now t) (is_due_by by now t) (change_at p.number (checked now t controlling id)) pairs p
      (λ q there is. by-number (is_numbered p.number q) q is) has due
      (at-own (is_numbered p.number p) p (eq-eqb p.number p.number refl))

pub fewer-ahead : FewerAreAhead
fewer-ahead now by t controlling id pairs p paced early from has due =
    let fewer = fewer-due now by t controlling id paced early (omega (arith, from)) pairs p has due in omega (arith, fewer)
