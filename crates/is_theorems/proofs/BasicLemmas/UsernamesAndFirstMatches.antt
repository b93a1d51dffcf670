-- At which colon a USERNAME splits, and the first candidate that passes a test.
use Rattle.is_theorems.proofs.Common.{[], ◌++◌, ◌+◌, ◌<◌, ◌==◌, ◌||◌, ◌∷◌, ◌≡◌, arith, Bool, drop-append-add, false, Has, inl, inr}
use Rattle.is_theorems.proofs.Common.{is_empty, length, length-append, List, list_any, lt-ltb, nat_lt, position, position_or_len, refl}
use Rattle.is_theorems.proofs.Common.{Some, split_at_colon, subst, take-append_seam, true, ℕ}

pub neither : (a b : Bool) → (a || b) ≡ false → (a ≡ false) × (b ≡ false)
neither true b h = absurd (cc)
neither false b h = (refl, h)

-- the first index of a colon is the one after a text without any
colon_at : (u v : List ℕ) → list_any (λ b. b == 58) u ≡ false → position_or_len (λ b. b == 58) (u ++ 58 ∷ v) ≡ length u
colon_at [] v h = refl
colon_at (x ∷ u) v h =
    let k = neither (x == 58) (list_any (λ b. b == 58) u) h in
    let rest : position_or_len (λ b. b == 58) (u ++ 58 ∷ v) ≡ length u = colon_at u v k.1 in
    rw (k.0, rest) (omega arith)

some_bytes : (v : List ℕ) → is_empty v ≡ false → 0 < length v
some_bytes [] h = absurd (cc)
some_bytes (x ∷ v) h = omega arith

pub splits : (u v : List ℕ) → list_any (λ b. b == 58) u ≡ false → is_empty v ≡ false → split_at_colon (u ++ 58 ∷ v) ≡ Some (u, v)
splits u v plain some =
    let long : length (u ++ 58 ∷ v) ≡ length u + length (58 ∷ v) = length-append u (58 ∷ v) in
    let more = some_bytes v some in
    let inside : nat_lt (length u) (length (u ++ 58 ∷ v)) ≡ true = lt-ltb (length u) (length (u ++ 58 ∷ v)) (omega (arith, long)) in
    let following : nat_lt (length u + 1) (length (u ++ 58 ∷ v)) ≡ true = lt-ltb (length u + 1) (length (u ++ 58 ∷ v)) (omega (arith, long, more)) in
    rw (colon_at u v plain, inside, following, take-append_seam u (58 ∷ v), drop-append-add u (58 ∷ v) 1) refl

-- ---- the first that passes

or_true : (a b : Bool) → b ≡ true → (a || b) ≡ true
or_true true b h = refl
or_true false b h = h

pub any_has : {X : Type 0} (test : X → Bool) (xs : List X) (x : X) → Has xs x → test x ≡ true → list_any test xs ≡ true
any_has test [] x h is = absurd h
any_has test (y ∷ xs) x (inl e) is = rw (e, is) refl
any_has test (y ∷ xs) x (inr h) is = or_true (test y) (list_any test xs) (any_has test xs x h is)

-- one passes, so there is a first
first_inside : {X : Type 0} (test : X → Bool) (xs : List X) → list_any test xs ≡ true → position_or_len test xs < length xs
first_inside test [] h = absurd (cc)
first_inside test (x ∷ xs) h = by (test x) refl (λ rest. first_inside test xs rest) where
  by : (b : Bool) → test x ≡ b → (list_any test xs ≡ true → position_or_len test xs < length xs) → position_or_len test (x ∷ xs) < length (x ∷ xs)
  by true is within = rw is (omega arith)
  by false is within =
      let rest : list_any test xs ≡ true = subst (λ b. (b || list_any test xs) ≡ true) is h in
      let k : position_or_len test xs < length xs = within rest in
      rw is (omega (arith, k))

pub first_found : {X : Type 0} (test : X → Bool) (xs : List X) → list_any test xs ≡ true → position test xs ≡ Some (position_or_len test xs)
first_found test xs h = let k = lt-ltb (position_or_len test xs) (length xs) (first_inside test xs h) in rw k refl
