-- How many elements of a list pass a test: what adding and removing elements does to the count.
use Rattle.is_rules.proofs.Common.{[], ◌*◌, ◌++◌, ◌+◌, ◌<◌, ◌==◌, ◌∙◌, ◌∷◌, ◌≡◌, ◌≤◌, ◌⊎◌, ap, arith, Bool, count_by, false, filter, Has}
use Rattle.is_rules.proofs.Common.{if◌then◌else◌, inl, inr, length, List, nat_lt, nat_tests, one_if, refl, suc, sum_by-cons, true, zero, ℕ}

pub less-or : (a b : ℕ) → (a < b) ⊎ (b ≤ a)
less-or a b = elim (nat_lt a b) as (λ t. nat_lt a b ≡ t → (a < b) ⊎ (b ≤ a)) [
  | true ↦ λ is. inl (grind (arith, nat_tests, is))
  | false ↦ λ is. inr (grind (arith, nat_tests, is))
] refl

one : (b : Bool) → (if b then 1 else 0) ≡ one_if b
one true = refl
one false = refl

module _ {X : Type 0} (t : X → Bool) where
  pub count-head : (x : X) (xs : List X) → count_by t (x ∷ xs) ≡ one_if (t x) + count_by t xs
  count-head x xs = sum_by-cons (λ y. if t y then 1 else 0) x xs ∙ ap (λ k. k + count_by t xs) (one (t x))

  pub count-push : (xs : List X) (x : X) → count_by t (xs ++ x ∷ []) ≡ count_by t xs + one_if (t x)
  count-push [] x = let h : count_by t (x ∷ []) ≡ one_if (t x) + 0 = count-head x [] in omega (arith, h)
  count-push (y ∷ ys) x =
      let k : count_by t (ys ++ x ∷ []) ≡ count_by t ys + one_if (t x) = count-push ys x in
      let l : count_by t (y ∷ (ys ++ x ∷ [])) ≡ one_if (t y) + count_by t (ys ++ x ∷ []) = count-head y (ys ++ x ∷ []) in
      let r : count_by t (y ∷ ys) ≡ one_if (t y) + count_by t ys = count-head y ys in
      omega (arith, k, l, r)

  pub count-filter : (keep : X → Bool) (xs : List X) → count_by t (filter keep xs) ≤ count_by t xs
  count-filter keep [] = omega arith
  count-filter keep (x ∷ xs) =
      let k : count_by t (filter keep xs) ≤ count_by t xs = count-filter keep xs in
      let r : count_by t (x ∷ xs) ≡ one_if (t x) + count_by t xs = count-head x xs in
      let l : count_by t (x ∷ filter keep xs) ≡ one_if (t x) + count_by t (filter keep xs) = count-head x (filter keep xs) in
      elim (keep x) as (λ b. count_by t (if b then x ∷ filter keep xs else filter keep xs) ≤ count_by t (x ∷ xs)) [
        | true ↦ omega (arith, k, l, r)
        | false ↦ omega (arith, k, r)
      ]

  pub count-all : (xs : List X) → ((x : X) → Has xs x → t x ≡ true) → count_by t xs ≡ length xs
  count-all [] each = refl
  count-all (x ∷ xs) each =
      let k : count_by t xs ≡ length xs = count-all xs (λ y has. each y (inr has)) in
      let h : count_by t (x ∷ xs) ≡ one_if (t x) + count_by t xs = count-head x xs in
      let one : one_if (t x) ≡ 1 = ap one_if (each x (inl refl)) in
      omega (arith, k, h, one)

  pub count-agree : (u : X → Bool) (xs : List X) → ((x : X) → Has xs x → t x ≡ u x) → count_by t xs ≡ count_by u xs
  count-agree u [] same = refl
  count-agree u (x ∷ xs) same =
      let k : count_by t xs ≡ count_by u xs = count-agree u xs (λ y has. same y (inr has)) in
      let a : count_by t (x ∷ xs) ≡ one_if (t x) + count_by t xs = count-head x xs in
      let b : count_by u (x ∷ xs) ≡ one_if (u x) + count_by u xs = sum_by-cons (λ y. if u y then 1 else 0) x xs ∙ ap (λ n. n + count_by u xs) (one (u x)) in
      let one_same : one_if (t x) ≡ one_if (u x) = ap one_if (same x (inl refl)) in
      omega (arith, k, a, b, one_same)

  pub count-zero : (xs : List X) → ((x : X) → Has xs x → t x ≡ false) → count_by t xs ≡ 0
  count-zero [] fails = refl
  count-zero (x ∷ xs) fails =
      let h : count_by t (x ∷ xs) ≡ one_if (t x) + count_by t xs = count-head x xs in
      let none : one_if (t x) ≡ 0 = ap one_if (fails x (inl refl)) in
      let rest : count_by t xs ≡ 0 = count-zero xs (λ y has. fails y (inr has)) in
      omega (arith, h, none, rest)

-- ---- elements of so many kinds

module _ {X : Type 0} (kind_of : X → ℕ) where
  abbrev pub count_of : List X → ℕ → ℕ
  count_of xs kind = count_by (λ x. kind_of x == kind) xs

  abbrev count_below : List X → ℕ → ℕ
  count_below xs kinds = count_by (λ x. nat_lt (kind_of x) kinds) xs

  one-more : (kinds kind : ℕ) → one_if (nat_lt kind (suc kinds)) ≡ one_if (nat_lt kind kinds) + one_if (kind == kinds)
  one-more kinds kind = by (nat_lt kind kinds) refl (kind == kinds) refl (nat_lt kind (suc kinds)) refl where
    by : (a : Bool) → nat_lt kind kinds ≡ a → (b : Bool) → kind == kinds ≡ b → (c : Bool) → nat_lt kind (suc kinds) ≡ c → one_if c ≡ one_if a + one_if b
    by true x true y c z = absurd (grind (arith, nat_tests, x, y))
    by true x false y true z = refl
    by true x false y false z = absurd (grind (arith, nat_tests, x, z))
    by false x true y true z = refl
    by false x true y false z = absurd (grind (arith, nat_tests, y, z))
    by false x false y true z = absurd (grind (arith, nat_tests, x, y, z))
    by false x false y false z = refl

  below-more : (xs : List X) (kinds : ℕ) → count_below xs (suc kinds) ≡ count_below xs kinds + count_of xs kinds
  below-more [] kinds = refl
  below-more (x ∷ xs) kinds =
      let k : count_below xs (suc kinds) ≡ count_below xs kinds + count_of xs kinds = below-more xs kinds in
      let a : count_below (x ∷ xs) (suc kinds) ≡ one_if (nat_lt (kind_of x) (suc kinds)) + count_below xs (suc kinds) = count-head (λ y. nat_lt (kind_of y) (suc kinds)) x xs in
      let b : count_below (x ∷ xs) kinds ≡ one_if (nat_lt (kind_of x) kinds) + count_below xs kinds = count-head (λ y. nat_lt (kind_of y) kinds) x xs in
      let c : count_of (x ∷ xs) kinds ≡ one_if (kind_of x == kinds) + count_of xs kinds = count-head (λ y. kind_of y == kinds) x xs in
      let d = one-more kinds (kind_of x) in
      omega (arith, k, a, b, c, d)

  none-below : (xs : List X) → count_below xs 0 ≡ 0
  none-below [] = refl
  none-below (x ∷ xs) =
      let a : count_below (x ∷ xs) 0 ≡ one_if (nat_lt (kind_of x) 0) + count_below xs 0 = count-head (λ y. nat_lt (kind_of y) 0) x xs in
      let fails : nat_lt (kind_of x) 0 ≡ false = grind (arith, nat_tests) in
      let none : one_if (nat_lt (kind_of x) 0) ≡ 0 = ap one_if fails in
      let rest = none-below xs in
      omega (arith, a, none, rest)

  module _ (xs : List X) (most : ℕ) (each : (kind : ℕ) → count_of xs kind ≤ most) where
    few-below : (kinds : ℕ) → count_below xs kinds ≤ kinds * most
    few-below zero = let none = none-below xs in omega (arith, none)
    few-below (suc kinds) =
        let rest : count_below xs kinds ≤ kinds * most = few-below kinds in
        let more = below-more xs kinds in
        let one = each kinds in
        omega (arith, rest, more, one)

    -- There are at most so many elements of each kind.
    pub few : (kinds : ℕ) → ((x : X) → Has xs x → kind_of x < kinds) → length xs ≤ kinds * most
    few kinds below =
        let all : count_below xs kinds ≡ length xs = count-all (λ x. nat_lt (kind_of x) kinds) xs (λ x has. let lt = below x has in grind (arith, nat_tests, lt)) in
        let k = few-below kinds in
        omega (arith, all, k)
