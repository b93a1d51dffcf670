-- Of the eligible pairs the one with the greatest number is first, and stays so once it is selected.
use Rattle.is_theorems.proofs.Common.{[], ◌&&◌, ◌==◌, ◌||◌, ◌∙◌, ◌∷◌, ◌≡◌, ◌≤◌, ◌⊎◌, ap, AreRising, arith, Bool, eq-eqb, eqb-true, false}
use Rattle.is_theorems.proofs.Common.{first_after, first_numbered, first_with, Has, if_eligible, if◌then◌else◌, inl, inr, is_eligible}
use Rattle.is_theorems.proofs.Common.{is_named_by, List, map, max, nat_lt, nat_tests, no-some, None, not, number_of, Option, option_map}
use Rattle.is_theorems.proofs.Common.{option_map_or, outnumbers, PairRecord, refl, same-some, Some, subst, sym, true, ℕ}
use Rattle.is_theorems.proofs.RuleEffects.SelectedPaths.{one_pair}

-- ---- one comparison

lt-not : (a b : ℕ) → b ≤ a → nat_lt a b ≡ false
lt-not a b h = grind (arith, nat_tests, h)

ge-from : (a b : ℕ) → nat_lt a b ≡ false → b ≤ a
ge-from a b h = grind (arith, nat_tests, h)

le-from-lt : (a b : ℕ) → nat_lt a b ≡ true → a ≤ b
le-from-lt a b h = grind (arith, nat_tests, h)

true-false : {A : Type 0} → true ≡ false → A
true-false h = absurd (cc)

-- a pair that goes before another one has no lesser number
goes-before : (selected : Option ℕ) (p q : PairRecord) → outnumbers selected p q ≡ true → number_of q ≤ number_of p
goes-before selected p q h = by (nat_lt (number_of q) (number_of p)) refl h where
  equal : (b c d : Bool) → (number_of p == number_of q) ≡ b → (b && c && d) ≡ true → number_of q ≤ number_of p
  equal true c d is h = let same : number_of p ≡ number_of q = eqb-true (number_of p) (number_of q) is in omega (arith, same)
  equal false c d is h = true-false (sym h)

  by : (b : Bool) → nat_lt (number_of q) (number_of p) ≡ b
      → (b || (number_of p == number_of q && not (is_named_by selected q) && (is_named_by selected p || nat_lt q.priority p.priority))) ≡ true → number_of q ≤ number_of p
  by true is h = le-from-lt (number_of q) (number_of p) is
  by false is h = equal (number_of p == number_of q) (not (is_named_by selected q)) (is_named_by selected p || nat_lt q.priority p.priority) refl h

-- one that does not has no greater number
stays-before : (selected : Option ℕ) (p q : PairRecord) → outnumbers selected p q ≡ false → number_of p ≤ number_of q
stays-before selected p q h = by (nat_lt (number_of q) (number_of p)) refl h where
  by : (b : Bool) → nat_lt (number_of q) (number_of p) ≡ b
      → (b || (number_of p == number_of q && not (is_named_by selected q) && (is_named_by selected p || nat_lt q.priority p.priority))) ≡ false → number_of p ≤ number_of q
  by true is h = true-false h
  by false is h = ge-from (number_of q) (number_of p) is

named-self : (n : ℕ) → (n == n) ≡ true
named-self n = eq-eqb n n refl

-- no pair without a greater number goes before the selected one
selected-first : (p q : PairRecord) → number_of p ≤ number_of q → outnumbers (Some q.number) p q ≡ false
selected-first p q le =
    ap (λ b. b || (number_of p == number_of q && not (q.number == q.number) && (q.number == p.number || nat_lt q.priority p.priority))) (lt-not (number_of q) (number_of p) le)
    ∙ (ap (λ b. number_of p == number_of q && not b && (q.number == p.number || nat_lt q.priority p.priority)) (named-self q.number) ∙ none (number_of p == number_of q)) where
      none : (b : Bool) → (b && false && (q.number == p.number || nat_lt q.priority p.priority)) ≡ false
      none true = refl
      none false = refl

-- the selected one goes before each other one without a greater number
goes-first : (q x : PairRecord) → number_of x ≤ number_of q → (q.number == x.number) ≡ false → outnumbers (Some q.number) q x ≡ true
goes-first q x le apart = by (nat_lt (number_of x) (number_of q)) refl where
  by : (b : Bool) → nat_lt (number_of x) (number_of q) ≡ b
      → (b || (number_of q == number_of x && not (q.number == x.number) && (q.number == q.number || nat_lt x.priority q.priority))) ≡ true
  by true is = refl
  by false is =
      let ge : number_of q ≤ number_of x = ge-from (number_of x) (number_of q) is in
      let same : number_of q ≡ number_of x = omega (arith, ge, le) in
      ap (λ b. b && not (q.number == x.number) && (q.number == q.number || nat_lt x.priority q.priority)) (eq-eqb (number_of q) (number_of x) same)
      ∙ (ap (λ b. not b && (q.number == q.number || nat_lt x.priority q.priority)) apart
      ∙ ap (λ b. b || nat_lt x.priority q.priority) (named-self q.number))

module _ (c : Bool) (selected : Option ℕ) where
  -- ---- it is one of the pairs

  abbrev IsIn : List PairRecord → PairRecord → Type 0
  IsIn ps q = Has ps q × (is_eligible c q ≡ true)

  eligible-by : (b : Bool) (p q : PairRecord) → is_eligible c p ≡ b → (if b then Some p else None) ≡ Some q → (p ≡ q) × (is_eligible c q ≡ true)
  eligible-by true p q is h = let same = same-some p q h in (same, subst (λ x. is_eligible c x ≡ true) same is)
  eligible-by false p q is h = absurd (no-some q h)

  found-after : (so_far : Option PairRecord) (ps : List PairRecord) (q : PairRecord) → first_after c selected so_far ps ≡ Some q → (so_far ≡ Some q) ⊎ IsIn ps q
  found-after so_far [] q h = inl h
  found-after None (p ∷ ps) q h = elim (found-after (if_eligible c p) ps q h) [
    | inl is ↦ (let k = eligible-by (is_eligible c p) p q refl is in inr (inl k.0, k.1))
    | inr k ↦ inr (inr k.0, k.1)
  ]
  found-after (Some x) (p ∷ ps) q h = elim (found-after (first_with c selected (Some x) p) ps q h) [
    | inl is ↦ which (is_eligible c p) (outnumbers selected p x) refl is
    | inr k ↦ inr (inr k.0, k.1)
  ] where
    which : (a b : Bool) → is_eligible c p ≡ a → (if a && b then Some p else Some x) ≡ Some q → (Some x ≡ Some q) ⊎ IsIn (p ∷ ps) q
    which true true is h = let same = same-some p q h in inr (inl same, subst (λ y. is_eligible c y ≡ true) same is)
    which true false is h = inl h
    which false b is h = inl h

  pub first-in : (ps : List PairRecord) (q : PairRecord) → first_numbered c selected ps ≡ Some q → IsIn ps q
  first-in ps q h = elim (found-after None ps q h) [ inl none ↦ absurd (no-some q none) | inr k ↦ k ]

  -- ---- none goes before it

  pub record IsMost (so_far : Option PairRecord) (ps : List PairRecord) (q : PairRecord) : Type 0 where
    pub before : (x : PairRecord) → so_far ≡ Some x → number_of x ≤ number_of q
    pub among : (p : PairRecord) → Has ps p → is_eligible c p ≡ true → number_of p ≤ number_of q

  most-after : (so_far : Option PairRecord) (ps : List PairRecord) (q : PairRecord) → first_after c selected so_far ps ≡ Some q → IsMost so_far ps q
  most-after so_far [] q h = record {
    before = λ x is. (let same : x ≡ q = same-some x q (sym is ∙ h) in subst (λ y. number_of x ≤ number_of y) same (omega arith));
    among = λ p has. absurd has;
  }
  most-after None (p ∷ ps) q h =
      let m = most-after (if_eligible c p) ps q h in
      record {
        before = λ x is. absurd (no-some x is);
        among = λ r has able. elim has [
          | inl same ↦ m.before r (ap (λ x. if_eligible c x) same ∙ ap (λ b. if b then Some r else None) able)
          | inr there ↦ m.among r there able
        ];
      }
  most-after (Some x) (p ∷ ps) q h = by (is_eligible c p) (outnumbers selected p x) refl refl (most-after (first_with c selected (Some x) p) ps q h) where
    own : (y : PairRecord) → Some x ≡ Some y → number_of x ≤ number_of q → number_of y ≤ number_of q
    own y is le = subst (λ z. number_of z ≤ number_of q) (same-some x y is) le

    by : (a b : Bool) → is_eligible c p ≡ a → outnumbers selected p x ≡ b → IsMost (if a && b then Some p else Some x) ps q → IsMost (Some x) (p ∷ ps) q
    by true true able goes m =
        let le : number_of p ≤ number_of q = m.before p refl in
        let below : number_of x ≤ number_of p = goes-before selected p x goes in
        record {
          before = λ y is. own y is (omega (arith, le, below));
          among = λ r has r_able. elim has [ inl same ↦ subst (λ z. number_of z ≤ number_of q) same le | inr there ↦ m.among r there r_able ];
        }
    by true false able stays m =
        let le : number_of x ≤ number_of q = m.before x refl in
        let below : number_of p ≤ number_of x = stays-before selected p x stays in
        record {
          before = λ y is. own y is le;
          among = λ r has r_able. elim has [ inl same ↦ subst (λ z. number_of z ≤ number_of q) same (omega (arith, le, below)) | inr there ↦ m.among r there r_able ];
        }
    by false b fails _ m = record {
      before = λ y is. own y is (m.before x refl);
      among = λ r has r_able. elim has [ inl same ↦ true-false (sym r_able ∙ (ap (λ z. is_eligible c z) (sym same) ∙ fails)) | inr there ↦ m.among r there r_able ];
    }

  pub first-most : (ps : List PairRecord) (q : PairRecord) → first_numbered c selected ps ≡ Some q → (p : PairRecord) → Has ps p → is_eligible c p ≡ true → number_of p ≤ number_of q
  first-most ps q h = (most-after None ps q h).among

  -- ---- there is one if a pair is eligible

  some-after : (x : PairRecord) (ps : List PairRecord) → first_after c selected (Some x) ps ≡ None → ⊥
  some-after x [] h = no-some x (sym h)
  some-after x (p ∷ ps) h = by (is_eligible c p && outnumbers selected p x) (λ y. some-after y ps) h where
    by : (b : Bool) → ((y : PairRecord) → first_after c selected (Some y) ps ≡ None → ⊥) → first_after c selected (if b then Some p else Some x) ps ≡ None → ⊥
    by true again h = again p h
    by false again h = again x h

  pub first-there : (ps : List PairRecord) → first_numbered c selected ps ≡ None → (p : PairRecord) → Has ps p → is_eligible c p ≡ true → ⊥
  first-there [] h p has able = absurd has
  first-there (x ∷ ps) h p has able = by (is_eligible c x) refl (λ none there. first-there ps none p there able) h has where
    by : (b : Bool) → is_eligible c x ≡ b → (first_numbered c selected ps ≡ None → Has ps p → ⊥) → first_after c selected (if b then Some x else None) ps ≡ None
        → (x ≡ p) ⊎ Has ps p → ⊥
    by true is again h has = some-after x ps h
    by false is again h (inl same) = true-false (sym able ∙ (ap (λ z. is_eligible c z) (sym same) ∙ is))
    by false is again h (inr there) = again h there

-- ---- once it is selected, it stays first

module _ (c : Bool) (q : PairRecord) (able : is_eligible c q ≡ true) where
  abbrev Most : List PairRecord → Type 0
  Most ps = (p : PairRecord) → Has ps p → is_eligible c p ≡ true → number_of p ≤ number_of q

  keeps : (ps : List PairRecord) → Most ps → first_after c (Some q.number) (Some q) ps ≡ Some q
  keeps [] most = refl
  keeps (p ∷ ps) most = ap (λ o. first_after c (Some q.number) o ps) (by (is_eligible c p) refl) ∙ keeps ps (λ r has. most r (inr has)) where
    by : (b : Bool) → is_eligible c p ≡ b → (if b && outnumbers (Some q.number) p q then Some p else Some q) ≡ Some q
    by true is = ap (λ b. if b then Some p else Some q) (selected-first p q (most p (inl refl) is))
    by false is = refl

  -- another one so far, or none
  abbrev Other : Option PairRecord → Type 0
  Other so_far = (x : PairRecord) → so_far ≡ Some x → (number_of x ≤ number_of q) × ((q.number == x.number) ≡ false)

  -- it goes first, and stays
  comes : (so_far : Option PairRecord) (ps : List PairRecord) → Other so_far → Most ps → first_after c (Some q.number) (first_with c (Some q.number) so_far q) ps ≡ Some q
  comes None ps other most = ap (λ b. first_after c (Some q.number) (if b then Some q else None) ps) able ∙ keeps ps most
  comes (Some x) ps other most =
      let o = other x refl in
      ap (λ b. first_after c (Some q.number) (if b && outnumbers (Some q.number) q x then Some q else Some x) ps) able
      ∙ (ap (λ b. first_after c (Some q.number) (if b then Some q else Some x) ps) (goes-first q x o.0 o.1) ∙ keeps ps most)

  with-other : (so_far : Option PairRecord) (p : PairRecord) → Other so_far → (is_eligible c p ≡ true → number_of p ≤ number_of q) → (q.number == p.number) ≡ false
      → Other (first_with c (Some q.number) so_far p)
  with-other None p other le apart x is = by (is_eligible c p) refl is where
    by : (b : Bool) → is_eligible c p ≡ b → (if b then Some p else None) ≡ Some x → (number_of x ≤ number_of q) × ((q.number == x.number) ≡ false)
    by true able_p is = subst (λ z. (number_of z ≤ number_of q) × ((q.number == z.number) ≡ false)) (same-some p x is) (le able_p, apart)
    by false fails is = absurd (no-some x is)
  with-other (Some y) p other le apart x is = by (is_eligible c p) (outnumbers (Some q.number) p y) refl is where
    by : (a b : Bool) → is_eligible c p ≡ a → (if a && b then Some p else Some y) ≡ Some x → (number_of x ≤ number_of q) × ((q.number == x.number) ≡ false)
    by true true able_p is = subst (λ z. (number_of z ≤ number_of q) × ((q.number == z.number) ≡ false)) (same-some p x is) (le able_p, apart)
    by true false able_p is = other x is
    by false b fails is = other x is

  settles : (so_far : Option PairRecord) (ps : List PairRecord) → Other so_far → Most ps → Has ps q → ((p : PairRecord) → Has ps p → p.number ≡ q.number → p ≡ q)
      → first_after c (Some q.number) so_far ps ≡ Some q
  settles so_far [] other most has one = absurd has
  settles so_far (p ∷ ps) other most has one = by (q.number == p.number) refl
      (λ so other_far there. settles so ps other_far (λ r in_rest. most r (inr in_rest)) there (λ r in_rest same. one r (inr in_rest) same)) has where
        by : (b : Bool) → (q.number == p.number) ≡ b
            → ((so : Option PairRecord) → Other so → Has ps q → first_after c (Some q.number) so ps ≡ Some q) → (p ≡ q) ⊎ Has ps q → first_after c (Some q.number) (first_with c (Some q.number) so_far p) ps ≡ Some q
        by true is again has =
            let same : p ≡ q = one p (inl refl) (sym (eqb-true q.number p.number is)) in
            subst (λ z. first_after c (Some q.number) (first_with c (Some q.number) so_far z) ps ≡ Some q) (sym same) (comes so_far ps other (λ r there. most r (inr there)))
        by false apart again (inl same) = true-false (sym (ap (λ (z : PairRecord). q.number == z.number) same ∙ named-self q.number) ∙ apart)
        by false apart again (inr there) = again (first_with c (Some q.number) so_far p) (with-other so_far p other (λ is. most p (inl refl) is) apart) there

pub first-stays : (c : Bool) (selected : Option ℕ) (ps : List PairRecord) (q : PairRecord) → AreRising ps → first_numbered c selected ps ≡ Some q → first_numbered c (Some q.number) ps ≡ Some q
first-stays c selected ps q rising h =
    let k = first-in c selected ps q h in
    settles c q k.1 None ps (λ x is. absurd (no-some x is)) (first-most c selected ps q h) k.0 (λ p has same. one_pair ps p q rising has k.0 same)

-- ---- changes that leave eligibility and order

-- the pair is ordered and eligible as it was
pub record SameOrder (c : Bool) (p q : PairRecord) : Type 0 where
  pub number : q.number ≡ p.number
  pub priority : q.priority ≡ p.priority
  pub greatest : q.greatest_number ≡ p.greatest_number
  pub eligible : is_eligible c q ≡ is_eligible c p

module _ (c : Bool) (selected : Option ℕ) (f : PairRecord → PairRecord) (same : (p : PairRecord) → SameOrder c p (f p)) where
  number-same : (p : PairRecord) → number_of (f p) ≡ number_of p
  number-same p = ap (λ n. max 1 n) (same p).greatest

  named-same : (p : PairRecord) → is_named_by selected (f p) ≡ is_named_by selected p
  named-same p = ap (λ m. option_map_or (λ n. n == m) selected false) (same p).number

  order-same : (p q : PairRecord) → outnumbers selected (f p) (f q) ≡ outnumbers selected p q
  order-same p q =
      ap (λ n. nat_lt (number_of (f q)) n || (n == number_of (f q) && not (is_named_by selected (f q)) && (is_named_by selected (f p) || nat_lt (f q).priority (f p).priority))) (number-same p)
      ∙ (ap (λ n. nat_lt n (number_of p) || (number_of p == n && not (is_named_by selected (f q)) && (is_named_by selected (f p) || nat_lt (f q).priority (f p).priority))) (number-same q)
      ∙ (ap (λ b. nat_lt (number_of q) (number_of p) || (number_of p == number_of q && not b && (is_named_by selected (f p) || nat_lt (f q).priority (f p).priority))) (named-same q)
      ∙ (ap (λ b. nat_lt (number_of q) (number_of p) || (number_of p == number_of q && not (is_named_by selected q) && (b || nat_lt (f q).priority (f p).priority))) (named-same p)
      ∙ (ap (λ n. nat_lt (number_of q) (number_of p) || (number_of p == number_of q && not (is_named_by selected q) && (is_named_by selected p || nat_lt n (f p).priority))) (same q).priority
      ∙ ap (λ n. nat_lt (number_of q) (number_of p) || (number_of p == number_of q && not (is_named_by selected q) && (is_named_by selected p || nat_lt q.priority n))) (same p).priority))))

  with-mapped : (so_far : Option PairRecord) (p : PairRecord) → first_with c selected (option_map f so_far) (f p) ≡ option_map f (first_with c selected so_far p)
  with-mapped None p = ap (λ b. if b then Some (f p) else None) (same p).eligible ∙ by (is_eligible c p) where
    by : (b : Bool) → (if b then Some (f p) else None) ≡ option_map f (if b then Some p else None)
    by true = refl
    by false = refl
  with-mapped (Some q) p =
      ap (λ b. if b && outnumbers selected (f p) (f q) then Some (f p) else Some (f q)) (same p).eligible
      ∙ (ap (λ b. if is_eligible c p && b then Some (f p) else Some (f q)) (order-same p q) ∙ by (is_eligible c p && outnumbers selected p q)) where
        by : (b : Bool) → (if b then Some (f p) else Some (f q)) ≡ option_map f (if b then Some p else Some q)
        by true = refl
        by false = refl

  after-mapped : (so_far : Option PairRecord) (ps : List PairRecord) → first_after c selected (option_map f so_far) (map f ps) ≡ option_map f (first_after c selected so_far ps)
  after-mapped so_far [] = refl
  after-mapped so_far (p ∷ ps) = ap (λ o. first_after c selected o (map f ps)) (with-mapped so_far p) ∙ after-mapped (first_with c selected so_far p) ps

  pub number-mapped : (ps : List PairRecord)
      → option_map (λ (p : PairRecord). p.number) (first_numbered c selected (map f ps)) ≡ option_map (λ (p : PairRecord). p.number) (first_numbered c selected ps)
  number-mapped ps = ap (λ o. option_map (λ (p : PairRecord). p.number) o) (after-mapped None ps) ∙ by (first_numbered c selected ps) where
    by : (o : Option PairRecord) → option_map (λ (p : PairRecord). p.number) (option_map f o) ≡ option_map (λ (p : PairRecord). p.number) o
    by None = refl
    by (Some p) = ap Some (same p).number
