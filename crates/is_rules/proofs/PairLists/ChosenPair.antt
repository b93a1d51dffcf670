-- A chosen pair is an eligible one of the list. If none is chosen, none is eligible.
use Rattle.is_rules.proofs.Common.{[], ◌∙◌, ◌∷◌, ◌≡◌, ap, Bool, cond, eligible_numbered, eqb-true, false, favored, filter, find, Has}
use Rattle.is_rules.proofs.Common.{if_eligible, if◌then◌else◌, inl, inr, is_eligible, is_named_by, is_numbered, IsChosen, List, MatchOption}
use Rattle.is_rules.proofs.Common.{None, NonePass, Option, option_and_then, option_or, pair_numbered, PairRecord, refl, Selection, Some}
use Rattle.is_rules.proofs.Common.{subst, sym, true, ℕ}

kept_head : {X : Type 0} (b : Bool) (x : X) (xs : List X) → b ≡ true → (if b then x ∷ xs else xs) ≡ [] → ⊥
kept_head true x xs passes none = let wrong : x ∷ xs ≡ [] = none in cc
kept_head false x xs passes none = let wrong : false ≡ true = passes in cc

kept_tail : {X : Type 0} (b : Bool) (x : X) (xs : List X) → (if b then x ∷ xs else xs) ≡ [] → xs ≡ []
kept_tail true x xs none = let wrong : x ∷ xs ≡ [] = none in absurd (cc)
kept_tail false x xs none = none

pub none_pass : {X : Type 0} (test : X → Bool) (xs : List X) (x : X) → NonePass test xs → Has xs x → test x ≡ true → ⊥
none_pass test [] x none has passes = absurd has
none_pass test (y ∷ ys) x none (inl is) passes = kept_head (test y) y (filter test ys) (ap test is ∙ passes) none
none_pass test (y ∷ ys) x none (inr has) passes = none_pass test ys x (kept_tail (test y) y (filter test ys) none) has passes

pub by-option : {X : Type 0} (o : Option X) {P R : Type 0} {Q : X → Type 0} → MatchOption o P Q → (o ≡ None → P → R) → ((x : X) → o ≡ Some x → Q x → R) → R
by-option None h f g = f refl h
by-option (Some x) h f g = g x refl h

pub no-some : {X : Type 0} (x : X) → None ≡ Some x → ⊥
no-some x h = cc

pub same-some : {X : Type 0} (x y : X) → Some x ≡ Some y → x ≡ y
same-some x y h = cc

found-by : (test : PairRecord → Bool) (x p : PairRecord) (xs : List PairRecord) (b : Bool) → test x ≡ b → (find test xs ≡ Some p → Has xs p × (test p ≡ true))
    → cond b (Some x) (find test xs) ≡ Some p → Has (x ∷ xs) p × (test p ≡ true)
found-by test x p xs true passes rest is = let same : x ≡ p = cc in (inl same, subst (λ (y : PairRecord). test y ≡ true) same passes)
found-by test x p xs false passes rest is = let k = rest is in (inr k.0, k.1)

pub found-in : (test : PairRecord → Bool) (ps : List PairRecord) (p : PairRecord) → find test ps ≡ Some p → Has ps p × (test p ≡ true)
found-in test [] p is = absurd (no-some p is)
found-in test (x ∷ xs) p is = found-by test x p xs (test x) refl (λ k. found-in test xs p k) is

able-by : (c b : Bool) (q p : PairRecord) → is_eligible c q ≡ b → (if b then Some q else None) ≡ Some p → (q ≡ p) × (is_eligible c p ≡ true)
able-by c true q p is h = let same = same-some q p h in (same, subst (λ (x : PairRecord). is_eligible c x ≡ true) same is)
able-by c false q p is h = absurd (no-some p h)

-- a pair that is found by its number, if it is eligible
pub numbered-able : (c : Bool) (ps : List PairRecord) (n : ℕ) (p : PairRecord) → eligible_numbered c ps n ≡ Some p → Has ps p × (is_eligible c p ≡ true)
numbered-able c ps n p h = by (pair_numbered n ps) refl h where
  by : (o : Option PairRecord) → pair_numbered n ps ≡ o → option_and_then (if_eligible c) o ≡ Some p → Has ps p × (is_eligible c p ≡ true)
  by None is k = absurd (no-some p k)
  by (Some q) is k =
      let a = able-by c (is_eligible c q) q p refl k in
      (subst (λ (x : PairRecord). Has ps x) a.0 (found-in (is_numbered n) ps q is).0, a.1)

favored-able : (c : Bool) (followed : Option ℕ) (old : Selection) (p : PairRecord) → favored c followed old ≡ Some p → Has old.pairs p × (is_eligible c p ≡ true)
favored-able c None old p h = absurd (no-some p h)
favored-able c (Some n) old p h = by (eligible_numbered c old.pairs n) refl h where
  again : (number : Option ℕ) → option_and_then (eligible_numbered c old.pairs) number ≡ Some p → Has old.pairs p × (is_eligible c p ≡ true)
  again None k = absurd (no-some p k)
  again (Some m) k = numbered-able c old.pairs m p k

  by : (o : Option PairRecord) → eligible_numbered c old.pairs n ≡ o → option_or o (option_and_then (eligible_numbered c old.pairs) old.selected_pair) ≡ Some p
      → Has old.pairs p × (is_eligible c p ≡ true)
  by None is k = again old.selected_pair k
  by (Some q) is k = numbered-able c old.pairs n p (is ∙ k)

-- the chosen pair is eligible
pub chosen-able : (c : Bool) (followed : Option ℕ) (old : Selection) (top : PairRecord) → IsChosen c followed old (Some top)
    → Has old.pairs top × (is_eligible c top ≡ true)
chosen-able c followed old top h = by-option (favored c followed old) h
    (λ _ k. (k.0, k.1))
    (λ p is k. favored-able c followed old top (is ∙ sym k))

-- if none is chosen, none is eligible
pub chosen-none : (c : Bool) (followed : Option ℕ) (old : Selection) → IsChosen c followed old None → NonePass (is_eligible c) old.pairs
chosen-none c followed old h = by-option (favored c followed old) h
    (λ _ k. k)
    (λ p is k. absurd (no-some p k))

-- the number is the pair's
pub named-by : (number : Option ℕ) (p : PairRecord) → is_named_by number p ≡ true → number ≡ Some p.number
named-by None p h = let no : false ≡ true = h in cc
named-by (Some n) p h = ap Some (eqb-true n p.number h)
