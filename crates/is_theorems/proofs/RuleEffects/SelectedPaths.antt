-- What a step selects: paths that were valid, and `selected_pair` after them.
use Rattle.is_theorems.proofs.Common.{[], ◌<◌, ◌∙◌, ◌∷◌, ◌≡◌, ◌≢◌, ◌≤◌, ◌⊎◌, ap, AreRising, arith, Bool, Has, inl, inr, is_nominated}
use Rattle.is_theorems.proofs.Common.{is_valid, last_of, List, None, Option, PairRecord, Path, refl, selected_in, Some, subst, sym, true, ℕ}
use Rattle.is_theorems.proofs.RuleEffects.EarlierAndNewPairs.{Parts, path_in, IsValidIn, IsNominatedIn, Onward, valid_before}
use Rattle.is_theorems.proofs.RuleEffects.EarlierAndNewPairs.{nominated_before}

no_less : {A : Type 0} (m n : ℕ) → m < n → m ≡ n → A
no_less m n lt same = let differ : m ≢ n = omega (arith, lt) in absurd (differ same)

no_more : {A : Type 0} (m n : ℕ) → m < n → n ≤ m → A
no_more m n lt le = absurd (let none : ⊥ = omega (arith, lt, le) in none)

-- a number has one pair
pub one_pair : (ps : List PairRecord) (p q : PairRecord) → AreRising ps → Has ps p → Has ps q → p.number ≡ q.number → p ≡ q
one_pair [] p q rising has_p has_q same = absurd has_p
one_pair (x ∷ xs) p q rising (inl e) (inl f) same = sym e ∙ f
one_pair (x ∷ xs) p q rising (inl e) (inr has_q) same = no_less x.number q.number (rising.0 q has_q) (ap (λ (y : PairRecord). y.number) e ∙ same)
one_pair (x ∷ xs) p q rising (inr has_p) (inl f) same = no_less x.number p.number (rising.0 p has_p) (ap (λ (y : PairRecord). y.number) f ∙ sym same)
one_pair (x ∷ xs) p q rising (inr has_p) (inr has_q) same = one_pair xs p q rising.1 has_p has_q same

pub some_is : {X : Type 0} (x y : X) → Some x ≡ Some y → x ≡ y
some_is x y h = cc

pub none_is : {A X : Type 0} (x : X) → None ≡ Some x → A
none_is x h = absurd (cc)

-- the number is the given one, and the pair that it names, if it exists, is valid and nominated on the path
pub record NamedIn (x : Parts) (number : Option ℕ) (path : Path) : Type 0 where
  pub below : (n : ℕ) → number ≡ Some n → n < x.next_number
  pub is : (p : PairRecord) → Has x.pairs p → number ≡ Some p.number → (path_in x p ≡ path) × (is_valid p ≡ true) × (is_nominated p ≡ true)

module _ (asks : Path → ℕ → Type 0) (met : Path → Type 0) (sent : Path → List ℕ → Bool → Type 0) where
  abbrev Goes : Parts → Parts → Type 0
  Goes x y = Onward asks met sent x y

  -- one evaluation: the path that it selects, and `selected_pair` before and after it
  pub record Evaluates (x y : Parts) (before following : Option ℕ) (o : Option Path) : Type 0 where
    pub valid : (path : Path) → o ≡ Some path → IsValidIn x path
    pub asked : (path : Path) → o ≡ Some path → IsNominatedIn x path ⊎ asks path 0
    pub stays : o ≡ None → following ≡ before
    pub names : (path : Path) → o ≡ Some path → NamedIn y following path

  -- a step
  pub record Returns (x y : Parts) (before following : Option ℕ) (paths : List (Option Path)) : Type 0 where
    pub valid : (path : Path) → Has paths (Some path) → IsValidIn x path ⊎ met path
    pub asked : (path : Path) → Has paths (Some path) → IsNominatedIn x path ⊎ asks path 0
    pub stays : last_of paths ≡ None → following ≡ before
    pub names : (path : Path) → last_of paths ≡ Some path → NamedIn y following path

  pub evaluates_none : (x y : Parts) (before following : Option ℕ) (o : Option Path) → o ≡ None → following ≡ before → Evaluates x y before following o
  evaluates_none x y before following o none same = record {
    valid = λ path is. none_is path (sym none ∙ is);
    asked = λ path is. none_is path (sym none ∙ is);
    stays = λ _. same;
    names = λ path is. none_is path (sym none ∙ is);
  }

  pub returns_none : (x y : Parts) (before following : Option ℕ) → following ≡ before → Returns x y before following (selected_in None None)
  returns_none x y before following same = record {
    valid = λ path has. elim has [ inl e ↦ none_is path e | inr h ↦ elim h [ inl e ↦ none_is path e | inr k ↦ absurd k ] ];
    asked = λ path has. elim has [ inl e ↦ none_is path e | inr h ↦ elim h [ inl e ↦ none_is path e | inr k ↦ absurd k ] ];
    stays = λ _. same;
    names = λ path is. none_is path is;
  }

  -- the number stays with its pair
  pub named_onward : (x y : Parts) (number : Option ℕ) (path : Path) → Goes x y → NamedIn x number path → NamedIn y number path
  named_onward x y number path o h = record {
    below = λ n is. (let lt = h.below n is in let le = o.counter in omega (arith, lt, le));
    is = λ p has is. elim (o.pairs p has) [
      | inl s ↦ (let k = h.is s.was s.there (is ∙ ap Some (sym s.number)) in (sym s.path ∙ k.0, s.still_valid k.1, s.still_nominated k.2))
      | inr j ↦ no_more p.number x.next_number (h.below p.number is) j.above
    ];
  }

  pub returns_one : (x y : Parts) (before following : Option ℕ) (o : Option Path) → Evaluates x y before following o → Returns x y before following (selected_in o None)
  returns_one x y before following None e = returns_none x y before following (e.stays refl)
  returns_one x y before following (Some p) e = record {
    valid = λ path has. elim has [ inl is ↦ inl (e.valid path is) | inr h ↦ elim h [ inl is ↦ none_is path is | inr k ↦ absurd k ] ];
    asked = λ path has. elim has [ inl is ↦ e.asked path is | inr h ↦ elim h [ inl is ↦ none_is path is | inr k ↦ absurd k ] ];
    stays = λ none. none_is p (sym none);
    names = λ path is. e.names path is;
  }

  -- after another change
  pub returns_after : (x y z : Parts) (before following : Option ℕ) (paths : List (Option Path)) → Goes x y → Returns y z before following paths → Returns x z before following paths
  returns_after x y z before following paths o k = record {
    valid = λ path has. elim (k.valid path has) [ inl v ↦ valid_before asks met sent x y o path v | inr m ↦ inr m ];
    asked = λ path has. elim (k.asked path has) [ inl v ↦ nominated_before asks met sent x y o path v | inr m ↦ inr m ];
    stays = k.stays;
    names = k.names;
  }

  -- before another change
  pub returns_before : (x y z : Parts) (before following : Option ℕ) (paths : List (Option Path)) → Returns x y before following paths → Goes y z → Returns x z before following paths
  returns_before x y z before following paths k o = record {
    valid = k.valid;
    asked = k.asked;
    stays = k.stays;
    names = λ path is. named_onward y z following path o (k.names path is);
  }

  -- one evaluation after another
  pub returns_two : (x y z : Parts) (a b c : Option ℕ) (first second : Option Path) → Goes x y → Goes y z → Evaluates x y a b first → Evaluates y z b c second
      → Returns x z a c (selected_in first second)
  returns_two x y z a b c None second xy yz e f =
      returns_after x y z a c (selected_in None second) xy (second_returns second f) where
        second_returns : (o : Option Path) → Evaluates y z b c o → Returns y z a c (selected_in None o)
        second_returns None g = returns_none y z a c (g.stays refl ∙ e.stays refl)
        second_returns (Some p) g = record {
          valid = λ path has. elim has [ inl is ↦ inl (g.valid path is) | inr h ↦ elim h [ inl is ↦ none_is path is | inr k ↦ absurd k ] ];
          asked = λ path has. elim has [ inl is ↦ g.asked path is | inr h ↦ elim h [ inl is ↦ none_is path is | inr k ↦ absurd k ] ];
          stays = λ none. none_is p (sym none);
          names = λ path is. g.names path is;
        }
  returns_two x y z a b c (Some p) None xy yz e f =
      returns_before x y z a c (selected_in (Some p) None) (subst (λ n. Returns x y a n (selected_in (Some p) None)) (sym (f.stays refl)) (returns_one x y a b (Some p) e)) yz
  returns_two x y z a b c (Some p) (Some q) xy yz e f = record {
    valid = λ path has. elim has [ inl is ↦ inl (e.valid path is) | inr h ↦ elim h [ inl is ↦ valid_before asks met sent x y xy path (f.valid path is) | inr k ↦ absurd k ] ];
    asked = λ path has. elim has [
      | inl is ↦ e.asked path is
      | inr h ↦ elim h [ inl is ↦ (elim (f.asked path is) [ inl v ↦ nominated_before asks met sent x y xy path v | inr m ↦ inr m ]) | inr k ↦ absurd k ]
    ];
    stays = λ none. none_is q (sym none);
    names = λ path is. f.names path is;
  }
