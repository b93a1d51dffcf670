-- Parts of lists of pairs: those that pass a test, and the one with a number.
use Rattle.is_pair.proofs.Common.{[], ◌<◌, ◌==◌, ◌∙◌, ◌∷◌, ◌≡◌, ap, arith, Bool, eq-eqb, eqb-true, false, filter, Has, if◌then◌else◌, inl}
use Rattle.is_pair.proofs.Common.{inr, is_numbered, length, List, nat_lt, nat_tests, None, not, pair_numbered, PairRecord, passes_at, refl}
use Rattle.is_pair.proofs.Common.{rises, Some, subst, suc, sym, true, without, ℕ}
use Rattle.is_pair.proofs.PairEntries.ChangedEntry.{above, apart, below-apart, both, none-passes}
use Rattle.is_pair.proofs.PriorityOrder.GreatestPair.{all-has, has-any}

pub lt-from : {a b : ℕ} → nat_lt a b ≡ true → a < b
lt-from {a} {b} h = grind (arith, nat_tests, h)

pub had-filtered : {X : Type 0} (t : X → Bool) (xs : List X) (x : X) → Has (filter t xs) x → Has xs x
had-filtered t [] x h = elim h [ ]
had-filtered t (y ∷ ys) x h = (elim (t y) as (λ b. Has (if b then y ∷ filter t ys else filter t ys) x → Has (y ∷ ys) x) [
  | true ↦ λ h. wider (had-filtered t ys x) h
  | false ↦ λ h. inr (had-filtered t ys x h)
]) h
  where
    wider : (Has (filter t ys) x → Has ys x) → Has (y ∷ filter t ys) x → Has (y ∷ ys) x
    wider more (inl e) = inl e
    wider more (inr h) = inr (more h)

pub filter-swap : {X : Type 0} (t u : X → Bool) (xs : List X) → filter t (filter u xs) ≡ filter u (filter t xs)
filter-swap t u [] = refl
filter-swap t u (x ∷ xs) = by (t x) (u x) refl refl (filter-swap t u xs) where
  by : (a b : Bool) → t x ≡ a → u x ≡ b → filter t (filter u xs) ≡ filter u (filter t xs) → filter t (filter u (x ∷ xs)) ≡ filter u (filter t (x ∷ xs))
  by true true ta ub rest = rw (ub, ta, ub) (ap (λ ys. x ∷ ys) rest)
  by true false ta ub rest = rw (ub, ta, ub) rest
  by false true ta ub rest = rw (ub, ta) rest
  by false false ta ub rest = rw (ub, ta) rest

pub filter-each : {X : Type 0} (t : X → Bool) (xs : List X) → ((x : X) → Has xs x → t x ≡ true) → filter t xs ≡ xs
filter-each t [] each = refl
filter-each t (x ∷ xs) each = rw (each x (inl refl)) (ap (λ ys. x ∷ ys) (filter-each t xs (λ y has. each y (inr has))))

pub has-filter : {X : Type 0} (t : X → Bool) (xs : List X) (q : X) → Has xs q → t q ≡ true → Has (filter t xs) q
has-filter t [] q has is = elim has [ ]
has-filter t (x ∷ xs) q (inl e) is = rw (ap t e ∙ is) (inl e)
has-filter t (x ∷ xs) q (inr has) is =
    let rest = has-filter t xs q has is in
    elim (t x) as (λ b. Has (if b then x ∷ filter t xs else filter t xs) q) [ true ↦ inr rest | false ↦ rest ]

pub passed : {X : Type 0} (t : X → Bool) (xs : List X) (q : X) → Has (filter t xs) q → t q ≡ true
passed t [] q has = elim has [ ]
passed t (x ∷ xs) q has = by (λ rest. passed t xs q rest) (t x) refl has where
  by : (Has (filter t xs) q → t q ≡ true) → (b : Bool) → t x ≡ b → Has (if b then x ∷ filter t xs else filter t xs) q → t q ≡ true
  by again true is (inl e) = ap t (sym e) ∙ is
  by again true is (inr rest) = again rest
  by again false is rest = again rest

-- all are left if none passes
pub drops-none : (t : PairRecord → Bool) (xs : List PairRecord) → ((q : PairRecord) → Has xs q → t q ≡ true → ⊥) → without t xs ≡ xs
drops-none t xs none = filter-each (λ q. not (t q)) xs (λ q has. elim (t q) as (λ b. t q ≡ b → not b ≡ true) [
  | true ↦ λ is. absurd (none q has is)
  | false ↦ λ is. refl
] refl)

-- a number names one pair
pub named-once : (xs : List PairRecord) (p q : PairRecord) → rises xs ≡ true → Has xs p → Has xs q → p.number ≡ q.number → p ≡ q
named-once [] p q rising a b same = elim a [ ]
named-once (x ∷ xs) p q rising (inl a) (inl b) same = sym a ∙ b
named-once (x ∷ xs) p q rising (inl a) (inr b) same =
    let up = both (above x.number xs) (rises xs) rising in
    let less = lt-from (all-has (λ (r : PairRecord). nat_lt x.number r.number) xs q up.0 b) in
    let own : x.number ≡ p.number = ap (λ (r : PairRecord). r.number) a in
    absurd (omega (arith, less, same, own))
named-once (x ∷ xs) p q rising (inr a) (inl b) same =
    let up = both (above x.number xs) (rises xs) rising in
    let less = lt-from (all-has (λ (r : PairRecord). nat_lt x.number r.number) xs p up.0 a) in
    let own : x.number ≡ q.number = ap (λ (r : PairRecord). r.number) b in
    absurd (omega (arith, less, same, own))
named-once (x ∷ xs) p q rising (inr a) (inr b) same = named-once xs p q (both (above x.number xs) (rises xs) rising).1 a b same

-- one pair is removed
pub one-goes : (m : ℕ) (xs : List PairRecord) (p : PairRecord) → rises xs ≡ true → Has xs p → p.number ≡ m → length xs ≡ suc (length (without (is_numbered m) xs))
one-goes m [] p rising has is = elim has [ ]
one-goes m (x ∷ xs) p rising (inl e) is =
    let here : x.number ≡ m = ap (λ (q : PairRecord). q.number) e ∙ is in
    let up = both (above x.number xs) (rises xs) rising in
    let stay : without (is_numbered m) xs ≡ xs = filter-each (λ q. not (is_numbered m q)) xs (λ q has.
    ap not (apart m q.number (subst (λ k. nat_lt k q.number ≡ true) here (all-has (λ (r : PairRecord). nat_lt x.number r.number) xs q up.0 has)))) in
    rw (eq-eqb x.number m here) (ap (λ (ys : List PairRecord). suc (length ys)) (sym stay))
one-goes m (x ∷ xs) p rising (inr has) is =
    let up = both (above x.number xs) (rises xs) rising in
    let less : nat_lt x.number p.number ≡ true = all-has (λ (r : PairRecord). nat_lt x.number r.number) xs p up.0 has in
    rw (below-apart m x.number (subst (λ k. nat_lt x.number k ≡ true) is less)) (ap suc (one-goes m xs p up.1 has is))

-- a pair that passes is removed, and then all others that pass
pub without-both : (t : PairRecord → Bool) (old : List PairRecord) (p : PairRecord) → rises old ≡ true → Has old p → t p ≡ true
    → without t (without (is_numbered p.number) old) ≡ without t old
without-both t old p rising has is = filter-swap stays other old ∙ filter-each other (without t old) (λ q hq.
    elim (q.number == p.number) as (λ b. q.number == p.number ≡ b → not b ≡ true) [
      | true ↦ λ its.
          let one = named-once old p q rising has (had-filtered stays old q hq) (sym (eqb-true q.number p.number its)) in
          let passes : t q ≡ true = ap t (sym one) ∙ is in
          let fails : not (t q) ≡ true = passed stays old q hq in
          absurd (cc)
      | false ↦ λ its. refl
    ] refl)
  where
    stays : PairRecord → Bool
    stays q = not (t q)

    other : PairRecord → Bool
    other q = not (is_numbered p.number q)

-- none of the number is found, so none has it
pub none-numbered : (n : ℕ) (ps : List PairRecord) → pair_numbered n ps ≡ None → (q : PairRecord) → Has ps q → q.number ≡ n → ⊥
none-numbered n ps none q has same =
    let fails = none-passes n (λ _. true) ps none in
    let passes = has-any (passes_at n (λ _. true)) ps q has (rw (eq-eqb q.number n same) refl) in
    absurd (cc)

fails-not : (b : Bool) → not b ≡ true → b ≡ false
fails-not true h = absurd (cc)
fails-not false h = refl

-- the pair of another number is found after one is removed
pub find-other : (k m : ℕ) (ps : List PairRecord) → k == m ≡ false → pair_numbered k (without (is_numbered m) ps) ≡ pair_numbered k ps
find-other k m [] other = refl
find-other k m (p ∷ ps) other =
    elim (p.number == m) as (λ b. p.number == m ≡ b → pair_numbered k (if not b then p ∷ without (is_numbered m) ps else without (is_numbered m) ps)
    ≡ (if p.number == k then Some p else pair_numbered k ps)) [
      | true ↦ λ is. find-other k m ps other ∙ ap (λ (b : Bool). if b then Some p else pair_numbered k ps) (sym (differs is))
      | false ↦ λ is. elim (p.number == k) as (λ b. (if b then Some p else pair_numbered k (without (is_numbered m) ps)) ≡ (if b then Some p else pair_numbered k ps)) [
        | true ↦ refl
        | false ↦ find-other k m ps other
      ]
    ] refl
  where
    differs : p.number == m ≡ true → p.number == k ≡ false
    differs is = elim (p.number == k) as (λ b. p.number == k ≡ b → b ≡ false) [
      | true ↦ λ same. let e = eq-eqb k m (sym (eqb-true p.number k same) ∙ eqb-true p.number m is) in absurd (cc)
      | false ↦ λ no. refl
    ] refl

-- one that is left has another number
pub left-other : (m : ℕ) (ps : List PairRecord) (q : PairRecord) → Has (without (is_numbered m) ps) q → q.number ≡ m → ⊥
left-other m ps q has same =
    let stays : not (q.number == m) ≡ true = passed (λ (p : PairRecord). not (is_numbered m p)) ps q has in
    let its = eq-eqb q.number m same in
    let no = fails-not (q.number == m) stays in absurd (cc)
