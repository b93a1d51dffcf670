-- If numbers rise along a list of pairs, each pair is found by its number.
use Rattle.is_rules.proofs.Common.{[], ◌&&◌, ◌==◌, ◌||◌, ◌∙◌, ◌∷◌, ◌≡◌, ap, arith, Bool, eq-eqb, false, filter, Has, if◌then◌else◌, inl}
use Rattle.is_rules.proofs.Common.{inr, List, list_all, list_any, nat_lt, nat_tests, NonePass, pair_numbered, PairRecord, refl, rises, Some}
use Rattle.is_rules.proofs.Common.{sym, true, ℕ}

pub both : (a b : Bool) → a && b ≡ true → (a ≡ true) × (b ≡ true)
both true b h = (refl, h)
both false b h = absurd (cc)

-- all numbers are above n
abbrev above : ℕ → List PairRecord → Bool
above n ps = list_all (λ q. nat_lt n q.number) ps

pub has-any : {X : Type 0} (t : X → Bool) (xs : List X) (x : X) → Has xs x → t x ≡ true → list_any t xs ≡ true
has-any t [] x none is = absurd none
has-any t (y ∷ ys) x (inl e) is = rw (e, is) refl
has-any t (y ∷ ys) x (inr has) is = elim (t y) as (λ b. (b || list_any t ys) ≡ true) [ true ↦ refl | false ↦ has-any t ys x has is ]

pub none-any : {X : Type 0} (t : X → Bool) (xs : List X) → NonePass t xs → list_any t xs ≡ false
none-any t [] none = refl
none-any t (y ∷ ys) none =
    elim (t y) as (λ b. (if b then y ∷ filter t ys else filter t ys) ≡ [] → (b || list_any t ys) ≡ false) [
      | true ↦ λ h. absurd (cc)
      | false ↦ λ h. none-any t ys h
    ] none

over-has : (n : ℕ) (ps : List PairRecord) (p : PairRecord) → above n ps ≡ true → Has ps p → nat_lt n p.number ≡ true
over-has n [] p h none = absurd none
over-has n (q ∷ qs) p h (inl e) = ap (λ (x : PairRecord). nat_lt n x.number) (sym e) ∙ (both (nat_lt n q.number) (above n qs) h).0
over-has n (q ∷ qs) p h (inr has) = over-has n qs p (both (nat_lt n q.number) (above n qs) h).1 has

before : (n m : ℕ) → nat_lt n m ≡ true → n == m ≡ false
before n m h = grind (arith, nat_tests, h)

-- no other pair has its number
pub numbered-found : (ps : List PairRecord) (p : PairRecord) → rises ps ≡ true → Has ps p → pair_numbered p.number ps ≡ Some p
numbered-found [] p rising none = absurd none
numbered-found (q ∷ qs) p rising (inl e) = rw (e, eq-eqb p.number p.number refl) refl
numbered-found (q ∷ qs) p rising (inr has) =
    let r = both (above q.number qs) (rises qs) rising in
    rw (before q.number p.number (over-has q.number qs p r.0 has)) (numbered-found qs p r.1 has)
