-- Numbers that rise along the list of pairs, and numbers below a bound, as statements about each pair.
use Rattle.is_rules.proofs.Common.{[], ◌<◌, ◌∙◌, ◌∷◌, ◌≡◌, ap, are_below, arith, Bool, Has, inl, inr, List, list_all, nat_lt, nat_tests}
use Rattle.is_rules.proofs.Common.{PairRecord, refl, rises, sym, true, ℕ}
use Rattle.is_rules.proofs.PairLists.PairsByNumber.{both}

abbrev pub AreRising : List PairRecord → Type 0
AreRising [] = Unit {0}
AreRising (p ∷ ps) = ((q : PairRecord) → Has ps q → p.number < q.number) × AreRising ps

abbrev pub AllBelow : ℕ → List PairRecord → Type 0
AllBelow next_number pairs = (p : PairRecord) → Has pairs p → p.number < next_number

lt-of : (n m : ℕ) → nat_lt n m ≡ true → n < m
lt-of n m h = grind (arith, nat_tests, h)

lt-to : (n m : ℕ) → n < m → nat_lt n m ≡ true
lt-to n m h = grind (arith, nat_tests, h)

all-has : {X : Type 0} (t : X → Bool) (xs : List X) (x : X) → list_all t xs ≡ true → Has xs x → t x ≡ true
all-has t [] x all none = absurd none
all-has t (y ∷ ys) x all (inl e) = ap t (sym e) ∙ (both (t y) (list_all t ys) all).0
all-has t (y ∷ ys) x all (inr has) = all-has t ys x (both (t y) (list_all t ys) all).1 has

has-all : {X : Type 0} (t : X → Bool) (xs : List X) → ((x : X) → Has xs x → t x ≡ true) → list_all t xs ≡ true
has-all t [] each = refl
has-all t (y ∷ ys) each = rw (each y (inl refl)) (has-all t ys (λ x has. each x (inr has)))

pub below-each : (n : ℕ) (ps : List PairRecord) → are_below n ps ≡ true → AllBelow n ps
below-each n ps h = λ p has. lt-of p.number n (all-has (λ (q : PairRecord). nat_lt q.number n) ps p h has)

pub each-below : (n : ℕ) (ps : List PairRecord) → AllBelow n ps → are_below n ps ≡ true
each-below n ps each = has-all (λ (q : PairRecord). nat_lt q.number n) ps (λ q has. lt-to q.number n (each q has))

pub rising-each : (ps : List PairRecord) → rises ps ≡ true → AreRising ps
rising-each [] h = tt
rising-each (p ∷ ps) h =
    let b = both (list_all (λ (q : PairRecord). nat_lt p.number q.number) ps) (rises ps) h in
    ((λ q has. lt-of p.number q.number (all-has (λ (r : PairRecord). nat_lt p.number r.number) ps q b.0 has)), rising-each ps b.1)

pub each-rising : (ps : List PairRecord) → AreRising ps → rises ps ≡ true
each-rising [] each = refl
each-rising (p ∷ ps) each =
    rw (has-all (λ (q : PairRecord). nat_lt p.number q.number) ps (λ q has. lt-to p.number q.number (each.0 q has))) (each-rising ps each.1)
