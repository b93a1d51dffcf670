-- The pair that is checked ahead of those that are due earlier, found by a loop over all pairs.
use Rattle.is_rules.specs.declared.kinds.Precedence.{Precedence}
use Rattle.is_rules.proofs.Common.{[], ◌∙◌, ◌∷◌, ◌≡◌, ◌⊎◌, arith, Bool, CandidateRecord, false, filter, GoesBefore, Has}
use Rattle.is_rules.proofs.Common.{if◌then◌else◌, inl, inr, is_due, IsNextAhead, List, None, NonePass, Option, PairRecord, refl}
use Rattle.is_rules.proofs.Common.{Some, StunTiming, subst, sym, true, TurnsBefore, ℕ}
use Rattle.is_rules.proofs.PairLists.ChosenPair.{none_pass}

pub none-when : {X : Type 0} (test : X → Bool) (xs : List X) → ((x : X) → Has xs x → test x ≡ true → ⊥) → NonePass test xs
none-when test [] none = refl
none-when test (x ∷ xs) none =
    elim (test x) as (λ b. test x ≡ b → (if b then x ∷ filter test xs else filter test xs) ≡ []) [
      | true ↦ λ is. absurd (none x (inl refl) is)
      | false ↦ λ is. none-when test xs (λ y h. none y (inr h))
    ] refl

module _ (local remote : List CandidateRecord) (precedence : Precedence) (next now : ℕ) (t : StunTiming) where
  abbrev Before : PairRecord → PairRecord → Type 0
  Before p q = TurnsBefore local remote precedence next now t p q

  abbrev IsNext : List PairRecord → Option PairRecord → Type 0
  IsNext done first = IsNextAhead local remote precedence next now t done first

  abbrev due : PairRecord → Bool
  due p = is_due now t p

  -- ---- the order of turns

  goes-through : (p q r : PairRecord) → GoesBefore now t p q → GoesBefore now t q r → GoesBefore now t p r
  goes-through p q r (inl a) (inl b) = inl (omega (arith, a, b))
  goes-through p q r (inl a) (inr b) = let same = b.0 in inl (omega (arith, a, same))
  goes-through p q r (inr a) (inl b) = let same = a.0 in inl (omega (arith, same, b))
  goes-through p q r (inr a) (inr b) = let low = a.1 in let lower = b.1 in inr (a.0 ∙ b.0, omega (arith, low, lower))

  before-through : (p q r : PairRecord) → Before p q → Before q r → Before p r
  before-through p q r (inl a) (inl b) = inl (omega (arith, a, b))
  before-through p q r (inl a) (inr b) = let same = b.0 in inl (omega (arith, a, same))
  before-through p q r (inr a) (inl b) = let same = a.0 in inl (omega (arith, same, b))
  before-through p q r (inr a) (inr b) = inr (a.0 ∙ b.0, goes-through p q r a.1 b.1)

  before-itself : (p : PairRecord) → Before p p
  before-itself p = inr (refl, inr (refl, omega arith))

  -- ---- one more pair

  -- it is the first that is due
  pub due-first : (done : List PairRecord) (p : PairRecord) → due p ≡ true → IsNext done None → IsNext (p ∷ done) (Some p)
  due-first done p is none = (inl refl, is, each)
    where
      each : (q : PairRecord) → Has (p ∷ done) q → due q ≡ true → Before p q
      each q (inl same) its = subst (λ (x : PairRecord). Before p x) same (before-itself p)
      each q (inr h) its = absurd (none_pass due done q none h its)

  -- the first so far goes before it
  pub due-later : (done : List PairRecord) (p first : PairRecord) → Before first p → IsNext done (Some first) → IsNext (p ∷ done) (Some first)
  due-later done p first goes (has, is, before) = (inr has, is, each)
    where
      each : (q : PairRecord) → Has (p ∷ done) q → due q ≡ true → Before first q
      each q (inl same) its = subst (λ (x : PairRecord). Before first x) same goes
      each q (inr h) its = before q h its

  -- it goes before the first so far
  pub due-before : (done : List PairRecord) (p first : PairRecord) → due p ≡ true → Before p first → IsNext done (Some first) → IsNext (p ∷ done) (Some p)
  due-before done p first its goes (has, is, before) = (inl refl, its, each)
    where
      each : (q : PairRecord) → Has (p ∷ done) q → due q ≡ true → Before p q
      each q (inl same) at = subst (λ (x : PairRecord). Before p x) same (before-itself p)
      each q (inr h) at = before-through p first q goes (before q h at)

  -- ---- the loop: all pairs are those that were visited and those that are left

  abbrev pub IsVisited : List PairRecord → List PairRecord → List PairRecord → Option PairRecord → Type 0
  IsVisited all done rest first =
      IsNext done first
      × ((q : PairRecord) → Has all q → Has done q ⊎ Has rest q)
      × ((q : PairRecord) → Has done q → Has all q)
      × ((q : PairRecord) → Has rest q → Has all q)

  pub visited-none : (all : List PairRecord) → IsVisited all [] all None
  visited-none all = (refl, (λ q h. inr h), (λ q h. elim h [ ]), λ q h. h)

  pub visited-more : (all done rest left : List PairRecord) (p : PairRecord) (first following : Option PairRecord) → rest ≡ p ∷ left → IsVisited all done rest first → IsNext (p ∷ done) following → IsVisited all (p ∷ done) left following
  visited-more all done rest left p first following is seen earlier =
      (earlier, (λ q h. either q (seen.1 q h)), seen_in, λ q h. seen.3 q (subst (λ (xs : List PairRecord). Has xs q) (sym is) (inr h)))
    where
      from : (q : PairRecord) → Has (p ∷ left) q → Has (p ∷ done) q ⊎ Has left q
      from q (inl e) = inl (inl e)
      from q (inr h) = inr h

      either : (q : PairRecord) → Has done q ⊎ Has rest q → Has (p ∷ done) q ⊎ Has left q
      either q (inl h) = inl (inr h)
      either q (inr h) = from q (subst (λ (xs : List PairRecord). Has xs q) is h)

      seen_in : (q : PairRecord) → Has (p ∷ done) q → Has all q
      seen_in q (inl e) = seen.3 q (subst (λ (xs : List PairRecord). Has xs q) (sym is) (inl e))
      seen_in q (inr h) = seen.2 q h

  none-left : (rest : List PairRecord) (q : PairRecord) → rest ≡ [] → Has rest q → ⊥
  none-left rest q none h = elim (subst (λ (xs : List PairRecord). Has xs q) none h) [ ]

  pub visited-all : (all done rest : List PairRecord) (first : Option PairRecord) → rest ≡ [] → IsVisited all done rest first → IsNext all first
  visited-all all done rest None none seen = none-when due all (λ q h is. either q (seen.1 q h) is)
    where
      either : (q : PairRecord) → Has done q ⊎ Has rest q → due q ≡ true → ⊥
      either q (inl h) is = none_pass due done q seen.0 h is
      either q (inr h) is = none-left rest q none h
  visited-all all done rest (Some p) none seen = (seen.2 p seen.0.0, seen.0.1, λ q h is. either q (seen.1 q h) is)
    where
      either : (q : PairRecord) → Has done q ⊎ Has rest q → due q ≡ true → Before p q
      either q (inl h) is = seen.0.2 q h is
      either q (inr h) is = absurd (none-left rest q none h)
