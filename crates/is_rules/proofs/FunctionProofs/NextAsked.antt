-- The pair that is asked along, found by a loop over all pairs: of those that pass, the one whose last check was sent first.
use Rattle.is_pair.specs.declared.pair.silence.Span.{Span}
use Rattle.is_rules.proofs.Common.{[], ◌∷◌, ◌≡◌, ◌⊎◌, ◌≤◌, arith, Bool, Has, inl, inr, is_asked_along, IsAskedNext, last_sent, List, None}
use Rattle.is_rules.proofs.Common.{Option, PairRecord, refl, Some, subst, sym, true, ℕ}
use Rattle.is_rules.proofs.FunctionProofs.NextAhead.{none-when}
use Rattle.is_rules.proofs.PairLists.ChosenPair.{none_pass}

module _ (number : ℕ) (silence : Span) where
  abbrev Before : PairRecord → PairRecord → Type 0
  Before p q = last_sent p.checks ≤ last_sent q.checks

  abbrev IsNext : List PairRecord → Option PairRecord → Type 0
  IsNext done first = IsAskedNext number silence done first

  abbrev test : PairRecord → Bool
  test p = is_asked_along number silence p

  before-through : (p q r : PairRecord) → Before p q → Before q r → Before p r
  before-through p q r a b = omega (arith, a, b)

  before-itself : (p : PairRecord) → Before p p
  before-itself p = omega arith

  -- ---- one more pair

  -- it is the first that passes
  pub tested-first : (done : List PairRecord) (p : PairRecord) → test p ≡ true → IsNext done None → IsNext (p ∷ done) (Some p)
  tested-first done p is none = (inl refl, is, each)
    where
      each : (q : PairRecord) → Has (p ∷ done) q → test q ≡ true → Before p q
      each q (inl same) its = subst (λ (x : PairRecord). Before p x) same (before-itself p)
      each q (inr h) its = absurd (none_pass test done q none h its)

  -- the first so far goes before it
  pub tested-later : (done : List PairRecord) (p first : PairRecord) → Before first p → IsNext done (Some first) → IsNext (p ∷ done) (Some first)
  tested-later done p first goes (has, is, before) = (inr has, is, each)
    where
      each : (q : PairRecord) → Has (p ∷ done) q → test q ≡ true → Before first q
      each q (inl same) its = subst (λ (x : PairRecord). Before first x) same goes
      each q (inr h) its = before q h its

  -- it goes before the first so far
  pub tested-before : (done : List PairRecord) (p first : PairRecord) → test p ≡ true → Before p first → IsNext done (Some first) → IsNext (p ∷ done) (Some p)
  tested-before done p first its goes (has, is, before) = (inl refl, its, each)
    where
      each : (q : PairRecord) → Has (p ∷ done) q → test q ≡ true → Before p q
      each q (inl same) at = subst (λ (x : PairRecord). Before p x) same (before-itself p)
      each q (inr h) at = before-through p first q goes (before q h at)

  -- ---- the loop: all pairs are those that were visited and those that are left

  abbrev pub IsVisited : List PairRecord → List PairRecord → List PairRecord → Option PairRecord → Type 0
  IsVisited all done rest first =
      IsNext done first
      × ((q : PairRecord) → Has all q → Has done q ⊎ Has rest q)
      × ((q : PairRecord) → Has done q → Has all q)
      × ((q : PairRecord) → Has rest q → Has all q)

  pub visited-none : (all : List PairRecord) → IsVisited all [] all None
  visited-none all = (refl, (λ q h. inr h), (λ q h. elim h [ ]), λ q h. h)

  pub visited-more : (all done rest left : List PairRecord) (p : PairRecord) (first following : Option PairRecord) → rest ≡ p ∷ left → IsVisited all done rest first → IsNext (p ∷ done) following → IsVisited all (p ∷ done) left following
  visited-more all done rest left p first following is seen earlier =
      (earlier, (λ q h. either q (seen.1 q h)), seen_in, λ q h. seen.3 q (subst (λ (xs : List PairRecord). Has xs q) (sym is) (inr h)))
    where
      from : (q : PairRecord) → Has (p ∷ left) q → Has (p ∷ done) q ⊎ Has left q
      from q (inl e) = inl (inl e)
      from q (inr h) = inr h

      either : (q : PairRecord) → Has done q ⊎ Has rest q → Has (p ∷ done) q ⊎ Has left q
      either q (inl h) = inl (inr h)
      either q (inr h) = from q (subst (λ (xs : List PairRecord). Has xs q) is h)

      seen_in : (q : PairRecord) → Has (p ∷ done) q → Has all q
      seen_in q (inl e) = seen.3 q (subst (λ (xs : List PairRecord). Has xs q) (sym is) (inl e))
      seen_in q (inr h) = seen.2 q h

  none-left : (rest : List PairRecord) (q : PairRecord) → rest ≡ [] → Has rest q → ⊥
  none-left rest q none h = elim (subst (λ (xs : List PairRecord). Has xs q) none h) [ ]

  pub visited-all : (all done rest : List PairRecord) (first : Option PairRecord) → rest ≡ [] → IsVisited all done rest first → IsNext all first
  visited-all all done rest None none seen = none-when test all (λ q h is. either q (seen.1 q h) is)
    where
      either : (q : PairRecord) → Has done q ⊎ Has rest q → test q ≡ true → ⊥
      either q (inl h) is = none_pass test done q seen.0 h is
      either q (inr h) is = none-left rest q none h
  visited-all all done rest (Some p) none seen = (seen.2 p seen.0.0, seen.0.1, λ q h is. either q (seen.1 q h) is)
    where
      either : (q : PairRecord) → Has done q ⊎ Has rest q → test q ≡ true → Before p q
      either q (inl h) is = seen.0.2 q h is
      either q (inr h) is = absurd (none-left rest q none h)
