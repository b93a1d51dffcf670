-- The pair that is due first, found by a walk over all.
use Rattle.is_pair.proofs.Common.{[], ◌<◌, ◌∷◌, ◌≡◌, ◌⊎◌, arith, due_time_of, GoesBefore, Has, inl, inr, is_due, IsEarliest, List}
use Rattle.is_pair.proofs.Common.{nat_tests, None, NonePass, Option, PairRecord, refl, Some, StunTiming, subst, sym, true, ℕ}
use Rattle.is_pair.proofs.PriorityOrder.GreatestPair.{filter-none}
use Rattle.is_pair.proofs.PriorityOrder.LeastPair.{empty-of}

module _ (now : ℕ) (t : StunTiming) where
  -- all are those that were visited and those that are left
  abbrev pub IsSeen : List PairRecord → List PairRecord → List PairRecord → Option PairRecord → Type 0
  IsSeen all done rest first =
      IsEarliest now t done first
      × ((q : PairRecord) → Has all q → Has done q ⊎ Has rest q)
      × ((q : PairRecord) → Has done q → Has all q)
      × ((q : PairRecord) → Has rest q → Has all q)

  pub seen-none : (all : List PairRecord) → IsSeen all [] all None
  seen-none all = (refl, (λ q h. inr h), (λ q h. elim h [ ]), λ q h. h)

  pub seen-more : (all done rest left : List PairRecord) (p : PairRecord) (first next : Option PairRecord) → rest ≡ p ∷ left → IsSeen all done rest first → IsEarliest now t (p ∷ done) next → IsSeen all (p ∷ done) left next
  seen-more all done rest left p first next is seen earliest =
      (earliest, (λ q h. either q (seen.1 q h)), seen_in, λ q h. seen.3 q (subst (λ (xs : List PairRecord). Has xs q) (sym is) (inr h)))
    where
      following : (q : PairRecord) → Has (p ∷ left) q → Has (p ∷ done) q ⊎ Has left q
      following q (inl e) = inl (inl e)
      following q (inr h) = inr h

      either : (q : PairRecord) → Has done q ⊎ Has rest q → Has (p ∷ done) q ⊎ Has left q
      either q (inl h) = inl (inr h)
      either q (inr h) = following q (subst (λ (xs : List PairRecord). Has xs q) is h)

      seen_in : (q : PairRecord) → Has (p ∷ done) q → Has all q
      seen_in q (inl e) = seen.3 q (subst (λ (xs : List PairRecord). Has xs q) (sym is) (inl e))
      seen_in q (inr h) = seen.2 q h

  none-left : (rest : List PairRecord) (q : PairRecord) → rest ≡ [] → Has rest q → ⊥
  none-left rest q none h = elim (subst (λ (xs : List PairRecord). Has xs q) none h) [ ]

  pub seen-all : (all done rest : List PairRecord) (first : Option PairRecord) → rest ≡ [] → IsSeen all done rest first → IsEarliest now t all first
  seen-all all done rest None none seen = empty-of all (λ q h. either q (seen.1 q h))
    where
      either : (q : PairRecord) → Has done q ⊎ Has rest q → ⊥
      either q (inl h) = none-left done q seen.0 h
      either q (inr h) = none-left rest q none h
  seen-all all done rest (Some p) none seen = (seen.2 p seen.0.0, λ q h. either q (seen.1 q h))
    where
      either : (q : PairRecord) → Has done q ⊎ Has rest q → GoesBefore now t p q
      either q (inl h) = seen.0.1 q h
      either q (inr h) = absurd (none-left rest q none h)

  -- if the first is not due none is
  pub none-due : (ps : List PairRecord) (p : PairRecord) → IsEarliest now t ps (Some p) → now < due_time_of now t p → NonePass (is_due now t) ps
  none-due ps p first late = filter-none (is_due now t) ps (λ q h due. by q (first.1 q h) due)
    where
      by : (q : PairRecord) → GoesBefore now t p q → is_due now t q ≡ true → ⊥
      by q (inl less) due = grind (arith, nat_tests, less, due, late)
      by q (inr same) due = grind (arith, nat_tests, same.0, due, late)
