-- The pair of greatest priority among those that pass, found by a loop over all pairs.
use Rattle.is_pair.proofs.Common.{[], ◌<◌, ◌∙◌, ◌∷◌, ◌≡◌, ◌≤◌, ◌⊎◌, ap, arith, Bool, false, filter, Has, if◌then◌else◌, inl, inr}
use Rattle.is_pair.proofs.Common.{IsGreatest, List, None, NonePass, Option, PairRecord, refl, Some, subst, sym, true}
use Rattle.is_pair.proofs.PriorityOrder.GreatestPair.{filter-none}

module _ (test : PairRecord → Bool) where
  none-passes-there : (xs : List PairRecord) (q : PairRecord) → NonePass test xs → Has xs q → test q ≡ true → ⊥
  none-passes-there [] q none h is = elim h [ ]
  none-passes-there (x ∷ xs) q none h is =
      elim (test x) as (λ b. test x ≡ b → (if b then x ∷ filter test xs else filter test xs) ≡ [] → ⊥) [
        | true ↦ λ its none. absurd (cc)
        | false ↦ λ its none. by (λ n rest. none-passes-there xs q n rest is) h its none
      ] refl none
    where
      by : (filter test xs ≡ [] → Has xs q → ⊥) → Has (x ∷ xs) q → test x ≡ false → filter test xs ≡ [] → ⊥
      by following (inl same) its none = let no : test x ≡ true = ap test same ∙ is in absurd (cc)
      by following (inr rest) its none = following none rest

  -- ---- one more pair

  -- it does not pass
  pub greatest-past : (done : List PairRecord) (p : PairRecord) (top : Option PairRecord) → test p ≡ false → IsGreatest test done top → IsGreatest test (p ∷ done) top
  greatest-past done p None fails none = rw (fails) none
  greatest-past done p (Some top) fails (has, is, above) = (inr has, is, each)
    where
      each : (q : PairRecord) → Has (p ∷ done) q → test q ≡ true → q.priority ≤ top.priority
      each q (inl same) its = let no : test p ≡ true = ap test same ∙ its in absurd (cc)
      each q (inr h) its = above q h its

  -- it is the first that passes
  pub greatest-first : (done : List PairRecord) (p : PairRecord) → test p ≡ true → IsGreatest test done None → IsGreatest test (p ∷ done) (Some p)
  greatest-first done p is none = (inl refl, is, each)
    where
      each : (q : PairRecord) → Has (p ∷ done) q → test q ≡ true → q.priority ≤ p.priority
      each q (inl same) its = subst (λ (x : PairRecord). x.priority ≤ p.priority) same (omega arith)
      each q (inr h) its = absurd (none-passes-there done q none h its)

  -- the greatest so far has at least its priority
  pub greatest-kept : (done : List PairRecord) (p top : PairRecord) → p.priority ≤ top.priority → IsGreatest test done (Some top) → IsGreatest test (p ∷ done) (Some top)
  greatest-kept done p top low (has, is, above) = (inr has, is, each)
    where
      each : (q : PairRecord) → Has (p ∷ done) q → test q ≡ true → q.priority ≤ top.priority
      each q (inl same) its = subst (λ (x : PairRecord). x.priority ≤ top.priority) same low
      each q (inr h) its = above q h its

  -- it has a greater priority
  pub greatest-replaced : (done : List PairRecord) (p top : PairRecord) → test p ≡ true → top.priority < p.priority → IsGreatest test done (Some top) → IsGreatest test (p ∷ done) (Some p)
  greatest-replaced done p top its more (has, is, above) = (inl refl, its, each)
    where
      each : (q : PairRecord) → Has (p ∷ done) q → test q ≡ true → q.priority ≤ p.priority
      each q (inl same) at = subst (λ (x : PairRecord). x.priority ≤ p.priority) same (omega arith)
      each q (inr h) at = let low = above q h at in omega (arith, low, more)

  -- ---- the loop: all pairs are those that were visited and those that are left

  abbrev pub IsVisited : List PairRecord → List PairRecord → List PairRecord → Option PairRecord → Type 0
  IsVisited all done rest top =
      IsGreatest test done top
      × ((q : PairRecord) → Has all q → Has done q ⊎ Has rest q)
      × ((q : PairRecord) → Has done q → Has all q)
      × ((q : PairRecord) → Has rest q → Has all q)

  pub visited-none : (all : List PairRecord) → IsVisited all [] all None
  visited-none all = (refl, (λ q h. inr h), (λ q h. elim h [ ]), λ q h. h)

  pub visited-more : (all done rest left : List PairRecord) (p : PairRecord) (top next : Option PairRecord) → rest ≡ p ∷ left → IsVisited all done rest top → IsGreatest test (p ∷ done) next → IsVisited all (p ∷ done) left next
  visited-more all done rest left p top next is seen greatest =
      (greatest, (λ q h. either q (seen.1 q h)), seen_in, λ q h. seen.3 q (subst (λ (xs : List PairRecord). Has xs q) (sym is) (inr h)))
    where
      from : (q : PairRecord) → Has (p ∷ left) q → Has (p ∷ done) q ⊎ Has left q
      from q (inl e) = inl (inl e)
      from q (inr h) = inr h

      either : (q : PairRecord) → Has done q ⊎ Has rest q → Has (p ∷ done) q ⊎ Has left q
      either q (inl h) = inl (inr h)
      either q (inr h) = from q (subst (λ (xs : List PairRecord). Has xs q) is h)

      seen_in : (q : PairRecord) → Has (p ∷ done) q → Has all q
      seen_in q (inl e) = seen.3 q (subst (λ (xs : List PairRecord). Has xs q) (sym is) (inl e))
      seen_in q (inr h) = seen.2 q h

  none-left : (rest : List PairRecord) (q : PairRecord) → rest ≡ [] → Has rest q → ⊥
  none-left rest q none h = elim (subst (λ (xs : List PairRecord). Has xs q) none h) [ ]

  pub visited-all : (all done rest : List PairRecord) (top : Option PairRecord) → rest ≡ [] → IsVisited all done rest top → IsGreatest test all top
  visited-all all done rest None none seen = filter-none test all (λ q h is. either q (seen.1 q h) is)
    where
      either : (q : PairRecord) → Has done q ⊎ Has rest q → test q ≡ true → ⊥
      either q (inl h) is = none-passes-there done q seen.0 h is
      either q (inr h) is = none-left rest q none h
  visited-all all done rest (Some top) none seen = (seen.2 top seen.0.0, seen.0.1, λ q h is. either q (seen.1 q h) is)
    where
      either : (q : PairRecord) → Has done q ⊎ Has rest q → test q ≡ true → q.priority ≤ top.priority
      either q (inl h) is = seen.0.2 q h is
      either q (inr h) is = absurd (none-left rest q none h)
