-- The pair with two indices and the place of a sender stay the same if priorities are computed again.
use Rattle.is_candidate.specs.Equality.{is_temporary}
use Rattle.is_rules.proofs.Common.{[], ◌&&◌, ◌∙◌, ◌∷◌, ◌≡◌, ap, Barred, Bool, candidate_at, CandidateRecord, cond, false, filter, Full, Has}
use Rattle.is_rules.proofs.Common.{has_room, inl, inr, is_between, is_on, is_vacant, IsPairBetween, IsPlaceOf, IsVacancy, Known, length}
use Rattle.is_rules.proofs.Common.{List, list_any, map, MatchBool, None, NonePass, NoneVacantBelow, not, Option, PairRecord, refl}
use Rattle.is_rules.proofs.Common.{RemotePlace, RequestRecord, IsPlaceAtLimit, SidesRecord, Some, true, Unknown, Vacant, with_priority_in, ℕ}

has-mapped : {X Y : Type 0} (f : X → Y) (xs : List X) (x : X) → Has xs x → Has (map f xs) (f x)
has-mapped f [] x h = absurd h
has-mapped f (y ∷ ys) x (inl is) = inl (ap f is)
has-mapped f (y ∷ ys) x (inr rest) = inr (has-mapped f ys x rest)

none-mapped : {X : Type 0} (test : X → Bool) (f : X → X) → ((x : X) → test (f x) ≡ test x) → (xs : List X) → NonePass test xs → NonePass test (map f xs)
none-mapped test f same [] none = refl
none-mapped test f same (x ∷ xs) none =
    rw (same x)
    ((elim (test x) as (λ b. cond b (x ∷ filter test xs) (filter test xs) ≡ [] → cond b (f x ∷ filter test (map f xs)) (filter test (map f xs)) ≡ []) [
      | true ↦ λ h. absurd (cc)
      | false ↦ λ h. none-mapped test f same xs h
    ]) none)

pub between-reprioritized : (s : SidesRecord) (pairs : List PairRecord) (l r : ℕ) (found : Option ℕ) → IsPairBetween pairs l r found → IsPairBetween (map (with_priority_in s) pairs) l r found
between-reprioritized s pairs l r None none = none-mapped (is_between l r) (with_priority_in s) (λ p. refl) pairs none
between-reprioritized s pairs l r (Some number) (p, has, is, numbered) =
    (with_priority_in s p, has-mapped (with_priority_in s) pairs p has, is, numbered)

-- whether pairs have a remote candidate does not depend on their priorities
any-mapped : {X : Type 0} (test : X → Bool) (f : X → X) → ((x : X) → test (f x) ≡ test x) → (xs : List X) → list_any test (map f xs) ≡ list_any test xs
any-mapped test f same [] = refl
any-mapped test f same (x ∷ xs) = rw (same x, any-mapped test f same xs) refl

vacant-reprioritized : (s : SidesRecord) (remote : List CandidateRecord) (pairs : List PairRecord) (r : ℕ) → is_vacant remote (map (with_priority_in s) pairs) r ≡ is_vacant remote pairs r
vacant-reprioritized s remote pairs r = ap (λ b. is_temporary (candidate_at remote r) && not b) (any-mapped (is_on r) (with_priority_in s) (λ p. refl) pairs)

none-reprioritized : (s : SidesRecord) (end : ℕ) (remote : List CandidateRecord) (pairs : List PairRecord) → NoneVacantBelow end remote pairs
    → NoneVacantBelow end remote (map (with_priority_in s) pairs)
none-reprioritized s end remote pairs none k lt = vacant-reprioritized s remote pairs k ∙ none k lt

vacancy-reprioritized : (s : SidesRecord) (remote : List CandidateRecord) (pairs : List PairRecord) (place : RemotePlace) → IsVacancy remote pairs place
    → IsVacancy remote (map (with_priority_in s) pairs) place
vacancy-reprioritized s remote pairs (Vacant r) (lt, is, none) = (lt, vacant-reprioritized s remote pairs r ∙ is, none-reprioritized s r remote pairs none)
vacancy-reprioritized s remote pairs Full none = none-reprioritized s (length remote) remote pairs none
vacancy-reprioritized s remote pairs (Known r) h = h
vacancy-reprioritized s remote pairs Barred h = h
vacancy-reprioritized s remote pairs Unknown h = h

settles-reprioritized : (s : SidesRecord) (limit : Option ℕ) (remote : List CandidateRecord) (pairs : List PairRecord) (found place : RemotePlace)
    → IsPlaceAtLimit limit remote pairs found place → IsPlaceAtLimit limit remote (map (with_priority_in s) pairs) found place
settles-reprioritized s limit remote pairs Unknown place h = by (has_room limit remote) h where
  by : (b : Bool) → MatchBool b (place ≡ Unknown) (IsVacancy remote pairs place) → MatchBool b (place ≡ Unknown) (IsVacancy remote (map (with_priority_in s) pairs) place)
  by true same = same
  by false vacancy = vacancy-reprioritized s remote pairs place vacancy
settles-reprioritized s limit remote pairs (Known r) place h = h
settles-reprioritized s limit remote pairs Barred place h = h
settles-reprioritized s limit remote pairs (Vacant r) place h = h
settles-reprioritized s limit remote pairs Full place h = h

pub place-reprioritized : (s : SidesRecord) (limit : Option ℕ) (remote : List CandidateRecord) (pairs : List PairRecord) (q : RequestRecord) (place : RemotePlace)
    → IsPlaceOf limit remote pairs q place → IsPlaceOf limit remote (map (with_priority_in s) pairs) q place
place-reprioritized s limit remote pairs q place (found, is, settles) = (found, is, settles-reprioritized s limit remote pairs found place settles)
