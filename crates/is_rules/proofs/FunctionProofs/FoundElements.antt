-- A found element is in the list and passes the test. If none is found, none passes.
use Rattle.std.proofs.Common.{if◌then◌else◌, ◌≡◌, Bool, true, false, List, [], ◌∷◌, Some, None, find, filter, inl, inr, refl}
use Rattle.is_proto.specs.Lists.{Has, NonePass}

-- a pair that is found is in the list and passes
pub find-Some : {X : Type 0} (test : X → Bool) (xs : List X) (x : X) → find test xs ≡ Some x → Has xs x × (test x ≡ true)
find-Some test [] x h = absurd (cc)
find-Some test (y ∷ ys) x h =
    elim (test y) as (λ b. test y ≡ b → (if b then Some y else find test ys) ≡ Some x → Has (y ∷ ys) x × (test x ≡ true)) [
      | true ↦ λ is found. let same : y ≡ x = cc in (inl same, rw (← same) is)
      | false ↦ λ is found. let rest = find-Some test ys x found in (inr rest.0, rest.1)
    ] refl h

-- if none is found none passes
pub find-None : {X : Type 0} (test : X → Bool) (xs : List X) → find test xs ≡ None → NonePass test xs
find-None test [] h = refl
find-None test (y ∷ ys) h =
    elim (test y) as (λ b. (if b then Some y else find test ys) ≡ None → (if b then y ∷ filter test ys else filter test ys) ≡ []) [
      | true ↦ λ found. absurd (cc)
      | false ↦ λ found. find-None test ys found
    ] h
