-- The elements of a list with one more at its end, and of one in which none passes a test.
use Rattle.is_theorems.proofs.Common.{[], ◌++◌, ◌∷◌, ◌≡◌, Bool, false, filter, Has, if◌then◌else◌, inl, inr, List, NonePass}
use Rattle.is_theorems.proofs.Common.{refl, true}

pub has-front : {X : Type 0} (xs : List X) (x y : X) → Has xs y → Has (xs ++ x ∷ []) y
has-front [] x y h = elim h [ ]
has-front (z ∷ zs) x y (inl e) = inl e
has-front (z ∷ zs) x y (inr h) = inr (has-front zs x y h)

not-first : {X : Type 0} (test : X → Bool) (x y : X) (ys : List X) → test y ≡ false → test x ≡ true → (Has ys x → ⊥) → Has (y ∷ ys) x → ⊥
not-first test x y ys fails passes following (inl e) = absurd (cc)
not-first test x y ys fails passes following (inr h) = following h

-- if none passes, no element does
pub none-has : {X : Type 0} (test : X → Bool) (xs : List X) → NonePass test xs → (x : X) → Has xs x → test x ≡ true → ⊥
none-has test [] none x h passes = elim h [ ]
none-has test (y ∷ ys) none x h passes =
    elim (test y) as (λ b. test y ≡ b → (if b then y ∷ filter test ys else filter test ys) ≡ [] → ⊥) [
      | true ↦ λ is fails. absurd (cc)
      | false ↦ λ is rest. not-first test x y ys is passes (λ h. none-has test ys rest x h passes) h
    ] refl none
