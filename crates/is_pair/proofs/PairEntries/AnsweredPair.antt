-- A pair takes a response, and stays where it is found.
use Rattle.is_pair.proofs.Common.{[], ◌||◌, ◌∙◌, ◌∷◌, ◌≡◌, answered_at, ap, Bool, has_id, is_kept, length, length-set, List, list_any}
use Rattle.is_pair.proofs.Common.{PairRecord, refl, slice_get, slice_set, Some, suc, sym, TakesAnswer, zero, ℕ}

pub any-set : {X : Type 0} (t : X → Bool) (xs : List X) (k : ℕ) (x y : X) → slice_get xs k ≡ Some x → t y ≡ t x → list_any t (slice_set xs k y) ≡ list_any t xs
any-set t [] k x y at same = absurd (cc)
any-set t (z ∷ zs) zero x y at same = let is : z ≡ x = cc in ap (λ b. b || list_any t zs) (same ∙ ap t (sym is))
any-set t (z ∷ zs) (suc k) x y at same = ap (λ b. t z || b) (any-set t zs k x y at same)

module _ (p : PairRecord) (now : ℕ) (id : List ℕ) (after : PairRecord) (taken : TakesAnswer p now id after) where
  pub answer-number : after.number ≡ p.number
  answer-number = ap (λ (q : PairRecord). q.number) taken.3

  pub answer-priority : after.priority ≡ p.priority
  answer-priority = ap (λ (q : PairRecord). q.priority) taken.3

  pub answer-checks : length after.checks ≡ length p.checks
  answer-checks = ap (λ (q : PairRecord). length q.checks) taken.3 ∙ length-set p.checks taken.0 (answered_at now taken.1)

  pub answer-keeps : (i : List ℕ) → is_kept i after.checks ≡ is_kept i p.checks
  answer-keeps i = ap (λ (q : PairRecord). is_kept i q.checks) taken.3 ∙ any-set (has_id i) p.checks taken.0 taken.1 (answered_at now taken.1) taken.2.0 refl
