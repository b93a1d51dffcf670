-- A pair at an index is written, and stays where it is found.
use Rattle.is_pair.proofs.Common.{[], ◌&&◌, ◌==◌, ◌∙◌, ◌∷◌, ◌≡◌, ap, are_below, are_fewer, Bool, is_kept, IsIndex, IsRanking, keep_fewer}
use Rattle.is_pair.proofs.Common.{keeps, Kept, length, List, list_all, nat_lt, PairRecord, passes_at, Rank, ranks, refl, rises, slice_get}
use Rattle.is_pair.proofs.Common.{slice_set, Some, suc, sym, true, zero, ℕ}
use Rattle.is_pair.proofs.PairEntries.AnsweredPair.{any-set}

all-set : {X : Type 0} (t : X → Bool) (xs : List X) (k : ℕ) (x y : X) → slice_get xs k ≡ Some x → t y ≡ t x → list_all t (slice_set xs k y) ≡ list_all t xs
all-set t [] k x y at same = absurd (cc)
all-set t (z ∷ zs) zero x y at same = let is : z ≡ x = cc in ap (λ b. b && list_all t zs) (same ∙ ap t (sym is))
all-set t (z ∷ zs) (suc k) x y at same = ap (λ b. t z && b) (all-set t zs k x y at same)

rises-set : (ps : List PairRecord) (k : ℕ) (p after : PairRecord) → slice_get ps k ≡ Some p → after.number ≡ p.number → rises (slice_set ps k after) ≡ rises ps
rises-set [] k p after at same = absurd (cc)
rises-set (q ∷ ps) zero p after at same =
    let is : q ≡ p = cc in
    ap (λ m. list_all (λ x. nat_lt m x.number) ps && rises ps) (same ∙ ap (λ (x : PairRecord). x.number) (sym is))
rises-set (q ∷ ps) (suc k) p after at same =
    rw (all-set (λ x. nat_lt q.number x.number) ps k p after at (ap (nat_lt q.number) same), rises-set ps k p after at same) refl

module _ (k : ℕ) (ps qs : List PairRecord) (p after : PairRecord) (at : slice_get ps k ≡ Some p) (is : qs ≡ slice_set ps k after) where
  pub written-rises : after.number ≡ p.number → rises ps ≡ true → rises qs ≡ true
  written-rises number h = ap rises is ∙ rises-set ps k p after at number ∙ h

  pub written-below : (m : ℕ) → after.number ≡ p.number → are_below m ps ≡ true → are_below m qs ≡ true
  written-below m number h = ap (are_below m) is ∙ all-set (λ q. nat_lt q.number m) ps k p after at (ap (λ n. nat_lt n m) number) ∙ h

  pub written-fewer : (limit m : ℕ) → length after.checks ≡ length p.checks → keep_fewer limit m ps ≡ true → keep_fewer limit m qs ≡ true
  written-fewer limit m long h = ap (keep_fewer limit m) is ∙ all-set (λ q. are_fewer limit m (length q.checks)) ps k p after at (ap (are_fewer limit m) long) ∙ h

  pub written-index : (index : List Kept) → after.number ≡ p.number → ((i : List ℕ) → is_kept i after.checks ≡ is_kept i p.checks) → IsIndex index ps → IsIndex index qs
  written-index index number kept indexed id m =
      indexed id m ∙ sym (ap (keeps id m) is ∙ any-set (passes_at m (λ q. is_kept id q.checks)) ps k p after at (rw (number, kept id) refl))

  pub written-ranking : (rs : List Rank) → after.number ≡ p.number → after.priority ≡ p.priority → IsRanking rs ps → IsRanking rs qs
  written-ranking rs number priority ranked r m =
      ranked r m ∙ sym (ap (ranks r m) is ∙ any-set (passes_at m (λ q. q.priority == r)) ps k p after at (rw (number, priority) refl))
