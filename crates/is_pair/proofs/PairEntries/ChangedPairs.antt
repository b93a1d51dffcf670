-- All pairs of a multiset change, and stay where they are found.
use Rattle.is_pair.proofs.Common.{◌==◌, ◌∙◌, ◌≡◌, ap, are_below, are_fewer, change_at, is_kept, IsIndex, IsRanking, keep_fewer, keeps}
use Rattle.is_pair.proofs.Common.{KeepsKeys, Kept, length, List, map, nat_lt, PairRecord, passes_at, Rank, ranks, refl, rises, sym, true, ℕ}
use Rattle.is_pair.proofs.PairEntries.ChangedEntry.{all-mapped, any-changed, change-keeps, rises-changed}

module _ (g : PairRecord → PairRecord) (number : (p : PairRecord) → (g p).number ≡ p.number) (ps qs : List PairRecord) (is : qs ≡ map g ps) where
  pub changed-rises : rises ps ≡ true → rises qs ≡ true
  changed-rises h = ap rises is ∙ rises-changed g number ps ∙ h

  pub changed-below : (n : ℕ) → are_below n ps ≡ true → are_below n qs ≡ true
  changed-below n h = ap (are_below n) is ∙ all-mapped (λ p. nat_lt p.number n) g (λ p. ap (λ k. nat_lt k n) (number p)) ps h

  pub changed-ranking : ((p : PairRecord) → (g p).priority ≡ p.priority) → (rs : List Rank) → IsRanking rs ps → IsRanking rs qs
  changed-ranking same rs ranked priority n =
      ranked priority n ∙ sym (ap (ranks priority n) is ∙ any-changed (passes_at n (λ p. p.priority == priority)) g (λ p. rw (number p, same p) refl) ps)

  module _ (checks : (p : PairRecord) → (g p).checks ≡ p.checks) where
    pub changed-fewer : (limit n : ℕ) → keep_fewer limit n ps ≡ true → keep_fewer limit n qs ≡ true
    changed-fewer limit n h = ap (keep_fewer limit n) is ∙ all-mapped (λ p. are_fewer limit n (length p.checks)) g (λ p. ap (λ cs. are_fewer limit n (length cs)) (checks p)) ps h

    pub changed-index : (index : List Kept) → IsIndex index ps → IsIndex index qs
    changed-index index indexed id n =
        indexed id n ∙ sym (ap (keeps id n) is ∙ any-changed (passes_at n (λ p. is_kept id p.checks)) g (λ p. rw (number p, checks p) refl) ps)

-- one pair changes
pub keeps-keys-at : (n : ℕ) (f : PairRecord → PairRecord) → KeepsKeys f → KeepsKeys (change_at n f)
keeps-keys-at n f same p = (
  change-keeps (λ (q : PairRecord). q.number) n f (λ q. (same q).0) p,
  change-keeps (λ (q : PairRecord). q.priority) n f (λ q. (same q).1) p,
  change-keeps (λ (q : PairRecord). q.checks) n f (λ q. (same q).2) p,
)
