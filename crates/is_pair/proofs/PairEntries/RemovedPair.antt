-- The pair with a number is removed, and its entries with it.
use Rattle.is_pair.proofs.Common.{◌&&◌, ◌==◌, ◌∙◌, ◌≡◌, any-filter_same, ap, Bool, eqb-true, filter, is_kept, is_named, is_numbered}
use Rattle.is_pair.proofs.Common.{is_rank, is_ranked, IsIndex, IsRanking, keeps, Kept, List, list_any, names, not, PairRecord, passes_at}
use Rattle.is_pair.proofs.Common.{Rank, ranks, sym, without, ℕ}
use Rattle.is_pair.proofs.PairEntries.ChangedEntry.{both}

-- what is left of a number once another one is removed
others : (n m : ℕ) (test : PairRecord → Bool) (ps : List PairRecord) → list_any (passes_at m test) (without (is_numbered n) ps) ≡ (not (m == n) && list_any (passes_at m test) ps)
others n m test ps =
    any-filter_same (passes_at m test) (λ p. not (p.number == n)) (not (m == n))
    (λ p is. ap (λ k. not (k == n)) (eqb-true p.number m (both (p.number == m) (test p) is).0)) ps

pub index-without : (n : ℕ) (ps left : List PairRecord) (index after : List Kept) → left ≡ without (is_numbered n) ps → after ≡ filter (λ (k : Kept). not (k.number == n)) index
    → IsIndex index ps → IsIndex after left
index-without n ps left index after gone is indexed id m =
    ap (is_named id m) is
    ∙ any-filter_same (names id m) (λ (k : Kept). not (k.number == n)) (not (m == n)) (λ k named. ap (λ j. not (j == n)) (eqb-true k.number m (both (k.number == m) _ named).0)) index
    ∙ rw (indexed id m) (sym (ap (keeps id m) gone ∙ others n m (λ p. is_kept id p.checks) ps))

pub ranking-without : (n : ℕ) (ps left : List PairRecord) (rs after : List Rank) → left ≡ without (is_numbered n) ps → after ≡ filter (λ (r : Rank). not (r.number == n)) rs
    → IsRanking rs ps → IsRanking after left
ranking-without n ps left rs after gone is ranked priority m =
    ap (is_ranked priority m) is
    ∙ any-filter_same (is_rank priority m) (λ (r : Rank). not (r.number == n)) (not (m == n)) (λ r here. ap (λ j. not (j == n)) (eqb-true r.number m (both (r.number == m) _ here).0)) rs
    ∙ rw (ranked priority m) (sym (ap (ranks priority m) gone ∙ others n m (λ p. p.priority == priority) ps))
