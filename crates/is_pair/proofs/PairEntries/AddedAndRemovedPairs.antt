-- Index and order of a checklist when a pair is added or some are removed.
use Rattle.is_pair.proofs.Common.{[], ◌&&◌, ◌++◌, ◌==◌, ◌||◌, ◌∙◌, ◌∷◌, ◌≡◌, any-filter_same, ap, Bool, eqb-true, false, filter, has_number}
use Rattle.is_pair.proofs.Common.{is_kept, is_named, is_rank, is_ranked, IsIndex, IsRanking, keeps, Kept, List, list_any-append, names}
use Rattle.is_pair.proofs.Common.{PairRecord, passes_at, Rank, ranks, refl, rises, sym, true, ℕ}
use Rattle.is_pair.proofs.PairEntries.ChangedEntry.{both, stays-whole}

-- ---- one more pair

or-nothing : (b here : Bool) → (b || ((here && false) || false)) ≡ b
or-nothing true here = refl
or-nothing false true = refl
or-nothing false false = refl

-- a pair without pending transactions
pub keeps-more : (ps : List PairRecord) (p : PairRecord) (id : List ℕ) (n : ℕ) → p.checks ≡ [] → keeps id n (ps ++ p ∷ []) ≡ keeps id n ps
keeps-more ps p id n none =
    list_any-append (passes_at n (λ q. is_kept id q.checks)) ps (p ∷ []) ∙ rw none (or-nothing (keeps id n ps) (p.number == n))

or-reversed_path : (a b : Bool) → (a || b) ≡ (b || (a || false))
or-reversed_path true true = refl
or-reversed_path true false = refl
or-reversed_path false true = refl
or-reversed_path false false = refl

pub ranks-more : (ps : List PairRecord) (p : PairRecord) (priority n : ℕ) → (passes_at n (λ q. q.priority == priority) p || ranks priority n ps) ≡ ranks priority n (ps ++ p ∷ [])
ranks-more ps p priority n =
    or-reversed_path (passes_at n (λ q. q.priority == priority) p) (ranks priority n ps) ∙ sym (list_any-append (passes_at n (λ q. q.priority == priority)) ps (p ∷ []))

-- ---- some fewer pairs

pub index-left : (t : PairRecord → Bool) (ps left : List PairRecord) (index after : List Kept) → rises ps ≡ true → left ≡ filter t ps → after ≡ filter (λ (k : Kept). has_number k.number left) index
    → IsIndex index ps → IsIndex after left
index-left t ps left index after rising is kept indexed id n =
    ap (is_named id n) kept
    ∙ any-filter_same (names id n) (λ (k : Kept). has_number k.number left) (has_number n left) (λ k named. ap (λ m. has_number m left) (eqb-true k.number n (both (k.number == n) _ named).0)) index
    ∙ rw (indexed id n, is) (sym (stays-whole n (λ p. is_kept id p.checks) t ps rising))

pub ranking-left : (t : PairRecord → Bool) (ps left : List PairRecord) (rs after : List Rank) → rises ps ≡ true → left ≡ filter t ps → after ≡ filter (λ (r : Rank). has_number r.number left) rs
    → IsRanking rs ps → IsRanking after left
ranking-left t ps left rs after rising is kept ranked priority n =
    ap (is_ranked priority n) kept
    ∙ any-filter_same (is_rank priority n) (λ (r : Rank). has_number r.number left) (has_number n left) (λ r here. ap (λ m. has_number m left) (eqb-true r.number n (both (r.number == n) _ here).0)) rs
    ∙ rw (ranked priority n, is) (sym (stays-whole n (λ p. p.priority == priority) t ps rising))
