-- The pair of least priority, found at the front of the order.
use Rattle.is_pair.proofs.Common.{[], ◌<◌, ◌==◌, ◌∙◌, ◌∷◌, ◌≡◌, ◌≤◌, ap, arith, Bool, count_by-le-length, eq-eqb, false, find}
use Rattle.is_pair.proofs.Common.{Has, has_passing, if◌then◌else◌, inl, inr, is_numbered, is_rank, IsLeast, IsLeastPassing, IsLowest}
use Rattle.is_pair.proofs.Common.{IsRanking, length, length-filter, List, list_all, nat_le, None, not, pair_numbered, PairRecord, Rank}
use Rattle.is_pair.proofs.Common.{refl, rises, slice_get, Some, subst, suc, sym, true, unwrap_or, without, ℕ}
use Rattle.is_pair.proofs.PairEntries.ChangedEntry.{both, none-passes, one-passes}
use Rattle.is_pair.proofs.PriorityOrder.GreatestPair.{all-has, filter-none, found-has, has-any, has-rank, rank-priority}
use Rattle.is_pair.proofs.PriorityOrder.OrderedPairs.{are_rising, le-from}

abbrev pub IsFirst : List Rank → Rank → Type 0
IsFirst rs r = Has rs r × ((s : Rank) → Has rs s → r.priority ≤ s.priority)

first-least : (rs : List Rank) (r : Rank) → are_rising rs ≡ true → slice_get rs 0 ≡ Some r → IsFirst rs r
first-least [] r ordered at = absurd (cc)
first-least (x ∷ rs) r ordered at =
    let is : x ≡ r = cc in
    let b = both (list_all (λ (q : Rank). nat_le x.priority q.priority) rs) (are_rising rs) ordered in
    (inl is, above is b.0)
  where
    above : x ≡ r → list_all (λ (q : Rank). nat_le x.priority q.priority) rs ≡ true → (s : Rank) → Has (x ∷ rs) s → r.priority ≤ s.priority
    above is low s (inl e) = let same : r.priority ≡ s.priority = ap (λ (q : Rank). q.priority) (sym is ∙ e) in omega (arith, same)
    above is low s (inr h) = subst (λ (q : Rank). q.priority ≤ s.priority) is (le-from (all-has (λ (q : Rank). nat_le x.priority q.priority) rs s low h))

pub empty-of : (ps : List PairRecord) → ((q : PairRecord) → Has ps q → ⊥) → ps ≡ []
empty-of [] none = refl
empty-of (p ∷ ps) none = absurd (none p (inl refl))

no-first : (rs : List Rank) → slice_get rs 0 ≡ None → rs ≡ []
no-first [] none = refl
no-first (r ∷ rs) none = absurd (cc)

none-in : (rs : List Rank) → rs ≡ [] → (s : Rank) → Has rs s → ⊥
none-in rs none s has = elim (subst (λ (xs : List Rank). Has xs s) none has) [ ]

module _ (ps : List PairRecord) (rs : List Rank) (rising : rises ps ≡ true) (ranked : IsRanking rs ps) where
  least-at : (r : Rank) (p : PairRecord) → IsFirst rs r → pair_numbered r.number ps ≡ Some p → IsLeast ps p
  least-at r p first found =
      let priority = rank-priority ps rs (λ _. true) rising ranked r p first.0 found in (
        found-has r.number ps p found,
        λ q has.
            let s = has-rank ps rs (λ _. true) rising ranked q has refl in
            let low = first.1 s.0 s.1 in
            omega (arith, low, s.3, priority),
      )

  pub least-found : (r : Rank) → are_rising rs ≡ true → slice_get rs 0 ≡ Some r → IsLowest ps (pair_numbered r.number ps)
  least-found r ordered at =
      let first = first-least rs r ordered at in
      elim (pair_numbered r.number ps) as (λ o. pair_numbered r.number ps ≡ o → IsLowest ps o) [
        | Some p ↦ λ found. least-at r p first found
        | None ↦ λ none.
            let own = has-any (is_rank r.priority r.number) rs r first.0 (rw (eq-eqb r.number r.number refl) (eq-eqb r.priority r.priority refl)) in
            let stored = ranked r.priority r.number in
            let fails = none-passes r.number (λ q. q.priority == r.priority) ps none in
            absurd (cc)
      ] refl

  pub none-least : slice_get rs 0 ≡ None → ps ≡ []
  none-least none = empty-of ps (λ q has.
      let s = has-rank ps rs (λ _. true) rising ranked q has refl in
      none-in rs (no-first rs none) s.0 s.1)

-- ---- among those that pass

abbrev pub IsFirstPassing : (Rank → Bool) → List Rank → Rank → Type 0
IsFirstPassing t rs r = Has rs r × (t r ≡ true) × ((s : Rank) → Has rs s → t s ≡ true → r.priority ≤ s.priority)

none-first : (t : Rank → Bool) (rs : List Rank) (s : Rank) → find t rs ≡ None → Has rs s → t s ≡ true → ⊥
none-first t [] s none has is = elim has [ ]
none-first t (r ∷ rs) s none has is =
    elim (t r) as (λ b. t r ≡ b → (if b then Some r else find t rs) ≡ None → ⊥) [
      | true ↦ λ passes h. absurd (cc)
      | false ↦ λ fails h. by has fails (λ rest. none-first t rs s h rest is)
    ] refl none
  where
    by : Has (r ∷ rs) s → t r ≡ false → (Has rs s → ⊥) → ⊥
    by (inl e) fails following = let here : t r ≡ true = ap t e ∙ is in absurd (cc)
    by (inr rest) fails following = following rest

first-found : (t : Rank → Bool) (rs : List Rank) (r : Rank) → are_rising rs ≡ true → find t rs ≡ Some r → IsFirstPassing t rs r
first-found t [] r ordered found = absurd (cc)
first-found t (x ∷ rs) r ordered found =
    let b = both (list_all (λ (q : Rank). nat_le x.priority q.priority) rs) (are_rising rs) ordered in
    elim (t x) as (λ c. t x ≡ c → (if c then Some x else find t rs) ≡ Some r → IsFirstPassing t (x ∷ rs) r) [
      | true ↦ λ passes h. let same : x ≡ r = ap (λ o. unwrap_or o x) h in (inl same, ap t (sym same) ∙ passes, above same b.0)
      | false ↦ λ fails h. let rest = first-found t rs r b.1 h in (inr rest.0, rest.1, beyond fails rest)
    ] refl found
  where
    above : x ≡ r → list_all (λ (q : Rank). nat_le x.priority q.priority) rs ≡ true → (s : Rank) → Has (x ∷ rs) s → t s ≡ true → r.priority ≤ s.priority
    above is low s (inl e) passes = let same : r.priority ≡ s.priority = ap (λ (q : Rank). q.priority) (sym is ∙ e) in omega (arith, same)
    above is low s (inr h) passes = subst (λ (q : Rank). q.priority ≤ s.priority) is (le-from (all-has (λ (q : Rank). nat_le x.priority q.priority) rs s low h))

    beyond : t x ≡ false → IsFirstPassing t rs r → (s : Rank) → Has (x ∷ rs) s → t s ≡ true → r.priority ≤ s.priority
    beyond fails rest s (inl e) passes = let here : t x ≡ true = ap t e ∙ passes in absurd (cc)
    beyond fails rest s (inr h) passes = rest.2 s h passes

module _ (ps : List PairRecord) (rs : List Rank) (rising : rises ps ≡ true) (ranked : IsRanking rs ps) (test : PairRecord → Bool) where
  least-passing-at : (r : Rank) (p : PairRecord) → IsFirstPassing (has_passing test ps) rs r → pair_numbered r.number ps ≡ Some p → IsLeastPassing test ps (Some p)
  least-passing-at r p first found =
      let priority = rank-priority ps rs test rising ranked r p first.0 found in (
        found-has r.number ps p found,
        sym (one-passes r.number test ps p rising found) ∙ first.1,
        λ q has is.
            let s = has-rank ps rs test rising ranked q has is in
            let low = first.2 s.0 s.1 s.2 in
            omega (arith, low, s.3, priority),
      )

  pub least-passing-found : (r : Rank) → are_rising rs ≡ true → find (has_passing test ps) rs ≡ Some r → IsLeastPassing test ps (pair_numbered r.number ps)
  least-passing-found r ordered is =
      let first = first-found (has_passing test ps) rs r ordered is in
      elim (pair_numbered r.number ps) as (λ o. pair_numbered r.number ps ≡ o → IsLeastPassing test ps o) [
        | Some p ↦ λ found. least-passing-at r p first found
        | None ↦ λ none. let fails = none-passes r.number test ps none in absurd (cc)
      ] refl

  pub none-passing : find (has_passing test ps) rs ≡ None → IsLeastPassing test ps None
  none-passing none = filter-none test ps (λ q has is. let s = has-rank ps rs test rising ranked q has is in none-first (has_passing test ps) rs s.0 none s.1 s.2)

-- a multiset gets shorter if one of its pairs is removed
pub shrinks : (ps : List PairRecord) (p : PairRecord) (n : ℕ) → Has ps p → p.number ≡ n → length (without (is_numbered n) ps) < length ps
shrinks [] p n has is = elim has [ ]
shrinks (x ∷ ps) p n (inl e) is =
    let here : x.number ≡ n = ap (λ (q : PairRecord). q.number) e ∙ is in
    let stays = λ (q : PairRecord). not (is_numbered n q) in
    rw (eq-eqb x.number n here) (omega (arith, length-filter stays ps, count_by-le-length stays ps))
shrinks (x ∷ ps) p n (inr has) is =
    let less = shrinks ps p n has is in
    elim (is_numbered n x) as (λ b. length (if not b then x ∷ without (is_numbered n) ps else without (is_numbered n) ps) < suc (length ps)) [ true ↦ omega arith | false ↦ omega arith ]
