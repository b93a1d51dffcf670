-- The pair with a pending transaction of a response's id, found through the index.
use Rattle.is_pair.proofs.Common.{[], ◌&&◌, ◌==◌, ◌||◌, ◌∙◌, ◌∷◌, ◌≡◌, ap, Bool, bytes_eq, eq-eqb, eqb-true, false, filter, find, Has}
use Rattle.is_pair.proofs.Common.{IfSome, if◌then◌else◌, inl, inr, is_kept, is_some, IsAwaiting, IsIndex, keeps, Kept, List, list_any}
use Rattle.is_pair.proofs.Common.{names, names_passing, None, Option, pair_numbered, PairRecord, passes_at, refl, rises, Some, sym, true, ℕ}
use Rattle.is_pair.proofs.PairEntries.ChangedEntry.{both, none-passes, one-passes}
use Rattle.is_pair.proofs.PriorityOrder.GreatestPair.{any-has, filter-none, find-has, found-has, has-any}

none-found-has : {X : Type 0} (t : X → Bool) (xs : List X) (x : X) → find t xs ≡ None → Has xs x → t x ≡ true → ⊥
none-found-has t [] x none has is = elim has [ ]
none-found-has t (y ∷ ys) x none (inl e) is = let here : t y ≡ true = ap t e ∙ is in absurd (cc)
none-found-has t (y ∷ ys) x none (inr has) is =
    elim (t y) as (λ b. (if b then Some y else find t ys) ≡ None → ⊥) [
      | true ↦ λ h. absurd (cc)
      | false ↦ λ h. none-found-has t ys x h has is
    ] none

module _ (ps : List PairRecord) (index : List Kept) (id : List ℕ) (test : PairRecord → Bool) (rising : rises ps ≡ true) (indexed : IsIndex index ps) where
  awaiting-at : (k : Kept) (p : PairRecord) → Has index k → names_passing id test ps k ≡ true → pair_numbered k.number ps ≡ Some p → IsAwaiting id test ps (Some p)
  awaiting-at k p has is found =
      let b = both (bytes_eq k.id.0 id) (list_any (passes_at k.number test) ps) is in
      let named = has-any (names id k.number) index k has (rw (eq-eqb k.number k.number refl) b.0) in
      let kept = sym (one-passes k.number (λ q. is_kept id q.checks) ps p rising found) ∙ sym (indexed id k.number) ∙ named in
      let passes = sym (one-passes k.number test ps p rising found) ∙ b.1 in
      (found-has k.number ps p found, rw kept passes)

  pub awaiting-found : (k : Kept) → find (names_passing id test ps) index ≡ Some k → IsAwaiting id test ps (pair_numbered k.number ps)
  awaiting-found k is =
      let found = find-has (names_passing id test ps) index k is in
      elim (pair_numbered k.number ps) as (λ o. pair_numbered k.number ps ≡ o → IsAwaiting id test ps o) [
        | Some p ↦ λ at. awaiting-at k p found.0 found.1 at
        | None ↦ λ none.
            let fails = none-passes k.number test ps none in
            let passes = (both (bytes_eq k.id.0 id) (list_any (passes_at k.number test) ps) found.1).1 in
            absurd (cc)
      ] refl

  pub none-awaiting : find (names_passing id test ps) index ≡ None → IsAwaiting id test ps None
  none-awaiting none = filter-none (λ p. is_kept id p.checks && test p) ps (λ p has is.
      let b = both (is_kept id p.checks) (test p) is in
      let keeps = has-any (passes_at p.number (λ q. is_kept id q.checks)) ps p has (rw (eq-eqb p.number p.number refl) b.0) in
      let k = any-has (names id p.number) index (indexed id p.number ∙ keeps) in
      let n = both (k.0.number == p.number) (bytes_eq k.0.id.0 id) k.2 in
      let number = eqb-true k.0.number p.number n.0 in
      let passes = has-any (passes_at k.0.number test) ps p has (rw (eq-eqb p.number k.0.number (sym number)) b.1) in
      none-found-has (names_passing id test ps) index k.0 none k.1 (rw (n.1) passes))

-- it stores the id under its number
pub awaiting-keeps : (id : List ℕ) (test : PairRecord → Bool) (ps : List PairRecord) (o : Option PairRecord) → IsAwaiting id test ps o → IfSome o (λ p. keeps id p.number ps ≡ true)
awaiting-keeps id test ps None h = tt
awaiting-keeps id test ps (Some p) h =
    let b = both (is_kept id p.checks) (test p) h.1 in
    has-any (passes_at p.number (λ q. is_kept id q.checks)) ps p h.0 (rw (eq-eqb p.number p.number refl) b.0)

-- whether there is one
any-none : {X : Type 0} (t : X → Bool) (xs : List X) → filter t xs ≡ [] → list_any t xs ≡ false
any-none t [] none = refl
any-none t (x ∷ xs) none =
    elim (t x) as (λ b. (if b then x ∷ filter t xs else filter t xs) ≡ [] → (b || list_any t xs) ≡ false) [
      | true ↦ λ h. absurd (cc)
      | false ↦ λ h. any-none t xs h
    ] none

pub awaiting-any : (id : List ℕ) (test : PairRecord → Bool) (ps : List PairRecord) (o : Option PairRecord) → IsAwaiting id test ps o → is_some o ≡ list_any (λ p. is_kept id p.checks && test p) ps
awaiting-any id test ps None none = sym (any-none (λ p. is_kept id p.checks && test p) ps none)
awaiting-any id test ps (Some p) h = sym (has-any (λ p. is_kept id p.checks && test p) ps p h.0 h.1)
