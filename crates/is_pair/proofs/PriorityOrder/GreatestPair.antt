-- What is among a list, and the rank of a pair.
use Rattle.is_pair.proofs.Common.{[], ◌==◌, ◌||◌, ◌∙◌, ◌∷◌, ◌≡◌, ap, Bool, eq-eqb, eqb-true, false, filter, find, Has, has_passing}
use Rattle.is_pair.proofs.Common.{if◌then◌else◌, inl, inr, is_numbered, is_rank, IsRanking, List, list_all, list_any, pair_numbered}
use Rattle.is_pair.proofs.Common.{PairRecord, passes_at, Rank, refl, rises, Some, sym, true, unwrap_or, ℕ}
use Rattle.is_pair.proofs.PairEntries.ChangedEntry.{both, one-passes}

-- ---- what is among a list

pub has-any : {X : Type 0} (t : X → Bool) (xs : List X) (x : X) → Has xs x → t x ≡ true → list_any t xs ≡ true
has-any t [] x h is = elim h [ ]
has-any t (y ∷ ys) x (inl e) is = rw (e, is) refl
has-any t (y ∷ ys) x (inr h) is = rw (has-any t ys x h is) (or-true (t y))
  where
    or-true : (b : Bool) → (b || true) ≡ true
    or-true true = refl
    or-true false = refl

pub any-has : {X : Type 0} (t : X → Bool) (xs : List X) → list_any t xs ≡ true → (x : X) × Has xs x × (t x ≡ true)
any-has t [] h = absurd (cc)
any-has t (y ∷ ys) h =
    elim (t y) as (λ b. t y ≡ b → (b || list_any t ys) ≡ true → (x : _) × Has (y ∷ ys) x × (t x ≡ true)) [
      | true ↦ λ is h. (y, inl refl, is)
      | false ↦ λ is h. let rest = any-has t ys h in (rest.0, inr rest.1, rest.2)
    ] refl h

pub all-has : {X : Type 0} (t : X → Bool) (xs : List X) (x : X) → list_all t xs ≡ true → Has xs x → t x ≡ true
all-has t [] x h has = elim has [ ]
all-has t (y ∷ ys) x h (inl e) = ap t (sym e) ∙ (both (t y) (list_all t ys) h).0
all-has t (y ∷ ys) x h (inr has) = all-has t ys x (both (t y) (list_all t ys) h).1 has

pub filter-none : {X : Type 0} (t : X → Bool) (xs : List X) → ((x : X) → Has xs x → t x ≡ true → ⊥) → filter t xs ≡ []
filter-none t [] none = refl
filter-none t (x ∷ xs) none =
    elim (t x) as (λ b. t x ≡ b → (if b then x ∷ filter t xs else filter t xs) ≡ []) [
      | true ↦ λ is. absurd (none x (inl refl) is)
      | false ↦ λ is. filter-none t xs (λ y h. none y (inr h))
    ] refl

-- what is found is there, and passes
pub find-has : {X : Type 0} (t : X → Bool) (xs : List X) (x : X) → find t xs ≡ Some x → Has xs x × (t x ≡ true)
find-has t [] x found = absurd (cc)
find-has t (y ∷ ys) x found =
    elim (t y) as (λ b. t y ≡ b → (if b then Some y else find t ys) ≡ Some x → Has (y ∷ ys) x × (t x ≡ true)) [
      | true ↦ λ is h. let same : y ≡ x = ap (λ o. unwrap_or o y) h in (inl same, ap t (sym same) ∙ is)
      | false ↦ λ is h. let rest = find-has t ys x h in (inr rest.0, rest.1)
    ] refl found

pub found-has : (n : ℕ) (ps : List PairRecord) (v : PairRecord) → pair_numbered n ps ≡ Some v → Has ps v
found-has n ps v found = (find-has (is_numbered n) ps v found).0

-- ---- its pair

module _ (ps : List PairRecord) (rs : List Rank) (test : PairRecord → Bool) (rising : rises ps ≡ true) (ranked : IsRanking rs ps) where
  -- each pair that passes has its rank
  pub has-rank : (q : PairRecord) → Has ps q → test q ≡ true → (s : Rank) × Has rs s × (has_passing test ps s ≡ true) × (s.priority ≡ q.priority)
  has-rank q has is =
      let own = has-any (passes_at q.number (λ p. p.priority == q.priority)) ps q has (rw (eq-eqb q.number q.number refl) (eq-eqb q.priority q.priority refl)) in
      let found = any-has (is_rank q.priority q.number) rs (ranked q.priority q.number ∙ own) in
      let b = both (found.0.number == q.number) (found.0.priority == q.priority) found.2 in
      let number = eqb-true found.0.number q.number b.0 in (
        found.0,
        found.1,
        has-any (passes_at found.0.number test) ps q has (rw (eq-eqb q.number found.0.number (sym number)) is),
        eqb-true found.0.priority q.priority b.1,
      )

  -- the pair has the priority of its rank
  pub rank-priority : (r : Rank) (p : PairRecord) → Has rs r → pair_numbered r.number ps ≡ Some p → p.priority ≡ r.priority
  rank-priority r p has found =
      let own = has-any (is_rank r.priority r.number) rs r has (rw (eq-eqb r.number r.number refl) (eq-eqb r.priority r.priority refl)) in
      eqb-true p.priority r.priority (sym (one-passes r.number (λ q. q.priority == r.priority) ps p rising found) ∙ sym (ranked r.priority r.number) ∙ own)
