-- All pairs get new priorities, and the order is updated.
use Rattle.is_pair.proofs.Common.{[], ◌&&◌, ◌==◌, ◌||◌, ◌∙◌, ◌∷◌, ◌≡◌, ap, Bool, eq-eqb, eqb-true, false, is_rank, IsRanking, List}
use Rattle.is_pair.proofs.Common.{list_any, map, None, option_map, option_map_or, pair_numbered, PairRecord, Rank, rank_now, ranks, refl}
use Rattle.is_pair.proofs.Common.{rises, Some, sym, true, ℕ}
use Rattle.is_pair.proofs.PairEntries.ChangedEntry.{both, none-passes, numbered-changed, one-passes, rises-changed}
use Rattle.is_pair.proofs.PriorityOrder.GreatestPair.{any-has, has-any}

pub number-now : (qs : List PairRecord) (r : Rank) → (rank_now qs r).number ≡ r.number
number-now qs r = elim (pair_numbered r.number qs) as (λ o. (option_map_or (λ (p : PairRecord). record r { priority = p.priority }) o r).number ≡ r.number) [ Some p ↦ refl | None ↦ refl ]

-- the ranks of a pair
of-one : (qs : List PairRecord) (n priority : ℕ) (p : PairRecord) (rs : List Rank) → pair_numbered n qs ≡ Some p
    → list_any (is_rank priority n) (map (rank_now qs) rs) ≡ (list_any (λ (r : Rank). r.number == n) rs && (p.priority == priority))
of-one qs n priority p [] found = refl
of-one qs n priority p (r ∷ rs) found =
    elim (r.number == n) as (λ b. r.number == n ≡ b → ((((rank_now qs r).number == n) && ((rank_now qs r).priority == priority)) || list_any (is_rank priority n) (map (rank_now qs) rs)) ≡ ((b || list_any (λ (r : Rank). r.number == n) rs) && (p.priority == priority))) [
      | true ↦ λ is.
          let here : pair_numbered r.number qs ≡ Some p = rw (eqb-true r.number n is) found in
          rw (here, is, of-one qs n priority p rs found) (twice (p.priority == priority) (list_any (λ (r : Rank). r.number == n) rs))
      | false ↦ λ is. rw (number-now qs r, is) (of-one qs n priority p rs found)
    ] refl
  where
    twice : (a b : Bool) → (a || (b && a)) ≡ a
    twice true b = refl
    twice false true = refl
    twice false false = refl

of-none : (qs : List PairRecord) (n priority : ℕ) (rs : List Rank) → list_any (λ (r : Rank). r.number == n) rs ≡ false → list_any (is_rank priority n) (map (rank_now qs) rs) ≡ false
of-none qs n priority [] none = refl
of-none qs n priority (r ∷ rs) none =
    elim (r.number == n) as (λ b. r.number == n ≡ b → (b || list_any (λ (r : Rank). r.number == n) rs) ≡ false → ((((rank_now qs r).number == n) && ((rank_now qs r).priority == priority)) || list_any (is_rank priority n) (map (rank_now qs) rs)) ≡ false) [
      | true ↦ λ is h. absurd (cc)
      | false ↦ λ is h. rw (number-now qs r, is) (of-none qs n priority rs h)
    ] refl none

any-weaker : {X : Type 0} (s t : X → Bool) → ((x : X) → s x ≡ true → t x ≡ true) → (xs : List X) → list_any s xs ≡ true → list_any t xs ≡ true
any-weaker s t more xs h = let x = any-has s xs h in has-any t xs x.0 x.1 (more x.0 x.2)

module _ (ps : List PairRecord) (rs : List Rank) (rising : rises ps ≡ true) (ranked : IsRanking rs ps) where
  has-own : (n : ℕ) (p : PairRecord) → pair_numbered n ps ≡ Some p → list_any (λ (r : Rank). r.number == n) rs ≡ true
  has-own n p found =
      let own = ranked p.priority n ∙ one-passes n (λ q. q.priority == p.priority) ps p rising found ∙ eq-eqb p.priority p.priority refl in
      any-weaker (is_rank p.priority n) (λ (r : Rank). r.number == n) (λ r is. (both (r.number == n) (r.priority == p.priority) is).0) rs own

  pub has-none : (n : ℕ) → pair_numbered n ps ≡ None → list_any (λ (r : Rank). r.number == n) rs ≡ false
  has-none n none =
      elim (list_any (λ (r : Rank). r.number == n) rs) as (λ b. list_any (λ (r : Rank). r.number == n) rs ≡ b → b ≡ false) [
        | true ↦ λ some.
            let r = any-has (λ (r : Rank). r.number == n) rs some in
            let own = has-any (is_rank r.0.priority n) rs r.0 r.1 (rw (r.2) (eq-eqb r.0.priority r.0.priority refl)) in
            let fails = ranked r.0.priority n ∙ none-passes n (λ q. q.priority == r.0.priority) ps none in
            absurd (cc)
        | false ↦ λ none. refl
      ] refl

  -- the order by the new priorities
  pub recomputed : (f : PairRecord → PairRecord) → ((p : PairRecord) → (f p).number ≡ p.number) → (qs : List PairRecord) → qs ≡ map f ps
      → (priority n : ℕ) → list_any (is_rank priority n) (map (rank_now qs) rs) ≡ ranks priority n qs
  recomputed f same qs is priority n =
      let rising2 : rises qs ≡ true = ap rises is ∙ rises-changed f same ps ∙ rising in
      let look : pair_numbered n qs ≡ option_map f (pair_numbered n ps) = ap (pair_numbered n) is ∙ numbered-changed n f same ps in
      elim (pair_numbered n ps) as (λ o. pair_numbered n ps ≡ o → pair_numbered n qs ≡ option_map f o → list_any (is_rank priority n) (map (rank_now qs) rs) ≡ ranks priority n qs) [
        | Some p ↦ λ old new. of-one qs n priority (f p) rs new ∙ rw (has-own n p old) (sym (one-passes n (λ q. q.priority == priority) qs (f p) rising2 new))
        | None ↦ λ old new. of-none qs n priority rs (has-none n old) ∙ sym (none-passes n (λ q. q.priority == priority) qs new)
      ] refl look
