-- The pairs in the order by priority: all pairs of the list, each once.
use Rattle.is_pair.proofs.Common.{[], ◌==◌, ◌∙◌, ◌∷◌, ◌≡◌, ◌≤◌, ap, are_single, AreRanked, arith, Bool, cons_option, eq-eqb}
use Rattle.is_pair.proofs.Common.{eqb-true, false, filter, Has, if◌then◌else◌, inl, inr, is_numbered, is_rank, IsRanking, length, List}
use Rattle.is_pair.proofs.Common.{list_all, nat_le, nat_tests, None, not, Option, pair_numbered, PairRecord, pairs_of, passes_at}
use Rattle.is_pair.proofs.Common.{priorities_rise, Rank, refl, rises, slice_get, Some, subst, suc, sym, true, without, zero, ℕ}
use Rattle.is_pair.proofs.ListParts.{filter-swap, find-other, had-filtered, has-filter, left-other, named-once, none-numbered, one-goes}
use Rattle.is_pair.proofs.PairEntries.ChangedEntry.{both, filter-whole, found-number, rises-filter}
use Rattle.is_pair.proofs.PriorityOrder.GreatestPair.{all-has, any-has, filter-none, found-has, has-any}
use Rattle.is_pair.proofs.PriorityOrder.OrderedPairs.{are_rising, le-from}

-- each pair that passes has an entry with its number and its priority
abbrev pub HaveRanks : (PairRecord → Bool) → List Rank → List PairRecord → Type 0
HaveRanks t rs ps = (q : PairRecord) → Has ps q → t q ≡ true → (s : Rank) × Has rs s × (s.number ≡ q.number) × (s.priority ≡ q.priority)

-- each entry has the priority of the pair with its number
abbrev pub Agree : List Rank → List PairRecord → Type 0
Agree rs ps = (s : Rank) → Has rs s → (p : PairRecord) → Has ps p → p.number ≡ s.number → p.priority ≡ s.priority

-- those of other numbers have their entries among the rest
pub narrower : (t : PairRecord → Bool) (r : Rank) (rs : List Rank) (ps qs : List PairRecord) → HaveRanks t (r ∷ rs) ps → ((q : PairRecord) → Has qs q → Has ps q)
    → ((q : PairRecord) → Has qs q → t q ≡ true → q.number ≡ r.number → ⊥) → HaveRanks t rs qs
narrower t r rs ps qs have among other q has is = let its = have q (among q has) is in by its.0 its.1 its.2 its.3 where
  by : (s : Rank) → Has (r ∷ rs) s → s.number ≡ q.number → s.priority ≡ q.priority → (s : Rank) × Has rs s × (s.number ≡ q.number) × (s.priority ≡ q.priority)
  by s (inl e) number priority = absurd (other q has is (sym number ∙ sym (ap (λ (z : Rank). z.number) e)))
  by s (inr rest) number priority = (s, rest, number, priority)

fails-not : (b : Bool) → not b ≡ true → b ≡ false
fails-not true h = absurd (cc)
fails-not false h = refl

-- another number's pairs stay
pub pairs-other : (m : ℕ) (rs : List Rank) (ps : List PairRecord) → list_all (λ (q : Rank). not (q.number == m)) rs ≡ true
    → pairs_of rs (without (is_numbered m) ps) ≡ pairs_of rs ps
pairs-other m [] ps all = refl
pairs-other m (r ∷ rs) ps all =
    let b = both (not (r.number == m)) (list_all (λ (q : Rank). not (q.number == m)) rs) all in
    ap (λ (o : Option PairRecord). cons_option o (pairs_of rs (without (is_numbered m) ps))) (find-other r.number m ps (fails-not (r.number == m) b.0))
    ∙ ap (cons_option (pair_numbered r.number ps)) (pairs-other m rs ps b.1)

-- each of the pairs that pass comes once
pub count-ranked : (t : PairRecord → Bool) (rs : List Rank) (ps : List PairRecord) → rises ps ≡ true → are_single rs ≡ true → HaveRanks t rs ps
    → length (filter t (pairs_of rs ps)) ≡ length (filter t ps)
count-ranked t [] ps rising single have = sym (ap length (filter-none t ps (λ q has is. elim (have q has is).1 [ ])))
count-ranked t (r ∷ rs) ps rising single have =
    by (λ qs up f. count-ranked t rs qs up one.1 f) (pair_numbered r.number ps) refl
  where
    one : (list_all (λ (q : Rank). not (q.number == r.number)) rs ≡ true) × (are_single rs ≡ true)
    one = both (list_all (λ (q : Rank). not (q.number == r.number)) rs) (are_single rs) single

    Counts : List PairRecord → Type 0
    Counts qs = length (filter t (pairs_of rs qs)) ≡ length (filter t qs)

    by : ((qs : List PairRecord) → rises qs ≡ true → HaveRanks t rs qs → Counts qs)
        → (o : Option PairRecord) → pair_numbered r.number ps ≡ o → length (filter t (cons_option o (pairs_of rs ps))) ≡ length (filter t ps)
    by again None none = again ps rising (narrower t r rs ps ps have (λ q h. h) (λ q h passes its. none-numbered r.number ps none q h its))
    by again (Some p) found = elim (t p) as (λ b. t p ≡ b
        → length (if b then p ∷ filter t (pairs_of rs ps) else filter t (pairs_of rs ps)) ≡ length (filter t ps)) [
          | true ↦ λ is.
              let n = r.number in
              let has = found-has n ps p found in
              let left = without (is_numbered n) ps in
              let other = λ (q : PairRecord). not (is_numbered n q) in
              let counts : Counts left = again left (rises-filter other ps rising)
              (narrower t r rs ps left have (λ q hq. had-filtered other ps q hq) (λ q hq passes its. left-other n ps q hq its)) in
              let goes : length (filter t ps) ≡ suc (length (without (is_numbered n) (filter t ps))) =
              one-goes n (filter t ps) p (rises-filter t ps rising) (has-filter t ps p has is) (found-number n ps p found) in
              let swapped : length (filter t left) ≡ length (without (is_numbered n) (filter t ps)) = ap length (filter-swap t other ps) in
              let same : length (filter t (pairs_of rs left)) ≡ length (filter t (pairs_of rs ps)) =
              ap (λ (qs : List PairRecord). length (filter t qs)) (pairs-other n rs ps one.0) in
              omega (arith, counts, goes, swapped, same)
          | false ↦ λ fails. again ps rising (narrower t r rs ps ps have (λ q h. h) (λ q h passes its.
              let same = named-once ps p q rising (found-has r.number ps p found) h (found-number r.number ps p found ∙ sym its) in
              let no = ap t same in absurd (cc)))
        ] refl

-- ---- the entries of a checklist

module _ (ps : List PairRecord) (rs : List Rank) (rising : rises ps ≡ true) (ranked : IsRanking rs ps) where
  pub have-ranks : (t : PairRecord → Bool) → HaveRanks t rs ps
  have-ranks t q has is =
      let own = has-any (passes_at q.number (λ p. p.priority == q.priority)) ps q has (rw (eq-eqb q.number q.number refl) (eq-eqb q.priority q.priority refl)) in
      let found = any-has (is_rank q.priority q.number) rs (ranked q.priority q.number ∙ own) in
      let b = both (found.0.number == q.number) (found.0.priority == q.priority) found.2 in
      (found.0, found.1, eqb-true found.0.number q.number b.0, eqb-true found.0.priority q.priority b.1)

  -- the pair of an entry
  pub own-pair : (s : Rank) → Has rs s → (p : PairRecord) × Has ps p × (p.number ≡ s.number) × (p.priority ≡ s.priority)
  own-pair s has =
      let own = has-any (is_rank s.priority s.number) rs s has (rw (eq-eqb s.number s.number refl) (eq-eqb s.priority s.priority refl)) in
      let found = any-has (passes_at s.number (λ p. p.priority == s.priority)) ps (sym (ranked s.priority s.number) ∙ own) in
      let b = both (found.0.number == s.number) (found.0.priority == s.priority) found.2 in
      (found.0, found.1, eqb-true found.0.number s.number b.0, eqb-true found.0.priority s.priority b.1)

  pub agree : Agree rs ps
  agree s has p among same =
      let own = own-pair s has in
      let one = named-once ps own.0 p rising own.1 among (own.2 ∙ sym same) in
      ap (λ (q : PairRecord). q.priority) (sym one) ∙ own.3

  pub is-found : (s : Rank) → Has rs s → (p : PairRecord) × (pair_numbered s.number ps ≡ Some p)
  is-found s has = elim (pair_numbered s.number ps) as (λ o. pair_numbered s.number ps ≡ o → (p : PairRecord) × (o ≡ Some p)) [
    | Some p ↦ λ is. (p, refl)
    | None ↦ λ none. let own = own-pair s has in absurd (none-numbered s.number ps none own.0 own.1 own.2)
  ] refl

-- ---- by place

pub ranked-at : (ps : List PairRecord) (rs : List Rank) (i : ℕ) (r : Rank) → ((s : Rank) → Has rs s → (p : PairRecord) × (pair_numbered s.number ps ≡ Some p))
    → slice_get rs i ≡ Some r → slice_get (pairs_of rs ps) i ≡ pair_numbered r.number ps
ranked-at ps [] i r all at = absurd (cc)
ranked-at ps (x ∷ rs) zero r all at =
    let first = all x (inl refl) in
    let same : x ≡ r = cc in
    rw (first.1) (sym first.1 ∙ ap (λ (z : Rank). pair_numbered z.number ps) same)
ranked-at ps (x ∷ rs) (suc i) r all at =
    let first = all x (inl refl) in
    rw (first.1) (ranked-at ps rs i r (λ s has. all s (inr has)) at)

pub ranked-past : (ps : List PairRecord) (rs : List Rank) (i : ℕ) → ((s : Rank) → Has rs s → (p : PairRecord) × (pair_numbered s.number ps ≡ Some p))
    → slice_get rs i ≡ None → slice_get (pairs_of rs ps) i ≡ None
ranked-past ps [] i all at = refl
ranked-past ps (x ∷ rs) zero all at = absurd (cc)
ranked-past ps (x ∷ rs) (suc i) all at = let first = all x (inl refl) in rw (first.1) (ranked-past ps rs i (λ s has. all s (inr has)) at)

-- ---- all pairs, each once

had-ranked : (ps : List PairRecord) (rs : List Rank) (q : PairRecord) → Has (pairs_of rs ps) q → (s : Rank) × Has rs s × (pair_numbered s.number ps ≡ Some q)
had-ranked ps [] q has = elim has [ ]
had-ranked ps (r ∷ rs) q has = by (λ h. had-ranked ps rs q h) (pair_numbered r.number ps) refl has where
  later : (s : Rank) × Has rs s × (pair_numbered s.number ps ≡ Some q) → (s : Rank) × Has (r ∷ rs) s × (pair_numbered s.number ps ≡ Some q)
  later its = (its.0, inr its.1, its.2)

  by : (Has (pairs_of rs ps) q → (s : Rank) × Has rs s × (pair_numbered s.number ps ≡ Some q)) → (o : Option PairRecord) → pair_numbered r.number ps ≡ o
      → Has (cons_option o (pairs_of rs ps)) q → (s : Rank) × Has (r ∷ rs) s × (pair_numbered s.number ps ≡ Some q)
  by again None none h = later (again h)
  by again (Some p) found (inl e) = (r, inl refl, found ∙ ap (λ (x : PairRecord). Some x) e)
  by again (Some p) found (inr h) = later (again h)

has-ranked : (ps : List PairRecord) (rs : List Rank) (s : Rank) (q : PairRecord) → Has rs s → pair_numbered s.number ps ≡ Some q → Has (pairs_of rs ps) q
has-ranked ps [] s q has found = elim has [ ]
has-ranked ps (r ∷ rs) s q (inl e) found =
    let here : pair_numbered r.number ps ≡ Some q = ap (λ (z : Rank). pair_numbered z.number ps) e ∙ found in
    subst (λ (o : Option PairRecord). Has (cons_option o (pairs_of rs ps)) q) (sym here) (inl refl)
has-ranked ps (r ∷ rs) s q (inr has) found =
    let rest = has-ranked ps rs s q has found in
    elim (pair_numbered r.number ps) as (λ o. Has (cons_option o (pairs_of rs ps)) q) [ Some p ↦ inr rest | None ↦ rest ]

all-if : (t : PairRecord → Bool) (ps : List PairRecord) → ((q : PairRecord) → Has ps q → t q ≡ true) → list_all t ps ≡ true
all-if t [] each = refl
all-if t (p ∷ ps) each = rw (each p (inl refl)) (all-if t ps (λ q has. each q (inr has)))

nat_le-if : (a b : ℕ) → a ≤ b → nat_le a b ≡ true
nat_le-if a b h = grind (arith, nat_tests, h)

ranks-rise : (ps : List PairRecord) (rs : List Rank) → are_rising rs ≡ true → Agree rs ps → priorities_rise (pairs_of rs ps) ≡ true
ranks-rise ps [] ordered agree = refl
ranks-rise ps (r ∷ rs) ordered agree = by (ranks-rise ps rs ord.1 (λ s has. agree s (inr has))) (pair_numbered r.number ps) refl where
  ord : (list_all (λ (q : Rank). nat_le r.priority q.priority) rs ≡ true) × (are_rising rs ≡ true)
  ord = both (list_all (λ (q : Rank). nat_le r.priority q.priority) rs) (are_rising rs) ordered

  by : priorities_rise (pairs_of rs ps) ≡ true → (o : Option PairRecord) → pair_numbered r.number ps ≡ o → priorities_rise (cons_option o (pairs_of rs ps)) ≡ true
  by again None none = again
  by again (Some p) found = rw (all-if (λ (q : PairRecord). nat_le p.priority q.priority) (pairs_of rs ps) (λ q has.
      let s = had-ranked ps rs q has in
      let low = le-from (all-has (λ (z : Rank). nat_le r.priority z.priority) rs s.0 ord.0 s.1) in
      let first = agree r (inl refl) p (found-has r.number ps p found) (found-number r.number ps p found) in
      let other = agree s.0 (inr s.1) q (found-has s.0.number ps q s.2) (found-number s.0.number ps q s.2) in
      nat_le-if p.priority q.priority (omega (arith, low, first, other)))) again

all-pass : (ps : List PairRecord) → list_all (λ (p : PairRecord). true) ps ≡ true
all-pass [] = refl
all-pass (p ∷ ps) = all-pass ps

pub are-ranked : (ps : List PairRecord) (rs : List Rank) → rises ps ≡ true → are_rising rs ≡ true → are_single rs ≡ true → IsRanking rs ps
    → AreRanked ps (pairs_of rs ps)
are-ranked ps rs rising ordered single ranked =
    let every = λ (p : PairRecord). true in
    let have = have-ranks ps rs rising ranked every in
    let counts = count-ranked every rs ps rising single have in
    let all = ap length (filter-whole every ps (all-pass ps)) in
    let all-too = ap length (filter-whole every (pairs_of rs ps) (all-pass (pairs_of rs ps))) in (
      ranks-rise ps rs ordered (agree ps rs rising ranked),
      sym all-too ∙ counts ∙ all,
      λ p has. (
          let s = have p has refl in
          let found = is-found ps rs rising ranked s.0 s.1 in
          let same = named-once ps found.0 p rising (found-has s.0.number ps found.0 found.1) has (found-number s.0.number ps found.0 found.1 ∙ s.2) in
          has-ranked ps rs s.0 p s.1 (found.1 ∙ ap (λ (x : PairRecord). Some x) same)),
      λ p has. (let s = had-ranked ps rs p has in found-has s.0.number ps p s.2),
    )
