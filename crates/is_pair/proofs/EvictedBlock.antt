-- Pairs of lowest priority that are removed at once: they could be removed one after another, in the order by priority.
use Rattle.is_pair.proofs.Common.{[], ◌&&◌, ◌++◌, ◌+◌, ◌<◌, ◌==◌, ◌||◌, ◌∙◌, ◌∷◌, ◌≡◌, ◌≤◌, ◌⊎◌, ap, are_single, arith, Bool}
use Rattle.is_pair.proofs.Common.{cons_option, eqb-true, EvictsInTurn, false, filter, Has, if◌then◌else◌, inl, inr, is_low, is_numbered}
use Rattle.is_pair.proofs.Common.{IsLeast, IsLeastPassing, length, List, list_all, nat_le, nat_lt, nat_tests, None, not, Option}
use Rattle.is_pair.proofs.Common.{pair_numbered, PairRecord, pairs_of, Rank, refl, rises, Some, subst, suc, sym, true, without, ℕ}
use Rattle.is_pair.proofs.ListParts.{drops-none, filter-swap, had-filtered, has-filter, left-other, lt-from, named-once, none-numbered}
use Rattle.is_pair.proofs.ListParts.{one-goes, without-both}
use Rattle.is_pair.proofs.PairEntries.ChangedEntry.{both, found-number, rises-filter}
use Rattle.is_pair.proofs.PriorityOrder.GreatestPair.{all-has, found-has}
use Rattle.is_pair.proofs.PriorityOrder.OrderedPairs.{above-from, are_rising, le-from}
use Rattle.is_pair.proofs.PriorityOrder.RankedPairs.{Agree, HaveRanks, narrower, pairs-other}

not-less : {a b : ℕ} → nat_lt a b ≡ false → b ≤ a
not-less {a} {b} h = grind (arith, nat_tests, h)

each : {X : Type 0} (P : X → Type 0) (x : X) (xs : List X) → P x → ((q : X) → Has xs q → P q) → (q : X) → Has (x ∷ xs) q → P q
each P x xs here rest q (inl e) = subst P e here
each P x xs here rest q (inr has) = rest q has

-- ---- the least of those that pass

abbrev pub LeastOrNone : (PairRecord → Bool) → List PairRecord → Type 0
LeastOrNone t xs = ((p : PairRecord) × IsLeastPassing t xs (Some p)) ⊎ ((q : PairRecord) → Has xs q → t q ≡ true → ⊥)

pub least-or-none : (t : PairRecord → Bool) (xs : List PairRecord) → LeastOrNone t xs
least-or-none t [] = inr (λ q has is. elim has [ ])
least-or-none t (x ∷ xs) = by (t x) refl (least-or-none t xs) where
  among : (p : PairRecord) → Has (x ∷ xs) p → t p ≡ true → (t x ≡ true → p.priority ≤ x.priority) → ((q : PairRecord) → Has xs q → t q ≡ true → p.priority ≤ q.priority)
      → LeastOrNone t (x ∷ xs)
  among p has is first rest = inl (p, (has, is, each (λ q. t q ≡ true → p.priority ≤ q.priority) x xs first rest))

  by : (b : Bool) → t x ≡ b → LeastOrNone t xs → LeastOrNone t (x ∷ xs)
  by false fails (inl (p, (has, is, low))) = among p (inr has) is (λ passes. absurd (cc)) low
  by false fails (inr none) = inr (each (λ q. t q ≡ true → ⊥) x xs (λ passes. absurd (cc)) none)
  by true passes (inr none) = among x (inl refl) passes (λ _. omega arith) (λ q has is. absurd (none q has is))
  by true passes (inl (p, (has, is, low))) = elim (nat_le x.priority p.priority) as (λ b. nat_le x.priority p.priority ≡ b → LeastOrNone t (x ∷ xs)) [
    | true ↦ λ le. among x (inl refl) passes (λ _. omega arith) (λ q hq isq. let l = low q hq isq in let k = le-from le in omega (arith, l, k))
    | false ↦ λ more. among p (inr has) is (λ _. above-from more) low
  ] refl

-- ---- the block

-- those that pass have no greater priority than the others
abbrev pub AreLower : (PairRecord → Bool) → List PairRecord → Type 0
AreLower t xs = (p q : PairRecord) → Has xs p → Has xs q → t p ≡ true → t q ≡ false → p.priority ≤ q.priority

-- the entry at the front has the least priority
first-low : (r : Rank) (rs : List Rank) → list_all (λ (q : Rank). nat_le r.priority q.priority) rs ≡ true → (s : Rank) → Has (r ∷ rs) s → r.priority ≤ s.priority
first-low r rs low s (inl e) = let same : r.priority ≡ s.priority = ap (λ (q : Rank). q.priority) e in omega (arith, same)
first-low r rs low s (inr has) = le-from (all-has (λ (q : Rank). nat_le r.priority q.priority) rs s low has)

-- those that pass go in the order of their entries
pub ranked-go : (limit : ℕ) (t : PairRecord → Bool) (rs : List Rank) (old rest end : List PairRecord) → are_rising rs ≡ true → are_single rs ≡ true → rises old ≡ true
    → HaveRanks t rs old → Agree rs old → length (filter t old) + limit ≤ length old → AreLower t old → EvictsInTurn limit rest (without t old) end
    → EvictsInTurn limit (filter t (pairs_of rs old) ++ rest) old end
ranked-go limit t [] old rest end ordered single rising have agree room low h =
    subst (λ (ps : List PairRecord). EvictsInTurn limit rest ps end) (drops-none t old (λ q has is. elim (have q has is).1 [ ])) h
ranked-go limit t (r ∷ rs) old rest end ordered single rising have agree room low h =
    by (λ left up f g k l j. ranked-go limit t rs left rest end ord.1 one.1 up f g k l j) (pair_numbered r.number old) refl
  where
    ord : (list_all (λ (q : Rank). nat_le r.priority q.priority) rs ≡ true) × (are_rising rs ≡ true)
    ord = both (list_all (λ (q : Rank). nat_le r.priority q.priority) rs) (are_rising rs) ordered

    one : (list_all (λ (q : Rank). not (q.number == r.number)) rs ≡ true) × (are_single rs ≡ true)
    one = both (list_all (λ (q : Rank). not (q.number == r.number)) rs) (are_single rs) single

    later : Agree rs old
    later s has p among same = agree s (inr has) p among same

    Goes : List PairRecord → List PairRecord → Type 0
    Goes gone left = EvictsInTurn limit (filter t gone ++ rest) left end

    passing : (p : PairRecord) → pair_numbered r.number old ≡ Some p → t p ≡ true
        → ((left : List PairRecord) → rises left ≡ true → HaveRanks t rs left → Agree rs left → length (filter t left) + limit ≤ length left → AreLower t left
        → EvictsInTurn limit rest (without t left) end → Goes (pairs_of rs left) left)
        → (limit < length old) × IsLeast old p × Goes (pairs_of rs old) (without (is_numbered p.number) old)
    passing p found is again =
        let m = p.number in
        let number : m ≡ r.number = found-number r.number old p found in
        let has = found-has r.number old p found in
        let other = λ (q : PairRecord). not (is_numbered m q) in
        let left = without (is_numbered m) old in
        let goes : length old ≡ suc (length left) = one-goes m old p rising has refl in
        let goes-too : length (filter t old) ≡ suc (length (without (is_numbered m) (filter t old))) =
        one-goes m (filter t old) p (rises-filter t old rising) (has-filter t old p has is) refl in
        let swapped : length (filter t left) ≡ length (without (is_numbered m) (filter t old)) = ap length (filter-swap t other old) in
        let same : without t left ≡ without t old = without-both t old p rising has is in
        let among : (q : PairRecord) → Has left q → Has old q = λ q hq. had-filtered other old q hq in
        let rest-of = again left (rises-filter other old rising)
        (narrower t r rs old left have among (λ q hq passes its. left-other m old q hq (its ∙ sym number)))
        (λ s hs q hq its. later s hs q (among q hq) its)
        (omega (arith, room, goes, goes-too, swapped)) (λ a b ha hb. low a b (among a ha) (among b hb))
        (subst (λ (ps : List PairRecord). EvictsInTurn limit rest ps end) (sym same) h) in
        let apart = subst (λ (k : ℕ). list_all (λ (q : Rank). not (q.number == k)) rs ≡ true) (sym number) one.0 in
        let own : p.priority ≡ r.priority = agree r (inl refl) p has number in
        let lowest : IsLeast old p = (
          has,
          λ q hq. elim (t q) as (λ b. t q ≡ b → p.priority ≤ q.priority) [
            | true ↦ λ passes.
                let s = have q hq passes in
                let under = first-low r rs ord.0 s.0 s.1 in
                omega (arith, under, own, s.3)
            | false ↦ λ fails. low p q has hq is fails
          ] refl,
        ) in
        (omega (arith, room, goes-too), lowest, subst (λ (ps : List PairRecord). Goes ps left) (pairs-other m rs old apart) rest-of)

    by : ((left : List PairRecord) → rises left ≡ true → HaveRanks t rs left → Agree rs left → length (filter t left) + limit ≤ length left → AreLower t left
        → EvictsInTurn limit rest (without t left) end → Goes (pairs_of rs left) left)
        → (o : Option PairRecord) → pair_numbered r.number old ≡ o → Goes (cons_option o (pairs_of rs old)) old
    by again None none =
        again old rising (narrower t r rs old old have (λ q hq. hq) (λ q hq passes its. none-numbered r.number old none q hq its)) later room low h
    by again (Some p) found = elim (t p) as (λ b. t p ≡ b
        → EvictsInTurn limit ((if b then p ∷ filter t (pairs_of rs old) else filter t (pairs_of rs old)) ++ rest) old end) [
          | true ↦ λ is. passing p found is again
          | false ↦ λ fails. again old rising (narrower t r rs old old have (λ q hq. hq) (λ q hq passes its.
              let number = found-number r.number old p found in
              let same = named-once old p q rising (found-has r.number old p found) hq (number ∙ sym its) in
              let no = ap t same in absurd (cc))) later room low h
        ] refl

-- ---- by priority and number

pub at-most : (priority number : ℕ) (p : PairRecord) → is_low priority number p ≡ true → p.priority ≤ priority
at-most priority number p h = by (nat_lt p.priority priority) refl h where
  by : (b : Bool) → nat_lt p.priority priority ≡ b → (b || (p.priority == priority && nat_le p.number number)) ≡ true → p.priority ≤ priority
  by true is h = let less = lt-from is in omega (arith, less)
  by false is h = let same = eqb-true p.priority priority (both (p.priority == priority) (nat_le p.number number) h).0 in omega (arith, same)

pub at-least : (priority number : ℕ) (p : PairRecord) → is_low priority number p ≡ false → priority ≤ p.priority
at-least priority number p h = by (nat_lt p.priority priority) refl h where
  by : (b : Bool) → nat_lt p.priority priority ≡ b → (b || (p.priority == priority && nat_le p.number number)) ≡ false → priority ≤ p.priority
  by true is h = absurd (cc)
  by false is h = not-less is

pub low-ones : (priority number : ℕ) (xs : List PairRecord) → AreLower (is_low priority number) xs
low-ones priority number xs = λ p q hp hq is fails.
    let low = at-most priority number p is in let high = at-least priority number q fails in omega (arith, low, high)
