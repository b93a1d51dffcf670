-- The lowest pairs of each kind that are removed at once: they could be removed one after another.
use Rattle.is_pair.specs.Lowest.{is_low}
use Rattle.is_pair.proofs.EvictedBlock.{at-least, at-most, least-or-none, LeastOrNone}
use Rattle.is_pair.proofs.ListParts.{drops-none, filter-swap, passed, without-both}
use Rattle.is_pair.proofs.PairEntries.ChangedEntry.{rises-filter}
use Rattle.is_rules.proofs.Common.{[], ◌&&◌, ◌+◌, ◌-◌, ◌<◌, ◌==◌, ◌∙◌, ◌∷◌, ◌≡◌, ◌≤◌, ap, AreCounted, AreSums, arith, Bool, CandidateRecord}
use Rattle.is_rules.proofs.Common.{count_by, eq-eqb, eqb-true, EvictsOfMost, EvictsOfMostInTurn, EvictsSomeOfMost, false, filter}
use Rattle.is_rules.proofs.Common.{get_or-set_other, get_or-set_same, Has, HasMost, inl, inr, is_low_of_kind, is_numbered, is_of_kind}
use Rattle.is_rules.proofs.Common.{is_placed, IsLeastOfKind, IsLeastOfMost, kind_count, kind_of, KINDS, length, length-set, List, list_all}
use Rattle.is_rules.proofs.Common.{lowered, nat_tests, not, one_if, PairRecord, refl, rises, slice_index, slice_set, Some, subst, sym}
use Rattle.is_rules.proofs.Common.{Takes, TakesInTurn, true, without, ℕ}
use Rattle.is_rules.proofs.FunctionProofs.EvictedPairs.{filtered-had, has-filtered}
use Rattle.is_rules.proofs.FunctionProofs.EvictedPairsByKind.{count-goes}
use Rattle.is_rules.proofs.PairLists.CountedPairs.{count-all, count-zero}
use Rattle.is_rules.proofs.PairLists.LeastOfKind.{most-below}
use Rattle.is_rules.proofs.PairLists.PairsByNumber.{both}
use Rattle.is_rules.proofs.PairLists.PairsInLists.{all-has}
use Rattle.is_rules.proofs.PairLists.RisingNumbers.{rising-each}

-- ---- counts

-- one count falls by one
lowered-at : (counts : List ℕ) (k kind : ℕ) → k < length counts → 0 < slice_index counts k → slice_index (lowered counts k) kind + one_if (k == kind) ≡ slice_index counts kind
lowered-at counts k kind within some = by (k == kind) refl where
  by : (b : Bool) → k == kind ≡ b → slice_index (slice_set counts k (slice_index counts k - 1)) kind + one_if b ≡ slice_index counts kind
  by true is = grind (arith, nat_tests, get_or-set_same, is, within, some)
  by false is = grind (arith, nat_tests, get_or-set_other, is)

one-same : (k : ℕ) → one_if (k == k) ≡ 1
one-same k = ap one_if (eq-eqb k k refl)

lowered-long : (counts : List ℕ) (k : ℕ) → length (lowered counts k) ≡ length counts
lowered-long counts k = length-set counts k (slice_index counts k - 1)

-- no count rises
takes-less : (limit left : ℕ) (ks counts stays : List ℕ) → length counts ≡ KINDS → TakesInTurn limit left ks counts stays → (kind : ℕ) → slice_index stays kind ≤ slice_index counts kind
takes-less limit left [] counts stays long h kind = let same = ap (λ (c : List ℕ). slice_index c kind) h in omega (arith, same)
takes-less limit left (k ∷ ks) counts stays long (over, within, some, most, rest) kind =
    let less = takes-less limit (left - 1) ks (lowered counts k) stays (lowered-long counts k ∙ long) rest kind in
    let down = lowered-at counts k kind (omega (arith, within, long)) some in
    omega (arith, less, down)

-- ---- pairs of each kind

module _ (kinds : PairRecord → ℕ) (below : (p : PairRecord) → kinds p < KINDS) where
  -- those that pass have no greater priority than others of their kind
  abbrev pub AreLowerOfKind : (PairRecord → Bool) → List PairRecord → Type 0
  AreLowerOfKind t xs = (p q : PairRecord) → Has xs p → Has xs q → kinds p ≡ kinds q → t p ≡ true → t q ≡ false → p.priority ≤ q.priority

  -- those that pass and those that stay are all
  abbrev pub AreShares : (PairRecord → Bool) → List PairRecord → List ℕ → List ℕ → Type 0
  AreShares t xs stays counts = (kind : ℕ) → kind < KINDS → kind_count kinds (filter t xs) kind + slice_index stays kind ≡ slice_index counts kind

  -- a pair counts for its kind
  counts-own : (xs : List PairRecord) (q : PairRecord) → rises xs ≡ true → Has xs q → 1 ≤ kind_count kinds xs (kinds q)
  counts-own xs q rising has =
      let goes : kind_count kinds xs (kinds q) ≡ kind_count kinds (without (is_numbered q.number) xs) (kinds q) + one_if (kinds q == kinds q) =
      count-goes (is_of_kind kinds (kinds q)) q.number xs q (rising-each xs rising) has refl in
      let one = one-same (kinds q) in
      omega (arith, goes, one)

  -- one pair is removed
  long-goes : (xs : List PairRecord) (p : PairRecord) → rises xs ≡ true → Has xs p → length xs ≡ length (without (is_numbered p.number) xs) + 1
  long-goes xs p rising has =
      let goes : count_by (λ (_ : PairRecord). true) xs ≡ count_by (λ (_ : PairRecord). true) (without (is_numbered p.number) xs) + 1 =
      count-goes (λ _. true) p.number xs p (rising-each xs rising) has refl in
      let all = count-all (λ (_ : PairRecord). true) xs (λ x h. refl) in
      let left = count-all (λ (_ : PairRecord). true) (without (is_numbered p.number) xs) (λ x h. refl) in
      omega (arith, goes, all, left)

  together : (limit left : ℕ) (t : PairRecord → Bool) (ks counts stays : List ℕ) (old end gone : List PairRecord) → rises old ≡ true → left ≡ length old → length counts ≡ KINDS
      → TakesInTurn limit left ks counts stays → AreCounted kinds old counts → AreShares t old stays counts → AreLowerOfKind t old
      → EvictsOfMostInTurn kinds limit gone (without t old) end → EvictsOfMost kinds limit old end
  together limit left t [] counts stays old end gone rising is long takes counted shares low h = (
    gone,
    subst (λ (ps : List PairRecord). EvictsOfMostInTurn kinds limit gone ps end) (drops-none t old (λ q has passes.
        let some = counts-own (filter t old) q (rises-filter t old rising) (has-filtered t old q has passes) in
        let share = shares (kinds q) (below q) in
        let same = ap (λ (c : List ℕ). slice_index c (kinds q)) takes in
        omega (arith, some, share, same))) h,
  )
  together limit left t (k ∷ ks) counts stays old end gone rising is long (over, within, some, most, takes) counted shares low h =
      by (λ mid counts-mid r w l k c s o g. together limit (left - 1) t ks counts-mid stays mid end gone r w l k c s o g) (least-or-none (λ p. is_of_kind kinds k p && t p) old)
    where
      goes-on : slice_index stays k < slice_index counts k
      goes-on =
          let less = takes-less limit (left - 1) ks (lowered counts k) stays (lowered-long counts k ∙ long) takes k in
          let down = lowered-at counts k k (omega (arith, within, long)) some in
          let one = one-same k in
          omega (arith, less, down, one, some)

      top : HasMost kinds old k
      top = most-below kinds k KINDS old (λ p has. below p) (λ other less.
          let own = counted k within in let its = counted other less in let no_more = most other less in omega (arith, own, its, no_more))

      by : ((mid : List PairRecord) (counts-mid : List ℕ) → rises mid ≡ true → left - 1 ≡ length mid → length counts-mid ≡ KINDS → TakesInTurn limit (left - 1) ks counts-mid stays
          → AreCounted kinds mid counts-mid → AreShares t mid stays counts-mid → AreLowerOfKind t mid → EvictsOfMostInTurn kinds limit gone (without t mid) end → EvictsOfMost kinds limit mid end)
          → LeastOrNone (λ p. is_of_kind kinds k p && t p) old → EvictsOfMost kinds limit old end
      by again (inr none) =
          let share = shares k within in
          let empty : kind_count kinds (filter t old) k ≡ 0 = count-zero (is_of_kind kinds k) (filter t old) (λ q has.
          elim (is_of_kind kinds k q) as (λ b. is_of_kind kinds k q ≡ b → b ≡ false) [
            | true ↦ λ its. absurd (none q (filtered-had t old q has) (rw (its) (passed t old q has)))
            | false ↦ λ its. refl
          ] refl) in
          absurd (omega (arith, share, empty, goes-on))
      by again (inl (p, (has, passes, least))) =
          let kp : kinds p ≡ k = eqb-true (kinds p) k (both (is_of_kind kinds k p) (t p) passes).0 in
          let tp : t p ≡ true = (both (is_of_kind kinds k p) (t p) passes).1 in
          let mid = without (is_numbered p.number) old in
          let each = rising-each old rising in
          let long-mid = long-goes old p rising has in
          let swapped : filter t mid ≡ without (is_numbered p.number) (filter t old) = filter-swap t (λ q. not (is_numbered p.number q)) old in
          let inside = has-filtered t old p has tp in
          let same = without-both t old p rising has tp in
          let lowest : IsLeastOfKind kinds (kinds p) old (Some p) = (
            has,
            refl,
            λ q hq kq. elim (t q) as (λ b. t q ≡ b → p.priority ≤ q.priority) [
              | true ↦ λ tq. least q hq (rw (eq-eqb (kinds q) k (kq ∙ kp)) tq)
              | false ↦ λ tq. low p q has hq (sym kq) tp tq
            ] refl,
          ) in
          let rest = again mid (lowered counts k) (rises-filter (λ q. not (is_numbered p.number q)) old rising) (omega (arith, is, long-mid))
          (lowered-long counts k ∙ long) takes
          (λ other less.
          let was = counted other less in
          let goes : kind_count kinds old other ≡ kind_count kinds mid other + one_if (kinds p == other) = count-goes (is_of_kind kinds other) p.number old p each has refl in
          let own : one_if (kinds p == other) ≡ one_if (k == other) = ap (λ j. one_if (j == other)) kp in
          let down = lowered-at counts k other (omega (arith, within, long)) some in
          omega (arith, was, goes, own, down))
          (λ other less.
          let was = shares other less in
          let goes : kind_count kinds (filter t old) other ≡ kind_count kinds (without (is_numbered p.number) (filter t old)) other + one_if (kinds p == other) =
          count-goes (is_of_kind kinds other) p.number (filter t old) p (rising-each (filter t old) (rises-filter t old rising)) inside refl in
          let own : one_if (kinds p == other) ≡ one_if (k == other) = ap (λ j. one_if (j == other)) kp in
          let here : kind_count kinds (filter t mid) other ≡ kind_count kinds (without (is_numbered p.number) (filter t old)) other = ap (λ ps. kind_count kinds ps other) swapped in
          let down = lowered-at counts k other (omega (arith, within, long)) some in
          omega (arith, was, goes, own, here, down))
          (λ a b ha hb. low a b (filtered-had (λ q. not (is_numbered p.number q)) old a ha) (filtered-had (λ q. not (is_numbered p.number q)) old b hb))
          (subst (λ (ps : List PairRecord). EvictsOfMostInTurn kinds limit gone ps end) (sym same) h) in
          let over-all : limit < length old = omega (arith, over, is) in
          let of-most : IsLeastOfMost kinds old p = (subst (HasMost kinds old) (sym kp) top, lowest) in
          (p ∷ rest.0, (over-all, of-most, rest.1))

  pub evicted-together : (limit : ℕ) (t : PairRecord → Bool) (counts stays gone : List ℕ) (old new : List PairRecord) → rises old ≡ true → length counts ≡ KINDS
      → Takes limit (length old) counts stays → AreCounted kinds old counts → AreCounted kinds (filter t old) gone → AreSums gone stays counts → AreLowerOfKind t old
      → new ≡ without t old → EvictsSomeOfMost kinds limit old new
  evicted-together limit t counts stays gone old new rising long takes counted going sums low is = λ end h.
      together limit (length old) t takes.0 counts stays old end h.0 rising refl long takes.1 counted
      (λ kind less. let a = going kind less in let b = sums kind less in omega (arith, a, b)) low
      (subst (λ (ps : List PairRecord). EvictsOfMostInTurn kinds limit h.0 ps end) is h.1)

-- the lowest ones of each kind
pub low-of-kind : (local remote : List CandidateRecord) (priorities numbers : List ℕ) (xs : List PairRecord) → list_all (is_placed local remote) xs ≡ true
    → (p q : PairRecord) → Has xs p → Has xs q → kind_of local remote p ≡ kind_of local remote q
    → is_low_of_kind local remote priorities numbers p ≡ true → is_low_of_kind local remote priorities numbers q ≡ false → p.priority ≤ q.priority
low-of-kind local remote priorities numbers xs placed p q hp hq same passes fails =
    let k = kind_of local remote p in
    let low-p : is_low (slice_index priorities k) (slice_index numbers k) p ≡ true = (both (is_placed local remote p) (is_low (slice_index priorities k) (slice_index numbers k) p) passes).1 in
    let there : is_placed local remote q ≡ true = all-has (is_placed local remote) xs q placed hq in
    let high-q : is_low (slice_index priorities k) (slice_index numbers k) q ≡ false =
    subst (λ j. is_low (slice_index priorities j) (slice_index numbers j) q ≡ false) (sym same) (rw (there) at fails) in
    let low = at-most (slice_index priorities k) (slice_index numbers k) p low-p in
    let high = at-least (slice_index priorities k) (slice_index numbers k) q high-q in
    omega (arith, low, high)
