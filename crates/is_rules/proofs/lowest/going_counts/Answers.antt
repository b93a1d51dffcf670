use Rattle.is_rules.proofs.Common.{◌+◌, ◌<◌, ◌==◌, ◌∙◌, ◌∷◌, ◌≡◌, ◌≤◌, ap, arith, Bool, count_by-le-length, drop, false, filter}
use Rattle.is_rules.proofs.Common.{get_or-set_other, get_or-set_same, is_low_of_kind, is_of_kind, kind_count, kind_of}
use Rattle.is_rules.proofs.Common.{length, length-filter, length-set, List, multiset_of, nat_tests, one_if, PairRecord, refl, rules}
use Rattle.is_rules.proofs.Common.{slice_index, slice_index_or, slice_set, sym, true, ℕ}
use Rattle.is_rules.proofs.PairLists.CountedPairs.{count-head}
use Rattle.is_rules.proofs.PairLists.PairsInLists.{placed-first}
use Rattle.is_rules.proofs.PairLists.VisitedPairs.{left-more}
use Rattle.is_rules.proofs.lowest.going_counts.Goals as goal
use Rattle.is_rules.proofs.lowest.going_counts.Goals.{then-passes, else-passes}

-- one count rises by one
raised : (counts : List ℕ) (k kind : ℕ) → k < length counts → slice_index (slice_set counts k (slice_index_or counts k 0 + 1)) kind ≡ slice_index counts kind + one_if (k == kind)
raised counts k kind within = by (k == kind) refl where
  by : (b : Bool) → k == kind ≡ b → slice_index (slice_set counts k (slice_index_or counts k 0 + 1)) kind ≡ slice_index counts kind + one_if b
  by true is = grind (arith, nat_tests, get_or-set_same, is, within)
  by false is = grind (arith, nat_tests, get_or-set_other, is)

module _ (kinds : PairRecord → ℕ) (t : PairRecord → Bool) (x : PairRecord) (now rest : List PairRecord) (is : now ≡ x ∷ rest) (kind : ℕ) where
  goes-on : t x ≡ true → kind_count kinds (filter t now) kind ≡ one_if (kinds x == kind) + kind_count kinds (filter t rest) kind
  goes-on passes =
      let first : filter t (x ∷ rest) ≡ x ∷ filter t rest = rw (passes) refl in
      ap (λ ps. kind_count kinds (filter t ps) kind) is ∙ ap (λ ps. kind_count kinds ps kind) first ∙ count-head (is_of_kind kinds kind) x (filter t rest)

  stays-on : t x ≡ false → kind_count kinds (filter t now) kind ≡ kind_count kinds (filter t rest) kind
  stays-on fails =
      let first : filter t (x ∷ rest) ≡ filter t rest = rw (fails) refl in
      ap (λ ps. kind_count kinds (filter t ps) kind) is ∙ ap (λ ps. kind_count kinds ps kind) first

few : (kinds : PairRecord → ℕ) (t : PairRecord → Bool) (ps : List PairRecord) (kind : ℕ) → kind_count kinds (filter t ps) kind ≤ length ps
few kinds t ps kind =
    let a = count_by-le-length (is_of_kind kinds kind) (filter t ps) in
    let b = length-filter t ps in
    let d = count_by-le-length t ps in
    omega (arith, a, b, d)

one-own : (k j : ℕ) → k ≡ j → one_if (j == k) ≡ 1
one-own k j same = by (j == k) refl where
  by : (b : Bool) → j == k ≡ b → one_if b ≡ 1
  by true is = refl
  by false is = absurd (grind (arith, nat_tests, is, same))

pub overflow_add-counts : goal.overflow_add-counts
overflow_add-counts c =
    let kinds = kind_of c.args.going.now.kinds.now.local.now c.args.going.now.kinds.now.remote.now in
    let last = c.args.going.now.last.now in
    let t = is_low_of_kind c.args.going.now.kinds.now.local.now c.args.going.now.kinds.now.remote.now last.priorities last.numbers in
    let items = c.as_slice-pair-items.result.now in
    let i = c.loop-pair.pair-index in
    let x = c.pair-item.result in
    let k = c.kind_of.result in
    let more = left-more items i x c.loop-pair-test.true c.pair-item.is in
    let was = c.loop-pair.invariant.counted k c.kind_of.ensures.within in
    let head = goes-on kinds t x (drop i items) (drop (i + 1) items) more k (sym c.passes.ensures ∙ c.if-passes.true) in
    let one : one_if (kinds x == k) ≡ 1 = one-own k (kinds x) c.kind_of.ensures.kind in
    let most = few kinds t (multiset_of c.args.pairs.now) k in
    let long = ap length c.as_slice-pair-items.ensures in
    let bound : slice_index_or c.loop-pair.counts k 0 + 1 ≤ length items = omega (arith, was, head, one, most, long) in
    search (arith, rules, bound)

pub loop-pair-preserved : goal.loop-pair-preserved
loop-pair-preserved c =
    let local = c.args.going.now.kinds.now.local.now in
    let remote = c.args.going.now.kinds.now.remote.now in
    let kinds = kind_of local remote in
    let last = c.args.going.now.last.now in
    let t = is_low_of_kind local remote last.priorities last.numbers in
    let items = c.as_slice-pair-items.result.now in
    let i = c.loop-pair.pair-index in
    let x = c.pair-item.result in
    let more = left-more items i x c.loop-pair-test.true c.pair-item.is in
    let long = c.loop-pair.invariant.long in
    let placed = (placed-first local remote x (drop i items) (drop (i + 1) items) more c.loop-pair.invariant.placed).1 in
    elim c.if-passes.branch [
      | then-passes w ↦ record {
        counted = λ kind less.
            let was = c.loop-pair.invariant.counted kind less in
            let head = goes-on kinds t x (drop i items) (drop (i + 1) items) more kind (sym c.passes.ensures ∙ w.if-passes.true) in
            let up = raised c.loop-pair.counts w.kind_of.result kind (let below = w.kind_of.ensures.within in omega (arith, below, long)) in
            let its : one_if (w.kind_of.result == kind) ≡ one_if (kinds x == kind) = ap (λ k. one_if (k == kind)) w.kind_of.ensures.kind in
            let now = ap (λ (counts : List ℕ). slice_index counts kind) w.counts-is in
            omega (arith, was, head, up, its, now);
        long = ap length w.counts-is ∙ length-set c.loop-pair.counts w.kind_of.result (slice_index_or c.loop-pair.counts w.kind_of.result 0 + 1) ∙ long;
        placed = placed;
      }
      | else-passes w ↦ record {
        counted = λ kind less.
            let was = c.loop-pair.invariant.counted kind less in
            let head = stays-on kinds t x (drop i items) (drop (i + 1) items) more kind (sym c.passes.ensures ∙ w.if-passes.false) in
            let now = ap (λ (counts : List ℕ). slice_index counts kind) w.counts-is in
            omega (arith, was, head, now);
        long = ap length w.counts-is ∙ long;
        placed = placed;
      }
    ]
