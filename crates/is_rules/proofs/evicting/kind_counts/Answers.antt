use Rattle.is_rules.proofs.Common.{◌+◌, ◌<◌, ◌==◌, ◌∙◌, ◌≡◌, ap, arith, Bool, drop, false, get_or-set_other, get_or-set_same, is_of_kind}
use Rattle.is_rules.proofs.Common.{kind_count, kind_of, length, length-set, List, nat_tests, one_if, refl, slice_index, slice_index_or}
use Rattle.is_rules.proofs.Common.{slice_set, true, ℕ}
use Rattle.is_rules.proofs.PairLists.CountedPairs.{count-head}
use Rattle.is_rules.proofs.PairLists.PairsInLists.{placed-first}
use Rattle.is_rules.proofs.PairLists.VisitedPairs.{left-more}
use Rattle.is_rules.proofs.evicting.kind_counts.Goals as goal

-- one count rises by one
raised : (counts : List ℕ) (k kind : ℕ) → k < length counts → slice_index (slice_set counts k (slice_index_or counts k 0 + 1)) kind ≡ slice_index counts kind + one_if (k == kind)
raised counts k kind within = by (k == kind) refl where
  by : (b : Bool) → k == kind ≡ b → slice_index (slice_set counts k (slice_index_or counts k 0 + 1)) kind ≡ slice_index counts kind + one_if b
  by true is = grind (arith, nat_tests, get_or-set_same, is, within)
  by false is = grind (arith, nat_tests, get_or-set_other, is)

pub loop-pair-preserved : goal.loop-pair-preserved
loop-pair-preserved c =
    let kinds = kind_of c.args.kinds.now.local.now c.args.kinds.now.remote.now in
    let items = c.as_slice-pair-items.result.now in
    let i = c.loop-pair.pair-index in
    let x = c.pair-item.result in
    let more = left-more items i x c.loop-pair-test.true c.pair-item.is in
    let long = c.loop-pair.invariant.long in
    record {
      counted = λ kind less.
          let was = c.loop-pair.invariant.counted kind less in
          let head : kind_count kinds (drop i items) kind ≡ one_if (kinds x == kind) + kind_count kinds (drop (i + 1) items) kind =
          ap (λ ps. kind_count kinds ps kind) more ∙ count-head (is_of_kind kinds kind) x (drop (i + 1) items) in
          let up = raised c.loop-pair.counts c.kind_of.result kind (let below = c.kind_of.ensures.within in omega (arith, below, long)) in
          let its : one_if (c.kind_of.result == kind) ≡ one_if (kinds x == kind) = ap (λ k. one_if (k == kind)) c.kind_of.ensures.kind in
          omega (arith, was, head, up, its);
      long = length-set c.loop-pair.counts c.kind_of.result (slice_index_or c.loop-pair.counts c.kind_of.result 0 + 1) ∙ long;
      placed = (placed-first c.args.kinds.now.local.now c.args.kinds.now.remote.now x (drop i items) (drop (i + 1) items) more c.loop-pair.invariant.placed).1;
    }
