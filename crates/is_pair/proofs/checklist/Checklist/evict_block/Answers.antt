use Rattle.std.proofs.lemmas.List.Sorted.{IsPermutation-reverse}
use Rattle.is_pair.proofs.Common.{◌+◌, ◌∙◌, ◌≡◌, ◌≤◌, ap, arith, count_by, EvictsInTurn, filter, is_low, length, length-filter, List, multiset_of}
use Rattle.is_pair.proofs.Common.{PairRecord, pairs_of, reverse, subst}
use Rattle.is_pair.proofs.EvictedBlock.{low-ones, ranked-go}
use Rattle.is_pair.proofs.PriorityOrder.OrderedPairs.{ranking-reversed, rising-reversed}
use Rattle.is_pair.proofs.PriorityOrder.RankedPairs.{agree, have-ranks}
use Rattle.is_pair.proofs.PriorityOrder.SingleEntries.{single-permuted}
use Rattle.is_pair.proofs.RemovedPairs.{none-evicted}
use Rattle.is_pair.proofs.checklist.Checklist.evict_block.Goals as goal

pub returns-then-excess-lt-FEW-clause-evicted : goal.returns-then-excess-lt-FEW-clause-evicted
returns-then-excess-lt-FEW-clause-evicted c = none-evicted c.args.limit (multiset_of c.args.self.now) c.args.self.now.removed

pub returns-in_default-clause-evicted : goal.returns-in_default-clause-evicted
returns-in_default-clause-evicted c = none-evicted c.args.limit (multiset_of c.args.self.now) c.args.self.now.removed

pub returns-then-count-excess-clause-evicted : goal.returns-then-count-excess-clause-evicted
returns-then-count-excess-clause-evicted c = none-evicted c.args.limit (multiset_of c.args.self.now) c.args.self.now.removed

pub returns-clause-evicted : goal.returns-clause-evicted
returns-clause-evicted c =
    let list = c.args.self.now in
    let old = list.pairs.items in
    let ranks = list.ranks.items in
    let rs = reverse ranks in
    let ranked = ranking-reversed ranks old list.ranked in
    let priority = c.in-Some.lowest.priority in
    let number = c.in-Some.lowest.number in
    let test = is_low priority number in
    let count : c.count.result ≡ count_by test old = c.count.ensures ∙ ap (count_by test) c.deref.ensures.value in
    let room : length (filter test old) + c.args.limit ≤ length old =
    omega (arith, count, length-filter test old, c.if-count-excess.false, c.if-excess-lt-FEW.false, c.saturating_sub-excess.ensures, c.len.ensures) in (
      filter test (pairs_of rs old),
      λ rest end h. ranked-go c.args.limit test rs old rest end (rising-reversed ranks list.ordered) (single-permuted ranks rs (IsPermutation-reverse ranks) list.single)
          list.rising (have-ranks old rs list.rising ranked test) (agree old rs list.rising ranked) room (low-ones priority number old)
          (subst (λ (ps : List PairRecord). EvictsInTurn c.args.limit rest ps end) c.remove_by_priority.ensures.left h),
      c.remove_by_priority.ensures.removed,
    )
