use Rattle.is_rules.proofs.Common.{◌≡◌, is_low_of_kind, kind_of, KINDS, length, multiset_of, rules, subst, Takes}
use Rattle.is_rules.proofs.FunctionProofs.EvictedTogether.{evicted-together, low-of-kind}
use Rattle.is_rules.proofs.PairLists.PairKinds.{kind-below}
use Rattle.is_rules.proofs.PairLists.PairsInLists.{placed-without}
use Rattle.is_rules.proofs.lowest.evict_together.Goals as goal

pub returns-clause-evicted : goal.returns-clause-evicted
returns-clause-evicted c =
    let local = c.args.kinds.now.local.now in
    let remote = c.args.kinds.now.remote.now in
    let old = multiset_of c.args.pairs.now in
    let last = c.last_of_each-last.result in
    let counts = c.args.counts.now in
    let long : length counts ≡ KINDS = search rules in
    let takes : Takes c.args.limit (length old) counts c.counts_that_stay-stays.result = subst (λ n. Takes c.args.limit n counts c.counts_that_stay-stays.result) c.len.ensures c.counts_that_stay-stays.ensures in
    evicted-together (kind_of local remote) (kind-below local remote) c.args.limit (is_low_of_kind local remote last.priorities last.numbers) counts c.counts_that_stay-stays.result
    c.going_counts-gone.result old (multiset_of c.remove_by_priority.new.self) c.numbers_rise.ensures long takes c.requires.counted c.going_counts-gone.ensures
    (c.are_sums.ensures c.if-not-are_sums.false) (low-of-kind local remote last.priorities last.numbers old c.requires.placed) c.remove_by_priority.ensures.left

pub returns-clause-placed : goal.returns-clause-placed
returns-clause-placed c =
    let local = c.args.kinds.now.local.now in
    let remote = c.args.kinds.now.remote.now in
    let last = c.last_of_each-last.result in
    rw (c.remove_by_priority.ensures.left) (placed-without local remote (is_low_of_kind local remote last.priorities last.numbers) (multiset_of c.args.pairs.now) c.requires.placed)
