use Rattle.std.proofs.lemmas.List.Sorted.{IsPermutation-reverse}
use Rattle.is_pair.proofs.Common.{◌∙◌, ap, are_ordered, are_single, IsNonDecreasingBy-from_sort_by_key, list_any, list_any-IsPermutation, Rank}
use Rattle.is_pair.proofs.Common.{reverse, rules, sym, tests}
use Rattle.is_pair.proofs.PriorityOrder.SingleEntries.{single-now, single-permuted}
use Rattle.is_pair.proofs.PriorityOrder.OrderedPairs.{ordered-reversed}
use Rattle.is_pair.proofs.checklist.ranks.rebuild_order.Goals as goal

pub returns-clause-any : goal.returns-clause-any
returns-clause-any c = λ test.
    let sorted = c.sort_unstable_by_key.new.self.items in
    ap (list_any test) c.reverse.ensures.items ∙ sym (list_any-IsPermutation test sorted (reverse sorted) (IsPermutation-reverse sorted))
    ∙ sym (list_any-IsPermutation test _ _ c.sort_unstable_by_key.ensures.permutation) ∙ ap (list_any test) c.follow_pairs.ensures.items

pub returns-clause-ordered : goal.returns-clause-ordered
returns-clause-ordered c =
    let sorted = c.sort_unstable_by_key.new.self.items in
    ap are_ordered c.reverse.ensures.items
    ∙ ordered-reversed sorted
    (IsNonDecreasingBy-from_sort_by_key (λ (r : Rank). r.priority) sorted c.sort_unstable_by_key.ensures.sorted (λ a r f k. search (rules, tests)))

pub returns-clause-single : goal.returns-clause-single
returns-clause-single c =
    let sorted = c.sort_unstable_by_key.new.self.items in
    ap are_single c.reverse.ensures.items ∙ single-permuted sorted (reverse sorted) (IsPermutation-reverse sorted)
    (single-permuted _ _ c.sort_unstable_by_key.ensures.permutation
    (ap are_single c.follow_pairs.ensures.items ∙ single-now c.args.pairs.now c.args.ranks.now.items c.requires.single))
