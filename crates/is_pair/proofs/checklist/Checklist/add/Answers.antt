use Rattle.is_pair.proofs.Common.{◌+◌, ◌==◌, ◌∙◌, ap, are_below, is_rank, keeps, list_any, Rank, ranks, rises, sym, ℕ}
use Rattle.is_pair.proofs.PairEntries.ChangedEntry.{below-added, rises-last}
use Rattle.is_pair.proofs.PairEntries.AddedAndRemovedPairs.{keeps-more, ranks-more}
use Rattle.is_pair.proofs.PriorityOrder.RecomputedPriorities.{has-none}
use Rattle.is_pair.proofs.PriorityOrder.SingleEntries.{below-none}
use Rattle.is_pair.proofs.checklist.Checklist.add.Goals as goal

pub invariant_of-self-clause-rising : goal.invariant_of-self-clause-rising
invariant_of-self-clause-rising c = ap rises c.put.ensures.put ∙ rises-last c.args.self.now.pairs.items c.args.pair c.args.self.now.rising c.requires.last

pub invariant_of-self-clause-indexed : goal.invariant_of-self-clause-indexed
invariant_of-self-clause-indexed c = λ id n.
    c.args.self.now.indexed id n ∙ sym (ap (keeps id n) c.put.ensures.put ∙ keeps-more c.args.self.now.pairs.items c.args.pair id n c.requires.unchecked)

pub invariant_of-self-clause-ranked : goal.invariant_of-self-clause-ranked
invariant_of-self-clause-ranked c = λ priority n.
    c.put-2.ensures.any (is_rank priority n)
    ∙ rw (c.prio.ensures, c.id.ensures, c.args.self.now.ranked priority n) (ranks-more c.args.self.now.pairs.items c.args.pair priority n)
    ∙ sym (ap (ranks priority n) c.put.ensures.put)

pub returns-clause-below : goal.returns-clause-below
returns-clause-below c = ap (are_below (c.args.pair.number + 1)) c.put.ensures.put ∙ below-added c.args.self.now.pairs.items c.args.pair c.requires.last

pub put-requires-2-clause-other : goal.put-requires-2-clause-other
put-requires-2-clause-other c =
    let ps = c.args.self.now.pairs.items in
    let rs = c.args.self.now.ranks.items in
    ap (λ (n : ℕ). list_any (λ (r : Rank). r.number == n) rs) c.id.ensures
    ∙ has-none ps rs c.args.self.now.rising c.args.self.now.ranked c.args.pair.number (below-none c.args.pair.number ps c.requires.last)
