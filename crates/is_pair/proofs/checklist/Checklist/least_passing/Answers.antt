use Rattle.is_pair.proofs.Common.{◌∙◌, ◌≡◌, ap, find, has_passing, IsLeastPassing, Option, pair_numbered, PairRecord, reverse, rules, Some}
use Rattle.is_pair.proofs.Common.{subst, sym}
use Rattle.is_pair.proofs.PriorityOrder.LeastPair.{least-passing-found, none-passing}
use Rattle.is_pair.proofs.PriorityOrder.OrderedPairs.{ranking-reversed, rising-reversed}
use Rattle.is_pair.proofs.checklist.Checklist.least_passing.Goals as goal

pub returns-in-Some : goal.returns-in-Some
returns-in-Some g c =
    let list = c.args.self.now in
    let rs = list.ranks.items in
    let test = g.T.PairTest.passes c.args.test.now in
    let is : find (has_passing test list.pairs.items) (reverse rs) ≡ Some c.in-Some.rank = search rules in
    subst (λ (o : Option PairRecord). IsLeastPassing test list.pairs.items o) (sym (c.get.ensures.found ∙ ap (pair_numbered c.in-Some.rank.number) c.deref-in-Some.ensures.value))
    (least-passing-found list.pairs.items (reverse rs) list.rising (ranking-reversed rs list.pairs.items list.ranked) test c.in-Some.rank (rising-reversed rs list.ordered) is)

pub returns-in-None : goal.returns-in-None
returns-in-None g c =
    let list = c.args.self.now in
    let rs = list.ranks.items in
    let test = g.T.PairTest.passes c.args.test.now in
    none-passing list.pairs.items (reverse rs) list.rising (ranking-reversed rs list.pairs.items list.ranked) test (search rules)
