use Rattle.is_pair.proofs.Common.{◌∙◌, ◌≡◌, ap, IsLowest, None, Option, pair_numbered, PairRecord, reverse, rules, slice_get, Some, subst}
use Rattle.is_pair.proofs.Common.{sym}
use Rattle.is_pair.proofs.PriorityOrder.LeastPair.{least-found, none-least}
use Rattle.is_pair.proofs.PriorityOrder.OrderedPairs.{ranking-reversed, rising-reversed}
use Rattle.is_pair.proofs.checklist.Checklist.least.Goals as goal

pub returns-in-Some : goal.returns-in-Some
returns-in-Some c =
    let list = c.args.self.now in
    let rs = list.ranks.items in
    let at : slice_get (reverse rs) 0 ≡ Some c.in-Some.rank = search rules in
    subst (λ (o : Option PairRecord). IsLowest list.pairs.items o) (sym (c.get.ensures.found ∙ ap (pair_numbered c.in-Some.rank.number) c.deref-in-Some.ensures.value))
    (least-found list.pairs.items (reverse rs) list.rising (ranking-reversed rs list.pairs.items list.ranked) c.in-Some.rank (rising-reversed rs list.ordered) at)

pub returns-in-None : goal.returns-in-None
returns-in-None c =
    let list = c.args.self.now in
    let rs = list.ranks.items in
    let none : slice_get (reverse rs) 0 ≡ None = search rules in
    none-least list.pairs.items (reverse rs) list.rising (ranking-reversed rs list.pairs.items list.ranked) none
