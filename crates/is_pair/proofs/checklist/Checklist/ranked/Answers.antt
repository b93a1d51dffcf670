use Rattle.is_pair.proofs.Common.{◌∙◌, ◌≡◌, ap, None, pair_numbered, reverse, rules, slice_get, Some, sym}
use Rattle.is_pair.proofs.PriorityOrder.OrderedPairs.{ranking-reversed}
use Rattle.is_pair.proofs.PriorityOrder.RankedPairs.{is-found, ranked-at, ranked-past}
use Rattle.is_pair.proofs.checklist.Checklist.ranked.Goals as goal

pub returns-in-Some : goal.returns-in-Some
returns-in-Some c =
    let list = c.args.self.now in
    let rs = reverse list.ranks.items in
    let at : slice_get rs c.args.place ≡ Some c.in-Some.rank = search rules in
    c.get.ensures.found ∙ ap (pair_numbered c.in-Some.rank.number) c.deref-in-Some.ensures.value
    ∙ sym (ranked-at list.pairs.items rs c.args.place c.in-Some.rank
    (is-found list.pairs.items rs list.rising (ranking-reversed list.ranks.items list.pairs.items list.ranked)) at)

pub returns-in-None : goal.returns-in-None
returns-in-None c =
    let list = c.args.self.now in
    let rs = reverse list.ranks.items in
    let none : slice_get rs c.args.place ≡ None = search rules in
    sym (ranked-past list.pairs.items rs c.args.place (is-found list.pairs.items rs list.rising (ranking-reversed list.ranks.items list.pairs.items list.ranked)) none)
