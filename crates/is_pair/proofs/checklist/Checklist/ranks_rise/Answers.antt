use Rattle.std.proofs.lemmas.List.Sorted.{IsPermutation-reverse}
use Rattle.is_pair.proofs.Common.{reverse}
use Rattle.is_pair.proofs.PriorityOrder.OrderedPairs.{ranking-reversed, rising-reversed}
use Rattle.is_pair.proofs.PriorityOrder.RankedPairs.{are-ranked}
use Rattle.is_pair.proofs.PriorityOrder.SingleEntries.{single-permuted}
use Rattle.is_pair.proofs.checklist.Checklist.ranks_rise.Goals as goal

pub returns : goal.returns
returns c =
    let list = c.args.self.now in
    let rs = list.ranks.items in
    are-ranked list.pairs.items (reverse rs) list.rising (rising-reversed rs list.ordered) (single-permuted rs (reverse rs) (IsPermutation-reverse rs) list.single)
    (ranking-reversed rs list.pairs.items list.ranked)
