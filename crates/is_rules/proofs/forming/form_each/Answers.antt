use Rattle.is_rules.proofs.Common.{multiset_of, sides_view}
use Rattle.is_rules.proofs.PairLists.PairsInLists.{placed-evicted}
use Rattle.is_rules.proofs.PairLists.RemovedInTurn.{removes}
use Rattle.is_rules.proofs.forming.form_each.Goals as goal

pub returns-clause-placed : goal.returns-clause-placed
returns-clause-placed c =
    let s = c.args.sides in
    placed-evicted s.local.now s.remote.now c.args.limit (multiset_of c.try_each.new.pairs) (multiset_of c.evict.new.pairs)
    (removes (sides_view s) c.args.limit (multiset_of c.try_each.new.pairs) (multiset_of c.evict.new.pairs) c.evict.ensures.evicted) c.try_each.ensures.placed
