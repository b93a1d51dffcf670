use Rattle.is_rules.proofs.Common.{kind_of, multiset_of}
use Rattle.is_rules.proofs.FunctionProofs.EvictedOneKind.{evicted-of-one}
use Rattle.is_rules.proofs.evicting.evict_by_kind.Goals as goal

pub returns-then-are_of_one_kind-clause-evicted : goal.returns-then-are_of_one_kind-clause-evicted
returns-then-are_of_one_kind-clause-evicted c =
    evicted-of-one (kind_of c.args.kinds.now.local.now c.args.kinds.now.remote.now) c.args.limit (multiset_of c.args.pairs.now) (multiset_of c.evict.new.self)
    (c.are_of_one_kind.ensures c.if-are_of_one_kind.true) c.evict.ensures.evicted

pub returns-clause-evicted : goal.returns-clause-evicted
returns-clause-evicted c =
    c.evict_many.ensures.evicted (multiset_of c.evict_each_by_kind.new.pairs) c.evict_each_by_kind.ensures.evicted
