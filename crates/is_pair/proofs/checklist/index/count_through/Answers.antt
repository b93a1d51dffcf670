use Rattle.is_pair.proofs.Common.{is_before, IsPartitionPoint-from_clause, Kept, not, rules, tests}
use Rattle.is_pair.proofs.ChecklistIndex.SortedById.{parted-through}
use Rattle.is_pair.proofs.checklist.index.count_through.Goals as goal

pub returns-clause-point : goal.returns-clause-point
returns-clause-point c =
    IsPartitionPoint-from_clause (λ (k : Kept). not (is_before c.args.id.0 k.id.0)) c.args.index.now c.partition_point.result c.partition_point.ensures.partitioned
    (parted-through c.args.id.0 c.args.index.now c.requires.rising) (λ a r f k. search (rules, tests))
