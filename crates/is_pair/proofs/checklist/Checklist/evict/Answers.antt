use Rattle.is_pair.proofs.Common.{◌++◌, Evicted, multiset_of, removed_of}
use Rattle.is_pair.proofs.RemovedPairs.{after-some}
use Rattle.is_pair.proofs.checklist.Checklist.evict.Goals as goal

pub returns-clause-evicted : goal.returns-clause-evicted
returns-clause-evicted c =
    let first = c.evict_block.ensures.evicted in
    let second = c.evict_each.ensures.removed in
    (first.0 ++ second.0, first.1 second.0 (multiset_of c.evict_each.new.self) second.1)

pub returns-clause-removed : goal.returns-clause-removed
returns-clause-removed c =
    let first = c.evict_block.ensures.evicted in
    let second = c.evict_each.ensures.removed in (
      first.0 ++ second.0,
      first.1 second.0 (multiset_of c.evict_each.new.self) second.1,
      after-some (λ p. Evicted) first.0 second.0 (removed_of c.args.self.now) (removed_of c.evict_block.new.self) (removed_of c.evict_each.new.self) first.2 second.2,
    )

pub returns-clause-room : goal.returns-clause-room
returns-clause-room c = λ n h. c.evict_each.ensures.room n (c.evict_block.ensures.room n h)
