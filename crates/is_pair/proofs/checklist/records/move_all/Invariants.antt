use Rattle.is_pair.proofs.Common.{◌++◌, ◌+◌, ◌≡◌, deque_capacity, deque_len}
use Rattle.is_pair.proofs.checklist.records.move_all.Given as goal

abbrev pub invariant-loop-item : goal.invariant-loop-item
invariant-loop-item g l = record {
  items : l.to.items ++ l.from.items ≡ l.fn.to.items ++ l.fn.from.items;
  len : deque_len l.to + deque_len l.from ≡ deque_len l.fn.to + deque_len l.fn.from;
  capacity : deque_capacity l.to ≡ deque_capacity l.fn.to;
}

abbrev pub decreases-loop-item : goal.decreases-loop-item
decreases-loop-item g l = deque_len l.from
