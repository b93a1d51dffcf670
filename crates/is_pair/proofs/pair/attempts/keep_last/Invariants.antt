use Rattle.is_pair.proofs.Common.{◌≡◌, deque_capacity, deque_len, last_checks}
use Rattle.is_pair.proofs.pair.attempts.keep_last.Given as goal

abbrev pub invariant-loop-attempts : goal.invariant-loop-attempts
invariant-loop-attempts l = record {
  kept : last_checks l.kept l.attempts.items ≡ last_checks l.kept l.fn.attempts.items;
  capacity : deque_capacity l.attempts ≡ deque_capacity l.fn.attempts;
}

abbrev pub decreases-loop-attempts : goal.decreases-loop-attempts
decreases-loop-attempts l = deque_len l.attempts
