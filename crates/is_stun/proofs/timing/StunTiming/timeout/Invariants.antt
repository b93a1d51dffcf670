use Rattle.is_stun.proofs.Common.{◌+◌, ◌-◌, ◌≡◌, ◌≤◌, MAX, max, min, range_with_len, resend_delay, sum_by}
use Rattle.is_stun.proofs.timing.StunTiming.timeout.Given as goal

-- the delays so far
abbrev pub invariant-loop-count : goal.invariant-loop-count
invariant-loop-count l =
    (l.total.0 ≡ min (sum_by (resend_delay l.self) (range_with_len 2 (l.count - 2))) MAX)
    × (l.count ≤ max 2 (l.growing + 1))
