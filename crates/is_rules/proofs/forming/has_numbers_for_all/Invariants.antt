use Rattle.is_rules.proofs.Common.{◌+◌, ◌-◌, ◌≡◌, filter, flat_map, is_alive_at, length, live_combinations, live_row, MAX, range_with_len}
use Rattle.is_rules.proofs.forming.has_numbers_for_all.Given as goal

abbrev pub invariant-loop-l : goal.invariant-loop-l
invariant-loop-l l =
    l.next_number + length (live_combinations l.local l.remote) + l.left
    ≡ MAX + length (flat_map (live_row l.local l.remote) (filter (is_alive_at l.local) (range_with_len l.l (length l.local - l.l))))
