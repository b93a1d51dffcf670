use Rattle.is_rules.proofs.Common.{◌≡◌, filter, flat_map, is_alive_at, live_row, range_with_len}
use Rattle.is_rules.proofs.forming.live_combinations.Given as goal

abbrev pub invariant-loop-l : goal.invariant-loop-l
invariant-loop-l l = l.all.items ≡ flat_map (live_row l.local l.remote) (filter (is_alive_at l.local) (range_with_len 0 l.l))
