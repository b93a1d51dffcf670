use Rattle.is_rules.proofs.Common.{◌++◌, ◌≡◌, filter, is_partner_at, map, range_with_len}
use Rattle.is_rules.proofs.forming.push_own_row.Given as goal

abbrev pub invariant-loop-r : goal.invariant-loop-r
invariant-loop-r l = l.all.items ≡ l.fn.all.items ++ map (λ x. (l.place, x)) (filter (is_partner_at l.candidate l.remote) (range_with_len 0 l.r))
