use Rattle.is_rules.proofs.Common.{◌≡◌, filter, is_partner_at, map, range_with_len}
use Rattle.is_rules.proofs.forming.remote_combinations.Given as goal

abbrev pub invariant-loop-l : goal.invariant-loop-l
invariant-loop-l l = l.all.items ≡ map (λ x. (x, l.place)) (filter (is_partner_at l.candidate l.local) (range_with_len 0 l.l))
