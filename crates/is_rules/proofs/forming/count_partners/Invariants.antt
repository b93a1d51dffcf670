use Rattle.is_rules.proofs.Common.{◌≡◌, ◌≤◌, filter, is_partner_at, length, range_with_len}
use Rattle.is_rules.proofs.forming.count_partners.Given as goal

abbrev pub invariant-loop-place : goal.invariant-loop-place
invariant-loop-place l = record {
  counted : l.count ≡ length (filter (is_partner_at l.candidate l.others) (range_with_len 0 l.place));
  bound : l.count ≤ l.place;
}
