use Rattle.std.proofs.Common.{◌≡◌, drop}
use Rattle.is_rules.proofs.limit.drop_oldest.Given as goal

abbrev pub invariant-loop : goal.invariant-loop
invariant-loop l = l.sources.items ≡ drop l.counter l.fn.sources.items
