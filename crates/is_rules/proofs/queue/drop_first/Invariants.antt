use Rattle.std.proofs.Common.{◌≡◌, drop}
use Rattle.is_rules.proofs.queue.drop_first.Given as goal

abbrev pub invariant-loop : goal.invariant-loop
invariant-loop l = l.queue.items ≡ drop l.counter l.fn.queue.items
