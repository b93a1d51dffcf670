use Rattle.std.proofs.Common.{rules}
use Rattle.std.specs.Cmp.Rules.{comparing}
use Rattle.is_pair.proofs.theorems.pairs_are_ordered.Goals as goal

pub returns-clause-total : goal.returns-clause-total
returns-clause-total c = search (comparing, rules)
