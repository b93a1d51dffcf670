use Rattle.is_rules.proofs.Common.{multiset_of, NoneVacantBelow}
use Rattle.is_rules.proofs.limit.vacancy.Given as goal

abbrev pub invariant-loop-place : goal.invariant-loop-place
invariant-loop-place l = NoneVacantBelow l.place l.remote (multiset_of l.pairs)
