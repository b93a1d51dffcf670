use Rattle.is_rules.proofs.Common.{drop, List, multiset_of, option_copied, PairRecord}
use Rattle.is_rules.proofs.FunctionProofs.NextAsked.{IsVisited}
use Rattle.is_rules.proofs.leaving.asked_next.Given as goal

-- the first among the pairs visited so far
abbrev pub invariant-loop-pair : goal.invariant-loop-pair
invariant-loop-pair l =
    (done : List PairRecord) × IsVisited l.along.number l.along.silence (multiset_of l.pairs) done (drop l.pair-index l.pair-items) (option_copied l.first)
