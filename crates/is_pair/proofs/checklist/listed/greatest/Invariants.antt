use Rattle.is_pair.proofs.Common.{drop, List, option_copied, PairRecord}
use Rattle.is_pair.proofs.PriorityOrder.VisitedGreatest.{IsVisited}
use Rattle.is_pair.proofs.checklist.listed.greatest.Given as goal

-- the greatest among the pairs visited so far
abbrev pub invariant-loop-pair : goal.invariant-loop-pair
invariant-loop-pair g l = (done : List PairRecord) × IsVisited (g.T.PairTest.passes l.test) l.pairs done (drop l.pair-index l.pairs) (option_copied l.top)
