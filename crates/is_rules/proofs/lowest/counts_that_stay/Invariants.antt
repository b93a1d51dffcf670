use Rattle.is_rules.proofs.Common.{◌≡◌, KINDS, length, List, Takes, TakesInTurn, ℕ}
use Rattle.is_rules.proofs.lowest.counts_that_stay.Given as goal

-- however it goes on from here, it goes so from the start
abbrev pub invariant-loop-left : goal.invariant-loop-left
invariant-loop-left l = record {
  takes : (kinds end : List ℕ) → TakesInTurn l.limit l.left kinds l.stays end → Takes l.limit l.pairs l.counts end;
  long : length l.stays ≡ KINDS;
}

abbrev pub decreases-loop-left : goal.decreases-loop-left
decreases-loop-left l = l.left
