use Rattle.is_pair.proofs.Common.{drop, List, option_copied, PairRecord}
use Rattle.is_pair.proofs.DueTimes.FirstDuePair.{IsSeen}
use Rattle.is_pair.proofs.checklist.listed.earliest.Given as goal

abbrev pub invariant-loop-pair : goal.invariant-loop-pair
invariant-loop-pair l = (done : List PairRecord) × IsSeen l.now.0 l.timing l.pairs done (drop l.pair-index l.pairs) (option_copied l.first)
