use Rattle.is_rules.proofs.FunctionProofs.EvictedPairsByKind.{goes-by-kind}
use Rattle.is_rules.proofs.PairLists.RisingNumbers.{rising-each}
use Rattle.is_rules.proofs.evicting.kinds_stay.Goals as goal

pub returns : goal.returns
returns c = λ kind_of limit old new rising h. goes-by-kind kind_of limit h.0 old new (rising-each old rising) h.1
