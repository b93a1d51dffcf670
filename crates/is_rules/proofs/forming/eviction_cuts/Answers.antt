use Rattle.is_rules.proofs.FunctionProofs.EvictedPairs.{goes}
use Rattle.is_rules.proofs.PairLists.RisingNumbers.{rising-each}
use Rattle.is_rules.proofs.forming.eviction_cuts.Goals as goal

pub returns : goal.returns
returns c = λ limit old new rising h. goes limit h.0 old new (rising-each old rising) h.1
