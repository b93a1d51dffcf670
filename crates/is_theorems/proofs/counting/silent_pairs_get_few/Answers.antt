use Rattle.is_theorems.proofs.CheckCounts.NumbersOfChecks.{numbers-of-checks}
use Rattle.is_theorems.proofs.CheckCounts.FewChecks.{asked-pairs-get-few, silences-have-few, silent-pairs-get-few}
use Rattle.is_theorems.proofs.counting.silent_pairs_get_few.Goals as goal

pub returns-clause-few : goal.returns-clause-few
returns-clause-few g c = silent-pairs-get-few _ _

pub returns-clause-since : goal.returns-clause-since
returns-clause-since g c = silences-have-few _ _

pub returns-clause-asked : goal.returns-clause-asked
returns-clause-asked g c = asked-pairs-get-few _ _

pub returns-clause-numbers : goal.returns-clause-numbers
returns-clause-numbers g c = numbers-of-checks
