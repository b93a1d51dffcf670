use Rattle.is_theorems.proofs.StoredPairs.TransactionsThatStay as lemmas
use Rattle.is_theorems.proofs.staying.checks_pend.Goals as goal

pub returns-clause-one : goal.returns-clause-one
returns-clause-one g c = lemmas.pairs-keep-checks _ _

pub returns-clause-kept : goal.returns-clause-kept
returns-clause-kept g c = lemmas.checks-pend _ _

pub returns-clause-along : goal.returns-clause-along
returns-clause-along g c = lemmas.checks-pend-along _ _
