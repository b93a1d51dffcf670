use Rattle.is_theorems.proofs.StoredPairs.TransactionsOverPackets as lemmas
use Rattle.is_theorems.proofs.staying.checks_stay.Goals as goal

pub returns : goal.returns
returns g c = lemmas.checks-stay g.H.Sha1HmacProvider.mac g.P.LocalPreference.answers
