use Rattle.is_theorems.proofs.PathSelection.FirstResponsePerAgent.{successes-select}
use Rattle.is_theorems.proofs.selecting.successes_select.Goals as goal

pub returns : goal.returns
returns g c = successes-select g.H.Sha1HmacProvider.mac g.P.LocalPreference.answers
