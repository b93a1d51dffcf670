use Rattle.is_theorems.proofs.PollingRounds.AnsweredRounds.{answered-select}
use Rattle.is_theorems.proofs.rounds_to_select.answered_select.Goals as goal

pub returns : goal.returns
returns g c = answered-select g.H.Sha1HmacProvider.mac g.P.LocalPreference.answers
