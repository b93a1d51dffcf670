use Rattle.is_theorems.proofs.PollingRounds.AddedCandidatesInLogs.{open-rounds-select}
use Rattle.is_theorems.proofs.rounds_to_select.open_rounds_select.Goals as goal

pub returns : goal.returns
returns g c = open-rounds-select g.H.Sha1HmacProvider.mac g.P.LocalPreference.answers c.answered_rounds_select.ensures
