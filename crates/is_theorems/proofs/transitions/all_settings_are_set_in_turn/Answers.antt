use Rattle.is_theorems.proofs.CallEffects.SettingsInTurn.{all-are-set-in-turn}
use Rattle.is_theorems.proofs.transitions.all_settings_are_set_in_turn.Goals as goal

pub returns : goal.returns
returns g c = all-are-set-in-turn g.H.Sha1HmacProvider.mac g.P.LocalPreference.answers
