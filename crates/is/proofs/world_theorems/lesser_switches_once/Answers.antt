use Rattle.is.proofs.RolesAndChains.ChainsOfSelectedPaths.{log_switches}
use Rattle.is.proofs.world_theorems.lesser_switches_once.Goals as goal

pub returns : goal.returns
returns g c = log_switches g.H.Sha1HmacProvider.mac g.P.LocalPreference.answers c.path_effect.ensures c.role_effect.ensures c.fresh_is_sound.ensures
