use Rattle.is.proofs.RolesAndChains.ChainsOfSelectedPaths.{log_traced}
use Rattle.is.proofs.world_theorems.selected_are_traced.Goals as goal

pub returns : goal.returns
returns g c = log_traced g.H.Sha1HmacProvider.mac g.P.LocalPreference.answers c.path_effect.ensures c.role_effect.ensures c.fresh_is_sound.ensures
