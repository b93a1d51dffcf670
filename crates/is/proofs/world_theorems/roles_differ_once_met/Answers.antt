use Rattle.is.proofs.RolesAndChains.RolesAndChainsOfViews.{roles_differ_once_met}
use Rattle.is.proofs.world_theorems.roles_differ_once_met.Goals as goal

pub returns : goal.returns
returns g c = roles_differ_once_met g.H.Sha1HmacProvider.mac g.P.LocalPreference.answers c.path_effect.ensures c.role_effect.ensures c.fresh_is_sound.ensures
