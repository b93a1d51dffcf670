use Rattle.is.proofs.RolesAndChains.RolesBecomeOpposite.{roles_meet}
use Rattle.is.proofs.world_theorems.roles_meet.Goals as goal

pub returns : goal.returns
returns g c =
    roles_meet g.H.Sha1HmacProvider.mac g.P.LocalPreference.answers c.path_effect.ensures c.role_effect.ensures c.fresh_is_sound.ensures c.conflicts_resolve.ensures.carried
