use Rattle.is.proofs.SelectedPaths.PathsOfOnePair.{lone_paths_mirror}
use Rattle.is.proofs.world_theorems.lone_paths_mirror.Goals as goal

pub returns : goal.returns
returns g c = lone_paths_mirror g.H.Sha1HmacProvider.mac g.P.LocalPreference.answers c.path_effect.ensures c.fresh_is_sound.ensures
