use Rattle.is_theorems.proofs.KindTurns.RoundsInKind.{pairs-are-reached-in-kind}
use Rattle.is_theorems.proofs.reaching.reached_in_kind.Goals as goal

pub returns : goal.returns
returns g c = pairs-are-reached-in-kind _ _
