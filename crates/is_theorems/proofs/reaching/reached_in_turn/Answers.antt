use Rattle.is_theorems.proofs.KindTurns.RoundsByKind.{kinds-are-reached-in-turn}
use Rattle.is_theorems.proofs.reaching.reached_in_turn.Goals as goal

pub returns : goal.returns
returns g c = kinds-are-reached-in-turn _ _
