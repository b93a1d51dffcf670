use Rattle.is_turn_progress.proofs.ClosedClients.{ended_in_time}
use Rattle.is_turn_progress.proofs.progress.a_closed_client_ends.Goals as goal

pub returns : goal.returns
returns c = ended_in_time
