use Rattle.is_turn_progress.proofs.PublicPackets.{polls_same}
use Rattle.is_turn_progress.proofs.secrets.packets_are_public.Goals as goal

pub returns : goal.returns
returns c = polls_same
