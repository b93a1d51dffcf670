use Rattle.is_stun.proofs.RoundTrips.SignedMessages as lemmas
use Rattle.is_stun.proofs.theorems.written_is_read.Goals as goal

pub returns : goal.returns
returns c = lemmas.written_is_read
