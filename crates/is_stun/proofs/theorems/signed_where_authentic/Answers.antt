use Rattle.is_stun.proofs.MessageReading.OneReading as lemmas
use Rattle.is_stun.proofs.theorems.signed_where_authentic.Goals as goal

pub returns : goal.returns
returns c = lemmas.signed_where_authentic
