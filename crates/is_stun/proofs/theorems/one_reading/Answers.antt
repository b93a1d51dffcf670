use Rattle.is_stun.proofs.MessageReading.OneReading as lemmas
use Rattle.is_stun.proofs.theorems.one_reading.Goals as goal

pub returns : goal.returns
returns c = lemmas.one_reading
