use Rattle.is_stun.proofs.MessageReading.EncodedMessages.{reads_spells, spells_reads}
use Rattle.is_stun.proofs.theorems.reads_what_is_spelled.Goals as goal

pub returns : goal.returns
returns c = λ bytes m. (reads_spells bytes m, spells_reads bytes m)
