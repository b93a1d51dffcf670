use Rattle.is_stun.proofs.MessageReading.EncodedMessages.{reads_spells}
use Rattle.is_stun.proofs.message.StunMessage.parse.Goals as goal

pub returns-clause-spells : goal.returns-clause-spells
returns-clause-spells c = reads_spells c.args.buf.now _ c.in_default.ensures.reads
