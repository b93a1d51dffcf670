use Rattle.is_stun.proofs.Common.{length, message_view, option_copied, refl}
use Rattle.is_stun.proofs.WrittenMessages.MessagesByParts.{rejection_at_once}
use Rattle.is_stun.proofs.message.StunMessage.to_bytes.Goals as goal

pub returns-in-Some-clause-written : goal.returns-in-Some-clause-written
returns-in-Some-clause-written g c = (rejection_at_once (option_copied c.args.password) (length c.args.buf.now) (message_view c.args.self) c.in-Some.error c.in-Some.ensures.rejection, refl)
