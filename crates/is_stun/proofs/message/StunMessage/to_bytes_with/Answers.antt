use Rattle.is_stun.proofs.Common.{length, message_view, option_copied, refl}
use Rattle.is_stun.proofs.WrittenMessages.RequestingMessages.{rejected_at_once}
use Rattle.is_stun.proofs.message.StunMessage.to_bytes_with.Goals as goal

pub returns-in-Some : goal.returns-in-Some
returns-in-Some g c = (rejected_at_once (option_copied c.args.password) (length c.args.buf.now) (message_view c.args.self) c.args.requested.now c.in-Some.error c.in-Some.ensures.rejection, refl)
