use Rattle.is_stun.proofs.WrittenMessages.PlainAddresses.{reply_plain}
use Rattle.is_stun.proofs.theorems.replies_are_plain.Goals as goal

pub returns : goal.returns
returns c = reply_plain
