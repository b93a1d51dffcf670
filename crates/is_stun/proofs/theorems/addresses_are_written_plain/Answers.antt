use Rattle.is_stun.proofs.WrittenMessages.PlainAddresses.{written_plain}
use Rattle.is_stun.proofs.theorems.addresses_are_written_plain.Goals as goal

pub returns : goal.returns
returns c = written_plain
