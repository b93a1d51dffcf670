use Rattle.is_proto.proofs.MacLengths.{mac_length}
use Rattle.is_proto.proofs.theorems.macs_have_twenty_bytes.Goals as goal

pub returns : goal.returns
returns c = mac_length
