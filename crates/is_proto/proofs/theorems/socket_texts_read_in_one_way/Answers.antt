use Rattle.is_proto.specs.Sockets.{IsPlainSocketText}
use Rattle.is_proto.proofs.OneReading.{one_reading, one_address}
use Rattle.is_proto.proofs.theorems.socket_texts_read_in_one_way.Goals as goal

pub returns : goal.returns
returns c text = one_reading (λ spelled t. IsPlainSocketText spelled t.0) text (one_address text)
