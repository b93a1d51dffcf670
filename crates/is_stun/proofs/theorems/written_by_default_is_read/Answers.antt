use Rattle.is_proto.specs.Hmac.{hmac_sha1}
use Rattle.is_stun.proofs.RoundTrips.SignedMessages as lemmas
use Rattle.is_stun.proofs.theorems.written_by_default_is_read.Goals as goal

pub returns : goal.returns
returns c = λ key m. lemmas.written_is_read hmac_sha1 key m c.macs_have_twenty_bytes.ensures
