-- How long digests are.
use Rattle.std.proofs.Common.{◌≡◌, ℕ, List, ◌++◌, length, refl}
use Rattle.sha1.specs.Sha1.{digest_bytes, sha1}
use Rattle.is_proto.specs.Hmac.{key_block, xor_each, hmac_sha1}

digest_length : (text : List ℕ) → length (sha1 text) ≡ 20
unfolding sha1 digest_bytes
digest_length text = refl

pub mac_length : (key text : List ℕ) → length (hmac_sha1 key text) ≡ 20
mac_length key text = digest_length (xor_each 0x5C (key_block key) ++ sha1 (xor_each 0x36 (key_block key) ++ text))
