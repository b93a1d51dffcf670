-- What an agent keeps of both passwords.
use Rattle.std.specs.Prelude.{◌≡◌, ℕ, List, [], Option, Some, None}
use Rattle.is_proto.specs.declared.hmac_provider.HmacKey.{HmacKey}
use Rattle.is_proto.specs.Hmac.{key_block}
use Rattle.is_rules.specs.declared.credentials.IceCreds.{IceCreds}

-- the peer's password, empty if it is not known
abbrev pub peer_pass : Option IceCreds → List ℕ
peer_pass None = []
peer_pass (Some creds) = creds.pass

-- the key was computed of this password (RFC 2104)
abbrev pub IsKeyOf : HmacKey → List ℕ → Type 0
IsKeyOf key pass = key.block ≡ key_block pass
