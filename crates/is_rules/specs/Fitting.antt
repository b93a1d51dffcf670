-- The lengths of credentials, and of the packets that carry them.
use Rattle.std.specs.Prelude.{ℕ, ◌+◌, Bool, length, nat_lt, Option, Some, None}
use Rattle.is_rules.specs.declared.credentials.IceCreds.{IceCreds}

-- the greatest length of the USERNAME of a check, in bytes: below 509 (RFC 8489, section 14.3)
abbrev pub USERNAME_LIMIT : ℕ
USERNAME_LIMIT = 508

-- the length of the longest check without NOMINATION: header, USERNAME, role, PRIORITY, USE-CANDIDATE, MESSAGE-INTEGRITY and FINGERPRINT
-- (RFC 8445, section 7.1)
abbrev pub MTU_FLOOR : ℕ
MTU_FLOOR = 20 + (4 + USERNAME_LIMIT) + 12 + 8 + 4 + 24 + 8

-- the length of the longest check with NOMINATION
abbrev pub CHECK_ROOM : ℕ
CHECK_ROOM = MTU_FLOOR + 8

abbrev pub ufrag_len : Option IceCreds → ℕ
ufrag_len None = 0
ufrag_len (Some creds) = length creds.ufrag

-- The USERNAME of a check, which is both username fragments and a colon (RFC 8445, section 7.2.2), is longer than the limit.
abbrev pub are_too_long : IceCreds → Option IceCreds → Bool
are_too_long local remote = nat_lt USERNAME_LIMIT (length local.ufrag + 1 + ufrag_len remote)
