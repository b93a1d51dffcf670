-- The long-term credentials of a TURN client (RFC 8489, section 9.2): what a challenge makes of a USERNAME and a password.
use Rattle.std.specs.Prelude.{ℕ, ◌<◌, ◌≤◌, ◌⊎◌, ◌||◌, Bool, true, false, List, [], ◌∷◌, ◌++◌, length, nat_lt, bytes_eq, is_some, Option, Some, None, option_map, if◌then◌else◌}
use Rattle.md5.specs.Md5.{md5}
use Rattle.is_turn.specs.declared.credentials.Challenge.{Challenge as RawChallenge}
use Rattle.is_turn.specs.declared.credentials.Credentials.{Credentials as RawCredentials}
use Rattle.is_turn.specs.Octets.{octets_of}

-- the MD5 digest of the three with colons between them (RFC 8489, section 9.2.2)
abbrev pub long_term_key : List ℕ → List ℕ → List ℕ → List ℕ
long_term_key username realm password = md5 (username ++ (58 ∷ []) ++ realm ++ (58 ∷ []) ++ password)

pub record Challenge : Type 0 where
  pub realm : List ℕ
  pub nonce : List ℕ
  pub key : List ℕ

-- what a client knows of a user, without its memory layout
pub record Credentials : Type 0 where
  pub username : List ℕ
  -- none once the server has shown that it knows it
  pub password : Option (List ℕ)
  -- the last one that was taken
  pub challenge : Option Challenge

-- ---- as the code has them

abbrev pub challenge_of : RawChallenge → Challenge
challenge_of c = record { realm = octets_of c.realm; nonce = octets_of c.nonce; key = c.key }

-- credentials without their memory layout
abbrev pub credentials_of : RawCredentials → Credentials
credentials_of c = record {
  username = octets_of c.username;
  password = option_map octets_of c.password;
  challenge = option_map challenge_of c.challenge;
}

-- ---- what happens to them

abbrev pub IsShort : List ℕ → List ℕ → Type 0
IsShort username password = (length username ≤ 508) × (length password ≤ 763)

abbrev pub IsTooLong : List ℕ → List ℕ → Type 0
IsTooLong username password = (508 < length username) ⊎ (763 < length password)

abbrev pub new_credentials : List ℕ → List ℕ → Credentials
new_credentials username password = record { username = username; password = Some password; challenge = None }

-- With the password any realm counts. Without it the realm stays, and so does the key (RFC 8489, section 9.2.5).
abbrev pub challenge_by : List ℕ → List ℕ → List ℕ → Option (List ℕ) → Option Challenge → Option Challenge
challenge_by username realm nonce (Some password) last =
    Some (record { realm = realm; nonce = nonce; key = long_term_key username realm password })
challenge_by username realm nonce None (Some last) = if bytes_eq last.realm realm then Some (record last { nonce = nonce }) else None
challenge_by username realm nonce None None = None

abbrev pub with_challenge : Option Challenge → Credentials → Credentials × Bool
with_challenge None c = (c, false)
with_challenge (Some challenge) c = (record c { challenge = Some challenge }, true)

-- the REALM and the NONCE of a challenge, both there and not too long
abbrev pub challenged : Option (List ℕ) → Option (List ℕ) → Credentials → Credentials × Bool
challenged (Some realm) (Some nonce) c =
    if nat_lt 763 (length realm) || nat_lt 763 (length nonce) then (c, false)
    else with_challenge (challenge_by c.username realm nonce c.password c.challenge) c
challenged None _ c = (c, false)
challenged (Some realm) None c = (c, false)

abbrev pub forgotten : Credentials → Credentials
forgotten c = record c { password = None }

-- at another server: while the password is known, its challenges count and no former one does
abbrev pub without_challenge : Credentials → Credentials
without_challenge c = if is_some c.password then record c { challenge = None } else c
