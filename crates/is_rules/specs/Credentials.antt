-- The credentials of the two agents of a session (RFC 8445, section 5.3).
use Rattle.std.specs.Prelude.{◌≡◌, ℕ, ◌+◌, ◌-◌, ◌%◌, ◌==◌, true, false, nat_lt, List, map, Some, Result, Ok, Err, if◌then◌else◌}
use Rattle.rand_core.specs.Stream.{Stream, fill_bytes}
use Rattle.is_proto.specs.declared.error.IceError.{IceError}
use Rattle.is_proto.specs.declared.error.IceError.TheVariants.{OutOfMemory, CredentialsTooLong}
use Rattle.is_rules.specs.declared.credentials.IceCreds.{IceCreds}
use Rattle.is_rules.specs.Fitting.{are_too_long}
use Rattle.is_rules.specs.Agent.{AgentRecord}

-- the characters of username fragments and passwords, in order: A to Z, a to z, 0 to 9, + and / (RFC 8839, section 5.4)
abbrev pub ice_char : ℕ → ℕ
ice_char n =
    if nat_lt n 26 then 65 + n
    else (if nat_lt n 52 then 71 + n
    else (if nat_lt n 62 then n - 4
    else (if n == 62 then 43 else 47)))

-- The low six bits of each byte select a character.
abbrev pub ice_text : List ℕ → List ℕ
ice_text bytes = map (λ b. ice_char (b % 64)) bytes

-- 16 bytes of the stream for the username fragment, then 22 for the password
abbrev pub drawn_creds : Stream → IceCreds × Stream
drawn_creds s =
    let ufrag = fill_bytes 16 s in
    let pass = fill_bytes 22 ufrag.1 in
    (record { ufrag = ice_text ufrag.0; pass = ice_text pass.0 }, pass.1)

-- `IceCreds::new`: a call that fails draws no random words.
abbrev pub DrawsCreds : Stream → Result IceCreds IceError → Stream → Type 0
DrawsCreds s (Ok creds) t = (creds ≡ (drawn_creds s).0) × (t ≡ (drawn_creds s).1)
DrawsCreds s (Err OutOfMemory) t = t ≡ s
DrawsCreds s (Err _) t = ⊥

module _ {H P : Type 0} where
  -- `set_local_credentials`: candidates keep their username fragments.
  abbrev pub SetsLocal : AgentRecord H P → IceCreds → Result (Unit {0}) IceError → AgentRecord H P → Type 0
  SetsLocal old creds (Ok _) new = (are_too_long creds old.remote_creds ≡ false) × (new ≡ record old { local_creds = creds })
  SetsLocal old creds (Err CredentialsTooLong) new = (are_too_long creds old.remote_creds ≡ true) × (new ≡ old)
  SetsLocal old creds (Err _) new = ⊥

  -- `set_remote_credentials`
  abbrev pub SetsRemote : AgentRecord H P → IceCreds → Result (Unit {0}) IceError → AgentRecord H P → Type 0
  SetsRemote old creds (Ok _) new = (are_too_long old.local_creds (Some creds) ≡ false) × (new ≡ record old { remote_creds = Some creds })
  SetsRemote old creds (Err CredentialsTooLong) new = (are_too_long old.local_creds (Some creds) ≡ true) × (new ≡ old)
  SetsRemote old creds (Err _) new = ⊥
