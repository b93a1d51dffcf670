-- Which responses count for a client with long-term credentials (RFC 8489, section 9.2.5).
use Rattle.std.specs.Prelude.{ℕ, ◌&&◌, ◌||◌, ◌==◌, Bool, true, false, List, is_some, is_none, Option, Some, None, option_map, if◌then◌else◌}
use Rattle.is_stun.specs.declared.header.Class.{Class}
use Rattle.is_stun.specs.declared.header.Class.TheVariants as classes
use Rattle.is_stun.specs.Integrity.{IsSignedBy}
use Rattle.is_stun.specs.Message.{Message}
use Rattle.is_turn.specs.declared.verdict.Verdict.{Verdict}
use Rattle.is_turn.specs.declared.verdict.Verdict.TheVariants.{Genuine, Challenge, Redirect, Hint, Malformed, Unauthentic}
use Rattle.is_turn.specs.Credentials.{Credentials}

-- the message carries the MAC of its text under the key of a signed request
abbrev pub IsSignedFor : (List ℕ → List ℕ → List ℕ) → Message → Option (List ℕ) → Type 0
IsSignedFor mac m None = ⊥
IsSignedFor mac m (Some key) = IsSignedBy mac m key

-- ---- codes: only an error response has one

abbrev pub is_failure : Class → Bool
is_failure classes.Failure = true
is_failure _ = false

abbrev pub code_of : Message → Option ℕ
code_of m = if is_failure m.class then option_map (λ e. e.0) m.attributes.error_code else None

abbrev pub is_malformed : Message → Bool
is_malformed m = is_failure m.class && is_none m.attributes.error_code

abbrev pub is_code : ℕ → Option ℕ → Bool
is_code wanted None = false
is_code wanted (Some code) = code == wanted

-- 401, Unauthenticated, and 438, Stale Nonce
abbrev pub is_challenge : Option ℕ → Bool
is_challenge None = false
is_challenge (Some code) = code == 401 || code == 438

-- ---- the verdict

abbrev pub verdict_with : Bool → Bool → Option (List ℕ) → Credentials → Message → Verdict
verdict_with is_signed is_last key c m =
    if is_challenge (code_of m) && (is_signed || is_none m.integrity) then Challenge
    else if is_signed then Genuine
    else if is_some m.integrity then Unauthentic
    else if is_code 300 (code_of m) && is_none key then Redirect
    else if is_last && is_some c.password then Hint
    else Unauthentic

abbrev pub verdict_by : Bool → Bool → Option (List ℕ) → Option Credentials → Message → Verdict
verdict_by is_signed is_last key None m = Genuine
verdict_by is_signed is_last key (Some c) m = verdict_with is_signed is_last key c m

-- of a response, whether it is signed with the key of the request that it answers, and whether that is the last one
abbrev pub verdict_of : Bool → Bool → Option (List ℕ) → Option Credentials → Message → Verdict
verdict_of is_signed is_last key credentials m = if is_malformed m then Malformed else verdict_by is_signed is_last key credentials m
