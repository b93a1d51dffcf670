-- STUN messages as C reads them.
use Rattle.std.specs.Prelude.{◌≡◌, ◌⊎◌, ◌==◌, ◌&&◌, ℕ, Bool, nat_le, nat_lt, List, length, slice_index, Option, Some, None, option_map}
use Rattle.std.specs.Prelude.{if◌then◌else◌, ℤ}
use Rattle.is_proto.specs.declared.error.StunError.{StunError}
use Rattle.is_stun.specs.Form.{ReadsAny, FailsAnyBy}
use Rattle.is_stun.specs.Reading.{Reads, FailsBy}
use Rattle.is_stun.specs.Message.{AttributesRecord, Message}
use Rattle.is_stun.specs.Numbers.{USERNAME, ERROR_CODE, DATA, REALM, NONCE, SOFTWARE}
use Rattle.is_c_calls.specs.Codes.{NOTHING, UNPARSED}
use Rattle.is_c_calls.specs.Texts.{Puts}

-- the magic cookie, in network order
abbrev pub has_cookie : List ℕ → Bool
has_cookie bytes =
    slice_index bytes 4 == 0x21 && slice_index bytes 5 == 0x12 && slice_index bytes 6 == 0xa4 && slice_index bytes 7 == 0x42

-- a whole header, whose two top bits are 0
abbrev pub begins_as_stun : List ℕ → Bool
begins_as_stun bytes = nat_le 20 (length bytes) && (nat_lt (slice_index bytes 0) 64 && has_cookie bytes)

-- P holds of the message that the bytes encode; if they encode none, the code says so and all is as it was
abbrev pub ReturnsMessage : List ℕ → (Message → ℤ → Type 0) → Type 0 → ℤ → Type 0
ReturnsMessage bytes P Same code =
    ((e : StunError) × FailsAnyBy bytes e × (code ≡ UNPARSED) × Same)
    ⊎ ((m : Message) × ReadsAny bytes m × P m code)

-- P holds of the message that the bytes encode, which has what ICE requires of it, as `is_ice_handle_packet` reads it; if they encode
-- none, the code says so and all is as it was
abbrev pub ReturnsStrict : List ℕ → (Message → ℤ → Type 0) → Type 0 → ℤ → Type 0
ReturnsStrict bytes P Same code =
    ((e : StunError) × FailsBy bytes e × (code ≡ UNPARSED) × Same)
    ⊎ ((m : Message) × Reads bytes m × P m code)

-- the text of the attribute of this type
abbrev pub text_of : ℕ → AttributesRecord → Option (List ℕ)
text_of attribute a =
    if attribute == USERNAME then a.username
    else (if attribute == ERROR_CODE then option_map (λ e. e.1) a.error_code
    else (if attribute == DATA then a.«data»
    else (if attribute == REALM then a.realm
    else (if attribute == NONCE then a.nonce
    else (if attribute == SOFTWARE then a.software else None)))))

-- a text in the caller's buffer, if there is one
abbrev pub PutsText : Option (List ℕ) → List ℕ → ℕ → ℤ → List ℕ → ℕ → Type 0
PutsText None before count code after new_count = (code ≡ NOTHING) × (after ≡ before) × (new_count ≡ count)
PutsText (Some text) before count code after new_count = Puts text before code after new_count
