-- Whose request a message is: USERNAME has the username fragments of its receiver and of its sender (RFC 8445, section 7.2.2).
use Rattle.std.specs.Prelude.{◌≡◌, ◌⊎◌, ℕ, List, length, Option, Some, None, ℤ}
use Rattle.std.specs.Str.{IsUtf8}
use Rattle.is_stun.specs.Message.{split_at_colon}
use Rattle.is_c_calls.specs.Codes.{OK, NOTHING, NOT_UTF8}
use Rattle.is_c_calls.specs.Texts.{Puts}

-- the text in the caller's buffer, and the length of its first part; neither if the text has no two parts
abbrev pub PutsName : Option (List ℕ) → Option (List ℕ × List ℕ) → List ℕ → ℕ → ℕ → ℤ → List ℕ → ℕ → ℕ → Type 0
PutsName (Some name) (Some parts) before count receiver code after new_count new_receiver =
    Puts name before code after new_count × (new_receiver ≡ length parts.0)
PutsName _ _ before count receiver code after new_count new_receiver =
    (code ≡ NOTHING) × (after ≡ before) × (new_count ≡ count) × (new_receiver ≡ receiver)

-- the length of the first part, if there are two
abbrev pub PutsParts : Option (List ℕ × List ℕ) → ℕ → ℤ → ℕ → Type 0
PutsParts None receiver code after = (code ≡ NOTHING) × (after ≡ receiver)
PutsParts (Some parts) receiver code after = (code ≡ OK) × (after ≡ length parts.0)

-- `is_ice_username_parts`
abbrev pub ReturnsParts : List ℕ → ℕ → ℤ → ℕ → Type 0
ReturnsParts name receiver code after =
    (¬ IsUtf8 name × (code ≡ NOT_UTF8) × (after ≡ receiver))
    ⊎ (IsUtf8 name × PutsParts (split_at_colon name) receiver code after)
