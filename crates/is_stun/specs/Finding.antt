-- The value of one attribute of any type, also of one that messages skip.
use Rattle.std.specs.Prelude.{◌≡◌, ℕ, ◌^◌, ◌<◌, ◌==◌, List, [], ◌∷◌, length, Option, Some, None, IfSome, if◌then◌else◌}
use Rattle.std.specs.List.{AllByRecursion}
use Rattle.std.specs.Option.{option_or}
use Rattle.is_stun.specs.Numbers.{MESSAGE_INTEGRITY, FINGERPRINT}
use Rattle.is_stun.specs.Tlv.{Tlv, tlvs_of}
use Rattle.is_stun.specs.Header.{body_of}
use Rattle.is_stun.specs.Integrity.{before_integrity}
use Rattle.is_stun.specs.Writing.{Row, written_rows}

-- the value of the last attribute of a type
unfoldable pub last_value : ℕ → List Tlv → Option (List ℕ)
last_value code [] = None
last_value code (c ∷ cs) = option_or (last_value code cs) (if c.code == code then Some c.value else None)

-- the value of the last attribute of a type before MESSAGE-INTEGRITY, in the bytes of a message
abbrev pub value_of : ℕ → List ℕ → Option (List ℕ)
value_of code bytes = last_value code (before_integrity (tlvs_of (body_of bytes)))

-- ---- what was written is found

-- the value of the last row of a type
unfoldable pub last_written : ℕ → List Row → Option (List ℕ)
last_written code [] = None
last_written code (r ∷ rs) = option_or (last_written code rs) (if r.code == code then r.value else None)

-- a type and a length of 16 bits, and no MESSAGE-INTEGRITY, which the writer adds
pub record IsPlainRow (r : Row) : Type 0 where
  pub code : r.code < 2 ^ 16
  pub other : r.code ≡ MESSAGE_INTEGRITY → ⊥
  pub short : IfSome r.value (λ value. length value < 2 ^ 16)

-- In a message that was written from rows, the value of a type is that of its last row. FINGERPRINT is the writer's too.
abbrev pub WrittenIsFound : (List ℕ → List ℕ → List ℕ) → Option (List ℕ) → ℕ → List ℕ → List Row → ℕ → Type 0
WrittenIsFound mac key typ id rows code =
    ((k text : List ℕ) → length (mac k text) ≡ 20) → length id ≡ 12 → AllByRecursion IsPlainRow rows → (code ≡ FINGERPRINT → ⊥)
    → value_of code (written_rows mac key typ id rows) ≡ last_written code rows
