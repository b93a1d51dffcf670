-- The attributes that a message's body encodes (RFC 8489, section 14): type, length, value, padding.
use Rattle.std.specs.Prelude.{ℕ, zero, suc, ◌+◌, ◌*◌, ◌/◌, List, [], ◌∷◌, length, take, nat_lt, if◌then◌else◌}
use Rattle.std.specs.Int.{w16, from_be_bytes}

pub record Tlv : Type 0 where
  pub code : ℕ
  -- the offset of the attribute, counted from the end of the header
  pub place : ℕ
  -- the length that it declares
  pub len : ℕ
  -- that many bytes after the length field, or all that are left
  pub value : List ℕ

-- n bytes with their padding to a multiple of four
abbrev pub padded_len : ℕ → ℕ
padded_len n = (n + 3) / 4 * 4

-- an attribute with a value of n bytes
abbrev pub attribute_len : ℕ → ℕ
attribute_len n = 4 + padded_len n

abbrev pub u16_of : ℕ → ℕ → ℕ
u16_of high low = from_be_bytes w16 (high ∷ low ∷ [])

abbrev pub tlv_at : ℕ → ℕ → ℕ → List ℕ → Tlv
tlv_at place code len rest = record { code = code; place = place; len = len; value = take len rest }

-- The attributes from an offset on, after so many bytes of value and padding. Each next one follows the padding, up to
-- the end or to the first that declares more bytes than are left.
unfoldable pub tlvs_after : ℕ → ℕ → List ℕ → List Tlv
tlvs_after (suc skip) place (byte ∷ bytes) = tlvs_after skip (suc place) bytes
tlvs_after zero place (c0 ∷ c1 ∷ l0 ∷ l1 ∷ rest) =
    tlv_at place (u16_of c0 c1) (u16_of l0 l1) rest
    ∷ (if nat_lt (length rest) (u16_of l0 l1) then [] else tlvs_after (padded_len (u16_of l0 l1)) (place + 4) rest)
tlvs_after _ place _ = []

abbrev pub tlvs_of : List ℕ → List Tlv
tlvs_of body = tlvs_after 0 0 body
