-- MESSAGE-INTEGRITY (RFC 8489, section 14.5): its position, and the text that its MAC is computed over.
use Rattle.std.specs.Prelude.{◌≡◌, ℕ, ◌+◌, ◌==◌, Bool, List, [], ◌∷◌, ◌++◌, take, drop, Option, Some, None, if◌then◌else◌, IsSomeAnd}
use Rattle.std.specs.Int.{w16, to_be_bytes}
use Rattle.is_stun.specs.Numbers.{MESSAGE_INTEGRITY, HEADER_LEN}
use Rattle.is_stun.specs.Tlv.{Tlv, tlvs_of}
use Rattle.is_stun.specs.Header.{body_of}
use Rattle.is_stun.specs.Message.{Integrity, Message}

-- ---- the attributes before and after the first MESSAGE-INTEGRITY

abbrev pub is_integrity : Tlv → Bool
is_integrity c = c.code == MESSAGE_INTEGRITY

unfoldable pub before_integrity : List Tlv → List Tlv
before_integrity [] = []
before_integrity (c ∷ cs) = if is_integrity c then [] else c ∷ before_integrity cs

unfoldable pub first_integrity : List Tlv → Option Tlv
first_integrity [] = None
first_integrity (c ∷ cs) = if is_integrity c then Some c else first_integrity cs

unfoldable pub up_to_integrity : List Tlv → List Tlv
up_to_integrity [] = []
up_to_integrity (c ∷ cs) = c ∷ (if is_integrity c then [] else up_to_integrity cs)

unfoldable pub after_integrity : List Tlv → List Tlv
after_integrity [] = []
after_integrity (c ∷ cs) = if is_integrity c then cs else after_integrity cs

-- ---- the MAC

-- The text that a MAC is computed over, from the bytes before it and the message length up to and including it: the
-- type, that length, and the bytes from the fifth on.
abbrev pub signed_text : List ℕ → ℕ → List ℕ
signed_text front len = take 2 front ++ to_be_bytes w16 len ++ drop 4 front

-- the integrity of a message of these bytes, from its attribute
abbrev pub integrity_of : List ℕ → Tlv → Integrity
integrity_of bytes c = record { mac = c.value; text = signed_text (take (HEADER_LEN + c.place) bytes) (c.place + 24) }

-- the message carries the MAC of its text under the key
abbrev pub IsSignedBy : (List ℕ → List ℕ → List ℕ) → Message → List ℕ → Type 0
IsSignedBy mac m key = IsSomeAnd m.integrity (λ i. i.mac ≡ mac key i.text)

-- the bytes have a MESSAGE-INTEGRITY, and it is the MAC of the text before it
abbrev pub IsAuthentic : (List ℕ → List ℕ → List ℕ) → List ℕ → List ℕ → Type 0
IsAuthentic mac bytes key =
    IsSomeAnd (first_integrity (tlvs_of (body_of bytes)))
    (λ c. c.value ≡ mac key (signed_text (take (HEADER_LEN + c.place) bytes) (c.place + 24)))
