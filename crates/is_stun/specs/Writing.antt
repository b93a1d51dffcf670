-- The only way in which a message is written (RFC 8489, sections 5 and 14).
use Rattle.std.specs.Prelude.{◌≡◌, ℕ, ◌+◌, ◌-◌, ◌<◌, ◌≤◌, Bool, true, false, not, ◌||◌, MatchOption, IfSome, List, [], ◌∷◌, ◌++◌, length}
use Rattle.std.specs.Prelude.{take, drop, Option, Some, None, Result, Ok, Err, replicate, bit_xor, nat_lt, if◌then◌else◌}
use Rattle.std.specs.List.{flat_map}
use Rattle.std.specs.Option.{option_map, option_or}
use Rattle.std.specs.Int.{w16, w32, w64, to_be_bytes}
use Rattle.is_stun.specs.Numbers.{USERNAME, ICE_CONTROLLED, ICE_CONTROLLING, PRIORITY, XOR_MAPPED_ADDRESS, USE_CANDIDATE, DATA}
use Rattle.is_stun.specs.Numbers.{XOR_RELAYED_ADDRESS, XOR_PEER_ADDRESS, CHANNEL_NUMBER, LIFETIME, REALM, NONCE, ERROR_CODE, SOFTWARE}
use Rattle.is_stun.specs.Numbers.{NETWORK_COST, NOMINATION, MESSAGE_INTEGRITY, FINGERPRINT, WRITTEN_USERNAME_LIMIT, WRITTEN_TEXT_LIMIT, DATA_LIMIT}
use Rattle.is_stun.specs.Numbers.{FINGERPRINT_MASK, HEADER_LEN, INTEGRITY_LEN}
use Rattle.is_proto.specs.declared.error.StunError.{StunError}
use Rattle.is_proto.specs.declared.error.StunError.TheVariants.{UnknownMethod, ValueTooLong, BadErrorCode, MessageTooLong, BufferTooShort}
use Rattle.is_stun.specs.declared.header.Method.{Method}
use Rattle.is_stun.specs.declared.header.Method.TheVariants.{Unknown}
use Rattle.is_stun.specs.Address.{xor_address}
use Rattle.is_stun.specs.ErrorCode.{error_value}
use Rattle.is_stun.specs.Tlv.{padded_len}
use Rattle.is_stun.specs.Crc.{crc32}
use Rattle.is_stun.specs.Header.{header, class_bits, method_bits}
use Rattle.is_stun.specs.Integrity.{signed_text}
use Rattle.is_stun.specs.Message.{AttributesRecord, Message}

-- ---- texts in a buffer

-- the list with these bytes in place of those from `at` on
unfoldable pub splice : List ℕ → ℕ → List ℕ → List ℕ
splice xs at bytes = take at xs ++ (bytes ++ drop (at + length bytes) xs)

-- the new list is the old one with the text from `at` to `end`
pub record Puts (old new : List ℕ) (at end : ℕ) (text : List ℕ) : Type 0 where
  pub bytes : new ≡ splice old at text
  pub ends : end ≡ at + length text
  pub fits : end ≤ length old

-- ---- attributes

-- type, length, value, and zeros up to a multiple of four
unfoldable pub attribute : ℕ → List ℕ → List ℕ
attribute code value =
    to_be_bytes w16 code ++ to_be_bytes w16 (length value) ++ value ++ replicate (padded_len (length value) - length value) 0

-- an attribute that is written, or an absent one
pub record Row : Type 0 where
  pub code : ℕ
  pub value : Option (List ℕ)

abbrev pub row : ℕ → Option (List ℕ) → Row
row code value = record { code = code; value = value }

abbrev pub optional_attribute : ℕ → Option (List ℕ) → List ℕ
optional_attribute code None = []
optional_attribute code (Some value) = attribute code value

abbrev pub row_text : Row → List ℕ
row_text r = optional_attribute r.code r.value

abbrev pub if_set : Bool → Option (List ℕ)
if_set is_set = if is_set then Some [] else None

-- the number, and two reserved bytes (RFC 8656, section 18.1)
abbrev pub channel_value : ℕ → List ℕ
channel_value number = to_be_bytes w16 number ++ (0 ∷ 0 ∷ [])

abbrev pub network_cost_value : ℕ × ℕ → List ℕ
network_cost_value cost = to_be_bytes w16 cost.0 ++ to_be_bytes w16 cost.1

-- the attributes of a message, in the order of writing
abbrev pub rows_of : List ℕ → AttributesRecord → List Row
rows_of id attributes =
    row USERNAME attributes.username
    ∷ row ICE_CONTROLLED (option_map (to_be_bytes w64) attributes.ice_controlled)
    ∷ row ICE_CONTROLLING (option_map (to_be_bytes w64) attributes.ice_controlling)
    ∷ row PRIORITY (option_map (to_be_bytes w32) attributes.priority)
    ∷ row XOR_MAPPED_ADDRESS (option_map (xor_address id) attributes.xor_mapped_address)
    ∷ row USE_CANDIDATE (if_set attributes.use_candidate)
    ∷ row DATA attributes.«data»
    ∷ row XOR_RELAYED_ADDRESS (option_map (xor_address id) attributes.xor_relayed_address)
    ∷ row XOR_PEER_ADDRESS (option_map (xor_address id) attributes.xor_peer_address)
    ∷ row CHANNEL_NUMBER (option_map channel_value attributes.channel_number)
    ∷ row LIFETIME (option_map (to_be_bytes w32) attributes.lifetime)
    ∷ row REALM attributes.realm
    ∷ row NONCE attributes.nonce
    ∷ row ERROR_CODE (option_map error_value attributes.error_code)
    ∷ row SOFTWARE attributes.software
    ∷ row NETWORK_COST (option_map network_cost_value attributes.network_cost)
    ∷ row NOMINATION (option_map (to_be_bytes w32) attributes.nomination)
    ∷ []

unfoldable pub rows_text : List Row → List ℕ
rows_text rows = flat_map row_text rows

-- the length of a text, if it is at most room
abbrev pub IsLenWithin : Option ℕ → ℕ → List ℕ → Type 0
IsLenWithin found room text = MatchOption found (room < length text) (λ n. (n ≡ length text) × (n ≤ room))

-- ---- MESSAGE-INTEGRITY and FINGERPRINT

-- MESSAGE-INTEGRITY after a front, if there is a key (RFC 8489, section 14.5)
abbrev pub integrity_text : (List ℕ → List ℕ → List ℕ) → Option (List ℕ) → ℕ → List ℕ → List ℕ
integrity_text mac None len front = []
integrity_text mac (Some key) len front = attribute MESSAGE_INTEGRITY (mac key (signed_text front len))

-- the MAC of the front, if there is a key, has the length of a MAC
abbrev pub HasMacOf : (List ℕ → List ℕ → List ℕ) → Option (List ℕ) → ℕ → List ℕ → Type 0
HasMacOf mac key len front = IfSome key (λ k. length (mac k (signed_text front len)) ≡ INTEGRITY_LEN)

-- FINGERPRINT of the bytes before it (RFC 8489, section 14.7)
abbrev pub fingerprint_text : List ℕ → List ℕ
fingerprint_text bytes = attribute FINGERPRINT (to_be_bytes w32 (bit_xor (crc32 bytes) FINGERPRINT_MASK))

abbrev pub integrity_len : Option (List ℕ) → ℕ
integrity_len None = 0
integrity_len (Some key) = 24

-- the value of the header's length field
abbrev pub body_len : Option (List ℕ) → List Row → ℕ
body_len key rows = length (rows_text rows) + integrity_len key + 8

-- the header and the attributes of the rows
unfoldable pub front_of : Option (List ℕ) → ℕ → List ℕ → List Row → List ℕ
front_of key typ id rows = header typ (body_len key rows) id ++ rows_text rows

unfoldable pub sealed_of : (List ℕ → List ℕ → List ℕ) → Option (List ℕ) → ℕ → List ℕ → List Row → List ℕ
sealed_of mac key typ id rows =
    let front = front_of key typ id rows in
    front ++ integrity_text mac key (length (rows_text rows) + 24) front

unfoldable pub written_rows : (List ℕ → List ℕ → List ℕ) → Option (List ℕ) → ℕ → List ℕ → List Row → List ℕ
written_rows mac key typ id rows =
    let sealed = sealed_of mac key typ id rows in
    sealed ++ fingerprint_text sealed

-- the MAC of the message of these rows has the length of a MAC
abbrev pub HasMacOfRows : (List ℕ → List ℕ → List ℕ) → Option (List ℕ) → ℕ → List ℕ → List Row → Type 0
HasMacOfRows mac key typ id rows = HasMacOf mac key (length (rows_text rows) + 24) (front_of key typ id rows)

-- the error if the rows do not fit the room
abbrev pub rows_rejection : Option (List ℕ) → ℕ → List Row → Option StunError
rows_rejection key room rows =
    if nat_lt 65535 (body_len key rows) then Some MessageTooLong
    else if nat_lt room (HEADER_LEN + body_len key rows) then Some BufferTooShort
    else None

-- Either the bytes are at the front of the buffer and the rest of it is unchanged, or all of it is unchanged and the
-- error says why.
abbrev pub WritesOr : Result ℕ StunError → List ℕ → List ℕ → Option StunError → List ℕ → Type 0
WritesOr (Ok n) old new rejection written = (rejection ≡ None) × (n ≡ length written) × (new ≡ written ++ drop n old)
WritesOr (Err e) old new rejection written = (rejection ≡ Some e) × (new ≡ old)

-- ---- whole messages

abbrev pub is_known : Method → Bool
is_known Unknown = false
is_known _ = true

abbrev pub is_longer : ℕ → Option (List ℕ) → Bool
is_longer limit None = false
is_longer limit (Some value) = nat_lt limit (length value)

-- USERNAME is longer than 508 bytes, another text is longer than 128, or the length of the data does not fit 16 bits
abbrev pub has_long_value : AttributesRecord → Bool
has_long_value a =
    is_longer WRITTEN_USERNAME_LIMIT a.username
    || is_longer WRITTEN_TEXT_LIMIT a.realm
    || is_longer WRITTEN_TEXT_LIMIT a.nonce
    || is_longer WRITTEN_TEXT_LIMIT a.software
    || is_longer WRITTEN_TEXT_LIMIT (option_map (λ e. e.1) a.error_code)
    || is_longer DATA_LIMIT a.«data»

abbrev pub is_bad_code : Option (ℕ × List ℕ) → Bool
is_bad_code None = false
is_bad_code (Some e) = nat_lt e.0 300 || nat_lt 699 e.0

-- the error if a message can't be written into any buffer, however large
unfoldable pub value_rejection : Message → Option StunError
value_rejection m =
    if not (is_known m.method) then Some UnknownMethod
    else if has_long_value m.attributes then Some ValueTooLong
    else if is_bad_code m.attributes.error_code then Some BadErrorCode
    else None

-- the first error of writing a message, if there is one
unfoldable pub rejection : Option (List ℕ) → ℕ → Message → Option StunError
rejection key room m = option_or (value_rejection m) (rows_rejection key room (rows_of m.id m.attributes))

-- the bytes of a message
unfoldable pub written : (List ℕ → List ℕ → List ℕ) → Option (List ℕ) → Message → List ℕ
written mac key m = written_rows mac key (class_bits m.class + method_bits m.method) m.id (rows_of m.id m.attributes)
