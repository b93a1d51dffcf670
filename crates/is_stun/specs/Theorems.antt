-- Theorems about the definitions.
use Rattle.std.specs.Prelude.{◌≡◌, ℕ, ◌^◌, ◌<◌, ◌≤◌, ◌⊎◌, ◌↔◌, ◌+◌, if◌then◌else◌, Bool, List, [], length, Option, slice_index, Some, None, IfSome}
use Rattle.std.specs.Str.{IsUtf8}
use Rattle.std.specs.Net.Socket.{IsSocketAddr, socket_flowinfo, socket_scope_id}
use Rattle.std.specs.Option.{option_map}
use Rattle.std.specs.declared.net.socket_addr.SocketAddr.{SocketAddr}
use Rattle.std.specs.declared.net.socket_addr.SocketAddr.TheVariants.{V4, V6}
use Rattle.is_proto.specs.declared.error.ParseFault.{ParseFault}
use Rattle.is_stun.specs.declared.header.Class.{Class}
use Rattle.is_stun.specs.declared.header.Class.TheVariants.{Unknown}
use Rattle.is_stun.specs.Message.{AttributesRecord, Message}
use Rattle.is_proto.specs.declared.error.StunError.TheVariants.{BufferTooShort}
use Rattle.is_stun.specs.Numbers.{WRITTEN_USERNAME_LIMIT}
use Rattle.is_stun.specs.Tlv.{padded_len}
use Rattle.is_stun.specs.Checks.{binding_request, binding_reply}
use Rattle.is_stun.specs.Integrity.{IsSignedBy, IsAuthentic}
use Rattle.is_stun.specs.Reading.{Reads, Fault, demand_fault}
use Rattle.is_stun.specs.Spells.{Spells}
use Rattle.is_stun.specs.Writing.{rejection, written}
use Rattle.is_proto.specs.Hmac.{hmac_sha1}

-- Bytes either encode one message or have one first fault, and never both.
pub record ReadsOrFails (bytes : List ℕ) : Type 0 where
  pub either : ((m : Message) × Spells bytes m) ⊎ ((f : ParseFault) × Fault bytes f)
  pub not_both : (m : Message) (f : ParseFault) → Spells bytes m → Fault bytes f → ⊥
  pub one_message : (m n : Message) → Spells bytes m → Spells bytes n → m ≡ n
  pub one_fault : (f g : ParseFault) → Fault bytes f → Fault bytes g → f ≡ g

-- A parsed message is signed exactly if its bytes are authentic.
abbrev pub SignedIffAuthentic : List ℕ → Message → Type 0
SignedIffAuthentic bytes m =
    Reads bytes m → (mac : List ℕ → List ℕ → List ℕ) (key : List ℕ) → IsSignedBy mac m key ↔ IsAuthentic mac bytes key

-- ---- written messages parse

-- an address that a message carries completely: without flow information and scope
abbrev pub IsPlainAddress : SocketAddr → Type 0
IsPlainAddress a = IsSocketAddr a × (socket_flowinfo a ≡ 0) × (socket_scope_id a ≡ 0)

-- channel numbers (RFC 8656, section 12)
abbrev pub IsChannelNumber : ℕ → Type 0
IsChannelNumber n = (0x4000 ≤ n) × (n ≤ 0x7FFF)

-- values that their types allow, channel numbers in range, and plain addresses
pub record HasReadableValues (a : AttributesRecord) : Type 0 where
  pub username : IfSome a.username IsUtf8
  pub error_code : IfSome a.error_code (λ e. IsUtf8 e.1)
  pub channel_number : IfSome a.channel_number IsChannelNumber
  pub lifetime : IfSome a.lifetime (λ n. n < 2 ^ 32)
  pub xor_peer_address : IfSome a.xor_peer_address IsPlainAddress
  pub realm : IfSome a.realm IsUtf8
  pub nonce : IfSome a.nonce IsUtf8
  pub xor_relayed_address : IfSome a.xor_relayed_address IsPlainAddress
  pub xor_mapped_address : IfSome a.xor_mapped_address IsPlainAddress
  pub software : IfSome a.software IsUtf8
  pub priority : IfSome a.priority (λ n. n < 2 ^ 32)
  pub ice_controlled : IfSome a.ice_controlled (λ n. n < 2 ^ 64)
  pub ice_controlling : IfSome a.ice_controlling (λ n. n < 2 ^ 64)
  pub network_cost : IfSome a.network_cost (λ c. (c.0 < 2 ^ 16) × (c.1 < 2 ^ 16))
  pub nomination : IfSome a.nomination (λ n. n < 2 ^ 32)

abbrev pub IsClass : Class → Type 0
IsClass Unknown = ⊥
IsClass _ = Unit {0}

abbrev pub IsId : List ℕ → Type 0
IsId id = (length id ≡ 12) × ((k : ℕ) → slice_index id k < 2 ^ 8)

-- the message with a MESSAGE-INTEGRITY, whatever its MAC
abbrev pub sealed : Message → Message
sealed m = record m { integrity = Some (record { mac = []; text = [] }) }

-- the message parses after it is written with a key: it has everything else that parsing requires
pub record IsReadable (m : Message) : Type 0 where
  pub class : IsClass m.class
  pub id : IsId m.id
  pub values : HasReadableValues m.attributes
  pub demands : demand_fault (sealed m) ≡ None

-- the messages are the same, except their FINGERPRINT and MESSAGE-INTEGRITY
pub record SameMessage (n m : Message) : Type 0 where
  pub method : n.method ≡ m.method
  pub class : n.class ≡ m.class
  pub id : n.id ≡ m.id
  pub attributes : record n.attributes { fingerprint = None } ≡ record m.attributes { fingerprint = None }

-- the message has a class, a transaction ID and values that bytes can carry, whether or not it has the attributes that
-- a parser requires
pub record IsCarried (m : Message) : Type 0 where
  pub class : IsClass m.class
  pub id : IsId m.id
  pub values : HasReadableValues m.attributes

-- the bytes parse as the message, and carry the MAC of the key
pub record ReadsBack (mac : List ℕ → List ℕ → List ℕ) (key bytes : List ℕ) (m : Message) : Type 0 where
  pub read : Message
  pub reads : Reads bytes read
  pub same : SameMessage read m
  pub signed : IsSignedBy mac read key

-- a message that is written with a key without an error parses as the same message, and verifies with that key
abbrev pub WrittenIsRead : (List ℕ → List ℕ → List ℕ) → List ℕ → Message → Type 0
WrittenIsRead mac key m =
    ((k text : List ℕ) → length (mac k text) ≡ 20) → (room : ℕ) → rejection (Some key) room m ≡ None → IsReadable m
    → ReadsBack mac key (written mac (Some key) m) m

-- a message that is written with a key and the default provider without an error parses as the same message, and verifies with that key
abbrev pub WrittenByDefaultIsRead : List ℕ → Message → Type 0
WrittenByDefaultIsRead key m =
    (room : ℕ) → rejection (Some key) room m ≡ None → IsReadable m → ReadsBack hmac_sha1 key (written hmac_sha1 (Some key) m) m

-- a message that is written with a key without an error parses as no other message
abbrev pub WrittenIsReadAlike : (List ℕ → List ℕ → List ℕ) → List ℕ → Message → Type 0
WrittenIsReadAlike mac key m =
    ((k text : List ℕ) → length (mac k text) ≡ 20) → (room : ℕ) → rejection (Some key) room m ≡ None → IsCarried m
    → (n : Message) → Reads (written mac (Some key) m) n → SameMessage n m

-- ---- the part of an address that a message carries

-- an address without its flow information and scope, which no message carries
abbrev pub plain_address : SocketAddr → SocketAddr
plain_address (V4 a) = V4 a
plain_address (V6 a) = V6 (record a { flowinfo = 0; scope_id = 0 })

abbrev pub plain_attributes : AttributesRecord → AttributesRecord
plain_attributes a = record a {
  xor_peer_address = option_map plain_address a.xor_peer_address;
  xor_relayed_address = option_map plain_address a.xor_relayed_address;
  xor_mapped_address = option_map plain_address a.xor_mapped_address;
}

-- the message with its addresses as it carries them
abbrev pub plain : Message → Message
plain m = record m { attributes = plain_attributes m.attributes }

-- flow information and scope are not written
abbrev pub IsWrittenPlain : (List ℕ → List ℕ → List ℕ) → Option (List ℕ) → Message → Type 0
IsWrittenPlain mac key m = written mac key m ≡ written mac key (plain m)

-- A response is written as the same bytes, whatever flow information and scope its address has.
abbrev pub PlainReply : (List ℕ → List ℕ → List ℕ) → List ℕ → List ℕ → SocketAddr → Type 0
PlainReply mac key id a = written mac (Some key) (binding_reply id a) ≡ written mac (Some key) (binding_reply id (plain_address a))

-- ---- the lengths of messages

-- with a key, the message takes so many bytes
pub record TakesBytes (key : List ℕ) (len : ℕ) (m : Message) : Type 0 where
  pub fits : (room : ℕ) → len ≤ room → rejection (Some key) room m ≡ None
  pub tight : (room : ℕ) → room < len → rejection (Some key) room m ≡ Some BufferTooShort

-- with a key, the message fits so many bytes
abbrev pub FitsInto : List ℕ → ℕ → Message → Type 0
FitsInto key len m = (room : ℕ) → len ≤ room → rejection (Some key) room m ≡ None

-- the length of a response to a check, by the IP version of the address in it
abbrev pub reply_len : SocketAddr → ℕ
reply_len (V4 a) = 64
reply_len (V6 a) = 76

-- a size that fits each response to a check, success or role conflict
abbrev pub LONGEST_REPLY : ℕ
LONGEST_REPLY = 76

-- the length of a check, by its USERNAME and whether it nominates
abbrev pub check_len : List ℕ → Bool → ℕ
check_len username nominates = 76 + padded_len (length username) + (if nominates then 4 else 0)

-- a size that fits each check, without NOMINATION and with it
abbrev pub LONGEST_CHECK : ℕ
LONGEST_CHECK = 76 + WRITTEN_USERNAME_LIMIT + 4

abbrev pub LONGEST_NUMBERED_CHECK : ℕ
LONGEST_NUMBERED_CHECK = LONGEST_CHECK + 8

-- A check whose USERNAME is not too long takes as many bytes as `check_len` says.
abbrev pub CheckTakes : List ℕ → List ℕ → List ℕ → Bool → ℕ → ℕ → Bool → Type 0
CheckTakes key id username controlling tie_breaker priority nominates =
    length username ≤ WRITTEN_USERNAME_LIMIT
    → TakesBytes key (check_len username nominates) (binding_request username id controlling tie_breaker priority nominates)

-- ---- what a caller of the writer gets

-- The values are in the ranges of their types: so the written message parses as it, if the requirements are met.
pub record HasValues (m : Message) : Type 0 where
  pub id : IsId m.id
  pub values : HasReadableValues m.attributes

-- the bytes were written for the message: if they parse, they parse as it, except its FINGERPRINT and MESSAGE-INTEGRITY
pub record IsPut (bytes : List ℕ) (m : Message) : Type 0 where
  pub values : HasValues m
  pub reads : (n : Message) → Reads bytes n → SameMessage n m

-- The bytes that are written with a key are written for the message as it is carried, and round-trip if the
-- requirements are met. The message has a known class, and its channel number, if any, is in range.
pub record RoundTripsTo (mac : List ℕ → List ℕ → List ℕ) (key bytes : List ℕ) (m : Message) : Type 0 where
  pub put : IsPut bytes (plain m)
  pub back : demand_fault (sealed m) ≡ None → ReadsBack mac key bytes (plain m)

-- What was written with a key for this message round-trips, if its class is known and its channel number is in range.
abbrev pub RoundTripsAs : (List ℕ → List ℕ → List ℕ) → List ℕ → List ℕ → Message → Type 0
RoundTripsAs mac key bytes m = IsClass m.class → IfSome m.attributes.channel_number IsChannelNumber → RoundTripsTo mac key bytes m
