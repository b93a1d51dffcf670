-- The message that bytes encode, part by part: each field is the parsed value of one attribute, and nothing that is
-- read has a fault. Faults and their order are not stated here, but in Reading.Fault (RFC 8489, sections 5, 6.3 and
-- 14).
use Rattle.std.specs.Prelude.{◌≡◌, ℕ, ◌+◌, ◌%◌, ◌≤◌, Bool, true, false, List, length, Option, Some, None, IsSome, is_some, Result, Ok}
use Rattle.std.specs.Prelude.{MatchOption, option_and_then}
use Rattle.std.specs.List.{AllByRecursion}
use Rattle.std.specs.Option.{option_map}
use Rattle.std.specs.Int.{w32, w64}
use Rattle.is_proto.specs.declared.error.ParseFault.{ParseFault}
use Rattle.is_proto.specs.declared.error.ParseFault.TheVariants.{LifetimeLength, PriorityLength, FingerprintLength, ControlledLength}
use Rattle.is_proto.specs.declared.error.ParseFault.TheVariants.{ControllingLength}
use Rattle.is_stun.specs.Numbers.{USERNAME, ERROR_CODE, CHANNEL_NUMBER, LIFETIME, XOR_PEER_ADDRESS, DATA, REALM, NONCE, XOR_RELAYED_ADDRESS}
use Rattle.is_stun.specs.Numbers.{XOR_MAPPED_ADDRESS, SOFTWARE, PRIORITY, USE_CANDIDATE, FINGERPRINT, ICE_CONTROLLED, ICE_CONTROLLING}
use Rattle.is_stun.specs.Numbers.{NETWORK_COST, NOMINATION, USERNAME_LIMIT, TEXT_LIMIT, HEADER_LEN, MAGIC}
use Rattle.is_stun.specs.declared.header.Class.TheVariants.{Request, Success}
use Rattle.is_stun.specs.declared.header.Method.TheVariants.{Binding}
use Rattle.is_stun.specs.Tlv.{Tlv, tlvs_of}
use Rattle.is_stun.specs.Header.{type_of, length_field, magic_of, class_of, method_of, body_of}
use Rattle.is_stun.specs.Kinds.{text, number, error_code, channel_number, network_cost, nomination, value_fault}
use Rattle.is_stun.specs.Address.{address_in}
use Rattle.is_stun.specs.Integrity.{before_integrity, first_integrity, up_to_integrity, after_integrity, integrity_of}
use Rattle.is_stun.specs.Message.{AttributesRecord, Message, split_username}
use Rattle.is_stun.specs.Reading.{last_of, id_of}

pub record HasHeader (bytes : List ℕ) : Type 0 where
  pub type_and_length : 4 ≤ length bytes
  pub even : length_field bytes % 4 ≡ 0
  pub whole : length_field bytes + HEADER_LEN ≡ length bytes
  pub magic : magic_of bytes ≡ MAGIC

-- The attribute is complete, and its value, if it is read, is one of its type. After MESSAGE-INTEGRITY, only
-- FINGERPRINT is read.
pub record IsWellFormed (is_after : Bool) (c : Tlv) : Type 0 where
  pub whole : c.len ≤ length c.value
  pub value : (is_after ≡ true → c.code ≡ FINGERPRINT) → value_fault c.code c.value ≡ None

-- the field is the parsed value of the attribute, if there is one
abbrev pub IsReading : {A : Type 0} → (List ℕ → Result A ParseFault) → Option (List ℕ) → Option A → Type 0
IsReading read None field = field ≡ None
IsReading read (Some value) field = MatchOption field ⊥ (λ x. read value ≡ Ok x)

-- each field by the last attribute of its type before MESSAGE-INTEGRITY, and FINGERPRINT by the last one anywhere
pub record AreSpelled (id : List ℕ) (cs : List Tlv) (a : AttributesRecord) : Type 0 where
  pub username : IsReading (text USERNAME_LIMIT) (last_of USERNAME (before_integrity cs)) a.username
  pub error_code : IsReading error_code (last_of ERROR_CODE (before_integrity cs)) a.error_code
  pub channel_number : IsReading channel_number (last_of CHANNEL_NUMBER (before_integrity cs)) a.channel_number
  pub lifetime : IsReading (number w32 LifetimeLength) (last_of LIFETIME (before_integrity cs)) a.lifetime
  pub xor_peer_address : IsReading (address_in id) (last_of XOR_PEER_ADDRESS (before_integrity cs)) a.xor_peer_address
  pub «data» : a.«data» ≡ last_of DATA (before_integrity cs)
  pub realm : IsReading (text TEXT_LIMIT) (last_of REALM (before_integrity cs)) a.realm
  pub nonce : IsReading (text TEXT_LIMIT) (last_of NONCE (before_integrity cs)) a.nonce
  pub xor_relayed_address : IsReading (address_in id) (last_of XOR_RELAYED_ADDRESS (before_integrity cs)) a.xor_relayed_address
  pub xor_mapped_address : IsReading (address_in id) (last_of XOR_MAPPED_ADDRESS (before_integrity cs)) a.xor_mapped_address
  pub software : IsReading (text TEXT_LIMIT) (last_of SOFTWARE (before_integrity cs)) a.software
  pub priority : IsReading (number w32 PriorityLength) (last_of PRIORITY (before_integrity cs)) a.priority
  pub use_candidate : a.use_candidate ≡ is_some (last_of USE_CANDIDATE (before_integrity cs))
  pub ice_controlled : IsReading (number w64 ControlledLength) (last_of ICE_CONTROLLED (before_integrity cs)) a.ice_controlled
  pub ice_controlling : IsReading (number w64 ControllingLength) (last_of ICE_CONTROLLING (before_integrity cs)) a.ice_controlling
  pub network_cost : a.network_cost ≡ option_and_then network_cost (last_of NETWORK_COST (before_integrity cs))
  pub nomination : a.nomination ≡ option_and_then nomination (last_of NOMINATION (before_integrity cs))
  pub fingerprint : IsReading (number w32 FingerprintLength) (last_of FINGERPRINT cs) a.fingerprint

-- the attributes that a Binding success response and a Binding request require (RFC 8445, sections 7.1 and 7.2.5)
pub record HasDemanded (m : Message) : Type 0 where
  pub reply : m.method ≡ Binding → m.class ≡ Success → IsSome m.integrity × IsSome m.attributes.xor_mapped_address
  pub request : m.method ≡ Binding → m.class ≡ Request → IsSome m.integrity × IsSome (split_username m.attributes) × IsSome m.attributes.priority

-- the bytes encode the message
pub record Spells (bytes : List ℕ) (m : Message) : Type 0 where
  pub header : HasHeader bytes
  pub before : AllByRecursion (IsWellFormed false) (up_to_integrity (tlvs_of (body_of bytes)))
  pub following : AllByRecursion (IsWellFormed true) (after_integrity (tlvs_of (body_of bytes)))
  pub method : m.method ≡ method_of (type_of bytes)
  pub class : m.class ≡ class_of (type_of bytes)
  pub id : m.id ≡ id_of bytes
  pub attributes : AreSpelled (id_of bytes) (tlvs_of (body_of bytes)) m.attributes
  pub integrity : m.integrity ≡ option_map (integrity_of bytes) (first_integrity (tlvs_of (body_of bytes)))
  pub demands : HasDemanded m
