-- The message that bytes encode, or their first fault (RFC 8489, sections 5, 6.3 and 14).
use Rattle.std.specs.Prelude.{◌≡◌, ℕ, Bool, true, false, not, ◌&&◌, ◌||◌, List, [], ◌∷◌, length, take, drop, Option, Some, None, is_some, is_none}
use Rattle.std.specs.Prelude.{Result, nat_lt, ◌==◌, if◌then◌else◌, option_and_then}
use Rattle.std.specs.Option.{option_or, option_map}
use Rattle.std.specs.Result.{result_ok}
use Rattle.std.specs.Int.{w32, w64}
use Rattle.is_proto.specs.declared.error.ParseFault.{ParseFault}
use Rattle.is_proto.specs.declared.error.ParseFault.TheVariants.{AttributeLength, LifetimeLength, PriorityLength, UseCandidateLength}
use Rattle.is_proto.specs.declared.error.ParseFault.TheVariants.{FingerprintLength, ControlledLength, ControllingLength, NoIntegrityReply}
use Rattle.is_proto.specs.declared.error.ParseFault.TheVariants.{NoMappedAddress, NoIntegrityRequest, NoUsername, NoPriority}
use Rattle.is_proto.specs.declared.error.StunError.{StunError}
use Rattle.is_proto.specs.declared.error.StunError.TheVariants as errors
use Rattle.is_stun.specs.Numbers.{USERNAME, ERROR_CODE, CHANNEL_NUMBER, LIFETIME, XOR_PEER_ADDRESS, DATA, REALM, NONCE, XOR_RELAYED_ADDRESS}
use Rattle.is_stun.specs.Numbers.{XOR_MAPPED_ADDRESS, SOFTWARE, PRIORITY, USE_CANDIDATE, FINGERPRINT, ICE_CONTROLLED, ICE_CONTROLLING}
use Rattle.is_stun.specs.Numbers.{NETWORK_COST, NOMINATION, USERNAME_LIMIT, TEXT_LIMIT}
use Rattle.is_stun.specs.declared.header.Class.{Class}
use Rattle.is_stun.specs.declared.header.Class.TheVariants.{Request, Success}
use Rattle.is_stun.specs.declared.header.Method.{Method}
use Rattle.is_stun.specs.declared.header.Method.TheVariants.{Binding}
use Rattle.is_stun.specs.Tlv.{Tlv, tlvs_of}
use Rattle.is_stun.specs.Header.{type_of, class_of, method_of, body_of, header_fault}
use Rattle.is_stun.specs.Kinds.{text, number, bytes_of_len, error_code, channel_number, network_cost, nomination, value_fault}
use Rattle.is_stun.specs.Address.{address_in}
use Rattle.is_stun.specs.Integrity.{before_integrity, first_integrity, up_to_integrity, after_integrity, integrity_of}
use Rattle.is_stun.specs.Message.{AttributesRecord, Message, split_username}

-- ---- the attributes

-- a network cost, or the number of a nomination, that is not four bytes long counts as absent
abbrev pub is_skipped : Tlv → Bool
is_skipped c = (c.code == NETWORK_COST || c.code == NOMINATION) && not (length c.value == 4)

-- the attribute has this type, and is read
abbrev pub counts : ℕ → Tlv → Bool
counts code c = c.code == code && not (is_skipped c)

-- the value of the last attribute of a type
unfoldable pub last_of : ℕ → List Tlv → Option (List ℕ)
last_of code [] = None
last_of code (c ∷ cs) = option_or (last_of code cs) (if counts code c then Some c.value else None)

-- The fault of an attribute. After MESSAGE-INTEGRITY, only FINGERPRINT is read, but the length of each attribute is
-- checked.
abbrev pub fault_at : Bool → Tlv → Option ParseFault
fault_at is_after c =
    if nat_lt (length c.value) c.len then Some AttributeLength
    else if is_after && not (c.code == FINGERPRINT) then None
    else value_fault c.code c.value

unfoldable pub first_fault : Bool → List Tlv → Option ParseFault
first_fault is_after [] = None
first_fault is_after (c ∷ cs) = option_or (fault_at is_after c) (first_fault is_after cs)

-- the fault of the first attribute that has one
unfoldable pub attributes_fault : List Tlv → Option ParseFault
attributes_fault cs = option_or (first_fault false (up_to_integrity cs)) (first_fault true (after_integrity cs))

abbrev pub value_in : {A : Type 0} → (List ℕ → Result A ParseFault) → Option (List ℕ) → Option A
value_in read None = None
value_in read (Some value) = result_ok (read value)

-- Each field comes from the last attribute of its type before MESSAGE-INTEGRITY; FINGERPRINT from the last one
-- anywhere.
unfoldable pub attributes_of : List ℕ → List Tlv → AttributesRecord
attributes_of id cs =
    let first = before_integrity cs in
    record {
      username = value_in (text USERNAME_LIMIT) (last_of USERNAME first);
      error_code = value_in error_code (last_of ERROR_CODE first);
      channel_number = value_in channel_number (last_of CHANNEL_NUMBER first);
      lifetime = value_in (number w32 LifetimeLength) (last_of LIFETIME first);
      xor_peer_address = value_in (address_in id) (last_of XOR_PEER_ADDRESS first);
      «data» = last_of DATA first;
      realm = value_in (text TEXT_LIMIT) (last_of REALM first);
      nonce = value_in (text TEXT_LIMIT) (last_of NONCE first);
      xor_relayed_address = value_in (address_in id) (last_of XOR_RELAYED_ADDRESS first);
      xor_mapped_address = value_in (address_in id) (last_of XOR_MAPPED_ADDRESS first);
      software = value_in (text TEXT_LIMIT) (last_of SOFTWARE first);
      priority = value_in (number w32 PriorityLength) (last_of PRIORITY first);
      use_candidate = is_some (value_in (bytes_of_len 0 UseCandidateLength) (last_of USE_CANDIDATE first));
      ice_controlled = value_in (number w64 ControlledLength) (last_of ICE_CONTROLLED first);
      ice_controlling = value_in (number w64 ControllingLength) (last_of ICE_CONTROLLING first);
      network_cost = option_and_then network_cost (last_of NETWORK_COST first);
      nomination = option_and_then nomination (last_of NOMINATION first);
      fingerprint = value_in (number w32 FingerprintLength) (last_of FINGERPRINT cs);
    }

-- ---- the message

abbrev pub id_of : List ℕ → List ℕ
id_of bytes = take 12 (drop 8 bytes)

unfoldable pub message_of : List ℕ → Message
message_of bytes =
    record {
      method = method_of (type_of bytes);
      class = class_of (type_of bytes);
      id = id_of bytes;
      attributes = attributes_of (id_of bytes) (tlvs_of (body_of bytes));
      integrity = option_map (integrity_of bytes) (first_integrity (tlvs_of (body_of bytes)));
    }

-- the attributes that a message of this method and class requires (RFC 8445, sections 7.1 and 7.2.5)
abbrev pub demand_fault_of : Method → Class → Message → Option ParseFault
demand_fault_of Binding Success m =
    if is_none m.integrity then Some NoIntegrityReply
    else if is_none m.attributes.xor_mapped_address then Some NoMappedAddress
    else None
demand_fault_of Binding Request m =
    if is_none m.integrity then Some NoIntegrityRequest
    else if is_none (split_username m.attributes) then Some NoUsername
    else if is_none m.attributes.priority then Some NoPriority
    else None
demand_fault_of _ _ m = None

abbrev pub demand_fault : Message → Option ParseFault
demand_fault m = demand_fault_of m.method m.class m

-- ---- the two results

-- the first fault that applies
unfoldable pub fault_of : List ℕ → Option ParseFault
fault_of bytes =
    option_or (header_fault bytes)
    (option_or (attributes_fault (tlvs_of (body_of bytes))) (demand_fault (message_of bytes)))

-- The bytes encode this message: they have no fault, and the message is what they say.
pub record Reads (bytes : List ℕ) (m : Message) : Type 0 where
  pub faultless : fault_of bytes ≡ None
  pub spelled : m ≡ message_of bytes

abbrev pub Fault : List ℕ → ParseFault → Type 0
Fault bytes f = fault_of bytes ≡ Some f

-- the error gives this fault
abbrev pub FailsBy : List ℕ → StunError → Type 0
FailsBy bytes (errors.Parse f) = Fault bytes f
FailsBy bytes _ = ⊥
