-- The kinds of value: how each is parsed, and the fault of one that can't be. A new attribute type needs a row of
-- value_fault and a field of Message.AttributesRecord.
use Rattle.std.specs.Prelude.{ℕ, ◌+◌, ◌*◌, ◌/◌, ◌%◌, not, ◌&&◌, ◌||◌, List, length, drop, slice_index, Option, Some, None, Result, Ok, Err}
use Rattle.std.specs.Prelude.{nat_lt, ◌==◌, if◌then◌else◌}
use Rattle.std.specs.Int.{Width, w32, w64, byte_len, from_be_bytes}
use Rattle.std.specs.Str.{is_utf8}
use Rattle.is_proto.specs.declared.error.ParseFault.{ParseFault}
use Rattle.is_proto.specs.declared.error.ParseFault.TheVariants.{TextTooLong, TextNotUtf8, IntegrityLength, ErrorCodeLength, ErrorCodeTop}
use Rattle.is_proto.specs.declared.error.ParseFault.TheVariants.{ErrorClass, ChannelLength, ChannelRange, LifetimeLength, PriorityLength}
use Rattle.is_proto.specs.declared.error.ParseFault.TheVariants.{UseCandidateLength, FingerprintLength, ControlledLength, ControllingLength}
use Rattle.is_proto.specs.declared.error.ParseFault.TheVariants.{XorAddress}
use Rattle.is_stun.specs.Numbers.{USERNAME, MESSAGE_INTEGRITY, ERROR_CODE, CHANNEL_NUMBER, LIFETIME, XOR_PEER_ADDRESS, REALM, NONCE}
use Rattle.is_stun.specs.Numbers.{XOR_RELAYED_ADDRESS, XOR_MAPPED_ADDRESS, SOFTWARE, PRIORITY, USE_CANDIDATE, FINGERPRINT, ICE_CONTROLLED}
use Rattle.is_stun.specs.Numbers.{ICE_CONTROLLING, USERNAME_LIMIT, TEXT_LIMIT, INTEGRITY_LEN}
use Rattle.is_stun.specs.Tlv.{u16_of}
use Rattle.is_stun.specs.Address.{is_ipv4_value, is_ipv6_value}

-- ---- kinds of value

abbrev pub text : ℕ → List ℕ → Result (List ℕ) ParseFault
text limit value = if nat_lt limit (length value) then Err TextTooLong else if is_utf8 value then Ok value else Err TextNotUtf8

abbrev pub number : Width → ParseFault → List ℕ → Result ℕ ParseFault
number w fault value = if length value == byte_len w then Ok (from_be_bytes w value) else Err fault

abbrev pub bytes_of_len : ℕ → ParseFault → List ℕ → Result (List ℕ) ParseFault
bytes_of_len len fault value = if length value == len then Ok value else Err fault

-- the code is 100 times its class plus its number modulo 100 (RFC 8489, section 14.8)
abbrev pub error_of : ℕ → ℕ → Result (List ℕ) ParseFault → Result (ℕ × List ℕ) ParseFault
error_of class number (Ok reason) = Ok (100 * class + number % 100, reason)
error_of class number (Err fault) = Err fault

unfoldable pub error_code : List ℕ → Result (ℕ × List ℕ) ParseFault
error_code value =
    if nat_lt (length value) 4 then Err ErrorCodeLength
    else if not (slice_index value 0 == 0 && slice_index value 1 == 0 && slice_index value 2 / 8 == 0) then Err ErrorCodeTop
    else if nat_lt (slice_index value 2) 3 || nat_lt 6 (slice_index value 2) then Err ErrorClass
    else error_of (slice_index value 2) (slice_index value 3) (text TEXT_LIMIT (drop 4 value))

-- a channel number, and two bytes that are ignored (RFC 8656, section 18.1)
unfoldable pub channel_number : List ℕ → Result ℕ ParseFault
channel_number value =
    if not (length value == 4) then Err ChannelLength
    else if nat_lt (u16_of (slice_index value 0) (slice_index value 1)) 0x4000 || nat_lt 0x7FFF (u16_of (slice_index value 0) (slice_index value 1))
    then Err ChannelRange
    else Ok (u16_of (slice_index value 0) (slice_index value 1))

-- the fault of an address that can't be parsed; it does not depend on the transaction ID
unfoldable pub address_fault : List ℕ → Option ParseFault
address_fault value = if is_ipv4_value value || is_ipv6_value value then None else Some XorAddress

-- the network's ID and its cost, in four bytes
unfoldable pub network_cost : List ℕ → Option (ℕ × ℕ)
network_cost value =
    if length value == 4 then Some (u16_of (slice_index value 0) (slice_index value 1), u16_of (slice_index value 2) (slice_index value 3))
    else None

-- the number of a nomination, in four bytes
unfoldable pub nomination : List ℕ → Option ℕ
nomination value = if length value == 4 then Some (from_be_bytes w32 value) else None

-- ---- the table

abbrev pub fault_in : {A : Type 0} → Result A ParseFault → Option ParseFault
fault_in (Ok x) = None
fault_in (Err f) = Some f

-- the fault of a value of this type; values of all other types have none
unfoldable pub value_fault : ℕ → List ℕ → Option ParseFault
value_fault code value =
    if code == USERNAME then fault_in (text USERNAME_LIMIT value)
    else if code == MESSAGE_INTEGRITY then fault_in (bytes_of_len INTEGRITY_LEN IntegrityLength value)
    else if code == ERROR_CODE then fault_in (error_code value)
    else if code == CHANNEL_NUMBER then fault_in (channel_number value)
    else if code == LIFETIME then fault_in (number w32 LifetimeLength value)
    else if code == XOR_PEER_ADDRESS then address_fault value
    else if code == REALM then fault_in (text TEXT_LIMIT value)
    else if code == NONCE then fault_in (text TEXT_LIMIT value)
    else if code == XOR_RELAYED_ADDRESS then address_fault value
    else if code == XOR_MAPPED_ADDRESS then address_fault value
    else if code == SOFTWARE then fault_in (text TEXT_LIMIT value)
    else if code == PRIORITY then fault_in (number w32 PriorityLength value)
    else if code == USE_CANDIDATE then fault_in (bytes_of_len 0 UseCandidateLength value)
    else if code == FINGERPRINT then fault_in (number w32 FingerprintLength value)
    else if code == ICE_CONTROLLED then fault_in (number w64 ControlledLength value)
    else if code == ICE_CONTROLLING then fault_in (number w64 ControllingLength value)
    else None
