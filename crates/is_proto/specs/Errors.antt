-- The texts of parse faults and errors.
use Rattle.std.specs.Prelude.{ℕ, List, ◌++◌, codes}
use Rattle.std.specs.String.{string_bytes}
use Rattle.is_proto.specs.declared.error.ParseFault.{ParseFault}
use Rattle.is_proto.specs.declared.error.ParseFault.TheVariants.{TooShort, LengthUneven, LengthMismatch, Magic, AttributeLength}
use Rattle.is_proto.specs.declared.error.ParseFault.TheVariants.{IntegrityLength, ErrorCodeLength, ErrorCodeTop, ErrorClass, ChannelLength}
use Rattle.is_proto.specs.declared.error.ParseFault.TheVariants.{ChannelRange, LifetimeLength, PriorityLength, UseCandidateLength}
use Rattle.is_proto.specs.declared.error.ParseFault.TheVariants.{FingerprintLength, ControlledLength, ControllingLength, XorAddress}
use Rattle.is_proto.specs.declared.error.ParseFault.TheVariants.{TextTooLong, TextNotUtf8, NoIntegrityReply, NoMappedAddress}
use Rattle.is_proto.specs.declared.error.ParseFault.TheVariants.{NoIntegrityRequest, NoUsername, NoPriority}
use Rattle.is_proto.specs.declared.error.StunError.{StunError}
use Rattle.is_proto.specs.declared.error.StunError.TheVariants.{Parse, BufferTooShort, ValueTooLong, MessageTooLong, BadErrorCode, UnknownMethod}
use Rattle.is_proto.specs.declared.error.IceError.{IceError}
use Rattle.is_proto.specs.declared.error.IceError.TheVariants.{BadCandidate, OutOfMemory, PairIdsExhausted, MtuTooSmall, CredentialsTooLong}
use Rattle.is_proto.specs.declared.error.IceError.TheVariants.{PriorityTooHigh, LiteStaysControlled}

-- what is wrong with the bytes of a message
abbrev pub parse_fault_text : ParseFault → List ℕ
parse_fault_text TooShort = codes "Buffer too short"
parse_fault_text LengthUneven = codes "len is not a multiple of 4"
parse_fault_text LengthMismatch = codes "STUN length vs UDP packet mismatch"
parse_fault_text Magic = codes "magic cookie mismatch"
parse_fault_text AttributeLength = codes "Bad STUN attribute length"
parse_fault_text IntegrityLength = codes "Expected message integrity to have length 20"
parse_fault_text ErrorCodeLength = codes "Error code length must be at least 4"
parse_fault_text ErrorCodeTop = codes "Expected 0 at top of error code"
parse_fault_text ErrorClass = codes "Error class is not in range"
parse_fault_text ChannelLength = codes "Channel number that isn't 4 in length"
parse_fault_text ChannelRange = codes "Channel number is not in valid range 0x4000-0x7FFF"
parse_fault_text LifetimeLength = codes "Lifetime that isn't 4 in length"
parse_fault_text PriorityLength = codes "Priority that isnt 4 in length"
parse_fault_text UseCandidateLength = codes "UseCandidate that isnt 0 in length"
parse_fault_text FingerprintLength = codes "Fingerprint length must be 4"
parse_fault_text ControlledLength = codes "IceControlled that isnt 8 in length"
parse_fault_text ControllingLength = codes "IceControlling that isnt 8 in length"
parse_fault_text XorAddress = codes "Unknown IP version or insufficient buffer length for it"
parse_fault_text TextTooLong = codes "too long str len"
parse_fault_text TextNotUtf8 = codes "malformed utf-8"
parse_fault_text NoIntegrityReply = codes "No message integrity in incoming STUN binding reply"
parse_fault_text NoMappedAddress = codes "STUN packet missing mapped addr"
parse_fault_text NoIntegrityRequest = codes "No message integrity in incoming STUN binding request"
parse_fault_text NoUsername = codes "STUN packet missing username"
parse_fault_text NoPriority = codes "STUN packet missing priority"

-- why a message can't be parsed or written
abbrev pub stun_error_text : StunError → List ℕ
stun_error_text (Parse fault) = codes "STUN parse error: " ++ parse_fault_text fault
stun_error_text BufferTooShort = codes "STUN buffer too short"
stun_error_text ValueTooLong = codes "STUN value too long"
stun_error_text MessageTooLong = codes "STUN message too long"
stun_error_text BadErrorCode = codes "STUN error code outside 300 to 699"
stun_error_text UnknownMethod = codes "STUN method unknown"

-- why a call fails
abbrev pub ice_error_text : IceError → List ℕ
ice_error_text (BadCandidate message) = codes "ICE bad candidate: " ++ string_bytes message
ice_error_text OutOfMemory = codes "out of memory"
ice_error_text PairIdsExhausted = codes "pair ids exhausted"
ice_error_text MtuTooSmall = codes "MTU target too small"
ice_error_text CredentialsTooLong = codes "ICE credentials too long"
ice_error_text PriorityTooHigh = codes "candidate priority too high"
ice_error_text LiteStaysControlled = codes "lite agent stays controlled"
