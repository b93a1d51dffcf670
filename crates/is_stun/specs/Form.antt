-- The message that bytes encode, whatever attributes it has (RFC 8489, sections 5 and 14).
use Rattle.std.specs.Prelude.{◌≡◌, ℕ, List, Option, Some, None}
use Rattle.std.specs.Option.{option_or}
use Rattle.is_proto.specs.declared.error.ParseFault.{ParseFault}
use Rattle.is_proto.specs.declared.error.StunError.{StunError}
use Rattle.is_proto.specs.declared.error.StunError.TheVariants as errors
use Rattle.is_stun.specs.Tlv.{tlvs_of}
use Rattle.is_stun.specs.Header.{body_of, header_fault}
use Rattle.is_stun.specs.Reading.{attributes_fault, message_of}
use Rattle.is_stun.specs.Message.{Message}

-- the first fault of the header, or else of the attributes
unfoldable pub form_fault : List ℕ → Option ParseFault
form_fault bytes = option_or (header_fault bytes) (attributes_fault (tlvs_of (body_of bytes)))

-- the bytes encode the message; it may lack attributes that ICE requires
pub record ReadsAny (bytes : List ℕ) (m : Message) : Type 0 where
  pub faultless : form_fault bytes ≡ None
  pub spelled : m ≡ message_of bytes

-- the error gives the fault of the bytes
abbrev pub FailsAnyBy : List ℕ → StunError → Type 0
FailsAnyBy bytes (errors.Parse f) = form_fault bytes ≡ Some f
FailsAnyBy bytes _ = ⊥
