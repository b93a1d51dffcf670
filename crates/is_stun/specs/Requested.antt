-- What an Allocate request requests: REQUESTED-TRANSPORT and REQUESTED-ADDRESS-FAMILY (RFC 8656, sections 18.6 and 18.7). Messages
-- skip both when they are read.
use Rattle.std.specs.Prelude.{◌≡◌, ℕ, ◌+◌, ◌==◌, List, [], ◌∷◌, ◌++◌, length, slice_index, Option, Some, None, option_and_then, if◌then◌else◌}
use Rattle.std.specs.Option.{option_map, option_or}
use Rattle.is_proto.specs.declared.error.StunError.{StunError}
use Rattle.is_stun.specs.declared.requested.AddressFamily.{AddressFamily}
use Rattle.is_stun.specs.declared.requested.AddressFamily.TheVariants.{Ipv4, Ipv6}
use Rattle.is_stun.specs.declared.requested.Requested.{Requested}
use Rattle.is_stun.specs.Numbers.{REQUESTED_ADDRESS_FAMILY, REQUESTED_TRANSPORT}
use Rattle.is_stun.specs.Finding.{value_of}
use Rattle.is_stun.specs.Header.{class_bits, method_bits}
use Rattle.is_stun.specs.Message.{Message, AttributesRecord}
use Rattle.is_stun.specs.Form.{ReadsAny}
use Rattle.is_stun.specs.Integrity.{IsSignedBy}
use Rattle.is_stun.specs.Theorems.{IsCarried, SameMessage}
use Rattle.is_stun.specs.Writing.{Row, row, rows_of, rows_rejection, value_rejection, rejection, written_rows, written}

-- ---- the values: one byte, and three reserved ones

abbrev pub with_reserved : ℕ → List ℕ
with_reserved n = n ∷ 0 ∷ 0 ∷ 0 ∷ []

abbrev pub family_number : AddressFamily → ℕ
family_number Ipv4 = 1
family_number Ipv6 = 2

abbrev pub family_value : AddressFamily → List ℕ
family_value family = with_reserved (family_number family)

-- ---- reading: a value that is not four bytes long, or has another family, is skipped

abbrev pub first_of_four : List ℕ → Option ℕ
first_of_four value = if length value == 4 then Some (slice_index value 0) else None

abbrev pub family_of : ℕ → Option AddressFamily
family_of n = if n == 1 then Some Ipv4 else if n == 2 then Some Ipv6 else None

abbrev pub transport_in : Option (List ℕ) → Option ℕ
transport_in value = option_and_then first_of_four value

abbrev pub family_in : Option (List ℕ) → Option AddressFamily
family_in value = option_and_then family_of (option_and_then first_of_four value)

-- what the bytes of a message request
abbrev pub requested_in : List ℕ → Requested
requested_in bytes = record {
  transport = transport_in (value_of REQUESTED_TRANSPORT bytes);
  family = family_in (value_of REQUESTED_ADDRESS_FAMILY bytes);
}

-- ---- writing: after the attributes of the message

abbrev pub requested_rows : Requested → List Row
requested_rows r =
    row REQUESTED_ADDRESS_FAMILY (option_map family_value r.family)
    ∷ row REQUESTED_TRANSPORT (option_map with_reserved r.transport)
    ∷ []

abbrev pub rows_with : List ℕ → AttributesRecord → Requested → List Row
rows_with id attributes r = rows_of id attributes ++ requested_rows r

-- the first error of writing a message that requests this, if there is one
unfoldable pub rejection_with : Option (List ℕ) → ℕ → Message → Requested → Option StunError
rejection_with key room m r = option_or (value_rejection m) (rows_rejection key room (rows_with m.id m.attributes r))

-- the bytes of a message that requests this
unfoldable pub written_with : (List ℕ → List ℕ → List ℕ) → Option (List ℕ) → Message → Requested → List ℕ
written_with mac key m r = written_rows mac key (class_bits m.class + method_bits m.method) m.id (rows_with m.id m.attributes r)

abbrev pub nothing_requested : Requested
nothing_requested = record { transport = None; family = None }

-- a message that requests nothing is written as any other
pub record RequestsNothing (mac : List ℕ → List ℕ → List ℕ) (key : Option (List ℕ)) (room : ℕ) (m : Message) : Type 0 where
  pub bytes : written_with mac key m nothing_requested ≡ written mac key m
  pub error : rejection_with key room m nothing_requested ≡ rejection key room m

-- what a message requests is read from its bytes
abbrev pub RequestIsRead : (List ℕ → List ℕ → List ℕ) → Option (List ℕ) → Message → Requested → Type 0
RequestIsRead mac key m r =
    ((k text : List ℕ) → length (mac k text) ≡ 20) → (room : ℕ) → rejection_with key room m r ≡ None → IsCarried m
    → requested_in (written_with mac key m r) ≡ r

-- with a key a message that requests something parses as no other message, and verifies with that key
abbrev pub RequestIsSkipped : (List ℕ → List ℕ → List ℕ) → List ℕ → Message → Requested → Type 0
RequestIsSkipped mac key m r =
    ((k text : List ℕ) → length (mac k text) ≡ 20) → (room : ℕ) → rejection_with (Some key) room m r ≡ None → IsCarried m
    → (n : Message) → ReadsAny (written_with mac (Some key) m r) n → SameMessage n m × IsSignedBy mac n key
