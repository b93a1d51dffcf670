-- The header of a message: type, length, magic cookie, transaction ID (RFC 8489, section 5).
use Rattle.std.specs.Prelude.{ℕ, ◌+◌, ◌%◌, not, List, [], ◌∷◌, ◌++◌, length, drop, Option, Some, None, slice_index, nat_lt, ◌==◌, bit_and}
use Rattle.std.specs.Prelude.{if◌then◌else◌}
use Rattle.std.specs.Int.{w16, w32, from_be_bytes, to_be_bytes}
use Rattle.is_proto.specs.declared.error.ParseFault.{ParseFault}
use Rattle.is_proto.specs.declared.error.ParseFault.TheVariants.{TooShort, LengthUneven, LengthMismatch, Magic}
use Rattle.is_stun.specs.Numbers.{HEADER_LEN, MAGIC}
use Rattle.is_stun.specs.declared.header.Class.{Class}
use Rattle.is_stun.specs.declared.header.Class.TheVariants as classes
use Rattle.is_stun.specs.declared.header.Method.{Method}
use Rattle.is_stun.specs.declared.header.Method.TheVariants as methods
use Rattle.is_stun.specs.Tlv.{u16_of}

-- ---- reading

abbrev pub type_of : List ℕ → ℕ
type_of bytes = u16_of (slice_index bytes 0) (slice_index bytes 1)

-- how many bytes follow the header, by its length field
abbrev pub length_field : List ℕ → ℕ
length_field bytes = u16_of (slice_index bytes 2) (slice_index bytes 3)

abbrev pub magic_of : List ℕ → ℕ
magic_of bytes = from_be_bytes w32 (slice_index bytes 4 ∷ slice_index bytes 5 ∷ slice_index bytes 6 ∷ slice_index bytes 7 ∷ [])

-- the bytes after the header
abbrev pub body_of : List ℕ → List ℕ
body_of bytes = drop HEADER_LEN bytes

-- the class bits of a type; its two top bits are in neither mask
abbrev pub class_of : ℕ → Class
class_of typ =
    if bit_and typ 0x0110 == 0x0000 then classes.Request
    else if bit_and typ 0x0110 == 0x0010 then classes.Indication
    else if bit_and typ 0x0110 == 0x0100 then classes.Success
    else classes.Failure

-- the method bits of a type (RFC 8489, section 18.2; RFC 8656, section 17)
abbrev pub method_of : ℕ → Method
method_of typ =
    if bit_and typ 0x3EEF == 1 then methods.Binding
    else if bit_and typ 0x3EEF == 3 then methods.Allocate
    else if bit_and typ 0x3EEF == 4 then methods.Refresh
    else if bit_and typ 0x3EEF == 6 then methods.Send
    else if bit_and typ 0x3EEF == 7 then methods.Data
    else if bit_and typ 0x3EEF == 8 then methods.CreatePermission
    else if bit_and typ 0x3EEF == 9 then methods.ChannelBind
    else methods.Unknown

-- the first fault of a header, if there is one
unfoldable pub header_fault : List ℕ → Option ParseFault
header_fault bytes =
    if nat_lt (length bytes) 4 then Some TooShort
    else if not (length_field bytes % 4 == 0) then Some LengthUneven
    else if not (length_field bytes + HEADER_LEN == length bytes) then Some LengthMismatch
    else if not (magic_of bytes == MAGIC) then Some Magic
    else None

-- ---- writing

abbrev pub class_bits : Class → ℕ
class_bits classes.Request = 0x0000
class_bits classes.Indication = 0x0010
class_bits classes.Success = 0x0100
class_bits classes.Failure = 0x0110
class_bits classes.Unknown = 0x0000

abbrev pub method_bits : Method → ℕ
method_bits methods.Binding = 1
method_bits methods.Allocate = 3
method_bits methods.Refresh = 4
method_bits methods.Send = 6
method_bits methods.Data = 7
method_bits methods.CreatePermission = 8
method_bits methods.ChannelBind = 9
method_bits methods.Unknown = 0

unfoldable pub header : ℕ → ℕ → List ℕ → List ℕ
header typ len id = to_be_bytes w16 typ ++ to_be_bytes w16 len ++ to_be_bytes w32 MAGIC ++ id
