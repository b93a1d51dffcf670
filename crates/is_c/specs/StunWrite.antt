-- A STUN message from a flat struct of C and its texts.
use Rattle.std.specs.Prelude.{◌≡◌, ℕ, ◌==◌, ◌||◌, ◌&&◌, not, Bool, List, [], length, nat_lt, Option, Some, None, option_map, if◌then◌else◌, ℤ}
use Rattle.is_proto.specs.Hmac.{hmac_sha1}
use Rattle.is_proto.specs.declared.error.StunError.{StunError}
use Rattle.is_proto.specs.declared.error.StunError.TheVariants.{Parse, BufferTooShort, ValueTooLong, MessageTooLong, BadErrorCode, UnknownMethod}
use Rattle.is_stun.specs.declared.header.Class.{Class}
use Rattle.is_stun.specs.declared.header.Class.TheVariants as classes
use Rattle.is_stun.specs.declared.header.Method.{Method}
use Rattle.is_stun.specs.declared.header.Method.TheVariants as methods
use Rattle.is_stun.specs.Builder.{built}
use Rattle.is_stun.specs.Message.{AttributesRecord, Message}
use Rattle.is_stun.specs.Requested.{rejection_with, written_with}
use Rattle.is_stun.specs.Writing.{is_known}
use Rattle.is_stun.specs.declared.requested.AddressFamily.TheVariants.{Ipv4, Ipv6}
use Rattle.is_stun.specs.declared.requested.Requested.{Requested}
use Rattle.is_c.specs.declared.stun_message.Message.{Message as Flat}
use Rattle.is_c.specs.declared.stun_message.Number.{Number}
use Rattle.is_c.specs.declared.stun_texts.Texts.{Texts}
use Rattle.is_c_calls.specs.Addresses.{socket_of}
use Rattle.is_c_calls.specs.Codes.{OK, BAD_ADDRESS, BUFFER_TOO_SHORT, BAD_MESSAGE, MESSAGE_TOO_LONG}
use Rattle.is_c.specs.StunMessage.{number_in}
use Rattle.is_c.specs.StunTexts.{piece_in, texts_fault}
use Rattle.is_c_calls.specs.Texts.{with_front}

-- ---- the method and the class of their numbers

abbrev pub method_in : ℕ → Method
method_in n =
    if n == 1 then methods.Binding
    else (if n == 3 then methods.Allocate
    else (if n == 4 then methods.Refresh
    else (if n == 6 then methods.Send
    else (if n == 7 then methods.Data
    else (if n == 8 then methods.CreatePermission
    else (if n == 9 then methods.ChannelBind else methods.Unknown))))))

abbrev pub class_in : ℕ → Class
class_in n =
    if n == 0 then classes.Request
    else (if n == 1 then classes.Indication
    else (if n == 2 then classes.Success
    else (if n == 3 then classes.Failure else classes.Unknown)))

abbrev pub is_kind : ℕ → ℕ → Bool
is_kind method class = is_known (method_in method) && nat_lt class 4

-- ---- numbers and addresses

-- the number does not fit its attribute
abbrev pub is_above : ℕ → Number → Bool
is_above limit n = n.is_set && nat_lt limit n.value

-- one of both numbers of NETWORK-COST is missing
abbrev pub is_half : Bool → Bool → Bool
is_half network cost = (network && not cost) || (cost && not network)

abbrev pub has_bad_number : Flat → Bool
has_bad_number f =
    is_above 0xFFFFFFFF f.priority
    || is_above 0xFFFF f.error_code
    || is_above 0xFFFFFFFF f.lifetime
    || is_above 0xFFFF f.channel_number
    || is_above 0xFFFF f.network_id
    || is_above 0xFFFF f.network_cost
    || is_above 0xFFFFFFFF f.nomination
    || is_half f.network_id.is_set f.network_cost.is_set

-- neither family 4 nor 6, nor 0, which says that there is none
abbrev pub is_bad_family : ℕ → Bool
is_bad_family family = not (family == 0) && not (family == 4) && not (family == 6)

abbrev pub has_bad_family : Flat → Bool
has_bad_family f =
    is_bad_family f.mapped.family || is_bad_family f.peer.family || is_bad_family f.relayed.family || is_bad_family f.requested_family

-- ---- the message

abbrev pub reason_of : Option (List ℕ) → List ℕ
reason_of None = []
reason_of (Some text) = text

-- the code with its reason, which is empty if there is none
abbrev pub error_in : Flat → Texts → List ℕ → Option (ℕ × List ℕ)
error_in f t bytes = option_map (λ code. (code, reason_of (piece_in bytes t.reason))) (number_in f.error_code)

abbrev pub cost_in : Flat → Option (ℕ × ℕ)
cost_in f = if f.network_id.is_set then Some (f.network_id.value, f.network_cost.value) else None

abbrev pub attributes_in : Flat → Texts → List ℕ → AttributesRecord
attributes_in f t bytes =
    record {
      username = piece_in bytes t.username;
      error_code = error_in f t bytes;
      channel_number = number_in f.channel_number;
      lifetime = number_in f.lifetime;
      xor_peer_address = socket_of f.peer;
      «data» = piece_in bytes t.data;
      realm = piece_in bytes t.realm;
      nonce = piece_in bytes t.nonce;
      xor_relayed_address = socket_of f.relayed;
      xor_mapped_address = socket_of f.mapped;
      software = piece_in bytes t.software;
      priority = number_in f.priority;
      use_candidate = f.use_candidate;
      ice_controlled = number_in f.controlled;
      ice_controlling = number_in f.controlling;
      network_cost = cost_in f;
      nomination = number_in f.nomination;
      fingerprint = None;
    }

-- the message that the structs mean
abbrev pub message_in : Flat → Texts → List ℕ → Message
message_in f t bytes = built (method_in f.method) (class_in f.class) f.id.bytes (attributes_in f t bytes)

-- what it requests
abbrev pub requested_of : Flat → Requested
requested_of f = record {
  transport = if f.requested_transport == 0 then None else Some f.requested_transport;
  family = if f.requested_family == 4 then Some Ipv4 else (if f.requested_family == 6 then Some Ipv6 else None);
}

-- why they mean none
abbrev pub fault_in : Flat → Texts → List ℕ → Option ℤ
fault_in f t bytes =
    if not (is_kind f.method f.class) then Some BAD_MESSAGE
    else (if has_bad_number f then Some BAD_MESSAGE
    else (if has_bad_family f then Some BAD_ADDRESS
    else texts_fault bytes t))

-- ---- writing it

abbrev pub write_code : StunError → ℤ
write_code BufferTooShort = BUFFER_TOO_SHORT
write_code ValueTooLong = MESSAGE_TOO_LONG
write_code MessageTooLong = MESSAGE_TOO_LONG
write_code BadErrorCode = BAD_MESSAGE
write_code UnknownMethod = BAD_MESSAGE
write_code (Parse _) = BAD_MESSAGE

-- the message is at the front of the buffer, and its length is returned; or nothing is written, and the code says why
abbrev pub WritesIn : Option ℤ → Option StunError → List ℕ → List ℕ → ℕ → ℤ → List ℕ → ℕ → Type 0
WritesIn (Some why) _ bytes old count code new new_count = (code ≡ why) × (new ≡ old) × (new_count ≡ count)
WritesIn None (Some e) bytes old count code new new_count = (code ≡ write_code e) × (new ≡ old) × (new_count ≡ count)
WritesIn None None bytes old count code new new_count = (code ≡ OK) × (new_count ≡ length bytes) × (new ≡ with_front bytes old)

-- the key, if the message is to have MESSAGE-INTEGRITY
abbrev pub key_if : Bool → List ℕ → Option (List ℕ)
key_if is_signed key = if is_signed then Some key else None

-- The message that a struct of C and its texts mean is written, or nothing is, and the code says why.
abbrev pub WritesMessage : Flat → Texts → List ℕ → List ℕ → List ℕ → ℕ → ℤ → List ℕ → ℕ → Type 0
WritesMessage f t bytes key old count code new new_count =
    WritesIn (fault_in f t bytes)
    (rejection_with (key_if f.has_integrity key) (length old) (message_in f t bytes) (requested_of f))
    (written_with hmac_sha1 (key_if f.has_integrity key) (message_in f t bytes) (requested_of f))
    old count code new new_count
