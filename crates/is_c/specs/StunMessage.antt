-- A STUN message as a flat struct for C.
use Rattle.std.specs.Prelude.{◌≡◌, ◌↔◌, ℕ, Bool, true, false, List, Option, Some, None, option_map, is_some, replicate, IsTrue, ℤ}
use Rattle.std.specs.declared.net.socket_addr.SocketAddr.{SocketAddr}
use Rattle.is_proto.specs.Hmac.{hmac_sha1}
use Rattle.is_stun.specs.declared.header.Class.{Class}
use Rattle.is_stun.specs.declared.header.Class.TheVariants as classes
use Rattle.is_stun.specs.declared.requested.AddressFamily.{AddressFamily}
use Rattle.is_stun.specs.declared.requested.AddressFamily.TheVariants.{Ipv4, Ipv6}
use Rattle.is_stun.specs.declared.requested.Requested.{Requested}
use Rattle.is_stun.specs.Header.{method_bits}
use Rattle.is_stun.specs.Integrity.{IsSignedBy}
use Rattle.is_stun.specs.Message.{Message}
use Rattle.is_stun.specs.Requested.{requested_in}
use Rattle.is_c_calls.specs.declared.address.Address.{Address}
use Rattle.is_c.specs.declared.stun_message.Message.{Message as Flat}
use Rattle.is_c.specs.declared.stun_message.Number.{Number}
use Rattle.is_c_calls.specs.Addresses.{socket_of}
use Rattle.is_c_calls.specs.Codes.{OK, found_code}

abbrev pub class_number : Class → ℕ
class_number classes.Request = 0
class_number classes.Indication = 1
class_number classes.Success = 2
class_number classes.Failure = 3
class_number classes.Unknown = 4

abbrev pub number_if : Bool → ℕ → Option ℕ
number_if true n = Some n
number_if false n = None

-- the number, if the message has it
abbrev pub number_in : Number → Option ℕ
number_in n = number_if n.is_set n.value

-- the number that the message has, and 0 if it has none
abbrev pub number_of : Option ℕ → Number
number_of None = record { value = 0; is_set = false }
number_of (Some n) = record { value = n; is_set = true }

-- an address that is not there: family 0, and all else zero
abbrev pub no_address : Address
no_address = record { family = 0; bytes = replicate 16 0; port = 0; flow = 0; scope = 0 }

-- the address that the message has, and family 0 if it has none
abbrev pub IsAddress : Option SocketAddr → Address → Type 0
IsAddress None a = a ≡ no_address
IsAddress (Some at) a = socket_of a ≡ Some at

-- each field; what the message does not have is zero
pub record IsFlat (m : Message) (f : Flat) : Type 0 where
  pub method : f.method ≡ method_bits m.method
  pub class : f.class ≡ class_number m.class
  pub id : f.id.bytes ≡ m.id
  pub priority : f.priority ≡ number_of m.attributes.priority
  pub use_candidate : f.use_candidate ≡ m.attributes.use_candidate
  pub controlled : f.controlled ≡ number_of m.attributes.ice_controlled
  pub controlling : f.controlling ≡ number_of m.attributes.ice_controlling
  pub error_code : f.error_code ≡ number_of (option_map (λ e. e.0) m.attributes.error_code)
  pub lifetime : f.lifetime ≡ number_of m.attributes.lifetime
  pub channel_number : f.channel_number ≡ number_of m.attributes.channel_number
  pub network_id : f.network_id ≡ number_of (option_map (λ c. c.0) m.attributes.network_cost)
  pub network_cost : f.network_cost ≡ number_of (option_map (λ c. c.1) m.attributes.network_cost)
  pub nomination : f.nomination ≡ number_of m.attributes.nomination
  pub mapped : IsAddress m.attributes.xor_mapped_address f.mapped
  pub peer : IsAddress m.attributes.xor_peer_address f.peer
  pub relayed : IsAddress m.attributes.xor_relayed_address f.relayed
  pub has_integrity : f.has_integrity ≡ is_some m.integrity
  pub has_fingerprint : f.has_fingerprint ≡ is_some m.attributes.fingerprint

-- ---- what an Allocate request requests: 0 for nothing

abbrev pub transport_number : Option ℕ → ℕ
transport_number None = 0
transport_number (Some n) = n

abbrev pub family_number : Option AddressFamily → ℕ
family_number None = 0
family_number (Some Ipv4) = 4
family_number (Some Ipv6) = 6

pub record HasRequested (r : Requested) (f : Flat) : Type 0 where
  pub transport : f.requested_transport ≡ transport_number r.transport
  pub family : f.requested_family ≡ family_number r.family

-- the message that bytes encode, and what it requests
abbrev pub IsFlatOf : List ℕ → Message → ℤ → Flat → Type 0
IsFlatOf bytes m code f = (code ≡ OK) × IsFlat m f × HasRequested (requested_in bytes) f

-- OK exactly if the message carries the MAC of its text under the key
abbrev pub AnswersSigned : Message → List ℕ → ℤ → Type 0
AnswersSigned m key code = (yes : Bool) × (IsTrue yes ↔ IsSignedBy hmac_sha1 m key) × (code ≡ found_code yes)
