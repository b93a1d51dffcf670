-- The requests of a TURN client, and its Send indication, as they are written (RFC 8656, sections 7 to 12).
use Rattle.std.specs.Prelude.{ℕ, ◌+◌, List, [], ◌∷◌, ◌++◌, Option, Some, None, option_map}
use Rattle.std.specs.Int.{w32, to_be_bytes}
use Rattle.std.specs.declared.net.socket_addr.SocketAddr.{SocketAddr}
use Rattle.is_stun.specs.declared.header.Class.TheVariants as classes
use Rattle.is_stun.specs.declared.header.Method.TheVariants as methods
use Rattle.is_stun.specs.Address.{xor_address}
use Rattle.is_stun.specs.AddressView.{xor_bytes}
use Rattle.is_stun.specs.Header.{class_bits, method_bits}
use Rattle.is_stun.specs.Numbers.{USERNAME, CHANNEL_NUMBER, LIFETIME, XOR_PEER_ADDRESS, DATA, REALM, NONCE}
use Rattle.is_stun.specs.Numbers.{REQUESTED_ADDRESS_FAMILY, REQUESTED_TRANSPORT}
use Rattle.is_stun.specs.Requested.{with_reserved, family_value}
use Rattle.is_stun.specs.Writing.{Row, row, channel_value}
use Rattle.is_turn.specs.declared.requests.Request.{Request}
use Rattle.is_turn.specs.declared.requests.Request.TheVariants.{Allocate, Refresh, CreatePermission, ChannelBind}
use Rattle.is_turn.specs.declared.requests.Signer.{Signer as RawSigner}
use Rattle.is_turn.specs.declared.requests.Values.{Values}
use Rattle.is_turn.specs.Credentials.{Credentials, Challenge}

-- ---- a request's type and its own attributes

-- the type: method and class (RFC 8656, section 17)
abbrev pub type_of : Request → ℕ
type_of (Allocate seconds family) = class_bits classes.Request + method_bits methods.Allocate
type_of (Refresh seconds) = class_bits classes.Request + method_bits methods.Refresh
type_of (CreatePermission peer) = class_bits classes.Request + method_bits methods.CreatePermission
type_of (ChannelBind number peer) = class_bits classes.Request + method_bits methods.ChannelBind

-- UDP
abbrev pub transport_in : Request → Option (List ℕ)
transport_in (Allocate seconds family) = Some (with_reserved 17)
transport_in _ = None

abbrev pub lifetime_in : Request → Option (List ℕ)
lifetime_in (Allocate seconds family) = Some (to_be_bytes w32 seconds)
lifetime_in (Refresh seconds) = Some (to_be_bytes w32 seconds)
lifetime_in _ = None

abbrev pub family_in : Request → Option (List ℕ)
family_in (Allocate seconds family) = option_map family_value family
family_in _ = None

abbrev pub channel_in : Request → Option (List ℕ)
channel_in (ChannelBind number peer) = Some (channel_value number)
channel_in _ = None

abbrev pub peer_in : List ℕ → Request → Option (List ℕ)
peer_in id (CreatePermission peer) = Some (xor_address id peer)
peer_in id (ChannelBind number peer) = Some (xor_address id peer)
peer_in id _ = None

abbrev pub own_rows : List ℕ → Request → List Row
own_rows id r =
    row REQUESTED_TRANSPORT (transport_in r)
    ∷ row LIFETIME (lifetime_in r)
    ∷ row REQUESTED_ADDRESS_FAMILY (family_in r)
    ∷ row CHANNEL_NUMBER (channel_in r)
    ∷ row XOR_PEER_ADDRESS (peer_in id r)
    ∷ []

-- the attributes of a request, of values as the code has them
abbrev pub rows_in : Values → List Row
rows_in values =
    row REQUESTED_TRANSPORT values.transport
    ∷ row LIFETIME values.lifetime
    ∷ row REQUESTED_ADDRESS_FAMILY values.family
    ∷ row CHANNEL_NUMBER values.channel
    ∷ row XOR_PEER_ADDRESS (option_map xor_bytes values.peer)
    ∷ []

-- ---- who signs it

pub record Signer : Type 0 where
  pub username : List ℕ
  pub realm : List ℕ
  pub nonce : List ℕ
  pub key : List ℕ

abbrev pub signer_view : RawSigner → Signer
signer_view s = record { username = s.username.now; realm = s.realm.now; nonce = s.nonce.now; key = s.key.now }

abbrev pub signer_by : List ℕ → Option Challenge → Option Signer
signer_by username None = None
signer_by username (Some c) = Some (record { username = username; realm = c.realm; nonce = c.nonce; key = c.key })

-- credentials that had a challenge sign
abbrev pub signer_of : Option Credentials → Option Signer
signer_of None = None
signer_of (Some c) = signer_by c.username c.challenge

abbrev pub key_of : Option Signer → Option (List ℕ)
key_of signer = option_map (λ s. s.key) signer

abbrev pub signer_rows : Option Signer → List Row
signer_rows signer =
    row USERNAME (option_map (λ s. s.username) signer)
    ∷ row REALM (option_map (λ s. s.realm) signer)
    ∷ row NONCE (option_map (λ s. s.nonce) signer)
    ∷ []

-- ---- the messages

abbrev pub request_rows : List ℕ → Request → Option Signer → List Row
request_rows id r signer = own_rows id r ++ signer_rows signer

-- data for a peer (RFC 8656, section 11.1)
abbrev pub SEND_TYPE : ℕ
SEND_TYPE = class_bits classes.Indication + method_bits methods.Send

abbrev pub send_rows : List ℕ → SocketAddr → List ℕ → List Row
send_rows id peer contents = row XOR_PEER_ADDRESS (Some (xor_address id peer)) ∷ row DATA (Some contents) ∷ []
