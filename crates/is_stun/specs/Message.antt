-- A message, without its memory layout (RFC 8489, section 5).
use Rattle.std.specs.Prelude.{ℕ, ◌+◌, ◌==◌, Bool, false, List, length, take, drop, position, nat_lt, Option, Some, None, option_and_then}
use Rattle.std.specs.Prelude.{if◌then◌else◌}
use Rattle.std.specs.declared.net.socket_addr.SocketAddr.{SocketAddr}
use Rattle.is_stun.specs.declared.header.Class.{Class}
use Rattle.is_stun.specs.declared.header.Method.{Method}

-- the attributes of a message, except MESSAGE-INTEGRITY (RFC 8489, section 14; RFC 8656, section 18; RFC 8445, section
-- 16.1)
pub record AttributesRecord : Type 0 where
  pub username : Option (List ℕ)
  -- the code and its reason
  pub error_code : Option (ℕ × List ℕ)
  pub channel_number : Option ℕ
  -- LIFETIME, in seconds
  pub lifetime : Option ℕ
  pub xor_peer_address : Option SocketAddr
  pub «data» : Option (List ℕ)
  pub realm : Option (List ℕ)
  pub nonce : Option (List ℕ)
  pub xor_relayed_address : Option SocketAddr
  pub xor_mapped_address : Option SocketAddr
  pub software : Option (List ℕ)
  pub priority : Option ℕ
  pub use_candidate : Bool
  pub ice_controlled : Option ℕ
  pub ice_controlling : Option ℕ
  -- the network's ID and its cost
  pub network_cost : Option (ℕ × ℕ)
  -- the number of a nomination
  pub nomination : Option ℕ
  pub fingerprint : Option ℕ

-- a message without any attribute
abbrev pub no_attributes : AttributesRecord
no_attributes = record {
  username = None;
  error_code = None;
  channel_number = None;
  lifetime = None;
  xor_peer_address = None;
  «data» = None;
  realm = None;
  nonce = None;
  xor_relayed_address = None;
  xor_mapped_address = None;
  software = None;
  priority = None;
  use_candidate = false;
  ice_controlled = None;
  ice_controlling = None;
  network_cost = None;
  nomination = None;
  fingerprint = None;
}

-- the MAC that a message carries, and the text that it is computed over
pub record Integrity : Type 0 where
  pub mac : List ℕ
  pub text : List ℕ

-- a message; one that was built, and is not yet written, has no MESSAGE-INTEGRITY
pub record Message : Type 0 where
  pub method : Method
  pub class : Class
  pub id : List ℕ
  pub attributes : AttributesRecord
  pub integrity : Option Integrity

-- ---- USERNAME: two username fragments with a colon between them (RFC 8445, section 7.2.2)

-- the parts before and after the first colon, if something follows it
abbrev pub split_at_colon : List ℕ → Option (List ℕ × List ℕ)
split_at_colon name =
    option_and_then (λ i. if nat_lt (i + 1) (length name) then Some (take i name, drop (i + 1) name) else None)
    (position (λ b. b == 58) name)

abbrev pub split_username : AttributesRecord → Option (List ℕ × List ℕ)
split_username attributes = option_and_then split_at_colon attributes.username
