-- The value of an XOR address (RFC 8489, section 14.2).
use Rattle.std.specs.Prelude.{ℕ, not, ◌&&◌, ◌==◌, Bool, List, ◌∷◌, ◌++◌, length, take, drop, slice_index, nat_lt, bit_xor, Result, Ok, Err}
use Rattle.std.specs.Prelude.{if◌then◌else◌}
use Rattle.std.specs.Int.{w16, w32, w128, from_be_bytes, to_be_bytes}
use Rattle.std.specs.Net.Addr.{ipv4_bits, ipv6_bits, segments_of}
use Rattle.std.specs.Net.Socket.{v4_ip, v4_port, v6_ip, v6_port}
use Rattle.std.specs.declared.net.socket_addr.SocketAddr.{SocketAddr}
use Rattle.std.specs.declared.net.socket_addr.SocketAddr.TheVariants.{V4, V6}
use Rattle.is_proto.specs.declared.error.ParseFault.{ParseFault}
use Rattle.is_proto.specs.declared.error.ParseFault.TheVariants.{XorAddress}
use Rattle.is_stun.specs.Numbers.{MAGIC, PORT_MASK}
use Rattle.is_stun.specs.Tlv.{u16_of}

-- the mask for an IPv6 address: the magic cookie and the transaction ID
abbrev pub mask_of : List ℕ → ℕ
mask_of id = from_be_bytes w128 (to_be_bytes w32 MAGIC ++ id)

-- ---- writing: an unused byte, the family, the port, the address

-- the value of an XOR address: a zero byte, the family, and the port and the address xored with their masks
unfoldable pub xor_address : List ℕ → SocketAddr → List ℕ
xor_address id (V4 a) = 0 ∷ 1 ∷ to_be_bytes w16 (bit_xor (v4_port a) PORT_MASK) ++ to_be_bytes w32 (bit_xor (ipv4_bits (v4_ip a)) MAGIC)
xor_address id (V6 a) = 0 ∷ 2 ∷ to_be_bytes w16 (bit_xor (v6_port a) PORT_MASK) ++ to_be_bytes w128 (bit_xor (ipv6_bits (v6_ip a)) (mask_of id))

-- ---- reading: the bytes after the address are ignored

abbrev pub is_ipv4_value : List ℕ → Bool
is_ipv4_value value = not (nat_lt (length value) 8) && slice_index value 1 == 1

abbrev pub is_ipv6_value : List ℕ → Bool
is_ipv6_value value = not (nat_lt (length value) 20) && slice_index value 1 == 2

abbrev pub port_in : List ℕ → ℕ
port_in value = bit_xor (u16_of (slice_index value 2) (slice_index value 3)) PORT_MASK

-- the address with these bits and this port
abbrev pub ipv4_socket : ℕ → ℕ → SocketAddr
ipv4_socket bits port = V4 (record { ip = record { octets = to_be_bytes w32 bits }; port = port })

-- the IPv6 address with these bits and this port, without flow information and scope
abbrev pub ipv6_socket : ℕ → ℕ → SocketAddr
ipv6_socket bits port =
    V6 (record { ip = record { segments = segments_of (to_be_bytes w128 bits) }; port = port; flowinfo = 0; scope_id = 0 })

unfoldable pub address_in : List ℕ → List ℕ → Result SocketAddr ParseFault
address_in id value =
    if is_ipv4_value value then Ok (ipv4_socket (bit_xor (from_be_bytes w32 (take 4 (drop 4 value))) MAGIC) (port_in value))
    else if is_ipv6_value value then Ok (ipv6_socket (bit_xor (from_be_bytes w128 (take 16 (drop 4 value))) (mask_of id)) (port_in value))
    else Err XorAddress
