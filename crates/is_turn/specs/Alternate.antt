-- ALTERNATE-SERVER (RFC 8489, section 14.15): an address that is written plain, as in MAPPED-ADDRESS (section 14.1).
use Rattle.std.specs.Prelude.{ℕ, ◌&&◌, ◌==◌, List, length, take, drop, slice_index, Option, Some, None, option_and_then, if◌then◌else◌}
use Rattle.std.specs.Int.{w32, w128, from_be_bytes}
use Rattle.std.specs.declared.net.socket_addr.SocketAddr.{SocketAddr}
use Rattle.is_stun.specs.Address.{ipv4_socket, ipv6_socket}
use Rattle.is_stun.specs.Finding.{value_of}
use Rattle.is_stun.specs.Tlv.{u16_of}

abbrev pub plain_port : List ℕ → ℕ
plain_port value = u16_of (slice_index value 2) (slice_index value 3)

-- an unused byte, the family, the port, the address
abbrev pub alternate_of : List ℕ → Option SocketAddr
alternate_of value =
    if length value == 8 && slice_index value 1 == 1
    then Some (ipv4_socket (from_be_bytes w32 (take 4 (drop 4 value))) (plain_port value))
    else if length value == 20 && slice_index value 1 == 2
    then Some (ipv6_socket (from_be_bytes w128 (take 16 (drop 4 value))) (plain_port value))
    else None

abbrev pub alternate_in : List ℕ → Option SocketAddr
alternate_in bytes = option_and_then alternate_of (value_of 0x8023 bytes)
