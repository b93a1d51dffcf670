-- The foundation of a candidate (RFC 8445, section 5.1.1.3): a given one; otherwise the priority with its bytes
-- reversed, then a hash of what candidates of one foundation have in common.
use Rattle.std.specs.Prelude.{ℕ, ◌-◌, ◌*◌, ◌%◌, ◌^◌, false, List, [], ◌∷◌, ◌++◌, length, replicate, fold, bit_xor, Option, Some, None, unwrap_or}
use Rattle.std.specs.Int.{w32, swap_bytes}
use Rattle.std.specs.Fmt.{digits}
use Rattle.std.specs.declared.net.ip_addr.IpAddr.{IpAddr}
use Rattle.std.specs.declared.net.ip_addr.IpAddr.TheVariants as Ip
use Rattle.std.specs.declared.net.socket_addr.SocketAddr.{SocketAddr}
use Rattle.std.specs.Net.Addr.{ipv4_octets, ipv6_octets}
use Rattle.std.specs.Net.Socket.{socket_ip}
use Rattle.is_candidate.specs.Addresses.{protocol_number}
use Rattle.is_candidate.specs.Kinds.{kind_number}
use Rattle.is_candidate.specs.Candidates.{CandidateRecord, base_of}
use Rattle.is_candidate.specs.Priorities.{candidate_priority}

-- one byte is xored in, and the product is taken modulo 2 ^ 64
abbrev pub fnv_step : ℕ → ℕ → ℕ
fnv_step hash byte = (bit_xor hash byte * 0x100000001B3) % 2 ^ 64

-- FNV-1a in 64 bits, from the hash of the bytes before
abbrev pub fnv_from : ℕ → List ℕ → ℕ
fnv_from hash bytes = fold fnv_step hash bytes

-- FNV-1a in 64 bits
abbrev pub fnv : List ℕ → ℕ
fnv bytes = fnv_from 0xCBF29CE484222325 bytes

-- the IP version and the bytes of an address
abbrev pub ip_bytes : IpAddr → List ℕ
ip_bytes (Ip.V4 a) = 4 ∷ ipv4_octets a
ip_bytes (Ip.V6 a) = 6 ∷ ipv6_octets a

-- the IP version and the bytes of a related address, or a zero if there is none
abbrev pub related_bytes : Option SocketAddr → List ℕ
related_bytes (Some a) = ip_bytes (socket_ip a)
related_bytes None = 0 ∷ []

-- what candidates of one foundation have in common: kind, base, server, protocol
abbrev pub common_bytes : CandidateRecord → List ℕ
common_bytes c =
    kind_number c.kind ∷ (ip_bytes (socket_ip (base_of c)) ++ (related_bytes c.raddr ++ (protocol_number c.proto ∷ [])))

-- lower hexadecimal digits, with zeros before them up to eight
abbrev pub eight_digits : ℕ → List ℕ
eight_digits n = replicate (8 - length (digits 16 false n)) 48 ++ digits 16 false n

unfoldable pub computed_foundation : CandidateRecord → List ℕ
computed_foundation c = eight_digits (swap_bytes w32 (candidate_priority c)) ++ digits 16 false (fnv (common_bytes c))

abbrev pub foundation_of : CandidateRecord → List ℕ
foundation_of c = unwrap_or c.foundation (computed_foundation c)
