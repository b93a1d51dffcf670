-- Tests of protocols and addresses, and the addresses that a candidate may have.
use Rattle.std.specs.Prelude.{ℕ, ◌==◌, ◌&&◌, ◌||◌, Bool, true, false, not, nat_le, [], ◌∷◌, take, bytes_eq, slice_index, Option, Some, None}
use Rattle.std.specs.declared.net.ip_addr.IpAddr.{IpAddr}
use Rattle.std.specs.declared.net.ip_addr.IpAddr.TheVariants as Ip
use Rattle.std.specs.declared.net.socket_addr.SocketAddr.{SocketAddr}
use Rattle.std.specs.declared.net.socket_addr.SocketAddr.TheVariants.{V4, V6}
use Rattle.std.specs.Net.Addr.{ipv4_octets, ipv6_segments, is_ipv4}
use Rattle.std.specs.Net.Socket.{socket_ip, v4_ip, v4_port, v6_ip, v6_port, v6_flowinfo, v6_scope_id}
use Rattle.is_proto.specs.declared.proto.Protocol.{Protocol}
use Rattle.is_proto.specs.declared.proto.Protocol.TheVariants.{Udp, Tcp, SslTcp, Tls}

-- the number of a protocol in a foundation's hash
abbrev pub protocol_number : Protocol → ℕ
protocol_number Udp = 0
protocol_number Tcp = 1
protocol_number SslTcp = 2
protocol_number Tls = 3

abbrev pub same_protocol : Protocol → Protocol → Bool
same_protocol a b = protocol_number a == protocol_number b

-- The addresses are equal in every part.
abbrev pub same_address : SocketAddr → SocketAddr → Bool
same_address (V4 a) (V4 b) = bytes_eq (ipv4_octets (v4_ip a)) (ipv4_octets (v4_ip b)) && v4_port a == v4_port b
same_address (V6 a) (V6 b) =
    bytes_eq (ipv6_segments (v6_ip a)) (ipv6_segments (v6_ip b)) && v6_port a == v6_port b
    && v6_flowinfo a == v6_flowinfo b && v6_scope_id a == v6_scope_id b
same_address (V4 a) (V6 b) = false
same_address (V6 a) (V4 b) = false

abbrev pub same_optional : {X : Type 0} → (X → X → Bool) → Option X → Option X → Bool
same_optional same None None = true
same_optional same (Some a) (Some b) = same a b
same_optional same None (Some b) = false
same_optional same (Some a) None = false

abbrev pub is_v4 : SocketAddr → Bool
is_v4 a = is_ipv4 (socket_ip a)

-- the addresses have the same IP version
abbrev pub same_version : SocketAddr → SocketAddr → Bool
same_version (V4 a) (V4 b) = true
same_version (V6 a) (V6 b) = true
same_version (V4 a) (V6 b) = false
same_version (V6 a) (V4 b) = false

-- an address and a port, with no flow information and no scope
abbrev pub plain_socket : IpAddr → ℕ → SocketAddr
plain_socket (Ip.V4 a) port = V4 record { ip = a; port = port }
plain_socket (Ip.V6 a) port = V6 record { ip = a; port = port; flowinfo = 0; scope_id = 0 }

-- the unspecified address of the same IP version, with port 0
abbrev pub unspecified_like : SocketAddr → SocketAddr
unspecified_like (V4 a) = V4 record { ip = record { octets = 0 ∷ 0 ∷ 0 ∷ 0 ∷ [] }; port = 0 }
unspecified_like (V6 a) =
    V6 record {
      ip = record { segments = 0 ∷ 0 ∷ 0 ∷ 0 ∷ 0 ∷ 0 ∷ 0 ∷ 0 ∷ [] };
      port = 0;
      flowinfo = 0;
      scope_id = 0;
    }

-- an address that a candidate may have: no link-local IPv4 one, and none that is broadcast, multicast or unspecified
abbrev pub is_valid_ip : IpAddr → Bool
is_valid_ip (Ip.V4 a) =
    not (bytes_eq (take 2 (ipv4_octets a)) (169 ∷ 254 ∷ []))
    && not (bytes_eq (ipv4_octets a) (255 ∷ 255 ∷ 255 ∷ 255 ∷ []))
    && not (nat_le 224 (slice_index (ipv4_octets a) 0) && nat_le (slice_index (ipv4_octets a) 0) 239)
    && not (bytes_eq (ipv4_octets a) (0 ∷ 0 ∷ 0 ∷ 0 ∷ []))
is_valid_ip (Ip.V6 a) =
    not (nat_le 0xff00 (slice_index (ipv6_segments a) 0) && nat_le (slice_index (ipv6_segments a) 0) 0xffff)
    && not (bytes_eq (ipv6_segments a) (0 ∷ 0 ∷ 0 ∷ 0 ∷ 0 ∷ 0 ∷ 0 ∷ 0 ∷ []))

-- private (10/8, 172.16/12 and 192.168/16, RFC 1918), shared (100.64/10, RFC 6598), loopback (127/8) or link-local (169.254/16)
abbrev pub is_inner_v4 : ℕ → ℕ → Bool
is_inner_v4 a b =
    a == 10 || (a == 172 && nat_le 16 b && nat_le b 31) || (a == 192 && b == 168)
    || (a == 100 && nat_le 64 b && nat_le b 127) || a == 127 || (a == 169 && b == 254)

-- An address that is routed on the Internet: of IPv4, one that is no inner one; of IPv6, one of 2000::/3 (RFC 4291, 2.4; RFC 3587).
abbrev pub is_public : IpAddr → Bool
is_public (Ip.V4 a) = not (is_inner_v4 (slice_index (ipv4_octets a) 0) (slice_index (ipv4_octets a) 1))
is_public (Ip.V6 a) = nat_le 0x2000 (slice_index (ipv6_segments a) 0) && nat_le (slice_index (ipv6_segments a) 0) 0x3fff
