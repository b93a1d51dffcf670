-- An address that is read from its bits is the one with these bits.
use Rattle.std.specs.declared.net.ipv4_addr.Ipv4Addr.{Ipv4Addr}
use Rattle.std.specs.declared.net.ipv6_addr.Ipv6Addr.{Ipv6Addr}
use Rattle.is_stun.proofs.Common.{◌∙◌, ◌≡◌, ap, ipv4_socket, ipv6_socket, IsIpv4OfBits, IsIpv6OfBits, List, SocketAddrV4, SocketAddrV6, V4}
use Rattle.is_stun.proofs.Common.{v4_ip, v4_port, V6, v6_flowinfo, v6_ip, v6_port, v6_scope_id, ℕ}

pub ipv4_socket-is : (bits port : ℕ) (s : SocketAddrV4) (a : Ipv4Addr) → IsIpv4OfBits a bits → v4_ip s ≡ a → v4_port s ≡ port → V4 s ≡ ipv4_socket bits port
unfolding IsIpv4OfBits
ipv4_socket-is bits port s a of_bits ip-is port-is =
    ap (λ (i : Ipv4Addr). V4 (record { ip = i; port = v4_port s })) ip-is
    ∙ ap (λ (p : ℕ). V4 (record { ip = a; port = p })) port-is
    ∙ ap (λ (octets : List ℕ). V4 (record { ip = record { octets = octets }; port = port })) of_bits

pub ipv6_socket-is : (bits port : ℕ) (s : SocketAddrV6) (a : Ipv6Addr) → IsIpv6OfBits a bits → v6_ip s ≡ a → v6_port s ≡ port → v6_flowinfo s ≡ 0 → v6_scope_id s ≡ 0 → V6 s ≡ ipv6_socket bits port
unfolding IsIpv6OfBits
ipv6_socket-is bits port s a of_bits ip-is port-is flow scope =
    ap (λ (i : Ipv6Addr). V6 (record { ip = i; port = v6_port s; flowinfo = v6_flowinfo s; scope_id = v6_scope_id s })) ip-is
    ∙ ap (λ (p : ℕ). V6 (record { ip = a; port = p; flowinfo = v6_flowinfo s; scope_id = v6_scope_id s })) port-is
    ∙ ap (λ (f : ℕ). V6 (record { ip = a; port = port; flowinfo = f; scope_id = v6_scope_id s })) flow
    ∙ ap (λ (n : ℕ). V6 (record { ip = a; port = port; flowinfo = 0; scope_id = n })) scope
    ∙ ap (λ (segments : List ℕ). V6 (record { ip = record { segments = segments }; port = port; flowinfo = 0; scope_id = 0 })) of_bits
