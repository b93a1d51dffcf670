-- The Boolean tests of addresses and protocols decide equality.
use Rattle.std.specs.declared.net.socket_addr.SocketAddrV4.{SocketAddrV4}
use Rattle.std.specs.declared.net.socket_addr.SocketAddrV6.{SocketAddrV6}
use Rattle.is_theorems.proofs.Common.{◌&&◌, ◌==◌, ◌∙◌, ◌≡◌, ap, Bool, bytes_eq, bytes_eq-Decides, eq-eqb, eqb-true, false, ipv4_octets}
use Rattle.is_theorems.proofs.Common.{ipv6_segments, List, Protocol, protocol_number, refl, same_address, same_protocol, SocketAddr, SslTcp}
use Rattle.is_theorems.proofs.Common.{suc, sym, Tcp, Tls, true, Udp, V4, v4_ip, v4_port, V6, v6_flowinfo, v6_ip, v6_port, v6_scope_id, zero}
use Rattle.is_theorems.proofs.Common.{ℕ}

-- two tests hold
pub both : (a b : Bool) → (a && b) ≡ true → (a ≡ true) × (b ≡ true)
both true b h = (refl, h)
both false b h = absurd (cc)

same_bytes : (a b : List ℕ) → bytes_eq a b ≡ true → a ≡ b
same_bytes a b h = (bytes_eq-Decides a b).0 h

v4 : (a b : SocketAddrV4) → ipv4_octets (v4_ip a) ≡ ipv4_octets (v4_ip b) → v4_port a ≡ v4_port b → a ≡ b
v4 a b octets port =
    ap (λ o. let x : SocketAddrV4 = record { ip = record { octets = o }; port = a.port } in x) octets
    ∙ ap (λ p. let x : SocketAddrV4 = record { ip = record { octets = b.ip.octets }; port = p } in x) port

v6 : (a b : SocketAddrV6) → ipv6_segments (v6_ip a) ≡ ipv6_segments (v6_ip b) → v6_port a ≡ v6_port b
    → v6_flowinfo a ≡ v6_flowinfo b → v6_scope_id a ≡ v6_scope_id b → a ≡ b
v6 a b segments port flow scope =
    ap (λ o. let x : SocketAddrV6 = record { ip = record { segments = o }; port = a.port; flowinfo = a.flowinfo; scope_id = a.scope_id } in x) segments
    ∙ ap (λ p. let x : SocketAddrV6 = record { ip = b.ip; port = p; flowinfo = a.flowinfo; scope_id = a.scope_id } in x) port
    ∙ ap (λ f. let x : SocketAddrV6 = record { ip = b.ip; port = b.port; flowinfo = f; scope_id = a.scope_id } in x) flow
    ∙ ap (λ i. let x : SocketAddrV6 = record { ip = b.ip; port = b.port; flowinfo = b.flowinfo; scope_id = i } in x) scope

pub same_address-sound : (a b : SocketAddr) → same_address a b ≡ true → a ≡ b
same_address-sound (V4 a) (V4 b) h =
    let k = both (bytes_eq (ipv4_octets (v4_ip a)) (ipv4_octets (v4_ip b))) (v4_port a == v4_port b) h in
    ap V4 (v4 a b (same_bytes _ _ k.0) (eqb-true _ _ k.1))
same_address-sound (V6 a) (V6 b) h =
    let k = both (bytes_eq (ipv6_segments (v6_ip a)) (ipv6_segments (v6_ip b)) && v6_port a == v6_port b && v6_flowinfo a == v6_flowinfo b) (v6_scope_id a == v6_scope_id b) h in
    let l = both (bytes_eq (ipv6_segments (v6_ip a)) (ipv6_segments (v6_ip b)) && v6_port a == v6_port b) (v6_flowinfo a == v6_flowinfo b) k.0 in
    let m = both (bytes_eq (ipv6_segments (v6_ip a)) (ipv6_segments (v6_ip b))) (v6_port a == v6_port b) l.0 in
    ap V6 (v6 a b (same_bytes _ _ m.0) (eqb-true _ _ m.1) (eqb-true _ _ l.1) (eqb-true _ _ k.1))
same_address-sound (V4 a) (V6 b) h = absurd (cc)
same_address-sound (V6 a) (V4 b) h = absurd (cc)

both-hold : (a b : Bool) → a ≡ true → b ≡ true → (a && b) ≡ true
both-hold true b one two = two
both-hold false b one two = cc

bytes-same : (a : List ℕ) → bytes_eq a a ≡ true
bytes-same a = (bytes_eq-Decides a a).1 refl

pub same_address-same : (a : SocketAddr) → same_address a a ≡ true
same_address-same (V4 a) = both-hold (bytes_eq (ipv4_octets (v4_ip a)) (ipv4_octets (v4_ip a))) (v4_port a == v4_port a) (bytes-same (ipv4_octets (v4_ip a))) (eq-eqb (v4_port a) (v4_port a) refl)
same_address-same (V6 a) =
    both-hold (bytes_eq (ipv6_segments (v6_ip a)) (ipv6_segments (v6_ip a)) && v6_port a == v6_port a && v6_flowinfo a == v6_flowinfo a) (v6_scope_id a == v6_scope_id a)
    (both-hold (bytes_eq (ipv6_segments (v6_ip a)) (ipv6_segments (v6_ip a)) && v6_port a == v6_port a) (v6_flowinfo a == v6_flowinfo a)
    (both-hold (bytes_eq (ipv6_segments (v6_ip a)) (ipv6_segments (v6_ip a))) (v6_port a == v6_port a) (bytes-same (ipv6_segments (v6_ip a))) (eq-eqb (v6_port a) (v6_port a) refl))
    (eq-eqb (v6_flowinfo a) (v6_flowinfo a) refl)) (eq-eqb (v6_scope_id a) (v6_scope_id a) refl)

-- the protocol of a number
numbered : ℕ → Protocol
numbered zero = Udp
numbered (suc zero) = Tcp
numbered (suc (suc zero)) = SslTcp
numbered (suc (suc (suc n))) = Tls

numbered-is : (p : Protocol) → numbered (protocol_number p) ≡ p
unfolding numbered
numbered-is Udp = refl
numbered-is Tcp = refl
numbered-is SslTcp = refl
numbered-is Tls = refl

pub same_protocol-sound : (a b : Protocol) → same_protocol a b ≡ true → a ≡ b
same_protocol-sound a b h = sym (numbered-is a) ∙ ap numbered (eqb-true (protocol_number a) (protocol_number b) h) ∙ numbered-is b
