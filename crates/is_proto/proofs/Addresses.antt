-- What is printed of an address writes that address, and has no `%`.
use Rattle.std.proofs.Common.{◌≡◌, ℕ, zero, suc, ◌^◌, ◌<◌, List, [], ◌∷◌, ◌++◌, length, get_or, take, drop, bytes_eq, decimal, codes, rules, All, refl, ap, subst, arith, inl, append_assoc}
use Rattle.std.proofs.lemmas.Bool.{cond_both}
use Rattle.std.proofs.lemmas.List.Elements.{All-nil, All-cons, All-append, All-weaker, All-from_get_or, All-from_recursion, All-contains}
use Rattle.std.proofs.lemmas.Fmt.{decimal_is_IsNumeral}
use Rattle.std.proofs.lemmas.Str.Parse.{digit_at}
use Rattle.std.proofs.NetLemmas.Alphabet.{IsDigitOrDot, IsHexOrColon, All-ipv4_text, All-hex_groups_text}
use Rattle.std.proofs.NetLemmas.Arrays.{eight_items}
use Rattle.std.proofs.NetLemmas.Texts.{AllSegments, IsDotted-ipv4_text, IsColonHex-ipv6_text, IsPortText-decimal}
use Rattle.std.specs.declared.net.ipv4_addr.Ipv4Addr.{Ipv4Addr}
use Rattle.std.specs.declared.net.ipv6_addr.Ipv6Addr.{Ipv6Addr}
use Rattle.std.specs.declared.net.ip_addr.IpAddr.TheVariants as Ip
use Rattle.std.specs.declared.net.socket_addr.SocketAddr.{SocketAddr}
use Rattle.std.specs.declared.net.socket_addr.SocketAddr.TheVariants.{V4, V6}
use Rattle.std.specs.Net.Addr.{ipv4_octets, ipv6_segments, octets_of, IsIpv4Addr, IsIpv6Addr}
use Rattle.std.specs.Net.Socket.{v4_ip, v4_port, v6_ip, v6_port, socket_ip, socket_port, IsSocketAddr}
use Rattle.std.specs.Net.Text.{ipv4_text, ipv6_text, hex_groups_text}
use Rattle.std.specs.Net.Grammar.{IsSocketText}
use Rattle.is_proto.specs.Sockets.{IsPlainSocketText, plain_socket_text, IsPlain}

-- the fields of an address are in range where its parts are
pub fits_v4 : (a : SocketAddr) (ip : Ipv4Addr) → Ip.V4 ip ≡ socket_ip a → IsIpv4Addr ip → socket_port a < 2 ^ 16 → IsSocketAddr a
fits_v4 (V4 a) ip same fits port =
    let e : ip ≡ v4_ip a = cc in
    (subst IsIpv4Addr e fits, port)
fits_v4 (V6 a) ip same fits port = absurd (cc)

pub fits_v6 : (a : SocketAddr) (ip : Ipv6Addr) → Ip.V6 ip ≡ socket_ip a → IsIpv6Addr ip → socket_port a < 2 ^ 16 → IsPlain a → IsSocketAddr a
fits_v6 (V4 a) ip same fits port plain = absurd (cc)
fits_v6 (V6 a) ip same fits port plain =
    let e : ip ≡ v6_ip a = cc in
    (subst IsIpv6Addr e fits, port, omega (arith, plain.1))

-- no `%`
abbrev Plain : ℕ → Type 0
Plain c = c ≡ 37 → ⊥

plain_decimal : (n : ℕ) → n < 2 ^ 16 → All Plain (decimal n)
plain_decimal n fits = All-from_get_or Plain (decimal n) 0 λ i h same.
    let range = digit_at (decimal n) i (decimal_is_IsNumeral n (omega arith)).0.1 h in omega arith

plain_dotted : (o : List ℕ) → ((k : ℕ) → get_or o k 0 < 2 ^ 8) → All Plain (ipv4_text o)
plain_dotted o fits = All-weaker IsDigitOrDot Plain (λ c h same. omega arith) (ipv4_text o) (All-ipv4_text o fits)

octets_fit : (g h : ℕ) → g < 2 ^ 16 → h < 2 ^ 16 → (k : ℕ) → get_or (octets_of (g ∷ h ∷ [])) k 0 < 2 ^ 8
octets_fit g h high low zero = omega arith
octets_fit g h high low (suc zero) = omega arith
octets_fit g h high low (suc (suc zero)) = omega arith
octets_fit g h high low (suc (suc (suc zero))) = omega arith
octets_fit g h high low (suc (suc (suc (suc k)))) = omega arith

plain_mapped : All Plain (codes "::ffff:")
plain_mapped = All-from_recursion Plain (codes "::ffff:") (search rules)

plain_groups : (xs : List ℕ) → length xs ≡ 8 → AllSegments xs → All Plain (ipv6_text xs)
unfolding ipv6_text
plain_groups xs eight fits =
    let tail : drop 6 xs ≡ get_or xs 6 0 ∷ get_or xs 7 0 ∷ [] = ap (λ t. drop 6 t) (eight_items xs eight) in
    let octets : (k : ℕ) → get_or (octets_of (drop 6 xs)) k 0 < 2 ^ 8 = rw tail (octets_fit _ _ (fits 6) (fits 7)) in
    let is_mapped = bytes_eq (take 6 xs) (0 ∷ 0 ∷ 0 ∷ 0 ∷ 0 ∷ 0xffff ∷ []) in
    let mapped = ipv4_text (octets_of (drop 6 xs)) in
    cond_both is_mapped (codes "::ffff:" ++ mapped) (hex_groups_text xs) (All Plain)
    (λ _. All-append Plain (codes "::ffff:") mapped plain_mapped (plain_dotted (octets_of (drop 6 xs)) octets))
    (λ _. All-weaker IsHexOrColon Plain (λ c h same. omega arith) _ (All-hex_groups_text xs fits))

one : (c : ℕ) → Plain c → All Plain (c ∷ [])
one c plain = All-cons Plain c [] plain (All-nil Plain)

plain_text : (a : SocketAddr) → IsSocketAddr a → All Plain (plain_socket_text a)
plain_text (V4 a) fits =
    let ip = ipv4_text (ipv4_octets (v4_ip a)) in
    All-append Plain (ip ++ codes ":") (decimal (v4_port a))
    (All-append Plain ip (codes ":") (plain_dotted _ fits.0.1) (one 58 (λ same. omega arith)))
    (plain_decimal _ fits.1)
plain_text (V6 a) fits =
    let ip = ipv6_text (ipv6_segments (v6_ip a)) in
    let bracket = one 91 (λ same. omega arith) in
    let end = All-cons Plain 93 (58 ∷ []) (λ same. omega arith) (one 58 (λ same. omega arith)) in
    All-append Plain (codes "[" ++ ip ++ codes "]:") (decimal (v6_port a))
    (All-append Plain (codes "[" ++ ip) (codes "]:")
    (All-append Plain (codes "[") ip bracket (plain_groups _ fits.0.0 fits.0.1)) end)
    (plain_decimal _ fits.1)

writes : (a : SocketAddr) → IsSocketAddr a → IsPlain a → IsSocketText (plain_socket_text a) a
writes (V4 a) fits plain = (
  _,
  58 ∷ decimal (v4_port a),
  append_assoc (ipv4_text (ipv4_octets (v4_ip a))) (58 ∷ []) (decimal (v4_port a)),
  IsDotted-ipv4_text _ fits.0.0 fits.0.1,
  IsPortText-decimal _ fits.1,
)
writes (V6 a) fits plain = record {
  ip = ipv6_text (ipv6_segments (v6_ip a));
  scope = [];
  port = 58 ∷ decimal (v6_port a);
  spelled = simp append_assoc;
  ip_text = IsColonHex-ipv6_text _ fits.0.0 fits.0.1;
  scope_text = inl (refl, plain.1);
  port_text = IsPortText-decimal _ fits.1;
  no_flowinfo = plain.0;
}

pub writes_plainly : (a : SocketAddr) → IsSocketAddr a → IsPlain a → IsPlainSocketText (plain_socket_text a) a
writes_plainly a fits plain =
    (writes a fits plain, λ percent. All-contains Plain (plain_socket_text a) 37 (plain_text a fits) percent refl)
