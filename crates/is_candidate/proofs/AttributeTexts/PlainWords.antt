-- What is printed of numbers, foundations, addresses and names is one word each.
use Rattle.std.proofs.lemmas.Bool.{agree_below_at, cond_both}
use Rattle.std.proofs.lemmas.List.Elements.{All-nil, All-cons, All-head, All-tail, All-same, All-append, All-replicate, All-from_recursion}
use Rattle.std.proofs.lemmas.Str.{encodes-IsAscii}
use Rattle.std.specs.Fmt.{digits, digits_onto, digit_glyph}
use Rattle.std.specs.List.{AllByRecursion}
use Rattle.std.specs.Str.Parse.{AllDigits}
use Rattle.std.specs.declared.net.ip_addr.IpAddr.TheVariants as Ip
use Rattle.is_candidate.proofs.Common.{[], ◌%◌, ◌++◌, ◌+◌, ◌-◌, ◌/◌, ◌<◌, ◌==◌, ◌^◌, ◌∙◌, ◌∷◌, ◌≡◌, ◌≤◌, Active, All, ap, arith, Bool}
use Rattle.is_candidate.proofs.Common.{CandidateKind, CandidateRecord, codes, computed_foundation, decimal, decimal_is_IsNumeral}
use Rattle.is_candidate.proofs.Common.{digit_value, false, Host, inl, inr, IpAddr, is_whitespace, IsAscii, IsColonHex, IsDotted, IsGroups}
use Rattle.is_candidate.proofs.Common.{IsGroupsAfter, IsIpText, IsVisible, IsWord, kind_word, length, length-append, List, nat_tests}
use Rattle.is_candidate.proofs.Common.{NonePass, Passive, PeerReflexive, Protocol, protocol_word, refl, Relayed, replicate, rules}
use Rattle.is_candidate.proofs.Common.{ServerReflexive, So, SslTcp, suc, sym, Tcp, tcp_type_word, TcpType, Tls, true, Udp, zero, ℕ}

not_space : (c : ℕ) → IsVisible c → is_whitespace c ≡ false
not_space c visible =
    let same : c - 33 + 33 ≡ c = omega arith in
    ap is_whitespace (sym same) ∙ agree_below_at (λ k. is_whitespace (k + 33)) (λ k. false) 94 (c - 33) refl (omega arith)

none_space : (text : List ℕ) → All IsVisible text → NonePass is_whitespace text
none_space [] seen = tt
none_space (c ∷ cs) seen = (not_space c (All-head IsVisible c cs seen), none_space cs (All-tail IsVisible c cs seen))

all_ascii : (text : List ℕ) → All IsVisible text → IsAscii text
all_ascii [] seen i = omega arith
all_ascii (c ∷ cs) seen zero = omega (arith, All-head IsVisible c cs seen)
all_ascii (c ∷ cs) seen (suc i) = all_ascii cs (All-tail IsVisible c cs seen) i

pub visible_word : (text : List ℕ) → 0 < length text → All IsVisible text → IsWord text
visible_word text some seen = (some, (text, encodes-IsAscii text (all_ascii text seen), none_space text seen))

-- a text of visible characters that is written out here is a word
spelled_word : (text : List ℕ) → 0 < length text → AllByRecursion IsVisible text → IsWord text
spelled_word text some seen = visible_word text some (All-from_recursion IsVisible text seen)

-- ---- numbers

visible_digit : (c : ℕ) → digit_value c < 16 → IsVisible c
visible_digit c small = grind (arith, nat_tests)

visible_digits : (radix : ℕ) (ds : List ℕ) → radix ≤ 16 → AllDigits radix ds → All IsVisible ds
visible_digits radix [] low digits = All-nil IsVisible
visible_digits radix (c ∷ cs) low digits =
    All-cons IsVisible c cs (visible_digit c (omega (arith, digits.0))) (visible_digits radix cs low digits.1)

visible_decimal : (n : ℕ) → n < 2 ^ 64 → All IsVisible (decimal n)
visible_decimal n fits = visible_digits 10 (decimal n) (omega arith) (decimal_is_IsNumeral n fits).0.1

pub decimal_word : (n : ℕ) → n < 2 ^ 64 → IsWord (decimal n)
decimal_word n fits = visible_word (decimal n) (decimal_is_IsNumeral n fits).0.0 (visible_decimal n fits)

visible_glyph : (d : ℕ) → d < 16 → IsVisible (digit_glyph false d)
visible_glyph d small = grind (arith, nat_tests)

visible_onto : (k n : ℕ) (after : List ℕ) → All IsVisible after → All IsVisible (digits_onto k 16 false n after)
visible_onto zero n after seen = seen
visible_onto (suc k) n after seen =
    let more = All-cons IsVisible (digit_glyph false (n % 16)) after (visible_glyph (n % 16) (omega arith)) seen in
    let digit = digit_glyph false (n % 16) in
    cond_both (n / 16 == 0) (digit ∷ after) (digits_onto k 16 false (n / 16) (digit ∷ after)) (All IsVisible) (λ _. more)
    (λ _. visible_onto k (n / 16) (digit ∷ after) more)

longer_onto : (k n : ℕ) (after : List ℕ) → length after < length (digits_onto (suc k) 16 false n after)
longer_onto zero n after =
    let digit = digit_glyph false (n % 16) in
    cond_both (n / 16 == 0) (digit ∷ after) (digit ∷ after) (λ l. length after < length l) (λ _. omega arith) (λ _. omega arith)
longer_onto (suc k) n after =
    let digit = digit_glyph false (n % 16) in
    cond_both (n / 16 == 0) (digit ∷ after) (digits_onto (suc k) 16 false (n / 16) (digit ∷ after)) (λ l. length after < length l) (λ _. omega arith)
    (λ _. omega (arith, longer_onto k (n / 16) (digit ∷ after)))

visible_hex : (n : ℕ) → All IsVisible (digits 16 false n)
unfolding digits
visible_hex n = visible_onto 64 n [] (All-nil IsVisible)

some_hex : (n : ℕ) → 0 < length (digits 16 false n)
unfolding digits
some_hex n = longer_onto 63 n []

hexes : (m n k : ℕ) → IsWord (replicate k 48 ++ digits 16 false m ++ digits 16 false n)
hexes m n k =
    let front = replicate k 48 ++ digits 16 false m in
    visible_word (front ++ digits 16 false n) (omega (arith, length-append front (digits 16 false n), some_hex n))
    (All-append IsVisible front (digits 16 false n)
    (All-append IsVisible (replicate k 48) (digits 16 false m) (All-replicate IsVisible k 48 (omega arith)) (visible_hex m))
    (visible_hex n))

pub foundation_word : (c : CandidateRecord) → IsWord (computed_foundation c)
unfolding computed_foundation
foundation_word c = hexes _ _ _

-- ---- addresses: what the grammar takes is a word

visible_dotted : (text octets : List ℕ) → IsDotted text octets → All IsVisible text
visible_dotted text octets dotted =
    let dot : All IsVisible (codes ".") = All-from_recursion IsVisible (codes ".") (search rules) in
    let a = visible_decimal dotted.a (omega (arith, dotted.fit)) in
    let b = visible_decimal dotted.b (omega (arith, dotted.fit)) in
    let c = visible_decimal dotted.c (omega (arith, dotted.fit)) in
    let d = visible_decimal dotted.d (omega (arith, dotted.fit)) in
    All-same IsVisible text _ dotted.spelled
    (joined _ _ (joined _ _ (joined _ _ (joined _ _ (joined _ _ (joined _ _ a dot) b) dot) c) dot) d)
  where
    joined : (xs ys : List ℕ) → All IsVisible xs → All IsVisible ys → All IsVisible (xs ++ ys)
    joined = All-append IsVisible

dotted_some : (text octets : List ℕ) → IsDotted text octets → 0 < length text
dotted_some text octets dotted =
    let front = decimal dotted.a ++ codes "." ++ decimal dotted.b ++ codes "." ++ decimal dotted.c ++ codes "." in
    let last = decimal_word dotted.d (omega (arith, dotted.fit)) in
    omega (arith, ap length dotted.spelled, length-append front (decimal dotted.d), last.0)

visible_groups : (ipv4 : Bool) (lead text segments : List ℕ) → All IsVisible lead → IsGroupsAfter ipv4 lead text segments → All IsVisible text
visible_groups ipv4 lead text [] seen groups = All-same IsVisible text [] groups (All-nil IsVisible)
visible_groups ipv4 lead text (s ∷ segments) seen (inl (group, rest, spelled, is, more)) =
    let colon : All IsVisible (codes ":") = All-from_recursion IsVisible (codes ":") (search rules) in
    let first = All-append IsVisible lead group seen (visible_digits 16 group (omega arith) is.0.0.1) in
    All-same IsVisible text (lead ++ group ++ rest) spelled
    (All-append IsVisible (lead ++ group) rest first (visible_groups ipv4 (codes ":") rest segments colon more))
visible_groups ipv4 lead text (s ∷ segments) seen (inr (last, octets, may, spelled, dotted, value)) =
    All-same IsVisible text (lead ++ last) spelled (All-append IsVisible lead last seen (visible_dotted last octets dotted))

groups_some : (text segments : List ℕ) → IsGroups true text segments → 0 < length segments → 0 < length text
groups_some text [] groups some = absurd (omega arith)
groups_some text (s ∷ segments) (inl (group, rest, spelled, is, more)) some =
    omega (arith, ap length spelled, length-append group rest, is.0.0.0)
groups_some text (s ∷ segments) (inr (last, octets, may, spelled, dotted, value)) some =
    omega (arith, ap length spelled, dotted_some last octets dotted)

colon_hex_word : (text segments : List ℕ) → IsColonHex text segments → IsWord text
colon_hex_word text segments (inl (groups, eight)) =
    visible_word text (groups_some text segments groups (omega arith)) (visible_groups true [] text segments (All-nil IsVisible) groups)
colon_hex_word text segments (inr e) =
    let gap : All IsVisible (codes "::") = All-from_recursion IsVisible (codes "::") (search rules) in
    let head = visible_groups false [] e.head_text e.head (All-nil IsVisible) e.head_groups in
    let tail = visible_groups true [] e.tail_text e.tail (All-nil IsVisible) e.tail_groups in
    visible_word text
    (omega (arith, ap length e.spelled, length-append (e.head_text ++ codes "::") e.tail_text, length-append e.head_text (codes "::")))
    (All-same IsVisible text _ e.spelled (All-append IsVisible _ _ (All-append IsVisible _ _ head gap) tail))

pub ip_word : (text : List ℕ) (ip : IpAddr) → IsIpText text ip → IsWord text
ip_word text (Ip.V4 a) dotted = visible_word text (dotted_some text _ dotted) (visible_dotted text _ dotted)
ip_word text (Ip.V6 a) groups = colon_hex_word text _ groups

-- ---- names

pub protocol_is_word : (p : Protocol) → IsWord (protocol_word p)
protocol_is_word Udp = spelled_word (codes "udp") (omega arith) (search rules)
protocol_is_word Tcp = spelled_word (codes "tcp") (omega arith) (search rules)
protocol_is_word SslTcp = spelled_word (codes "ssltcp") (omega arith) (search rules)
protocol_is_word Tls = spelled_word (codes "tls") (omega arith) (search rules)

pub role_is_word : (t : TcpType) → IsWord (tcp_type_word t)
role_is_word Active = spelled_word (codes "active") (omega arith) (search rules)
role_is_word Passive = spelled_word (codes "passive") (omega arith) (search rules)
role_is_word So = spelled_word (codes "so") (omega arith) (search rules)

pub kind_is_word : (k : CandidateKind) → IsWord (kind_word k)
kind_is_word Host = spelled_word (codes "host") (omega arith) (search rules)
kind_is_word PeerReflexive = spelled_word (codes "prflx") (omega arith) (search rules)
kind_is_word ServerReflexive = spelled_word (codes "srflx") (omega arith) (search rules)
kind_is_word Relayed = spelled_word (codes "relay") (omega arith) (search rules)

pub typ_is_word : IsWord (codes "typ")
typ_is_word = spelled_word (codes "typ") (omega arith) (search rules)

pub raddr_is_word : IsWord (codes "raddr")
raddr_is_word = spelled_word (codes "raddr") (omega arith) (search rules)

pub rport_is_word : IsWord (codes "rport")
rport_is_word = spelled_word (codes "rport") (omega arith) (search rules)

pub tcptype_is_word : IsWord (codes "tcptype")
tcptype_is_word = spelled_word (codes "tcptype") (omega arith) (search rules)

pub ufrag_is_word : IsWord (codes "ufrag")
ufrag_is_word = spelled_word (codes "ufrag") (omega arith) (search rules)
