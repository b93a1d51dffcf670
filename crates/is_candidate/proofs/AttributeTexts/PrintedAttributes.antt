-- A printed candidate attribute reads as the candidate that it describes.
use Rattle.std.proofs.lemmas.Str.Parse.{digit_at}
use Rattle.std.proofs.NetLemmas.Texts.{IsDotted-ipv4_text, IsColonHex-ipv6_text}
use Rattle.std.specs.Str.Parse.{without_leading_plus}
use Rattle.std.specs.declared.net.ip_addr.IpAddr.TheVariants as Ip
use Rattle.std.specs.declared.net.socket_addr.SocketAddr.TheVariants.{V4, V6}
use Rattle.std.specs.Net.Addr.{IsIpv4Addr, IsIpv6Addr, MatchIp}
use Rattle.std.specs.Net.Socket.{socket_ip, socket_port}
use Rattle.std.specs.Net.Text.{ip_text}
use Rattle.is_candidate.specs.Making.{signalled_candidate}
use Rattle.is_candidate.specs.Sdp.{front_text, place_text, related_text, role_text, fragment_text, sdp_text}
use Rattle.is_candidate.proofs.Common.{[], ◌++◌, ◌<◌, ◌^◌, ◌∙◌, ◌∷◌, ◌≡◌, Active, Answer, ap, append-nil, append_assoc, arith, as_signalled}
use Rattle.is_candidate.proofs.Common.{candidate_priority, CandidateRecord, codes, computed_foundation, cond, decimal, decimal_is_IsNumeral}
use Rattle.is_candidate.proofs.Common.{drop, foundation_of, get_or, HasPlainTexts, IfSome, inl, inr, IpAddr, IsIpText, IsNumberBelow}
use Rattle.is_candidate.proofs.Common.{IsWord, Keys, kind_word, LineRoundTrips, List, ne_eqb, no_keys, None, Ok, Option, PartsFit, Passive}
use Rattle.is_candidate.proofs.Common.{Protocol, protocol_word, ReadsHead, ReadsKeys, ReadsPlace, ReadsWords, refl, related_address}
use Rattle.is_candidate.proofs.Common.{reported_address, reported_related, So, SocketAddr, Some, Spells, SslTcp, sym, Tcp, tcp_type_word}
use Rattle.is_candidate.proofs.Common.{TcpType, Tls, Udp, unwrap_or, ℕ}
use Rattle.is_candidate.proofs.AttributeTexts.PlainWords.{decimal_word, foundation_word, ip_word, protocol_is_word, role_is_word}
use Rattle.is_candidate.proofs.AttributeTexts.PlainWords.{kind_is_word, typ_is_word, raddr_is_word, rport_is_word, tcptype_is_word}
use Rattle.is_candidate.proofs.AttributeTexts.PlainWords.{ufrag_is_word}
use Rattle.is_candidate.proofs.AttributeTexts.SpacedWords.{AllWords, spaced, all_words-append, spaced-append, line_words}

-- ---- each word reads

ip_reads : (ip : IpAddr) → MatchIp ip IsIpv4Addr IsIpv6Addr → IsIpText (ip_text ip) ip
ip_reads (Ip.V4 a) fits = IsDotted-ipv4_text _ fits.0 fits.1
ip_reads (Ip.V6 a) fits = IsColonHex-ipv6_text _ fits.0 fits.1

without_plus : (word : List ℕ) → (get_or word 0 0 ≡ 43 → ⊥) → without_leading_plus word ≡ word
without_plus word other = ap (λ b. drop (cond b 1 0) word) (ne_eqb (get_or word 0 0) 43 other)

number_reads : (bound n : ℕ) → n < bound → n < 2 ^ 64 → IsNumberBelow bound (decimal n) n
number_reads bound n below fits =
    let number = decimal_is_IsNumeral n fits in
    let first = digit_at (decimal n) 0 number.0.1 number.0.0 in
    rw (without_plus (decimal n) (λ plus. omega arith)) (number.0, number.1, below)

protocol_reads : (p : Protocol) → Spells (protocol_word p) (protocol_word p)
protocol_reads Udp = refl
protocol_reads Tcp = refl
protocol_reads SslTcp = refl
protocol_reads Tls = refl

role_reads : (t : TcpType) → Spells (tcp_type_word t) (tcp_type_word t)
role_reads Active = refl
role_reads Passive = refl
role_reads So = refl

-- ---- what may be there: the words of each part, its text, and its reading from the keys before

related_words : Option SocketAddr → List (List ℕ)
related_words (Some a) = codes "raddr" ∷ ip_text (socket_ip a) ∷ codes "rport" ∷ decimal (socket_port a) ∷ []
related_words None = []

role_words : Option TcpType → List (List ℕ)
role_words (Some t) = codes "tcptype" ∷ tcp_type_word t ∷ []
role_words None = []

fragment_words : Option (List ℕ) → List (List ℕ)
fragment_words (Some u) = codes "ufrag" ∷ u ∷ []
fragment_words None = []

related_spells : (raddr : Option SocketAddr) → related_text raddr ≡ spaced (related_words raddr)
unfolding related_text related_words
related_spells (Some a) =
    let ip = ip_text (socket_ip a) in
    let port = decimal (socket_port a) in
    append_assoc (codes " raddr " ++ ip) (codes " rport ") port ∙ append_assoc (codes " raddr ") ip (codes " rport " ++ port)
    ∙ ap (λ l. codes " raddr " ++ (ip ++ (codes " rport " ++ l))) (sym (append-nil port))
related_spells None = refl

role_spells : (tcptype : Option TcpType) → role_text tcptype ≡ spaced (role_words tcptype)
unfolding role_text role_words
role_spells (Some t) = ap (λ l. codes " tcptype " ++ l) (sym (append-nil (tcp_type_word t)))
role_spells None = refl

fragment_spells : (ufrag : Option (List ℕ)) → fragment_text ufrag ≡ spaced (fragment_words ufrag)
unfolding fragment_text fragment_words
fragment_spells (Some u) = ap (λ l. codes " ufrag " ++ l) (sym (append-nil u))
fragment_spells None = refl

related_are_words : (raddr : Option SocketAddr) → IfSome raddr PartsFit → AllWords (related_words raddr)
unfolding related_words
related_are_words (Some a) fits =
    (raddr_is_word, (ip_word _ _ (ip_reads (socket_ip a) fits.0), (rport_is_word, (decimal_word (socket_port a) (omega (arith, fits.1)), tt))))
related_are_words None fits = tt

role_are_words : (tcptype : Option TcpType) → AllWords (role_words tcptype)
unfolding role_words
role_are_words (Some t) = (tcptype_is_word, (role_is_word t, tt))
role_are_words None = tt

fragment_are_words : (ufrag : Option (List ℕ)) → IfSome ufrag IsWord → AllWords (fragment_words ufrag)
unfolding fragment_words
fragment_are_words (Some u) plain = (ufrag_is_word, (plain, tt))
fragment_are_words None plain = tt

related_ip : Option SocketAddr → Option IpAddr
related_ip (Some a) = Some (socket_ip a)
related_ip None = None

related_port : Option SocketAddr → Option ℕ
related_port (Some a) = Some (socket_port a)
related_port None = None

related_read : (raddr : Option SocketAddr) (words : List (List ℕ)) (r : Answer Keys) → IfSome raddr PartsFit
    → ReadsKeys (record { raddr = related_ip raddr; rport = related_port raddr; tcptype = None; ufrag = None }) words r
    → ReadsKeys no_keys (related_words raddr ++ words) r
unfolding related_words related_ip related_port
related_read (Some a) words r fits more = (
  Ok record { raddr = Some (socket_ip a); rport = None; tcptype = None; ufrag = None },
  inl (socket_ip a, ip_reads (socket_ip a) fits.0, refl),
  (
    Ok record { raddr = Some (socket_ip a); rport = Some (socket_port a); tcptype = None; ufrag = None },
    inl (socket_port a, number_reads (2 ^ 16) (socket_port a) fits.1 (omega (arith, fits.1)), refl),
    more,
  ),
)
related_read None words r fits more = more

role_read : (ip : Option IpAddr) (port : Option ℕ) (tcptype : Option TcpType) (words : List (List ℕ)) (r : Answer Keys)
    → ReadsKeys (record { raddr = ip; rport = port; tcptype = tcptype; ufrag = None }) words r
    → ReadsKeys (record { raddr = ip; rport = port; tcptype = None; ufrag = None }) (role_words tcptype ++ words) r
unfolding role_words
role_read ip port (Some t) words r more =
    (Ok record { raddr = ip; rport = port; tcptype = Some t; ufrag = None }, inl (t, role_reads t, refl), more)
role_read ip port None words r more = more

fragment_read : (ip : Option IpAddr) (port : Option ℕ) (tcptype : Option TcpType) (ufrag : Option (List ℕ))
    → ReadsKeys (record { raddr = ip; rport = port; tcptype = tcptype; ufrag = None }) (fragment_words ufrag)
    (Ok record { raddr = ip; rport = port; tcptype = tcptype; ufrag = ufrag })
unfolding fragment_words
fragment_read ip port tcptype (Some u) = (Ok record { raddr = ip; rport = port; tcptype = tcptype; ufrag = Some u }, refl, refl)
fragment_read ip port tcptype None = refl

-- ---- all that may be there

key_words : CandidateRecord → List (List ℕ)
key_words c = related_words c.raddr ++ (role_words c.tcptype ++ fragment_words c.ufrag)

keys_of : CandidateRecord → Keys
keys_of c = record { raddr = related_ip c.raddr; rport = related_port c.raddr; tcptype = c.tcptype; ufrag = c.ufrag }

keys_read : (c : CandidateRecord) → IfSome c.raddr PartsFit → ReadsKeys no_keys (key_words c) (Ok (keys_of c))
unfolding key_words keys_of
keys_read c fits =
    related_read c.raddr (role_words c.tcptype ++ fragment_words c.ufrag) _ fits
    (role_read (related_ip c.raddr) (related_port c.raddr) c.tcptype (fragment_words c.ufrag) _
    (fragment_read (related_ip c.raddr) (related_port c.raddr) c.tcptype c.ufrag))

keys_are_words : (c : CandidateRecord) → IfSome c.raddr PartsFit → IfSome c.ufrag IsWord → AllWords (key_words c)
unfolding key_words
keys_are_words c fits plain =
    all_words-append (related_words c.raddr) (role_words c.tcptype ++ fragment_words c.ufrag) (related_are_words c.raddr fits)
    (all_words-append (role_words c.tcptype) (fragment_words c.ufrag) (role_are_words c.tcptype) (fragment_are_words c.ufrag plain))

keys_spell : (c : CandidateRecord) → related_text c.raddr ++ (role_text c.tcptype ++ fragment_text c.ufrag) ≡ spaced (key_words c)
unfolding key_words
keys_spell c =
    rw (spaced-append (related_words c.raddr) (role_words c.tcptype ++ fragment_words c.ufrag), spaced-append (role_words c.tcptype) (fragment_words c.ufrag))
    rw (related_spells c.raddr, role_spells c.tcptype, fragment_spells c.ufrag) refl

-- ---- the whole line

place_words : CandidateRecord → List (List ℕ)
place_words c = ip_text (socket_ip c.addr) ∷ decimal (socket_port c.addr) ∷ codes "typ" ∷ kind_word c.kind ∷ key_words c

head_words : CandidateRecord → List (List ℕ)
head_words c = decimal c.component ∷ protocol_word c.proto ∷ decimal (candidate_priority c) ∷ place_words c

place_read : (c : CandidateRecord) → PartsFit c.addr
    → ReadsPlace (place_words c) (Ok record { ip = socket_ip c.addr; port = socket_port c.addr; kind = c.kind })
unfolding place_words
place_read c fits =
    inl (
      socket_ip c.addr,
      ip_reads (socket_ip c.addr) fits.0,
      inl (socket_port c.addr, number_reads (2 ^ 16) (socket_port c.addr) fits.1 (omega (arith, fits.1)), inl (c.kind, refl, refl)),
    )

head_read : (c : CandidateRecord) → c.component < 2 ^ 16 → candidate_priority c < 2 ^ 32
    → ReadsHead (foundation_of c ∷ head_words c) (Ok record { foundation = foundation_of c; component = c.component; proto = c.proto; priority = candidate_priority c })
unfolding head_words
head_read c component priority =
    inl (
      c.component,
      number_reads (2 ^ 16) c.component component (omega (arith, component)),
      inl (
        c.proto,
        protocol_reads c.proto,
        inl (candidate_priority c, number_reads (2 ^ 32) (candidate_priority c) priority (omega (arith, priority)), refl),
      ),
    )

related_reported : (raddr : Option SocketAddr) → related_address (related_ip raddr) (related_port raddr) ≡ reported_related raddr
unfolding related_ip related_port
related_reported (Some a) = refl
related_reported None = refl

words_read : (c : CandidateRecord) → c.component < 2 ^ 16 → candidate_priority c < 2 ^ 32 → PartsFit c.addr → IfSome c.raddr PartsFit
    → ReadsWords (foundation_of c ∷ head_words c) (Ok (as_signalled c))
unfolding head_words place_words keys_of
words_read c component priority addr raddr = (
  Ok record { foundation = foundation_of c; component = c.component; proto = c.proto; priority = candidate_priority c },
  head_read c component priority,
  (
    Ok record { ip = socket_ip c.addr; port = socket_port c.addr; kind = c.kind },
    place_read c addr,
    (
      Ok (keys_of c),
      keys_read c raddr,
      λ i. Ok (signalled_candidate (foundation_of c) c.component c.proto (candidate_priority c) (reported_address c.addr) c.kind (sym (related_reported c.raddr) i) c.tcptype c.ufrag),
    ),
  ),
)

given_is_word : (given : Option (List ℕ)) (computed : List ℕ) → IfSome given IsWord → IsWord computed → IsWord (unwrap_or given computed)
given_is_word (Some text) computed plain other = plain
given_is_word None computed plain other = other

head_are_words : (c : CandidateRecord) → c.component < 2 ^ 16 → candidate_priority c < 2 ^ 32 → PartsFit c.addr → AllWords (key_words c) → AllWords (head_words c)
unfolding head_words place_words
head_are_words c component priority addr keys = (
  decimal_word c.component (omega (arith, component)),
  (
    protocol_is_word c.proto,
    (
      decimal_word (candidate_priority c) (omega (arith, priority)),
      (ip_word _ _ (ip_reads (socket_ip c.addr) addr.0), (decimal_word (socket_port c.addr) (omega (arith, addr.1)), (typ_is_word, (kind_is_word c.kind, keys)))),
    ),
  ),
)

joined : (prefix space typ foundation component proto priority ip port kind more : List ℕ)
    → (prefix ++ foundation ++ space ++ component ++ space ++ proto ++ space ++ priority) ++ (space ++ ip ++ space ++ port ++ typ ++ kind) ++ more
    ≡ prefix ++ (foundation ++ (space ++ (component ++ (space ++ (proto ++ (space ++ (priority ++ (space ++ (ip ++ (space ++ (port ++ (typ ++ (kind ++ more)))))))))))))
joined prefix space typ foundation component proto priority ip port kind more = simp append_assoc

line_spells : (c : CandidateRecord) → sdp_text c ≡ codes "candidate:" ++ (foundation_of c ++ spaced (head_words c))
unfolding front_text place_text head_words place_words
line_spells c =
    let front = front_text c ++ place_text c in
    let related = related_text c.raddr in
    append_assoc (front ++ related) (role_text c.tcptype) (fragment_text c.ufrag)
    ∙ append_assoc front related (role_text c.tcptype ++ fragment_text c.ufrag)
    ∙ ap (λ l. front ++ l) (keys_spell c)
    ∙ joined (codes "candidate:") (codes " ") (codes " typ ") (foundation_of c) (decimal c.component) (protocol_word c.proto) (decimal (candidate_priority c)) (ip_text (socket_ip c.addr))
    (decimal (socket_port c.addr)) (kind_word c.kind) (spaced (key_words c))

-- ---- what is read prints the same

reported_ip : (a : SocketAddr) → socket_ip (reported_address a) ≡ socket_ip a
reported_ip (V4 a) = refl
reported_ip (V6 a) = refl

reported_port : (a : SocketAddr) → socket_port (reported_address a) ≡ socket_port a
reported_port (V4 a) = refl
reported_port (V6 a) = refl

front_same : (c : CandidateRecord) → front_text (as_signalled c) ≡ front_text c
unfolding front_text
front_same c = refl

place_same : (c : CandidateRecord) → place_text (as_signalled c) ≡ place_text c
unfolding place_text
place_same c = λ i. codes " " ++ ip_text (reported_ip c.addr i) ++ codes " " ++ decimal (reported_port c.addr i) ++ codes " typ " ++ kind_word c.kind

related_same : (raddr : Option SocketAddr) → related_text (reported_related raddr) ≡ related_text raddr
unfolding related_text
related_same (Some a) = λ i. codes " raddr " ++ ip_text (reported_ip a i) ++ codes " rport " ++ decimal (reported_port a i)
related_same None = refl

same_line : (c : CandidateRecord) → sdp_text (as_signalled c) ≡ sdp_text c
same_line c = λ i. front_same c i ++ place_same c i ++ related_same c.raddr i ++ role_text c.tcptype ++ fragment_text c.ufrag

pub reads_back : (c : CandidateRecord) → c.component < 2 ^ 16 → candidate_priority c < 2 ^ 32 → PartsFit c.addr → IfSome c.raddr PartsFit
    → HasPlainTexts c → LineRoundTrips c
reads_back c component priority addr raddr plain =
    let keys = keys_are_words c raddr plain.1 in
    let foundation = given_is_word c.foundation (computed_foundation c) plain.0 (foundation_word c) in (
      inr (
        foundation_of c ++ spaced (head_words c),
        foundation_of c ∷ head_words c,
        line_spells c,
        line_words (foundation_of c) (head_words c) foundation (head_are_words c component priority addr keys),
        words_read c component priority addr raddr,
      ),
      same_line c,
    )
