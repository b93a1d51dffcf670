-- A text has one reading: one candidate, or one first fault.
use Rattle.std.proofs.NetLemmas.Theorems.{IsIpText_unique}
use Rattle.is_candidate.proofs.Common.{[], ◌^◌, ◌∙◌, ◌∷◌, ◌≡◌, Active, Answer, ap, Bool, bytes_eq, CandidateKind, CandidateRecord, codes}
use Rattle.is_candidate.proofs.Common.{drop, Err, false, HasRest, HasWords, Head, Host, if◌then◌else◌, inl, inr, IpAddr, IsIpText}
use Rattle.is_candidate.proofs.Common.{IsNumberBelow, Keys, kind_word, List, MatchBool, MatchOption, no_keys, None, Ok, Option, Passive}
use Rattle.is_candidate.proofs.Common.{PeerReflexive, Place, Protocol, protocol_word, ReadsAs, ReadsComponent, ReadsHead, ReadsKey}
use Rattle.is_candidate.proofs.Common.{ReadsKeys, ReadsKind, ReadsPlace, ReadsPort, ReadsPriority, ReadsText, ReadsTransport, ReadsTyp}
use Rattle.is_candidate.proofs.Common.{ReadsWords, refl, Relayed, ServerReflexive, So, Some, Spells, SslTcp, subst, sym, TakesValue, Tcp}
use Rattle.is_candidate.proofs.Common.{tcp_type_word, TcpType, Then, Tls, true, Udp, ℕ}
use Rattle.is_candidate.proofs.AttributeTexts.UniqueWords.{has-words-unique}

-- ---- a word has one value

number-unique : (bound : ℕ) (word : List ℕ) (m n : ℕ) → IsNumberBelow bound word m → IsNumberBelow bound word n → m ≡ n
number-unique bound word m n a b = sym a.1 ∙ b.1

protocol_named : List ℕ → Protocol
protocol_named w =
    if bytes_eq w (codes "udp") then Udp else (if bytes_eq w (codes "tcp") then Tcp else (if bytes_eq w (codes "tls") then Tls else SslTcp))

named-protocol : (p : Protocol) → protocol_named (protocol_word p) ≡ p
unfolding protocol_named
named-protocol Udp = refl
named-protocol Tcp = refl
named-protocol SslTcp = refl
named-protocol Tls = refl

protocol-unique : (word : List ℕ) (p q : Protocol) → Spells word (protocol_word p) → Spells word (protocol_word q) → p ≡ q
protocol-unique word p q a b = sym (named-protocol p) ∙ ap protocol_named (sym a ∙ b) ∙ named-protocol q

tcp_type_named : List ℕ → TcpType
tcp_type_named w = if bytes_eq w (codes "active") then Active else (if bytes_eq w (codes "passive") then Passive else So)

named-tcp_type : (t : TcpType) → tcp_type_named (tcp_type_word t) ≡ t
unfolding tcp_type_named
named-tcp_type Active = refl
named-tcp_type Passive = refl
named-tcp_type So = refl

tcp_type-unique : (word : List ℕ) (t u : TcpType) → Spells word (tcp_type_word t) → Spells word (tcp_type_word u) → t ≡ u
tcp_type-unique word t u a b = sym (named-tcp_type t) ∙ ap tcp_type_named (sym a ∙ b) ∙ named-tcp_type u

kind_named : List ℕ → CandidateKind
kind_named w =
    if bytes_eq w (codes "host") then Host
    else (if bytes_eq w (codes "prflx") then PeerReflexive else (if bytes_eq w (codes "srflx") then ServerReflexive else Relayed))

named-kind : (k : CandidateKind) → kind_named (kind_word k) ≡ k
unfolding kind_named
named-kind Host = refl
named-kind PeerReflexive = refl
named-kind ServerReflexive = refl
named-kind Relayed = refl

kind-unique : (word : List ℕ) (k l : CandidateKind) → word ≡ kind_word k → word ≡ kind_word l → k ≡ l
kind-unique word k l a b = sym (named-kind k) ∙ ap kind_named (sym a ∙ b) ∙ named-kind l

-- ---- a rule gives one answer

reads-unique : {A R : Type 0} (Is : A → Type 0) (message : List ℕ) (r s : Answer R) (next next' : A → Type 0)
    → ((a b : A) → Is a → Is b → a ≡ b) → ((a : A) → next a → next' a → r ≡ s)
    → ReadsAs Is message r next → ReadsAs Is message s next' → r ≡ s
reads-unique Is message r s next next' one go (inl (a, i, n)) (inl (b, j, m)) =
    go a n (subst next' (sym (one a b i j)) m)
reads-unique Is message r s next next' one go (inl (a, i, n)) (inr (bare, e)) = absurd (bare a i)
reads-unique Is message r s next next' one go (inr (bare, e)) (inl (b, j, m)) = absurd (bare b j)
reads-unique Is message r s next next' one go (inr (bare, e)) (inr (bare', e')) = e ∙ sym e'

priority-unique : (f : List ℕ) (c : ℕ) (p : Protocol) (ws : List (List ℕ)) (r s : Answer Head) → ReadsPriority f c p ws r → ReadsPriority f c p ws s → r ≡ s
priority-unique f c p [] r s a b = a ∙ sym b
priority-unique f c p (w ∷ ws) r s a b =
    reads-unique (IsNumberBelow (2 ^ 32) w) _ r s _ _ (number-unique (2 ^ 32) w) (λ n x y. x ∙ sym y) a b

protocols-unique : (f : List ℕ) (c : ℕ) (ws : List (List ℕ)) (r s : Answer Head) → ReadsTransport f c ws r → ReadsTransport f c ws s → r ≡ s
protocols-unique f c [] r s a b = a ∙ sym b
protocols-unique f c (w ∷ ws) r s a b =
    reads-unique (λ (p : Protocol). Spells w (protocol_word p)) _ r s _ _ (protocol-unique w) (λ p. priority-unique f c p ws r s) a b

component-unique : (f : List ℕ) (ws : List (List ℕ)) (r s : Answer Head) → ReadsComponent f ws r → ReadsComponent f ws s → r ≡ s
component-unique f [] r s a b = a ∙ sym b
component-unique f (w ∷ ws) r s a b =
    reads-unique (IsNumberBelow (2 ^ 16) w) _ r s _ _ (number-unique (2 ^ 16) w) (λ n. protocols-unique f n ws r s) a b

head-unique : (ws : List (List ℕ)) (r s : Answer Head) → ReadsHead ws r → ReadsHead ws s → r ≡ s
head-unique [] r s a b = a ∙ sym b
head-unique (f ∷ ws) r s a b = component-unique f ws r s a b

kinds-unique : (ip : IpAddr) (port : ℕ) (ws : List (List ℕ)) (r s : Answer Place) → ReadsKind ip port ws r → ReadsKind ip port ws s → r ≡ s
kinds-unique ip port [] r s a b = a ∙ sym b
kinds-unique ip port (w ∷ ws) r s a b =
    reads-unique (λ (k : CandidateKind). w ≡ kind_word k) _ r s _ _ (kind-unique w) (λ k x y. x ∙ sym y) a b

-- a test that is made twice has one answer
match-unique : {P Q P' Q' G : Type 0} (b : Bool) → (P → P' → G) → (Q → Q' → G) → MatchBool b P Q → MatchBool b P' Q' → G
match-unique true held bare m n = held m n
match-unique false held bare m n = bare m n

typ-unique : (ip : IpAddr) (port : ℕ) (ws : List (List ℕ)) (r s : Answer Place) → ReadsTyp ip port ws r → ReadsTyp ip port ws s → r ≡ s
typ-unique ip port [] r s a b = a ∙ sym b
typ-unique ip port (w ∷ ws) r s a b =
    match-unique (bytes_eq w (codes "typ")) (kinds-unique ip port ws r s) (λ x y. x ∙ sym y) a b

port-unique : (ip : IpAddr) (ws : List (List ℕ)) (r s : Answer Place) → ReadsPort ip ws r → ReadsPort ip ws s → r ≡ s
port-unique ip [] r s a b = a ∙ sym b
port-unique ip (w ∷ ws) r s a b =
    reads-unique (IsNumberBelow (2 ^ 16) w) _ r s _ _ (number-unique (2 ^ 16) w) (λ n. typ-unique ip n ws r s) a b

place-unique : (ws : List (List ℕ)) (r s : Answer Place) → ReadsPlace ws r → ReadsPlace ws s → r ≡ s
place-unique [] r s a b = a ∙ sym b
place-unique (w ∷ ws) r s a b =
    reads-unique (IsIpText w) _ r s _ _ (IsIpText_unique w) (λ ip. port-unique ip ws r s) a b

takes-unique : {A : Type 0} (value : Option (List ℕ)) (Is : List ℕ → A → Type 0) (missing bad : List ℕ) (r s : Answer Keys) (with_value : A → Keys)
    → ((w : List ℕ) (a b : A) → Is w a → Is w b → a ≡ b) → TakesValue value Is missing bad r with_value → TakesValue value Is missing bad s with_value → r ≡ s
takes-unique None Is missing bad r s with_value one a b = a ∙ sym b
takes-unique (Some w) Is missing bad r s with_value one a b =
    reads-unique (Is w) bad r s (λ v. r ≡ Ok (with_value v)) (λ v. s ≡ Ok (with_value v)) (one w) (λ v x y. x ∙ sym y) a b

ufrag-unique : (value : Option (List ℕ)) (k : List ℕ → Answer Keys) (missing r s : Answer Keys)
    → MatchOption value (r ≡ missing) (λ w. r ≡ k w) → MatchOption value (s ≡ missing) (λ w. s ≡ k w) → r ≡ s
ufrag-unique None k missing r s a b = a ∙ sym b
ufrag-unique (Some w) k missing r s a b = a ∙ sym b

key-unique : (key : List ℕ) (value : Option (List ℕ)) (k : Keys) (r s : Answer Keys) → ReadsKey key value k r → ReadsKey key value k s → r ≡ s
key-unique key value k r s =
    match-unique (bytes_eq key (codes "raddr"))
    (takes-unique value IsIpText _ _ r s _ IsIpText_unique)
    (match-unique (bytes_eq key (codes "rport"))
    (takes-unique value (IsNumberBelow (2 ^ 16)) _ _ r s _ (number-unique (2 ^ 16)))
    (match-unique (bytes_eq key (codes "tcptype"))
    (takes-unique value (λ w (t : TcpType). Spells w (tcp_type_word t)) _ _ r s _ tcp_type-unique)
    (match-unique (bytes_eq key (codes "ufrag"))
    (ufrag-unique value (λ w. Ok (record k { ufrag = Some w })) (Err (codes "missing ufrag value")) r s)
    (λ x y. x ∙ sym y))))

then-unique : {A R : Type 0} (x y : Answer A) (r s : Answer R) (next next' : A → Type 0) → x ≡ y → ((a : A) → next a → next' a → r ≡ s)
    → Then x r next → Then y s next' → r ≡ s
then-unique {A} {R} x y r s next next' e go t u = same x r s next next' go t (let P : Answer A → Type 0 = λ v. Then v s next' in subst P (sym e) u)
  where
    same : {A R : Type 0} (x : Answer A) (r s : Answer R) (next next' : A → Type 0) → ((a : A) → next a → next' a → r ≡ s)
        → Then x r next → Then x s next' → r ≡ s
    same (Ok a) r s next next' go t u = go a t u
    same (Err m) r s next next' go t u = t ∙ sym u

keys-unique : (k : Keys) (ws : List (List ℕ)) (r s : Answer Keys) → ReadsKeys k ws r → ReadsKeys k ws s → r ≡ s
keys-unique k [] r s a b = a ∙ sym b
keys-unique k (key ∷ []) r s a b = key-unique key None k r s a b
keys-unique k (key ∷ value ∷ ws) r s (x, a, t) (y, b, u) =
    then-unique x y r s (λ n. ReadsKeys n ws r) (λ n. ReadsKeys n ws s) (key-unique key (Some value) k x y a b) (λ n. keys-unique n ws r s) t u

words-unique : (ws : List (List ℕ)) (r s : Answer CandidateRecord) → ReadsWords ws r → ReadsWords ws s → r ≡ s
words-unique ws r s (x, a, t) (y, b, u) =
    then-unique x y r s _ _ (head-unique ws x y a b)
    (λ h (p, c, v) (q, d, w). then-unique p q r s _ _ (place-unique (drop 4 ws) p q c d)
    (λ l (m, e, f) (n, g, z). then-unique m n r s _ _ (keys-unique no_keys (drop 8 ws) m n e g) (λ k x y. x ∙ sym y) f z) v w) t u

rest-unique : (text rest rest' : List ℕ) → HasRest text rest → HasRest text rest' → rest ≡ rest'
rest-unique text rest rest' a b = ap (drop 10) (sym a ∙ b)

pub text-unique : (text : List ℕ) (r s : Answer CandidateRecord) → ReadsText text r → ReadsText text s → r ≡ s
text-unique text r s (inl (bare, e)) (inl (bare', e')) = e ∙ sym e'
text-unique text r s (inl (bare, e)) (inr (rest, words, h, w, a)) = absurd (bare rest h)
text-unique text r s (inr (rest, words, h, w, a)) (inl (bare, e)) = absurd (bare rest h)
text-unique text r s (inr (rest, words, h, w, a)) (inr (rest', words', h', w', b)) =
    let P : List ℕ → Type 0 = λ t. HasWords t words' in
    let e = has-words-unique words words' rest w (subst P (sym (rest-unique text rest rest' h h')) w') in
    let Q : List (List ℕ) → Type 0 = λ ws. ReadsWords ws s in
    words-unique words r s a (subst Q (sym e) b)
