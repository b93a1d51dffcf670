-- The meaning of a candidate attribute, here: line (RFC 5245, section 15.1), word by word: a candidate, or the first
-- fault.
use Rattle.std.specs.Prelude.{◌≡◌, ℕ, ◌<◌, ◌^◌, ◌⊎◌, List, [], ◌∷◌, ◌++◌, codes, bytes_eq, drop, Option, Some, None, Result, Ok, Err}
use Rattle.std.specs.Prelude.{MatchBool, MatchOption}
use Rattle.std.specs.Str.Parse.{IsNumeral, digits_value, without_leading_plus}
use Rattle.std.specs.declared.net.ip_addr.IpAddr.{IpAddr}
use Rattle.std.specs.declared.net.socket_addr.SocketAddr.{SocketAddr}
use Rattle.std.specs.Net.Grammar.{IsIpText}
use Rattle.is_proto.specs.declared.proto.Protocol.{Protocol}
use Rattle.is_proto.specs.declared.proto.TcpType.{TcpType}
use Rattle.is_proto.specs.Words.{protocol_word, tcp_type_word, Spells}
use Rattle.is_candidate.specs.declared.candidate.kind.CandidateKind.{CandidateKind}
use Rattle.is_candidate.specs.Addresses.{plain_socket}
use Rattle.is_candidate.specs.Kinds.{kind_word}
use Rattle.is_candidate.specs.Candidates.{CandidateRecord}
use Rattle.is_candidate.specs.Making.{signalled_candidate}
use Rattle.is_candidate.specs.Words.{HasWords}

-- a result, or the message of a fault
abbrev pub Answer : Type 0 → Type 0
Answer A = Result A (List ℕ)

-- decimal digits, with or without leading zeros, after an optional plus, of a number below the bound
abbrev pub IsNumberBelow : ℕ → List ℕ → ℕ → Type 0
IsNumberBelow bound word n =
    IsNumeral 10 (without_leading_plus word) × (digits_value 10 (without_leading_plus word) ≡ n) × (n < bound)

-- the word parses as a value, and next continues with it; or it parses as none, and that is the fault
abbrev pub ReadsAs : {A R : Type 0} → (A → Type 0) → List ℕ → Answer R → (A → Type 0) → Type 0
ReadsAs {A} Is message r next = ((a : A) × Is a × next a) ⊎ (((a : A) → ¬ Is a) × (r ≡ Err message))

-- what follows a result: the next rule, or the fault
abbrev pub Then : {A R : Type 0} → Answer A → Answer R → (A → Type 0) → Type 0
Then (Ok a) r next = next a
Then (Err message) r next = r ≡ Err message

-- ---- the first four words: foundation, component, protocol, priority

pub record Head : Type 0 where
  pub foundation : List ℕ
  pub component : ℕ
  pub proto : Protocol
  pub priority : ℕ

abbrev pub ReadsPriority : List ℕ → ℕ → Protocol → List (List ℕ) → Answer Head → Type 0
ReadsPriority foundation component proto [] r = r ≡ Err (codes "missing priority")
ReadsPriority foundation component proto (word ∷ words) r =
    ReadsAs (IsNumberBelow (2 ^ 32) word) (codes "bad priority") r
    (λ n. r ≡ Ok record { foundation = foundation; component = component; proto = proto; priority = n })

abbrev pub ReadsTransport : List ℕ → ℕ → List (List ℕ) → Answer Head → Type 0
ReadsTransport foundation component [] r = r ≡ Err (codes "missing protocol")
ReadsTransport foundation component (word ∷ words) r =
    ReadsAs (λ (p : Protocol). Spells word (protocol_word p)) (codes "invalid protocol: " ++ word) r
    (λ p. ReadsPriority foundation component p words r)

abbrev pub ReadsComponent : List ℕ → List (List ℕ) → Answer Head → Type 0
ReadsComponent foundation [] r = r ≡ Err (codes "missing component-id")
ReadsComponent foundation (word ∷ words) r =
    ReadsAs (IsNumberBelow (2 ^ 16) word) (codes "bad component-id") r
    (λ n. ReadsTransport foundation n words r)

abbrev pub ReadsHead : List (List ℕ) → Answer Head → Type 0
ReadsHead [] r = r ≡ Err (codes "missing foundation")
ReadsHead (foundation ∷ words) r = ReadsComponent foundation words r

-- ---- the next four: address, port, `typ`, kind

pub record Place : Type 0 where
  pub ip : IpAddr
  pub port : ℕ
  pub kind : CandidateKind

abbrev pub ReadsKind : IpAddr → ℕ → List (List ℕ) → Answer Place → Type 0
ReadsKind ip port [] r = r ≡ Err (codes "missing candidate type")
ReadsKind ip port (word ∷ words) r =
    ReadsAs (λ (k : CandidateKind). word ≡ kind_word k) (codes "unknown candidate type: " ++ word) r
    (λ k. r ≡ Ok record { ip = ip; port = port; kind = k })

abbrev pub ReadsTyp : IpAddr → ℕ → List (List ℕ) → Answer Place → Type 0
ReadsTyp ip port [] r = r ≡ Err (codes "expected 'typ'")
ReadsTyp ip port (word ∷ words) r =
    MatchBool (bytes_eq word (codes "typ")) (ReadsKind ip port words r) (r ≡ Err (codes "expected 'typ'"))

abbrev pub ReadsPort : IpAddr → List (List ℕ) → Answer Place → Type 0
ReadsPort ip [] r = r ≡ Err (codes "missing port")
ReadsPort ip (word ∷ words) r =
    ReadsAs (IsNumberBelow (2 ^ 16) word) (codes "bad port") r (λ n. ReadsTyp ip n words r)

abbrev pub ReadsPlace : List (List ℕ) → Answer Place → Type 0
ReadsPlace [] r = r ≡ Err (codes "missing address")
ReadsPlace (word ∷ words) r =
    ReadsAs (IsIpText word) (codes "bad address") r (λ ip. ReadsPort ip words r)

-- ---- the keys after them: the last of equal ones counts, each value of a known one is checked, others are skipped

pub record Keys : Type 0 where
  pub raddr : Option IpAddr
  pub rport : Option ℕ
  pub tcptype : Option TcpType
  pub ufrag : Option (List ℕ)

abbrev pub no_keys : Keys
no_keys = record { raddr = None; rport = None; tcptype = None; ufrag = None }

-- the value is present and parses, and so is stored; or it is missing, or does not parse
abbrev pub TakesValue : {A : Type 0} → Option (List ℕ) → (List ℕ → A → Type 0) → List ℕ → List ℕ → Answer Keys → (A → Keys) → Type 0
TakesValue value Is missing bad r with_value =
    MatchOption value (r ≡ Err missing) (λ word. ReadsAs (Is word) bad r (λ a. r ≡ Ok (with_value a)))

-- one more key, whose value may be missing
abbrev pub ReadsKey : List ℕ → Option (List ℕ) → Keys → Answer Keys → Type 0
ReadsKey key value k r =
    MatchBool (bytes_eq key (codes "raddr"))
    (TakesValue value IsIpText (codes "missing raddr value") (codes "bad raddr") r (λ a. record k { raddr = Some a }))
    (MatchBool (bytes_eq key (codes "rport"))
    (TakesValue value (IsNumberBelow (2 ^ 16)) (codes "missing rport value") (codes "bad rport") r (λ n. record k { rport = Some n }))
    (MatchBool (bytes_eq key (codes "tcptype"))
    (TakesValue value (λ w (t : TcpType). Spells w (tcp_type_word t)) (codes "missing tcptype value") (codes "bad tcptype") r
    (λ t. record k { tcptype = Some t }))
    (MatchBool (bytes_eq key (codes "ufrag"))
    (MatchOption value (r ≡ Err (codes "missing ufrag value")) (λ w. r ≡ Ok (record k { ufrag = Some w })))
    (r ≡ Ok k))))

-- all the keys with their values, after those before
abbrev pub ReadsKeys : Keys → List (List ℕ) → Answer Keys → Type 0
ReadsKeys k [] r = r ≡ Ok k
ReadsKeys k (key ∷ []) r = ReadsKey key None k r
ReadsKeys k (key ∷ value ∷ words) r =
    (step : Answer Keys) × ReadsKey key (Some value) k step × Then step r (λ next. ReadsKeys next words r)

-- ---- the whole line

-- the related address, if both of its keys are present
abbrev pub related_address : Option IpAddr → Option ℕ → Option SocketAddr
related_address (Some ip) (Some port) = Some (plain_socket ip port)
related_address (Some ip) None = None
related_address None port = None

abbrev pub line_candidate : Head → Place → Keys → CandidateRecord
line_candidate h p k =
    signalled_candidate h.foundation h.component h.proto h.priority (plain_socket p.ip p.port) p.kind
    (related_address k.raddr k.rport) k.tcptype k.ufrag

abbrev pub ReadsWords : List (List ℕ) → Answer CandidateRecord → Type 0
ReadsWords words r =
    (head : Answer Head) × ReadsHead words head × Then head r (λ h.
    (place : Answer Place) × ReadsPlace (drop 4 words) place × Then place r (λ p.
    (keys : Answer Keys) × ReadsKeys no_keys (drop 8 words) keys × Then keys r (λ k.
    r ≡ Ok (line_candidate h p k))))

-- the text is the prefix followed by this rest
abbrev pub HasRest : List ℕ → List ℕ → Type 0
HasRest text rest = text ≡ codes "candidate:" ++ rest

-- the meaning of a text: an error if it has no prefix, otherwise the meaning of the words after the prefix
abbrev pub ReadsText : List ℕ → Answer CandidateRecord → Type 0
ReadsText text r =
    (((rest : List ℕ) → ¬ HasRest text rest) × (r ≡ Err (codes "missing 'candidate:' prefix")))
    ⊎ ((rest : List ℕ) × (words : List (List ℕ)) × HasRest text rest × HasWords rest words × ReadsWords words r)

-- the text is a line of this candidate
abbrev pub IsLineOf : List ℕ → CandidateRecord → Type 0
IsLineOf text c = ReadsText text (Ok c)

-- this fault is the first one of the text
abbrev pub HasFault : List ℕ → List ℕ → Type 0
HasFault text message = ReadsText text (Err message)
