-- The fields of a candidate, with its text in the caller's buffer.
use Rattle.std.specs.Prelude.{◌≡◌, ℕ, List, [], Option, Some, None, Ok, Err, length, slice_get, unwrap_or, ℤ}
use Rattle.is_proto.specs.declared.proto.TcpType.{TcpType}
use Rattle.is_proto.specs.declared.proto.TcpType.TheVariants.{Active, Passive, So}
use Rattle.is_candidate.specs.declared.candidate.kind.CandidateKind.{CandidateKind}
use Rattle.is_candidate.specs.declared.candidate.kind.CandidateKind.TheVariants.{Host, PeerReflexive, ServerReflexive, Relayed}
use Rattle.is_candidate.specs.Candidates.{CandidateRecord}
use Rattle.is_candidate.specs.Foundations.{foundation_of}
use Rattle.is_candidate.specs.Priorities.{candidate_priority}
use Rattle.is_rules.specs.Questions.{live}
use Rattle.is_c_calls.specs.declared.candidate.LocalCandidate.{LocalCandidate}
use Rattle.is_c.specs.declared.fields.Fields.{Fields}
use Rattle.is_c_calls.specs.Addresses.{socket_of, protocol_of}
use Rattle.is_c_calls.specs.Candidates.{Made, MakesCandidate, ReadsBytes}
use Rattle.is_c_calls.specs.Codes.{OK, BAD_ADDRESS, NOT_UTF8, code_of}
use Rattle.is_c_calls.specs.Held.{Held, HeldRecord}
use Rattle.is_c.specs.Questions.{PutsLine}
use Rattle.is_c.specs.StunMessage.{IsAddress}
use Rattle.is_c_calls.specs.Texts.{PutsNone}

-- the numbers of the kinds: of those that a caller gathers, as it passes them in
abbrev pub kind_number : CandidateKind → ℕ
kind_number Host = 0
kind_number ServerReflexive = 1
kind_number Relayed = 2
kind_number PeerReflexive = 3

-- the number of a TCP type that a candidate may have (RFC 6544, section 4.5)
abbrev pub role_number : Option TcpType → ℕ
role_number None = 0
role_number (Some Active) = 1
role_number (Some Passive) = 2
role_number (Some So) = 3

-- each field is that of the candidate; foundation and username fragment are in its text, by their lengths
pub record AreFields (c : CandidateRecord) (f : Fields) : Type 0 where
  pub address : socket_of f.address ≡ Some c.addr
  pub local : socket_of f.local ≡ Some c.local
  pub related : IsAddress c.raddr f.related
  pub foundation : f.foundation_length ≡ length (foundation_of c)
  pub ufrag : f.ufrag_length ≡ length (unwrap_or c.ufrag [])
  pub priority : f.priority ≡ candidate_priority c
  pub component : f.component ≡ c.component
  pub kind : f.kind ≡ kind_number c.kind
  pub protocol : protocol_of f.protocol ≡ Some c.proto
  pub tcptype : f.tcptype ≡ role_number c.tcptype

-- the text of a candidate, and its fields if the text is written
abbrev pub PutsFields : Option CandidateRecord → List ℕ → ℕ → Fields → ℤ → List ℕ → ℕ → Fields → Type 0
PutsFields None before was old code after count new = PutsLine None before was code after count × (new ≡ old)
PutsFields (Some c) before was old code after count new =
    PutsLine (Some c) before was code after count × (code ≡ OK → AreFields c new) × (¬ (code ≡ OK) → new ≡ old)

-- the text and the fields of a candidate that was made, or the code of why there is none
abbrev pub PutsMadeFields : ℤ → Made → List ℕ → ℕ → Fields → ℤ → List ℕ → ℕ → Fields → Type 0
PutsMadeFields why None before was old code after count new = PutsNone why before was code after count × (new ≡ old)
PutsMadeFields why (Some (Err e)) before was old code after count new = PutsNone (code_of e) before was code after count × (new ≡ old)
PutsMadeFields why (Some (Ok c)) before was old code after count new = PutsFields (Some c) before was old code after count new

-- `is_ice_line_fields`
abbrev pub ReturnsLineFields : List ℕ → List ℕ → ℕ → Fields → ℤ → List ℕ → ℕ → Fields → Type 0
ReturnsLineFields line before was old code after count new =
    (made : Made) × ReadsBytes line made × PutsMadeFields NOT_UTF8 made before was old code after count new

-- `is_ice_candidate_fields`
abbrev pub ReturnsGivenFields : LocalCandidate → List ℕ → ℕ → Fields → ℤ → List ℕ → ℕ → Fields → Type 0
ReturnsGivenFields c before was old code after count new =
    (made : Made) × MakesCandidate c made × PutsMadeFields BAD_ADDRESS made before was old code after count new

-- `is_ice_local_fields` and `is_ice_remote_fields`: candidates are counted as by `is_ice_local_candidate`
abbrev pub ReturnsListedFields : (Held → List CandidateRecord) → ℕ → List ℕ → ℕ → Fields → List ℕ → ℕ → Fields → HeldRecord → ℤ → HeldRecord → Type 0
ReturnsListedFields candidates index before was f after count g old code new =
    PutsFields (slice_get (live (candidates old.agent)) index) before was f code after count g × (new ≡ old)
