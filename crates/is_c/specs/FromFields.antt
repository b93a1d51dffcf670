-- The candidate of fields that C passes: what a candidate attribute with them is read as.
use Rattle.std.specs.Prelude.{◌≡◌, ◌⊎◌, ℕ, ◌==◌, List, Option, Some, None, MatchOption, option_map, Result, Ok, Err, IsErrAnd, codes, ℤ}
use Rattle.std.specs.Prelude.{if◌then◌else◌}
use Rattle.std.specs.Str.{IsUtf8}
use Rattle.std.specs.declared.net.socket_addr.SocketAddr.{SocketAddr}
use Rattle.is_proto.specs.declared.error.IceError.{IceError}
use Rattle.is_proto.specs.declared.error.IceError.TheVariants.{OutOfMemory}
use Rattle.is_proto.specs.declared.proto.TcpType.{TcpType}
use Rattle.is_candidate.specs.declared.candidate.kind.CandidateKind.{CandidateKind}
use Rattle.is_candidate.specs.declared.candidate.kind.CandidateKind.TheVariants.{Host, PeerReflexive, ServerReflexive, Relayed}
use Rattle.is_candidate.specs.Candidates.{CandidateRecord}
use Rattle.is_candidate.specs.Making.{signalled_candidate}
use Rattle.is_candidate.specs.Rejections.{RejectsWith}
use Rattle.is_candidate.specs.Words.{IsWord}
use Rattle.is_c_calls.specs.declared.address.Address.{Address}
use Rattle.is_c.specs.declared.fields.Fields.{Fields}
use Rattle.is_c.specs.declared.from_fields.Meant.{Meant}
use Rattle.is_c_calls.specs.Addresses.{socket_of, protocol_of}
use Rattle.is_c_calls.specs.Candidates.{Made, role_of}
use Rattle.is_c_calls.specs.Codes.{BAD_ADDRESS, NOT_UTF8}
use Rattle.is_c.specs.Fields.{PutsMadeFields}
use Rattle.is_c_calls.specs.Texts.{PutsNone}

-- the kind for the number
abbrev pub kind_of : ℕ → Option CandidateKind
kind_of n =
    if n == 0 then Some Host
    else (if n == 1 then Some ServerReflexive
    else (if n == 2 then Some Relayed
    else (if n == 3 then Some PeerReflexive else None)))

-- the address as a text has it, without flow information and scope
abbrev pub printed_socket : Address → Option SocketAddr
printed_socket a = socket_of (record a { flow = 0; scope = 0 })

-- the related address, if there is one; none for an unknown family
abbrev pub related_in : Address → Option (Option SocketAddr)
related_in a = if a.family == 0 then Some None else option_map Some (printed_socket a)

-- the TCP type, if it is stated; none for an unknown number
abbrev pub tcptype_in : ℕ → Option (Option TcpType)
tcptype_in n = if n == 0 then Some None else option_map Some (role_of n)

-- what the numbers and addresses mean, if each means something
abbrev pub Means : Fields → Option Meant → Type 0
Means f None =
    (printed_socket f.address ≡ None) ⊎ (related_in f.related ≡ None) ⊎ (protocol_of f.protocol ≡ None)
    ⊎ (kind_of f.kind ≡ None) ⊎ (tcptype_in f.tcptype ≡ None)
Means f (Some m) =
    (printed_socket f.address ≡ Some m.addr) × (related_in f.related ≡ Some m.raddr) × (protocol_of f.protocol ≡ Some m.proto)
    × (kind_of f.kind ≡ Some m.kind) × (tcptype_in f.tcptype ≡ Some m.tcptype)

abbrev pub drafted_candidate : Fields → Meant → List ℕ → CandidateRecord
drafted_candidate f m foundation = signalled_candidate foundation f.component m.proto f.priority m.addr m.kind m.raddr m.tcptype None

-- the candidate, if its foundation is one word
abbrev pub Drafts : Fields → Meant → List ℕ → Result CandidateRecord IceError → Type 0
Drafts f m foundation r =
    (¬ IsWord foundation × IsErrAnd r (RejectsWith (codes "foundation is not one word")))
    ⊎ (IsWord foundation × ((r ≡ Err OutOfMemory) ⊎ (r ≡ Ok (drafted_candidate f m foundation))))

abbrev pub DraftsBytes : Fields → Meant → List ℕ → Made → Type 0
DraftsBytes f m foundation made = MatchOption made (¬ IsUtf8 foundation) (Drafts f m foundation)

-- `is_ice_fields_line`
abbrev pub ReturnsDrafted : Fields → List ℕ → List ℕ → ℕ → Fields → ℤ → List ℕ → ℕ → Fields → Type 0
ReturnsDrafted given foundation before was old code after count new =
    (meant : Option Meant) × Means given meant
    × MatchOption meant (PutsNone BAD_ADDRESS before was code after count × (new ≡ old)) (λ m.
    (made : Made) × DraftsBytes given m foundation made × PutsMadeFields NOT_UTF8 made before was old code after count new)
