-- The messages of the faults of a line.
use Rattle.std.specs.Prelude.{◌≡◌, ℕ, List, ◌++◌, codes, Result, Ok, Err, string_bytes}
use Rattle.is_proto.specs.declared.error.IceError.{IceError}
use Rattle.is_proto.specs.declared.error.IceError.TheVariants.{BadCandidate, OutOfMemory, PairIdsExhausted, MtuTooSmall, CredentialsTooLong}
use Rattle.is_proto.specs.declared.error.IceError.TheVariants.{PriorityTooHigh, LiteStaysControlled}
use Rattle.is_candidate.specs.declared.parse.fault.Fault.{Fault}
use Rattle.is_candidate.specs.declared.parse.fault.Fault.TheVariants.{MissingPrefix, MissingFoundation, MissingComponent, BadComponent}
use Rattle.is_candidate.specs.declared.parse.fault.Fault.TheVariants.{MissingProtocol, InvalidProtocol, MissingPriority, BadPriority}
use Rattle.is_candidate.specs.declared.parse.fault.Fault.TheVariants.{MissingAddress, BadAddress, MissingPort, BadPort, ExpectedTyp}
use Rattle.is_candidate.specs.declared.parse.fault.Fault.TheVariants.{MissingKind, UnknownKind, MissingRaddr, BadRaddr, MissingRport}
use Rattle.is_candidate.specs.declared.parse.fault.Fault.TheVariants.{BadRport, MissingTcptype, BadTcptype, MissingUfrag}
use Rattle.is_candidate.specs.Candidates.{CandidateRecord}
use Rattle.is_candidate.specs.Lines.{IsLineOf, HasFault}

abbrev pub fault_text : Fault → List ℕ
fault_text MissingPrefix = codes "missing 'candidate:' prefix"
fault_text MissingFoundation = codes "missing foundation"
fault_text MissingComponent = codes "missing component-id"
fault_text BadComponent = codes "bad component-id"
fault_text MissingProtocol = codes "missing protocol"
fault_text (InvalidProtocol word) = codes "invalid protocol: " ++ word.now
fault_text MissingPriority = codes "missing priority"
fault_text BadPriority = codes "bad priority"
fault_text MissingAddress = codes "missing address"
fault_text BadAddress = codes "bad address"
fault_text MissingPort = codes "missing port"
fault_text BadPort = codes "bad port"
fault_text ExpectedTyp = codes "expected 'typ'"
fault_text MissingKind = codes "missing candidate type"
fault_text (UnknownKind word) = codes "unknown candidate type: " ++ word.now
fault_text MissingRaddr = codes "missing raddr value"
fault_text BadRaddr = codes "bad raddr"
fault_text MissingRport = codes "missing rport value"
fault_text BadRport = codes "bad rport"
fault_text MissingTcptype = codes "missing tcptype value"
fault_text BadTcptype = codes "bad tcptype"
fault_text MissingUfrag = codes "missing ufrag value"

-- an error gives the whole text, a colon and the first fault; or an allocation failed
abbrev pub RejectsText : List ℕ → IceError → Type 0
RejectsText text (BadCandidate s) =
    (message : List ℕ) × HasFault text message × (string_bytes s ≡ text ++ codes ": " ++ message)
RejectsText text OutOfMemory = Unit {0}
RejectsText text PairIdsExhausted = ⊥
RejectsText text MtuTooSmall = ⊥
RejectsText text CredentialsTooLong = ⊥
RejectsText text PriorityTooHigh = ⊥
RejectsText text LiteStaysControlled = ⊥

-- the candidate of the line, or the error
abbrev pub ReadsLine : List ℕ → Result CandidateRecord IceError → Type 0
ReadsLine text (Ok c) = IsLineOf text c
ReadsLine text (Err e) = RejectsText text e
