-- Candidate JSON: the object in which browsers signal a candidate (the W3C's RTCIceCandidateInit).
use Rattle.std.specs.Prelude.{◌≡◌, ℕ, ◌⊎◌, List, codes, Option, Some, None, option_and_then, Result, Ok, Err, IsErrAnd, if◌then◌else◌, string_bytes}
use Rattle.serde_json.specs.Data.{Data, null, boolean, number, string, array, object, unsigned, member, no_members}
use Rattle.serde_json.specs.Find.{get_member, as_str}
use Rattle.serde_json.specs.Read.{read}
use Rattle.serde_json.specs.Written.{has_float}
use Rattle.is_proto.specs.declared.error.IceError.{IceError}
use Rattle.is_proto.specs.declared.error.IceError.TheVariants.{BadCandidate, OutOfMemory, PairIdsExhausted, MtuTooSmall, CredentialsTooLong}
use Rattle.is_proto.specs.declared.error.IceError.TheVariants.{PriorityTooHigh, LiteStaysControlled}
use Rattle.is_candidate.specs.Candidates.{CandidateRecord}
use Rattle.is_candidate.specs.Faults.{RejectsText}
use Rattle.is_candidate.specs.Lines.{Answer, IsLineOf}
use Rattle.is_candidate.specs.Rejections.{RejectsWith}
use Rattle.is_candidate.specs.Sdp.{sdp_text}

-- a text, or null
abbrev pub text_or_null : Option (List ℕ) → Data
text_or_null (Some text) = string text
text_or_null None = null

-- the object of a candidate, its members in the order of their keys
abbrev pub info_of : CandidateRecord → Data
info_of c =
    object
    (member (codes "candidate") (string (sdp_text c))
    (member (codes "sdpMLineIndex") (number (unsigned 0))
    (member (codes "sdpMid") null (member (codes "usernameFragment") (text_or_null c.ufrag) no_members))))

-- the line of an object, if there is one
abbrev pub given_line : Option (List ℕ) → Answer (List ℕ)
given_line (Some line) = Ok line
given_line None = Err (codes "candidate info lacks candidate")

-- the line in a value, or the first fault; a number anywhere in it that is no whole number of 64 bits is a fault
abbrev pub line_in : Data → Answer (List ℕ)
line_in (object ms) =
    if has_float (object ms) then Err (codes "candidate info holds a fraction")
    else given_line (option_and_then as_str (get_member (codes "candidate") ms))
line_in null = Err (codes "candidate info is not an object")
line_in (boolean b) = Err (codes "candidate info is not an object")
line_in (number n) = Err (codes "candidate info is not an object")
line_in (string s) = Err (codes "candidate info is not an object")
line_in (array ds) = Err (codes "candidate info is not an object")

-- the ufrag of a member that is absent, null or a text
abbrev pub given_ufrag : Option Data → Answer (Option (List ℕ))
given_ufrag None = Ok None
given_ufrag (Some null) = Ok None
given_ufrag (Some (string s)) = Ok (Some s)
given_ufrag (Some (boolean b)) = Err (codes "bad usernameFragment")
given_ufrag (Some (number n)) = Err (codes "bad usernameFragment")
given_ufrag (Some (array ds)) = Err (codes "bad usernameFragment")
given_ufrag (Some (object ms)) = Err (codes "bad usernameFragment")

-- the ufrag in a value that is an object
abbrev pub ufrag_in : Data → Answer (Option (List ℕ))
ufrag_in (object ms) = given_ufrag (get_member (codes "usernameFragment") ms)
ufrag_in null = Ok None
ufrag_in (boolean b) = Ok None
ufrag_in (number n) = Ok None
ufrag_in (string s) = Ok None
ufrag_in (array ds) = Ok None

-- a ufrag in the object replaces that of the line
abbrev pub with_ufrag : Option (List ℕ) → CandidateRecord → CandidateRecord
with_ufrag None c = c
with_ufrag (Some ufrag) c = record c { ufrag = Some ufrag }

-- the line and the ufrag of the value make this candidate
pub record IsInfoOf (d : Data) (c : CandidateRecord) : Type 0 where
  pub line : List ℕ
  pub ufrag : Option (List ℕ)
  pub read : CandidateRecord
  pub has_line : line_in d ≡ Ok line
  pub reads : IsLineOf line read
  pub has_ufrag : ufrag_in d ≡ Ok ufrag
  pub made : c ≡ with_ufrag ufrag read

-- the line parses and the ufrag has this fault
abbrev pub HasUfragFault : Data → List ℕ → Type 0
HasUfragFault d message =
    (line : List ℕ) × (read : CandidateRecord) × (line_in d ≡ Ok line) × IsLineOf line read × (ufrag_in d ≡ Err message)

-- an error is about the value, otherwise about its line, otherwise about its ufrag; or an allocation failed
abbrev pub RejectsInfo : Data → IceError → Type 0
RejectsInfo d (BadCandidate s) =
    (line_in d ≡ Err (string_bytes s))
    ⊎ (((line : List ℕ) × (line_in d ≡ Ok line) × RejectsText line (BadCandidate s))
    ⊎ HasUfragFault d (string_bytes s))
RejectsInfo d OutOfMemory = Unit {0}
RejectsInfo d PairIdsExhausted = ⊥
RejectsInfo d MtuTooSmall = ⊥
RejectsInfo d CredentialsTooLong = ⊥
RejectsInfo d PriorityTooHigh = ⊥
RejectsInfo d LiteStaysControlled = ⊥

-- the candidate of the value, or the error
abbrev pub ReadsInfo : Data → Result CandidateRecord IceError → Type 0
ReadsInfo d (Ok c) = IsInfoOf d c
ReadsInfo d (Err e) = RejectsInfo d e

-- the candidate of a text's value, or the error; a text that has no value is no JSON
abbrev pub ReadsValue : Option Data → Result CandidateRecord IceError → Type 0
ReadsValue (Some d) r = ReadsInfo d r
ReadsValue None r = IsErrAnd r (RejectsWith (codes "candidate info is not JSON"))

abbrev pub ReadsInfoText : List ℕ → Result CandidateRecord IceError → Type 0
ReadsInfoText text r = ReadsValue (read text) r
