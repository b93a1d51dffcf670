-- The error messages of invalid candidates, in the caller's buffer.
use Rattle.std.specs.Prelude.{ℕ, List, Option, Some, None, MatchOption, Result, Ok, Err, ℤ, string_bytes}
use Rattle.is_proto.specs.declared.error.IceError.{IceError}
use Rattle.is_proto.specs.declared.error.IceError.TheVariants as errors
use Rattle.is_candidate.specs.Candidates.{CandidateRecord}
use Rattle.is_c_calls.specs.declared.candidate.LocalCandidate.{LocalCandidate}
use Rattle.is_c_calls.specs.Candidates.{Made, MakesCandidate, ReadsBytes}
use Rattle.is_c_calls.specs.Codes.{NOTHING, NOT_UTF8, BAD_ADDRESS, code_of}
use Rattle.is_c_calls.specs.Texts.{Puts, PutsNone}

-- the error of an invalid candidate has a message, and no other error has one
abbrev pub message_of : IceError → Option (List ℕ)
message_of (errors.BadCandidate message) = Some (string_bytes message)
message_of errors.OutOfMemory = None
message_of errors.PairIdsExhausted = None
message_of errors.MtuTooSmall = None
message_of errors.CredentialsTooLong = None
message_of errors.PriorityTooHigh = None
message_of errors.LiteStaysControlled = None

abbrev pub PutsMessage : IceError → List ℕ → ℕ → ℤ → List ℕ → ℕ → Type 0
PutsMessage e before was code after count =
    MatchOption (message_of e) (PutsNone (code_of e) before was code after count) (λ text. Puts text before code after count)

abbrev pub PutsRejection : Result CandidateRecord IceError → List ℕ → ℕ → ℤ → List ℕ → ℕ → Type 0
PutsRejection (Ok c) before was code after count = PutsNone NOTHING before was code after count
PutsRejection (Err e) before was code after count = PutsMessage e before was code after count

-- if no candidate can be made, the code for the reason
abbrev pub ReturnsWhy : ℤ → Made → List ℕ → ℕ → ℤ → List ℕ → ℕ → Type 0
ReturnsWhy why made before was code after count =
    MatchOption made (PutsNone why before was code after count) (λ outcome. PutsRejection outcome before was code after count)

-- `is_ice_line_refusal`
abbrev pub ReturnsOfLine : List ℕ → List ℕ → ℕ → ℤ → List ℕ → ℕ → Type 0
ReturnsOfLine line before was code after count =
    (made : Made) × ReadsBytes line made × ReturnsWhy NOT_UTF8 made before was code after count

-- `is_ice_candidate_refusal`
abbrev pub ReturnsOfCandidate : LocalCandidate → List ℕ → ℕ → ℤ → List ℕ → ℕ → Type 0
ReturnsOfCandidate c before was code after count =
    (made : Made) × MakesCandidate c made × ReturnsWhy BAD_ADDRESS made before was code after count
