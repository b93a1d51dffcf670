-- Failed constructors, and the messages of their errors.
use Rattle.std.specs.Prelude.{◌≡◌, ℕ, List, Option, Some, None, Result, Ok, IsErrAnd, string_bytes}
use Rattle.is_proto.specs.declared.error.IceError.{IceError}
use Rattle.is_proto.specs.declared.error.IceError.TheVariants.{BadCandidate, OutOfMemory, PairIdsExhausted, MtuTooSmall, CredentialsTooLong}
use Rattle.is_proto.specs.declared.error.IceError.TheVariants.{PriorityTooHigh, LiteStaysControlled}
use Rattle.is_candidate.specs.Candidates.{CandidateRecord}

-- the error with this message, or `OutOfMemory` if there is no memory for the message
abbrev pub RejectsWith : List ℕ → IceError → Type 0
RejectsWith message (BadCandidate s) = string_bytes s ≡ message
RejectsWith message OutOfMemory = Unit {0}
RejectsWith message PairIdsExhausted = ⊥
RejectsWith message MtuTooSmall = ⊥
RejectsWith message CredentialsTooLong = ⊥
RejectsWith message PriorityTooHigh = ⊥
RejectsWith message LiteStaysControlled = ⊥

-- the candidate if nothing is wrong, otherwise the error with the message of the fault
abbrev pub Makes : Option (List ℕ) → CandidateRecord → Result CandidateRecord IceError → Type 0
Makes None made r = r ≡ Ok made
Makes (Some message) made r = IsErrAnd r (RejectsWith message)
