-- Candidates that no agent has: their text, their username fragment and their default local preference.
use Rattle.std.specs.Prelude.{◌≡◌, ◌⊎◌, ℕ, List, Some, None, MatchOption, IfSome, Result, Ok, Err, IsErrAnd, codes, ℤ}
use Rattle.std.specs.Str.{IsUtf8}
use Rattle.is_proto.specs.declared.error.IceError.{IceError}
use Rattle.is_proto.specs.declared.error.IceError.TheVariants.{OutOfMemory}
use Rattle.is_candidate.specs.Candidates.{CandidateRecord}
use Rattle.is_candidate.specs.Faults.{ReadsLine}
use Rattle.is_candidate.specs.Infos.{with_ufrag}
use Rattle.is_candidate.specs.Preferences.{default_preference}
use Rattle.is_candidate.specs.Rejections.{RejectsWith}
use Rattle.is_candidate.specs.Words.{IsWord}
use Rattle.is_c_calls.specs.declared.candidate.LocalCandidate.{LocalCandidate}
use Rattle.is_c.specs.declared.fields.Fields.{Fields}
use Rattle.is_c_calls.specs.Candidates.{Made, MakesCandidate, ReadsBytes}
use Rattle.is_c_calls.specs.Codes.{OK, BAD_ADDRESS, NOT_UTF8, code_of}
use Rattle.is_c.specs.Fields.{PutsMadeFields}
use Rattle.is_c.specs.Questions.{PutsLine}
use Rattle.is_c_calls.specs.Texts.{PutsNone}

-- the text of the candidate, or the code of why there is none
abbrev pub PutsMade : ℤ → Made → List ℕ → ℕ → ℤ → List ℕ → ℕ → Type 0
PutsMade why None before was code after count = PutsNone why before was code after count
PutsMade why (Some (Err e)) before was code after count = PutsNone (code_of e) before was code after count
PutsMade why (Some (Ok c)) before was code after count = PutsLine (Some c) before was code after count

-- `is_ice_candidate_line`
abbrev pub ReturnsGiven : LocalCandidate → List ℕ → ℕ → ℤ → List ℕ → ℕ → Type 0
ReturnsGiven c before was code after count =
    (made : Made) × MakesCandidate c made × PutsMade BAD_ADDRESS made before was code after count

-- the username fragment, if there is one, is one word: then the printed text round-trips
abbrev pub HasWordUfrag : CandidateRecord → Type 0
HasWordUfrag c = IfSome c.ufrag IsWord

-- the candidate, if that holds
abbrev pub KeepsWord : Result CandidateRecord IceError → Result CandidateRecord IceError → Type 0
KeepsWord (Err e) r = r ≡ Err e
KeepsWord (Ok c) r =
    (HasWordUfrag c × (r ≡ Ok c)) ⊎ (¬ HasWordUfrag c × IsErrAnd r (RejectsWith (codes "username fragment is not one word")))

-- the candidate with this username fragment
abbrev pub NamesAs : List ℕ → CandidateRecord → Result CandidateRecord IceError → Type 0
NamesAs ufrag c r = (r ≡ Err OutOfMemory) ⊎ (r ≡ Ok (with_ufrag (Some ufrag) c))

abbrev pub NamesRead : List ℕ → Result CandidateRecord IceError → Result CandidateRecord IceError → Type 0
NamesRead ufrag (Err e) r = r ≡ Err e
NamesRead ufrag (Ok c) r = (named : Result CandidateRecord IceError) × NamesAs ufrag c named × KeepsWord named r

-- the candidate of a candidate attribute, with this username fragment if that is one word, if both are UTF-8
abbrev pub NamesBytes : List ℕ → List ℕ → Made → Type 0
NamesBytes line ufrag made =
    MatchOption made
    (¬ IsUtf8 line ⊎ ¬ IsUtf8 ufrag)
    (λ r. (read : Result CandidateRecord IceError) × ReadsLine line read × NamesRead ufrag read r)

-- `is_ice_line_with_ufrag`
abbrev pub ReturnsNamed : List ℕ → List ℕ → List ℕ → ℕ → ℤ → List ℕ → ℕ → Type 0
ReturnsNamed line ufrag before was code after count =
    (made : Made) × NamesBytes line ufrag made × PutsMade NOT_UTF8 made before was code after count

-- `is_ice_line_with_ufrag_fields`
abbrev pub ReturnsNamedFields : List ℕ → List ℕ → List ℕ → ℕ → Fields → ℤ → List ℕ → ℕ → Fields → Type 0
ReturnsNamedFields line ufrag before was old code after count new =
    (made : Made) × NamesBytes line ufrag made × PutsMadeFields NOT_UTF8 made before was old code after count new

-- the default local preference of a candidate after so many of its kind and IP version
abbrev pub PutsPreference : ℤ → Made → ℕ → ℕ → ℤ → ℕ → Type 0
PutsPreference why None same_kind before code after = (code ≡ why) × (after ≡ before)
PutsPreference why (Some (Err e)) same_kind before code after = (code ≡ code_of e) × (after ≡ before)
PutsPreference why (Some (Ok c)) same_kind before code after = (code ≡ OK) × (after ≡ default_preference c same_kind)

-- `is_ice_candidate_preference`
abbrev pub PrefersGiven : LocalCandidate → ℕ → ℕ → ℤ → ℕ → Type 0
PrefersGiven c same_kind before code after =
    (made : Made) × MakesCandidate c made × PutsPreference BAD_ADDRESS made same_kind before code after

-- `is_ice_line_preference`
abbrev pub PrefersRead : List ℕ → ℕ → ℕ → ℤ → ℕ → Type 0
PrefersRead line same_kind before code after =
    (made : Made) × ReadsBytes line made × PutsPreference NOT_UTF8 made same_kind before code after
