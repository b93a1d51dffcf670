-- Candidate JSON in the caller's buffer.
use Rattle.std.specs.Prelude.{◌⊎◌, ℕ, ◌==◌, ◌||◌, Bool, nat_lt, count_by, codes, List, Some, None, MatchOption, MatchBool, Result, Ok, Err, IsErrAnd, ℤ}
use Rattle.std.specs.Str.{IsUtf8}
use Rattle.serde_json.specs.Written.{compact_text}
use Rattle.is_proto.specs.declared.error.IceError.{IceError}
use Rattle.is_candidate.specs.Candidates.{CandidateRecord}
use Rattle.is_candidate.specs.Infos.{info_of, ReadsInfoText}
use Rattle.is_candidate.specs.Rejections.{RejectsWith}
use Rattle.is_c.specs.declared.fields.Fields.{Fields}
use Rattle.is_c_calls.specs.Candidates.{Made, ReadsBytes}
use Rattle.is_c_calls.specs.Codes.{NOT_UTF8, OUT_OF_MEMORY, code_of}
use Rattle.is_c.specs.Fields.{PutsMadeFields}
use Rattle.is_c.specs.Lines.{KeepsWord, PutsMade}
use Rattle.is_c.specs.Rejections.{ReturnsWhy}
use Rattle.is_c_calls.specs.Texts.{Puts, PutsNone}

-- '[' or '{'
abbrev pub is_bracket : ℕ → Bool
is_bracket b = b == 91 || b == 123

-- more opening brackets than are read, those within strings included
abbrev pub has_many_brackets : List ℕ → Bool
has_many_brackets json = nat_lt 8 (count_by is_bracket json)

-- the candidate of a JSON text, if the text has few brackets and its username fragment, if it has one, is one word
abbrev pub ReadsFlat : List ℕ → Result CandidateRecord IceError → Type 0
ReadsFlat json r =
    MatchBool (has_many_brackets json)
    (IsErrAnd r (RejectsWith (codes "candidate info has more than 8 opening brackets")))
    ((read : Result CandidateRecord IceError) × ReadsInfoText json read × KeepsWord read r)

-- the candidate of a JSON text in bytes (`ReadsFlat`), or none if they are not UTF-8
abbrev pub ReadsInfoBytes : List ℕ → Made → Type 0
ReadsInfoBytes json made = MatchOption made (¬ IsUtf8 json) (ReadsFlat json)

-- the object of the candidate, as JSON without white space
abbrev pub PutsInfo : CandidateRecord → List ℕ → ℕ → ℤ → List ℕ → ℕ → Type 0
PutsInfo c before was code after count =
    PutsNone OUT_OF_MEMORY before was code after count ⊎ Puts (compact_text (info_of c)) before code after count

abbrev pub PutsInfoMade : Made → List ℕ → ℕ → ℤ → List ℕ → ℕ → Type 0
PutsInfoMade None before was code after count = PutsNone NOT_UTF8 before was code after count
PutsInfoMade (Some (Err e)) before was code after count = PutsNone (code_of e) before was code after count
PutsInfoMade (Some (Ok c)) before was code after count = PutsInfo c before was code after count

-- `is_ice_line_to_json`
abbrev pub ReturnsInfo : List ℕ → List ℕ → ℕ → ℤ → List ℕ → ℕ → Type 0
ReturnsInfo line before was code after count = (made : Made) × ReadsBytes line made × PutsInfoMade made before was code after count

-- `is_ice_line_from_json`
abbrev pub ReturnsLineOf : List ℕ → List ℕ → ℕ → ℤ → List ℕ → ℕ → Type 0
ReturnsLineOf json before was code after count =
    (made : Made) × ReadsInfoBytes json made × PutsMade NOT_UTF8 made before was code after count

-- `is_ice_json_fields`
abbrev pub ReturnsFieldsOf : List ℕ → List ℕ → ℕ → Fields → ℤ → List ℕ → ℕ → Fields → Type 0
ReturnsFieldsOf json before was old code after count new =
    (made : Made) × ReadsInfoBytes json made × PutsMadeFields NOT_UTF8 made before was old code after count new

-- `is_ice_json_refusal`
abbrev pub ReturnsOfInfo : List ℕ → List ℕ → ℕ → ℤ → List ℕ → ℕ → Type 0
ReturnsOfInfo json before was code after count =
    (made : Made) × ReadsInfoBytes json made × ReturnsWhy NOT_UTF8 made before was code after count
