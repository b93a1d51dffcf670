-- Candidate JSON whose members hold no others.
use Rattle.std.specs.Prelude.{◌≡◌, ℕ, List, Some, Ok}
use Rattle.std.specs.Option.{option_copied}
use Rattle.json.specs.Token.{Token}
use Rattle.json.specs.Json.{Json, value}
use Rattle.serde_json.specs.Data.{Data, null, string}
use Rattle.serde_json.specs.Read.{of_json}
use Rattle.is_candidate.specs.declared.candidate.flat.FlatInfo.{FlatInfo}
use Rattle.is_candidate.specs.declared.candidate.flat.Plain.{Plain}
use Rattle.is_candidate.specs.declared.candidate.flat.Plain.TheVariants.{Text, Null, Other}
use Rattle.is_candidate.specs.Infos.{line_in, ufrag_in}

-- the tokens begin with those of a value nested no deeper than depth, and rest follows
abbrev pub BeginsWith : ℕ → List Token → Data → List Token → Type 0
BeginsWith depth ts d rest = (j : Json) × (value depth ts ≡ Some (j, rest)) × (of_json j ≡ Some d)

-- the value is this text, null, or another plain value
abbrev pub IsPlain : Data → Plain → Type 0
IsPlain d (Text s) = d ≡ string s.now
IsPlain d Null = d ≡ null
IsPlain d Other = Unit {0}

-- the value has this line and this ufrag
abbrev pub HasLineAndUfrag : Data → FlatInfo → Type 0
HasLineAndUfrag d info = (line_in d ≡ Ok info.line.now) × (ufrag_in d ≡ Ok (option_copied info.ufrag))
