-- The words of a text, split at white space (Unicode's White_Space).
use Rattle.std.specs.Prelude.{◌≡◌, ℕ, ◌<◌, List, [], ◌∷◌, ◌++◌, length}
use Rattle.std.specs.Int.{IsInRange}
use Rattle.std.specs.Char.{is_whitespace, is_not_whitespace}
use Rattle.std.specs.Str.{NoCharPasses, EmptyOrStartsWithPassing}

-- only white space, or nothing
abbrev pub IsGap : List ℕ → Type 0
IsGap text = NoCharPasses is_not_whitespace text

-- one character or more, none of them white space
abbrev pub IsWord : List ℕ → Type 0
IsWord text = (0 < length text) × NoCharPasses is_whitespace text

-- nothing, or a text that begins with white space
abbrev pub EndsWord : List ℕ → Type 0
EndsWord text = (more : List ℕ) × EmptyOrStartsWithPassing is_whitespace text more

-- the text begins with this word, after white space or none, and the rest follows
abbrev pub BeginsWithWord : List ℕ → List ℕ → List ℕ → Type 0
BeginsWithWord text word rest =
    (gap : List ℕ) × (text ≡ gap ++ (word ++ rest)) × IsGap gap × IsWord word × EndsWord rest

-- an ASCII character that is seen, `!` to `~`
abbrev pub IsVisible : ℕ → Type 0
IsVisible c = IsInRange 33 126 c

-- these are the words of the text, in order
abbrev pub HasWords : List ℕ → List (List ℕ) → Type 0
HasWords text [] = IsGap text
HasWords text (word ∷ words) =
    (gap rest : List ℕ) × (text ≡ gap ++ (word ++ rest)) × IsGap gap × IsWord word × EndsWord rest × HasWords rest words
