-- The texts of a candidate, and how they are stored: short ones in place, one after the other, with any bytes after them.
use Rattle.std.specs.Prelude.{ℕ, List, [], ◌+◌, ◌≤◌, length, take, drop, string_bytes, Option, unwrap_or}
use Rattle.std.specs.Option.{option_map}
use Rattle.std.specs.Str.{IsUtf8}
use Rattle.is_candidate.specs.declared.candidate.texts.Stored.{Stored}
use Rattle.is_candidate.specs.declared.candidate.texts.Stored.TheVariants.{Short, Joined, Long}

-- the foundation and the username fragment, each if there is one
pub record OptionalTexts : Type 0 where
  pub foundation : Option (List ℕ)
  pub ufrag : Option (List ℕ)

-- the length that two texts in place have together at most
abbrev pub ROOM : ℕ
ROOM = 27

-- the greatest length that is a byte
abbrev pub LONGEST : ℕ
LONGEST = 255

-- the text, or an empty one if there is none
abbrev pub text_or_empty : Option (List ℕ) → List ℕ
text_or_empty text = unwrap_or text []

-- the length, or 0 if there is no text
abbrev pub length_or_zero : Option ℕ → ℕ
length_or_zero len = unwrap_or len 0

-- the text that begins the bytes, if there is one
abbrev pub text_in : List ℕ → Option ℕ → Option (List ℕ)
text_in bytes len = option_map (λ n. take n bytes) len

-- the texts that begin the bytes, one after the other
abbrev pub texts_in : List ℕ → Option ℕ → Option ℕ → OptionalTexts
texts_in bytes foundation ufrag = record { foundation = text_in bytes foundation; ufrag = text_in (drop (length_or_zero foundation) bytes) ufrag }

-- the texts that are stored
abbrev pub texts_of : Stored → OptionalTexts
texts_of (Short foundation ufrag bytes) = texts_in bytes foundation ufrag
texts_of (Joined foundation ufrag text) = texts_in (string_bytes text) foundation ufrag
texts_of (Long texts) = record { foundation = option_map string_bytes texts.value.foundation; ufrag = option_map string_bytes texts.value.ufrag }

-- Two texts of these lengths begin the bytes.
pub record BeginWith (bytes : List ℕ) (foundation ufrag : ℕ) : Type 0 where
  pub within : foundation + ufrag ≤ length bytes
  pub foundation_is_utf8 : IsUtf8 (take foundation bytes)
  pub ufrag_is_utf8 : IsUtf8 (take ufrag (drop foundation bytes))

-- What is stored begins with the texts.
abbrev pub AreTexts : Stored → Type 0
AreTexts (Short foundation ufrag bytes) = BeginWith bytes (length_or_zero foundation) (length_or_zero ufrag)
AreTexts (Joined foundation ufrag text) = BeginWith (string_bytes text) (length_or_zero foundation) (length_or_zero ufrag)
AreTexts (Long texts) = Unit {0}
