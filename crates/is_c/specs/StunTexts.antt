-- The texts of a STUN message as C passes them: an array of bytes, and where in it each text is.
use Rattle.std.specs.Prelude.{◌≡◌, ℕ, ◌+◌, ◌&&◌, Bool, List, take, drop, length, nat_lt, Option, Some, None, if◌then◌else◌, Result, Ok, Err, ℤ}
use Rattle.std.specs.Option.{option_copied, option_or}
use Rattle.std.specs.Str.{is_utf8}
use Rattle.is_c.specs.declared.stun_texts.Span.{Span}
use Rattle.is_c.specs.declared.stun_texts.Texts.{Texts}
use Rattle.is_c.specs.declared.stun_texts.Words.{Words}
use Rattle.is_c_calls.specs.Codes.{NOT_UTF8, BAD_MESSAGE}

-- the text where the span says, if it is set
abbrev pub piece_in : List ℕ → Span → Option (List ℕ)
piece_in bytes s = if s.is_set then Some (take s.length (drop s.start bytes)) else None

-- the span ends past the bytes
abbrev pub is_outside : List ℕ → Span → Bool
is_outside bytes s = s.is_set && nat_lt (length bytes) (s.start + s.length)

abbrev pub utf8_fault : Option (List ℕ) → Option ℤ
utf8_fault None = None
utf8_fault (Some text) = if is_utf8 text then None else Some NOT_UTF8

abbrev pub data_fault : List ℕ → Span → Option ℤ
data_fault bytes s = if is_outside bytes s then Some BAD_MESSAGE else None

abbrev pub text_fault : List ℕ → Span → Option ℤ
text_fault bytes s = option_or (data_fault bytes s) (utf8_fault (piece_in bytes s))

-- the first fault of the texts
abbrev pub texts_fault : List ℕ → Texts → Option ℤ
texts_fault bytes t =
    option_or (text_fault bytes t.username)
    (option_or (text_fault bytes t.reason)
    (option_or (data_fault bytes t.data)
    (option_or (text_fault bytes t.realm)
    (option_or (text_fault bytes t.nonce) (text_fault bytes t.software)))))

-- ---- the texts that are found

-- each text, and none that is not set
pub record AreWords (bytes : List ℕ) (t : Texts) (w : Words) : Type 0 where
  pub username : option_copied w.username ≡ piece_in bytes t.username
  pub reason : option_copied w.reason ≡ piece_in bytes t.reason
  pub «data» : option_copied w.data ≡ piece_in bytes t.data
  pub realm : option_copied w.realm ≡ piece_in bytes t.realm
  pub nonce : option_copied w.nonce ≡ piece_in bytes t.nonce
  pub software : option_copied w.software ≡ piece_in bytes t.software

abbrev pub FindsWords : List ℕ → Texts → Result Words ℤ → Type 0
FindsWords bytes t (Ok w) = (texts_fault bytes t ≡ None) × AreWords bytes t w
FindsWords bytes t (Err why) = texts_fault bytes t ≡ Some why
