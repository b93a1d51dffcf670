-- The grammar of the texts that agents signal (RFC 8839, sections 5.1 and 5.4).
use Rattle.std.specs.Prelude.{ℕ, ◌==◌, ◌&&◌, ◌||◌, Bool, false, nat_le, List, length, if◌then◌else◌}
use Rattle.std.specs.List.{list_all}

abbrev pub is_between : ℕ → ℕ → ℕ → Bool
is_between least most n = nat_le least n && nat_le n most

-- a letter, a digit, '+' or '/'
abbrev pub is_ice_char : ℕ → Bool
is_ice_char b = is_between 65 90 b || is_between 97 122 b || is_between 48 57 b || b == 43 || b == 47

-- the text has `least` to `most` ice-chars, and nothing else
abbrev pub is_token : ℕ → ℕ → List ℕ → Bool
is_token least most text = is_between least most (length text) && list_all is_ice_char text

-- a username fragment, a password or a foundation, by the number of the kind
abbrev pub is_in_grammar : ℕ → List ℕ → Bool
is_in_grammar kind text =
    if kind == 0 then is_token 4 256 text
    else (if kind == 1 then is_token 22 256 text
    else (if kind == 2 then is_token 1 32 text else false))
