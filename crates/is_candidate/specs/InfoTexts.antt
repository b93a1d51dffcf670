-- The tokens of candidate JSON.
use Rattle.std.specs.Prelude.{List, [], ◌∷◌, ℕ, codes, decimal, Option, Some, None}
use Rattle.json.specs.Token.{Token, begin_object, end_object, key, string, number, null}

-- a username fragment, or null
abbrev pub fragment_token : Option (List ℕ) → Token
fragment_token (Some text) = string text
fragment_token None = null

-- the object with this line and this username fragment
abbrev pub info_tokens : List ℕ → Option (List ℕ) → List Token
info_tokens line ufrag =
    begin_object ∷ key (codes "candidate") ∷ string line ∷ key (codes "sdpMLineIndex") ∷ number (decimal 0) ∷ key (codes "sdpMid") ∷ null
    ∷ key (codes "usernameFragment") ∷ fragment_token ufrag ∷ end_object ∷ []
