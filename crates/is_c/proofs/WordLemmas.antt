-- Words: a text is one if a search for white space finds none in it.
use Rattle.std.proofs.Common.{◌≡◌, ℕ, ◌<◌, length, take, drop, Bool, true, false, not, List, [], ◌∷◌, ◌++◌, IsTrue, MatchBool, refl, sym, ap, ◌∙◌, arith, append_assoc, length-append}
use Rattle.std.proofs.lemmas.List.{take-append-drop}
use Rattle.std.proofs.lemmas.Str.{encode_same, length-encode, len_utf8_bounds}
use Rattle.std.specs.Char.{is_whitespace, encode_utf8}
use Rattle.std.specs.Str.{NonePass, NoCharPasses, encode_utf8_all}
use Rattle.std.specs.Str.Pattern.{FindsBy, HasMatch}
use Rattle.is_candidate.specs.Words.{IsWord}

-- a test does not have both results
pub both : (b : Bool) → b ≡ true → b ≡ false → ⊥
both true e f = cc f
both false e f = cc e

some_byte : (c : ℕ) (rest : List ℕ) → [] ≡ encode_utf8 c ++ rest → ⊥
some_byte c rest e = omega (arith, ap length e, length-append (encode_utf8 c) rest, length-encode c, len_utf8_bounds c)

-- a text has a character that passes after some that do not
passing : (p : ℕ → Bool) (cs ds : List ℕ) (c : ℕ) (rest : List ℕ) → NonePass p cs → p c ≡ true
    → encode_utf8_all cs ≡ encode_utf8_all ds ++ (encode_utf8 c ++ rest) → ⊥
passing p [] [] c rest none pass e = some_byte c rest e
passing p [] (d ∷ ds) c rest none pass e =
    some_byte d (encode_utf8_all ds ++ (encode_utf8 c ++ rest)) (e ∙ append_assoc (encode_utf8 d) (encode_utf8_all ds) (encode_utf8 c ++ rest))
passing p (b ∷ cs) [] c rest none pass e =
    let same = encode_same b c (encode_utf8_all cs) rest e in
    both (p c) pass (sym (ap p same.0) ∙ none.0)
passing p (b ∷ cs) (d ∷ ds) c rest none pass e =
    let same = encode_same b d (encode_utf8_all cs) (encode_utf8_all ds ++ (encode_utf8 c ++ rest)) (e ∙ append_assoc (encode_utf8 d) (encode_utf8_all ds) (encode_utf8 c ++ rest)) in
    passing p cs ds c rest none.1 pass same.1

-- what a search for white space finds, at its test, says whether the text is a word
pub decides : (text : List ℕ) (r : Bool) (M : (ℕ → Bool) → Type 0) → 0 < length text → M is_whitespace
    → MatchBool r (HasMatch (λ s o. (k : ℕ → Bool) → M k → FindsBy k s o) text) ((k : ℕ → Bool) → M k → NoCharPasses k text)
    → (IsTrue (not r) → IsWord text) × (IsWord text → IsTrue (not r))
decides text true M some m (i, j, finds, before, within) =
    let found = finds is_whitespace m in
    let front = found.0 in
    let at = found.1 in
    let split : encode_utf8_all front.0 ++ (encode_utf8 at.0 ++ drop j text) ≡ text =
    ap (λ l. l ++ (encode_utf8 at.0 ++ drop j text)) front.1 ∙ ap (λ l. take i text ++ l) (sym at.2.split) ∙ take-append-drop i text in
    (λ no. absurd (both false no refl), λ word. absurd (passing is_whitespace word.1.0 front.0 at.0 (drop j text) word.1.2 at.1 (word.1.1 ∙ sym split)))
decides text false M some m none = (λ _. (some, none is_whitespace m), λ _. refl)
