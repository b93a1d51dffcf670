-- Words with a space before each.
use Rattle.std.proofs.lemmas.Str.{encode_ascii, NoCharPasses-nil}
use Rattle.is_candidate.proofs.Common.{[], ◌++◌, ◌+◌, ◌<◌, ◌∙◌, ◌∷◌, ◌≡◌, ◌≤◌, ◌⊎◌, All, ap, append_assoc, arith, BeginsWithWord, drop}
use Rattle.is_candidate.proofs.Common.{drop_more, EndsWord, get_or, HasWords, inl, inr, is_not_whitespace, IsGap, IsVisible, IsWord, length}
use Rattle.is_candidate.proofs.Common.{length-drop, length-take-le, List, refl, sym, take, take-append-drop, ℕ}
use Rattle.is_candidate.proofs.AttributeTexts.PlainWords.{visible_word}

abbrev pub AllWords : List (List ℕ) → Type 0
AllWords [] = Unit {0}
AllWords (word ∷ words) = IsWord word × AllWords words

abbrev pub spaced : List (List ℕ) → List ℕ
spaced [] = []
spaced (word ∷ words) = 32 ∷ (word ++ spaced words)

pub all_words-append : (ws vs : List (List ℕ)) → AllWords ws → AllWords vs → AllWords (ws ++ vs)
all_words-append [] vs h k = k
all_words-append (w ∷ ws) vs h k = (h.0, all_words-append ws vs h.1 k)

pub spaced-append : (ws vs : List (List ℕ)) → spaced (ws ++ vs) ≡ spaced ws ++ spaced vs
spaced-append [] vs = refl
spaced-append (w ∷ ws) vs =
    ap (λ l. 32 ∷ (w ++ l)) (spaced-append ws vs) ∙ ap (λ l. 32 ∷ l) (sym (append_assoc w (spaced ws) (spaced vs)))

pub space_gap : IsGap (32 ∷ [])
space_gap = (32 ∷ [], ap (λ l. l ++ []) (encode_ascii 32 (omega arith)), (refl, tt))

ends : (ws : List (List ℕ)) → EndsWord (spaced ws)
ends [] = ([], λ some. absurd (omega arith))
ends (w ∷ ws) = (w ++ spaced ws, λ some. (32, refl, ap (λ l. l ++ (w ++ spaced ws)) (sym (encode_ascii 32 (omega arith))), refl))

spaced_words : (ws : List (List ℕ)) → AllWords ws → HasWords (spaced ws) ws
spaced_words [] h = NoCharPasses-nil is_not_whitespace
spaced_words (w ∷ ws) h = (32 ∷ [], spaced ws, refl, space_gap, h.0, ends ws, spaced_words ws h.1)

-- a word, and further ones after spaces
pub line_words : (w : List ℕ) (ws : List (List ℕ)) → IsWord w → AllWords ws → HasWords (w ++ spaced ws) (w ∷ ws)
line_words w ws first more = ([], spaced ws, refl, NoCharPasses-nil is_not_whitespace, first, ends ws, spaced_words ws more)

-- what follows a word, if it is nothing or begins with a space
pub ends_at_space : (text : List ℕ) (i : ℕ) → (i < length text → get_or text i 0 ≡ 32) → EndsWord (drop i text)
ends_at_space text i space = (
  drop (i + 1) text,
  λ some.
      let within : i < length text = omega (arith, length-drop i text, some) in
      (32, refl, drop_more text i 0 within ∙ ap (λ c. c ∷ drop (i + 1) text) (space within) ∙ ap (λ l. l ++ drop (i + 1) text) (sym (encode_ascii 32 (omega arith))), refl),
)

pub no_word : (text : List ℕ) → length text ≡ 0 → IsGap text
no_word [] none = NoCharPasses-nil is_not_whitespace
no_word (c ∷ cs) none = absurd (omega (arith, none))

-- a word of visible characters, after a space or none, that ends at a space or with the text
pub cut_word : (text rest : List ℕ) (n : ℕ) → (text ≡ rest) ⊎ (text ≡ 32 ∷ rest) → 0 < n → n ≤ length rest → All IsVisible (take n rest)
    → (n < length rest → get_or rest n 0 ≡ 32) → BeginsWithWord text (take n rest) (drop n rest)
cut_word text rest n (inl same) some within seen space = (
  [],
  same ∙ sym (take-append-drop n rest),
  NoCharPasses-nil is_not_whitespace,
  visible_word (take n rest) (omega (arith, length-take-le n rest within, some)) seen,
  ends_at_space rest n space,
)
cut_word text rest n (inr more) some within seen space = (
  32 ∷ [],
  more ∙ ap (λ l. 32 ∷ l) (sym (take-append-drop n rest)),
  space_gap,
  visible_word (take n rest) (omega (arith, length-take-le n rest within, some)) seen,
  ends_at_space rest n space,
)
