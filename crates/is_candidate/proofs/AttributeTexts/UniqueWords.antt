-- A text has one list of words.
use Rattle.std.proofs.lemmas.Str.{encode_same, length-encode, len_utf8_bounds}
use Rattle.is_candidate.proofs.Common.{[], ◌++◌, ◌<◌, ◌∙◌, ◌∷◌, ◌≡◌, ◌⊎◌, ap, append_assoc, arith, Bool, encode_utf8, encode_utf8_all}
use Rattle.is_candidate.proofs.Common.{EndsWord, false, HasWords, inl, inr, is_not_whitespace, is_whitespace, IsGap, IsWord, length}
use Rattle.is_candidate.proofs.Common.{length-append, List, NoCharPasses, NonePass, not, refl, subst, sym, true, ℕ}

-- the text is empty, or begins with a character that passes
Starts : (ℕ → Bool) → List ℕ → Type 0
Starts p ys = (ys ≡ []) ⊎ ((c : ℕ) × (more : List ℕ) × (p c ≡ true) × (ys ≡ encode_utf8 c ++ more))

no-both : (b : Bool) → b ≡ true → b ≡ false → ⊥
no-both true e f = cc f
no-both false e f = cc e

nonempty : (c : ℕ) (rest : List ℕ) → [] ≡ encode_utf8 c ++ rest → ⊥
nonempty c rest e = omega (arith, ap length e, length-append (encode_utf8 c) rest, length-encode c, len_utf8_bounds c)

clash : (p : ℕ → Bool) (d : ℕ) (rest ys : List ℕ) → p d ≡ false → Starts p ys → ys ≡ encode_utf8 d ++ rest → ⊥
unfolding Starts
clash p d rest ys f (inl e) h = nonempty d rest (sym e ∙ h)
clash p d rest ys f (inr s) h =
    let same = encode_same s.0 d s.1 rest (sym s.3 ∙ h) in
    no-both (p d) (ap p (sym same.0) ∙ s.2) f

-- the longest front in which no character passes is one
span : (p : ℕ → Bool) (cs ds ys zs : List ℕ) → NonePass p cs → NonePass p ds → Starts p ys → Starts p zs
    → encode_utf8_all cs ++ ys ≡ encode_utf8_all ds ++ zs → (cs ≡ ds) × (ys ≡ zs)
span p [] [] ys zs f g s t e = (refl, e)
span p [] (d ∷ ds) ys zs f g s t e =
    absurd (clash p d (encode_utf8_all ds ++ zs) ys g.0 s (e ∙ append_assoc (encode_utf8 d) (encode_utf8_all ds) zs))
span p (c ∷ cs) [] ys zs f g s t e =
    absurd (clash p c (encode_utf8_all cs ++ ys) zs f.0 t (sym e ∙ append_assoc (encode_utf8 c) (encode_utf8_all cs) ys))
span p (c ∷ cs) (d ∷ ds) ys zs f g s t e =
    let h = encode_same c d (encode_utf8_all cs ++ ys) (encode_utf8_all ds ++ zs) (sym (append_assoc (encode_utf8 c) (encode_utf8_all cs) ys) ∙ e ∙ append_assoc (encode_utf8 d) (encode_utf8_all ds) zs) in
    let k = span p cs ds ys zs f.1 g.1 s t h.1 in
    (ap (λ x. x ∷ cs) h.0 ∙ ap (λ l. d ∷ l) k.0, k.1)

-- the part of a text before the first character that passes is unique
front : (p : ℕ → Bool) (xs ws ys zs : List ℕ) → NoCharPasses p xs → NoCharPasses p ws → Starts p ys → Starts p zs → xs ++ ys ≡ ws ++ zs
    → (xs ≡ ws) × (ys ≡ zs)
front p xs ws ys zs f g s t e =
    let h = span p f.0 g.0 ys zs f.2 g.2 s t (ap (λ l. l ++ ys) f.1 ∙ e ∙ ap (λ l. l ++ zs) (sym g.1)) in
    (sym f.1 ∙ ap encode_utf8_all h.0 ∙ g.1, h.1)

starts-rest : (rest : List ℕ) → EndsWord rest → Starts is_whitespace rest
unfolding Starts
starts-rest [] h = inl refl
starts-rest (x ∷ xs) h = let c = h.1 (omega arith) in inr (c.0, h.0, c.1, c.2)

starts-chars : (cs rest : List ℕ) → NonePass is_whitespace cs → 0 < length (encode_utf8_all cs) → Starts is_not_whitespace (encode_utf8_all cs ++ rest)
unfolding Starts
starts-chars [] rest f h = absurd (omega arith)
starts-chars (c ∷ cs) rest f h = inr (c, encode_utf8_all cs ++ rest, ap not f.0, append_assoc (encode_utf8 c) (encode_utf8_all cs) rest)

starts-word : (word rest : List ℕ) → IsWord word → Starts is_not_whitespace (word ++ rest)
starts-word word rest (l, (cs, e, f)) =
    let P : List ℕ → Type 0 = λ w. Starts is_not_whitespace (w ++ rest) in
    let L : List ℕ → Type 0 = λ w. 0 < length w in
    subst P e (starts-chars cs rest f (subst L (sym e) l))

starts-none : (p : ℕ → Bool) → Starts p []
unfolding Starts
starts-none p = inl refl

-- a gap has no word in it
no-word : (text gap word rest : List ℕ) → IsGap text → IsGap gap → IsWord word → text ≡ gap ++ (word ++ rest) → ⊥
no-word text gap word rest g h w e =
    let k = front is_not_whitespace text gap [] (word ++ rest) g h (starts-none is_not_whitespace) (starts-word word rest w) (append-none text ∙ e) in
    omega (arith, ap length k.1, length-append word rest, w.0)
  where
    append-none : (xs : List ℕ) → xs ++ [] ≡ xs
    append-none [] = refl
    append-none (x ∷ xs) = ap (λ l. x ∷ l) (append-none xs)

pub has-words-unique : (ws vs : List (List ℕ)) (text : List ℕ) → HasWords text ws → HasWords text vs → ws ≡ vs
has-words-unique [] [] text h k = refl
has-words-unique [] (v ∷ vs) text h (gap, rest, e, g, w, s, more) = absurd (no-word text gap v rest h g w e)
has-words-unique (w ∷ ws) [] text (gap, rest, e, g, x, s, more) k = absurd (no-word text gap w rest k g x e)
has-words-unique (w ∷ ws) (v ∷ vs) text (gap, rest, e, g, x, s, more) (gap', rest', e', g', x', s', more') =
    let gaps = front is_not_whitespace gap gap' (w ++ rest) (v ++ rest') g g' (starts-word w rest x) (starts-word v rest' x') (sym e ∙ e') in
    let words = front is_whitespace w v rest rest' x.1 x'.1 (starts-rest rest s) (starts-rest rest' s') gaps.1 in
    let P : List ℕ → Type 0 = λ r. HasWords r vs in
    ap (λ l. l ∷ ws) words.0 ∙ ap (λ l. v ∷ l) (has-words-unique ws vs rest more (subst P (sym words.1) more'))
