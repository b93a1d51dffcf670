-- Texts that are put one after another.
use Rattle.std.proofs.lemmas.Slice.{drop-append-drop}
use Rattle.is_stun.proofs.Common.{[], ◌++◌, ◌+◌, ◌∙◌, ◌≡◌, ◌≤◌, add-zero, ap, append_assoc, arith, drop, length, length-append, length-drop}
use Rattle.is_stun.proofs.Common.{length-take, List, Puts, splice, sym, take, take-append-drop, take_at, ℕ}

pub length-splice : (xs text : List ℕ) (at : ℕ) → at + length text ≤ length xs → length (splice xs at text) ≡ length xs
unfolding splice
length-splice xs text at fits =
    omega (arith, length-append (take at xs) (text ++ drop (at + length text) xs), length-append text (drop (at + length text) xs), length-take at xs, length-drop (at + length text) xs)

pub splice-splice : (xs a b : List ℕ) (at : ℕ) → at + length a + length b ≤ length xs → splice (splice xs at a) (at + length a) b ≡ splice xs at (a ++ b)
unfolding splice
splice-splice xs a b at fits =
    let front : List ℕ = take at xs ++ a in
    let front_len : length front ≡ at + length a = omega (arith, length-append (take at xs) a, length-take at xs) in
    let rest : List ℕ = drop (at + length a) xs in
    let regrouped : take at xs ++ (a ++ rest) ≡ front ++ rest = sym (append_assoc (take at xs) a rest) in
    let taken : take (at + length a) (take at xs ++ (a ++ rest)) ≡ front = ap (take (at + length a)) regrouped ∙ take_at front rest (at + length a) front_len in
    let following : drop (at + length a + length b) (take at xs ++ (a ++ rest)) ≡ drop (at + length (a ++ b)) xs =
    ap (drop (at + length a + length b)) regrouped
    ∙ drop-append-drop (at + length a) xs front (at + length a + length b) (omega arith) front_len
    ∙ ap (λ (n : ℕ). drop n xs) (omega (arith, length-append a b)) in
    ap (λ (x : List ℕ). x ++ (b ++ drop (at + length a + length b) (take at xs ++ (a ++ rest)))) taken
    ∙ ap (λ (x : List ℕ). front ++ (b ++ x)) following
    ∙ append_assoc (take at xs) a (b ++ drop (at + length (a ++ b)) xs)
    ∙ ap (λ (x : List ℕ). take at xs ++ x) (sym (append_assoc a b (drop (at + length (a ++ b)) xs)))

-- nothing is put
pub Puts-nothing : (s : List ℕ) (at : ℕ) → at ≤ length s → Puts s s at at []
unfolding splice
Puts-nothing s at fits = record { bytes = rw add-zero (sym (take-append-drop at s)); ends = omega arith; fits = fits }

-- one text after another is their concatenation
pub Puts-then : {s t u : List ℕ} {at mid end : ℕ} {a b : List ℕ} → Puts s t at mid a → Puts t u mid end b → Puts s u at end (a ++ b)
Puts-then {s} {t} {u} {at} {mid} {end} {a} {b} p q =
    let t_len : length t ≡ length s = ap length p.bytes ∙ length-splice s a at (omega (arith, p.ends, p.fits)) in
    record {
      bytes = q.bytes ∙ ap (λ (n : ℕ). splice t n b) p.ends ∙ ap (λ (x : List ℕ). splice x (at + length a) b) p.bytes
          ∙ splice-splice s a b at (omega (arith, p.ends, q.ends, q.fits, t_len));
      ends = omega (arith, p.ends, q.ends, length-append a b);
      fits = omega (arith, q.fits, t_len);
    }

-- what was put at the front is the front
pub take-Puts : {s t : List ℕ} {end : ℕ} {a : List ℕ} → Puts s t 0 end a → take end t ≡ a
unfolding splice
take-Puts {s} {t} {end} {a} p = ap (take end) p.bytes ∙ take_at a (drop (0 + length a) s) end (omega (arith, p.ends))
