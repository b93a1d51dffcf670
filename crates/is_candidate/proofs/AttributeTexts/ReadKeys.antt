-- One step of the loop over the keys reads one more key and its value.
use Rattle.is_candidate.proofs.Common.{[], ◌+◌, ◌<◌, ◌∷◌, ◌≡◌, Answer, arith, Bor, drop, Err, get_or, Keys, length, List, None, Ok}
use Rattle.is_candidate.proofs.Common.{option_copied, ReadsKey, ReadsKeys, slice_get, subst, suc, sym, texts, Then, zero, ℕ}

last-key : (key : List ℕ) (k : Keys) (s r : Answer Keys) → ReadsKey key None k s → Then s r (λ next. ReadsKeys next [] r) → ReadsKey key None k r
last-key key k (Ok n) r h e = let P : Answer Keys → Type 0 = ReadsKey key None k in subst P (sym e) h
last-key key k (Err m) r h e = let P : Answer Keys → Type 0 = ReadsKey key None k in subst P (sym e) h

turn : (xs : List (Bor (List ℕ))) (at : ℕ) (d : Bor (List ℕ)) (k : Keys) (s r : Answer Keys) → at < length xs
    → ReadsKey (get_or xs at d).now (option_copied (slice_get xs (suc at))) k s → Then s r (λ next. ReadsKeys next (texts (drop (suc (suc at)) xs)) r)
    → ReadsKeys k (texts (drop at xs)) r
turn [] at d k s r h w t = absurd (omega arith)
turn (x ∷ []) zero d k s r h w t = last-key x.now k s r w t
turn (x ∷ y ∷ ys) zero d k s r h w t = (s, w, t)
turn (x ∷ xs) (suc at) d k s r h w t = turn xs at d k s r (omega arith) w t

pub key-step : (xs : List (Bor (List ℕ))) (at : ℕ) (d : Bor (List ℕ)) (k : Keys) (s r : Answer Keys) → at < length xs
    → ReadsKey (get_or xs at d).now (option_copied (slice_get xs (at + 1))) k s → Then s r (λ next. ReadsKeys next (texts (drop (at + 2) xs)) r)
    → ReadsKeys k (texts (drop at xs)) r
key-step xs at d k s r h w t =
    let one : at + 1 ≡ suc at = omega arith in
    let two : at + 2 ≡ suc (suc at) = omega arith in
    let P : ℕ → Type 0 = λ n. ReadsKey (get_or xs at d).now (option_copied (slice_get xs n)) k s in
    let Q : ℕ → Type 0 = λ n. Then s r (λ next. ReadsKeys next (texts (drop n xs)) r) in
    turn xs at d k s r h (subst P one w) (subst Q two t)
