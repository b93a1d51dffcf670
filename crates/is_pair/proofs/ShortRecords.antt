-- The removed pairs of two lists, one with a place for each and one with those that have no short record.
use Rattle.is_pair.proofs.Common.{[], ◌++◌, ◌+◌, ◌<◌, ◌∙◌, ◌∷◌, ◌≡◌, ◌≤◌, ap, append_assoc, arith, Bool, drop, filter, get_or, joined, length, List, long_count}
use Rattle.std.proofs.lemmas.List.Elements.{filter-append}
use Rattle.std.proofs.lemmas.List.{take_all}
use Rattle.is_pair.proofs.Common.{drop_all, drop_more, length-drop, take_more}
use Rattle.is_pair.proofs.Common.{Bor, IfSome, is_some, nat_lt, nat_tests, Option, option_copied, slice_get_past, slice_get_read}
use Rattle.is_pair.proofs.Common.{Long, None, pair_of_short, Place, refl, RemovedPair, Short, ShortRecord, slice_get, slice_get-get_or, Some, suc, sym, take, true, zero, ℕ}

pub long-few : (ps : List Place) → long_count ps ≤ length ps
long-few [] = omega arith
long-few (Short s ∷ ps) = omega (arith, long-few ps)
long-few (Long ∷ ps) = omega (arith, long-few ps)

pub count-both : (ps qs : List Place) → long_count (ps ++ qs) ≡ long_count ps + long_count qs
count-both [] qs = omega arith
count-both (Short s ∷ ps) qs = count-both ps qs
count-both (Long ∷ ps) qs = omega (arith, count-both ps qs)

-- ---- the joined list

pub joined-length : (ps : List Place) (ls : List RemovedPair) → long_count ps ≡ length ls → length (joined ps ls) ≡ length ps
joined-length [] ls same = refl
joined-length (Short s ∷ ps) ls same = omega (arith, joined-length ps ls same)
joined-length (Long ∷ ps) [] same = absurd (omega (arith, same))
joined-length (Long ∷ ps) (r ∷ ls) same = omega (arith, joined-length ps ls (omega (arith, same)))

pub joined-short : (ps : List Place) (ls : List RemovedPair) (s : ShortRecord)
    → joined (ps ++ Short s ∷ []) ls ≡ joined ps ls ++ pair_of_short s ∷ []
joined-short [] ls s = refl
joined-short (Short t ∷ ps) ls s = ap (λ (rs : List RemovedPair). pair_of_short t ∷ rs) (joined-short ps ls s)
joined-short (Long ∷ ps) ls s =
    ap (λ (rs : List RemovedPair). take 1 ls ++ rs) (joined-short ps (drop 1 ls) s)
    ∙ sym (append_assoc (take 1 ls) (joined ps (drop 1 ls)) (pair_of_short s ∷ []))

pub joined-long : (ps : List Place) (ls : List RemovedPair) (r : RemovedPair) → long_count ps ≡ length ls
    → joined (ps ++ Long ∷ []) (ls ++ r ∷ []) ≡ joined ps ls ++ r ∷ []
joined-long [] [] r same = refl
joined-long [] (l ∷ ls) r same = absurd (omega (arith, same))
joined-long (Short s ∷ ps) ls r same = ap (λ (rs : List RemovedPair). pair_of_short s ∷ rs) (joined-long ps ls r same)
joined-long (Long ∷ ps) [] r same = absurd (omega (arith, same))
joined-long (Long ∷ ps) (l ∷ ls) r same = ap (λ (rs : List RemovedPair). l ∷ rs) (joined-long ps ls r (omega (arith, same)))

-- ---- the pair with an index

pub at-short : (ps : List Place) (ls : List RemovedPair) (i : ℕ) (s : ShortRecord) → long_count ps ≡ length ls → slice_get ps i ≡ Some (Short s)
    → slice_get (joined ps ls) i ≡ Some (pair_of_short s)
at-short [] ls i s same at = absurd (grind (arith, at))
at-short (Short t ∷ ps) ls zero s same at = grind (arith, at)
at-short (Short t ∷ ps) ls (suc i) s same at = at-short ps ls i s same at
at-short (Long ∷ ps) ls zero s same at = absurd (grind (arith, at))
at-short (Long ∷ ps) [] (suc i) s same at = absurd (omega (arith, same))
at-short (Long ∷ ps) (l ∷ ls) (suc i) s same at = at-short ps ls i s (omega (arith, same)) at

pub at-long : (ps : List Place) (ls : List RemovedPair) (i : ℕ) → long_count ps ≡ length ls → slice_get ps i ≡ Some Long
    → slice_get (joined ps ls) i ≡ slice_get ls (long_count (take i ps))
at-long [] ls i same at = absurd (grind (arith, at))
at-long (Short t ∷ ps) ls zero same at = absurd (grind (arith, at))
at-long (Short t ∷ ps) ls (suc i) same at = at-long ps ls i same at
at-long (Long ∷ ps) [] i same at = absurd (omega (arith, same))
at-long (Long ∷ ps) (l ∷ ls) zero same at = refl
at-long (Long ∷ ps) (l ∷ ls) (suc i) same at =
    let count : long_count (take i ps) + 1 ≡ suc (long_count (take i ps)) = omega arith in
    at-long ps ls i (omega (arith, same)) at ∙ sym (ap (slice_get (l ∷ ls)) count)

pub item-at : (ps : List Place) (i : ℕ) (p q : Place) → i < length ps → p ≡ q → p ≡ get_or ps i p → slice_get ps i ≡ Some q
item-at ps i p q within same is = slice_get-get_or ps i p within ∙ ap (λ (x : Place). Some x) (sym is ∙ same)

-- ---- the oldest is dropped, or becomes the newest

pub rotated-short : (t : RemovedPair → Bool) (was ps : List Place) (ls : List RemovedPair) (s : ShortRecord) → was ≡ Short s ∷ ps → t (pair_of_short s) ≡ true
    → joined (ps ++ Short s ∷ []) ls ≡ drop 1 (joined was ls) ++ filter t (take 1 (joined was ls))
rotated-short t was ps ls s is passes =
    joined-short ps ls s ∙ rw (is, passes) refl

pub rotated-long : (t : RemovedPair → Bool) (was ps : List Place) (all ls : List RemovedPair) (r : RemovedPair) → was ≡ Long ∷ ps → all ≡ r ∷ ls
    → long_count ps ≡ length ls → t r ≡ true
    → joined (ps ++ Long ∷ []) (ls ++ r ∷ []) ≡ drop 1 (joined was all) ++ filter t (take 1 (joined was all))
rotated-long t was ps all ls r is these same passes =
    joined-long ps ls r same ∙ rw (is, these, passes) refl

pub copied-at : (xs : List RemovedPair) (i : ℕ) (o : Option (Bor RemovedPair)) → is_some o ≡ nat_lt i (length xs)
    → IfSome o (λ x. x.now ≡ get_or xs i x.now) → option_copied o ≡ slice_get xs i
copied-at xs i None some at = sym (slice_get_past xs i (grind (arith, nat_tests, some)))
copied-at xs i (Some x) some at = sym (slice_get_read xs (length xs) i x.now refl (grind (arith, nat_tests, some)) at)

rotated-from : (t : RemovedPair → Bool) (old mid new rest : List RemovedPair) (i : ℕ) → drop i old ≡ rest → i < length old
    → mid ≡ drop i old ++ filter t (take i old) → new ≡ drop 1 mid ++ filter t (take 1 mid) → new ≡ drop (i + 1) old ++ filter t (take (i + 1) old)
rotated-from t old mid new [] i at within is step = absurd (omega (arith, length-drop i old, ap length at, within))
rotated-from t old mid new (x ∷ xs) i at within is step =
    let y = get_or old i x in
    let left = drop (i + 1) old in
    let first : mid ≡ (y ∷ left) ++ filter t (take i old) = is ∙ ap (λ (rs : List RemovedPair). rs ++ filter t (take i old)) (drop_more old i x within) in
    let more : filter t (take (i + 1) old) ≡ filter t (take i old) ++ filter t (y ∷ []) =
    ap (filter t) (take_more old i x within) ∙ filter-append t (take i old) (y ∷ []) in
    step
    ∙ ap (λ (rs : List RemovedPair). drop 1 rs ++ filter t (take 1 rs)) first
    ∙ append_assoc left (filter t (take i old)) (filter t (y ∷ []))
    ∙ ap (λ (rs : List RemovedPair). left ++ rs) (sym more)

-- after so many rotations
pub rotated-more : (t : RemovedPair → Bool) (old mid new : List RemovedPair) (i : ℕ) → i < length old
    → mid ≡ drop i old ++ filter t (take i old) → new ≡ drop 1 mid ++ filter t (take 1 mid) → new ≡ drop (i + 1) old ++ filter t (take (i + 1) old)
rotated-more t old mid new i within is step = rotated-from t old mid new (drop i old) i refl within is step

pub rotated-all : (t : RemovedPair → Bool) (old new : List RemovedPair) (i : ℕ) → length old ≤ i → new ≡ drop i old ++ filter t (take i old) → new ≡ filter t old
rotated-all t old new i all is =
    is ∙ ap (λ (rs : List RemovedPair). rs ++ filter t (take i old)) (drop_all i old all) ∙ ap (filter t) (take_all i old all)
