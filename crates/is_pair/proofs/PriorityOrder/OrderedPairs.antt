-- The pairs of a checklist in the order of their priorities.
use Rattle.std.proofs.lemmas.List.{get_or-reverse}
use Rattle.std.proofs.lemmas.List.Sorted.{IsPermutation-reverse}
use Rattle.is_pair.proofs.Common.{[], ◌&&◌, ◌-◌, ◌<◌, ◌∙◌, ◌∷◌, ◌≡◌, ◌≤◌, ap, are_ordered, arith, Bool, false, filter, get_or}
use Rattle.is_pair.proofs.Common.{if◌then◌else◌, insert, is_rank, IsNonDecreasingBy, IsRanking, length, length-reverse, List, list_all}
use Rattle.is_pair.proofs.Common.{list_any-IsPermutation, nat_le, nat_lt, nat_tests, PairRecord, Rank, refl, reverse, suc, sym, true, zero, ℕ}
use Rattle.is_pair.proofs.PairEntries.ChangedEntry.{both, all-filter}

pub ordered-filter : (t : Rank → Bool) (rs : List Rank) → are_ordered rs ≡ true → are_ordered (filter t rs) ≡ true
ordered-filter t [] h = refl
ordered-filter t (r ∷ rs) h =
    let b = both (list_all (λ q. nat_le q.priority r.priority) rs) (are_ordered rs) h in
    elim (t r) as (λ b. are_ordered (if b then r ∷ filter t rs else filter t rs) ≡ true) [
      | true ↦ rw (all-filter (λ q. nat_le q.priority r.priority) t rs b.0) (ordered-filter t rs b.1)
      | false ↦ ordered-filter t rs b.1
    ]

-- ---- the same by indices

pub all-at : {X : Type 0} (t : X → Bool) (xs : List X) (k : ℕ) (d : X) → list_all t xs ≡ true → k < length xs → t (get_or xs k d) ≡ true
all-at t [] k d h within = absurd (omega arith)
all-at t (x ∷ xs) zero d h within = (both (t x) (list_all t xs) h).0
all-at t (x ∷ xs) (suc k) d h within = all-at t xs k d (both (t x) (list_all t xs) h).1 (omega arith)

pub all-from : {X : Type 0} (t : X → Bool) (xs : List X) → ((k : ℕ) (d : X) → k < length xs → t (get_or xs k d) ≡ true) → list_all t xs ≡ true
all-from t [] h = refl
all-from t (x ∷ xs) h = rw (h zero x (omega arith)) (all-from t xs (λ k d within. h (suc k) d (omega arith)))

nat_le-from : (a b : ℕ) → a ≤ b → nat_le a b ≡ true
nat_le-from a b h = grind (arith, nat_tests, h)

pub le-from-lt : {a b : ℕ} → nat_lt a b ≡ true → a ≤ b
le-from-lt {a} {b} h = grind (arith, nat_tests, h)

pub not-lt : {a b : ℕ} → nat_lt a b ≡ false → b ≤ a
not-lt {a} {b} h = grind (arith, nat_tests, h)

pub lt-more : (a b c : ℕ) → nat_lt a b ≡ true → b ≤ c → nat_lt a c ≡ true
lt-more a b c h more = grind (arith, nat_tests, h, more)

pub le-from : {a b : ℕ} → nat_le a b ≡ true → a ≤ b
le-from {a} {b} h = grind (arith, nat_tests, h)

abbrev pub Falls : List Rank → Type 0
Falls rs = (i j : ℕ) (d : Rank) → i ≤ j → j < length rs → (get_or rs j d).priority ≤ (get_or rs i d).priority

pub falls : (rs : List Rank) → are_ordered rs ≡ true → Falls rs
falls [] h i j d below within = absurd (omega arith)
falls (r ∷ rs) h zero zero d below within = omega arith
falls (r ∷ rs) h zero (suc j) d below within =
    let b = both (list_all (λ q. nat_le q.priority r.priority) rs) (are_ordered rs) h in
    le-from (all-at (λ q. nat_le q.priority r.priority) rs j d b.0 (omega arith))
falls (r ∷ rs) h (suc i) zero d below within = absurd (omega arith)
falls (r ∷ rs) h (suc i) (suc j) d below within =
    let b = both (list_all (λ q. nat_le q.priority r.priority) rs) (are_ordered rs) h in
    falls rs b.1 i j d (omega arith) (omega arith)

ordered-from : (rs : List Rank) → Falls rs → are_ordered rs ≡ true
ordered-from [] h = refl
ordered-from (r ∷ rs) h =
    let first = all-from (λ q. nat_le q.priority r.priority) rs (λ k d within. nat_le-from (get_or rs k d).priority r.priority (h zero (suc k) d (omega arith) (omega arith))) in
    rw first (ordered-from rs (λ i j d below within. h (suc i) (suc j) d (omega arith) (omega arith)))

-- ---- one entry more

all-insert : (t : Rank → Bool) (rs : List Rank) (i : ℕ) (r : Rank) → t r ≡ true → list_all t rs ≡ true → list_all t (insert rs i r) ≡ true
all-insert t [] zero r is all = rw is refl
all-insert t [] (suc i) r is all = rw is refl
all-insert t (x ∷ rs) zero r is all = rw is all
all-insert t (x ∷ rs) (suc i) r is all = let b = both (t x) (list_all t rs) all in rw (b.0) (all-insert t rs i r is b.1)

pub ordered-insert : (rs : List Rank) (i : ℕ) (r : Rank) → i ≤ length rs → are_ordered rs ≡ true → ((k : ℕ) (d : Rank) → k < i → r.priority ≤ (get_or rs k d).priority)
    → ((k : ℕ) (d : Rank) → i ≤ k → k < length rs → (get_or rs k d).priority ≤ r.priority) → are_ordered (insert rs i r) ≡ true
ordered-insert [] zero r within ordered above below = refl
ordered-insert [] (suc i) r within ordered above below = absurd (omega arith)
ordered-insert (x ∷ rs) zero r within ordered above below =
    let all = all-from (λ q. nat_le q.priority r.priority) (x ∷ rs) (λ k d lt. nat_le-from (get_or (x ∷ rs) k d).priority r.priority (below k d (omega arith) lt)) in
    rw all ordered
ordered-insert (x ∷ rs) (suc i) r within ordered above below =
    let b = both (list_all (λ q. nat_le q.priority x.priority) rs) (are_ordered rs) ordered in
    let all = all-insert (λ q. nat_le q.priority x.priority) rs i r (nat_le-from r.priority x.priority (above zero x (omega arith))) b.0 in
    rw all (ordered-insert rs i r (omega arith) b.1 (λ k d lt. above (suc k) d (omega arith)) (λ k d from lt. below (suc k) d (omega arith) (omega arith)))

-- ---- in reverse

-- the entries are sorted by priority, the least first
abbrev pub are_rising : List Rank → Bool
are_rising [] = true
are_rising (r ∷ rs) = list_all (λ q. nat_le r.priority q.priority) rs && are_rising rs

rising-from : (rs : List Rank) → IsNonDecreasingBy (λ (r : Rank). r.priority) rs → are_rising rs ≡ true
rising-from [] h = refl
rising-from (r ∷ rs) h =
    let first = all-from (λ q. nat_le r.priority q.priority) rs (λ k d within. nat_le-from r.priority (get_or rs k d).priority (h zero (suc k) d (omega arith) (omega arith))) in
    rw first (rising-from rs (λ i j d below within. h (suc i) (suc j) d (omega arith) (omega arith)))

pub rising-reversed : (rs : List Rank) → are_ordered rs ≡ true → are_rising (reverse rs) ≡ true
rising-reversed rs ordered = rising-from (reverse rs) (λ i j d below within.
    let all = length-reverse rs in
    let at-i = ap (λ (r : Rank). r.priority) (get_or-reverse rs i d (omega (arith, all))) in
    let at-j = ap (λ (r : Rank). r.priority) (get_or-reverse rs j d (omega (arith, all))) in
    let down = falls rs ordered (length rs - 1 - j) (length rs - 1 - i) d (omega (arith, all)) (omega (arith, all)) in
    omega (arith, at-i, at-j, down))

pub ordered-reversed : (rs : List Rank) → IsNonDecreasingBy (λ (r : Rank). r.priority) rs → are_ordered (reverse rs) ≡ true
ordered-reversed rs up = ordered-from (reverse rs) (λ i j d below within.
    let all = length-reverse rs in
    let at-i = ap (λ (r : Rank). r.priority) (get_or-reverse rs i d (omega (arith, all))) in
    let at-j = ap (λ (r : Rank). r.priority) (get_or-reverse rs j d (omega (arith, all))) in
    let rises = up (length rs - 1 - j) (length rs - 1 - i) d (omega (arith, all)) (omega (arith, all)) in
    omega (arith, at-i, at-j, rises))

pub ranking-reversed : (rs : List Rank) (ps : List PairRecord) → IsRanking rs ps → IsRanking (reverse rs) ps
ranking-reversed rs ps ranked = λ priority number.
    sym (list_any-IsPermutation (is_rank priority number) rs (reverse rs) (IsPermutation-reverse rs)) ∙ ranked priority number

pub above-from : {a b : ℕ} → nat_le a b ≡ false → b ≤ a
above-from {a} {b} h = grind (arith, nat_tests, h)
