-- The index of the pair with a number, in a list that is sorted by number.
use Rattle.is_pair.proofs.Common.{[], ◌+◌, ◌==◌, ◌∙◌, ◌∷◌, ◌≡◌, ◌≤◌, ap, arith, cond, cond_some, eq-eqb, false, find_at, is_numbered}
use Rattle.is_pair.proofs.Common.{IsPartitionedBy, IsPartitionPoint, length, List, nat_lt, nat_tests, None, pair_numbered, PairRecord}
use Rattle.is_pair.proofs.Common.{get_or_from_slice_get, position, position_or_len, refl, rises, slice_get, slice_get_past, slice_get_within, Some, suc, sym, true}
use Rattle.is_pair.proofs.Common.{zero, ℕ}
use Rattle.is_pair.proofs.PairEntries.ChangedEntry.{above, apart, below-apart, both}
use Rattle.is_pair.proofs.PriorityOrder.OrderedPairs.{all-at}

-- ---- what is at the index

pub place-found : (n : ℕ) (ps : List PairRecord) (k : ℕ) → position (is_numbered n) ps ≡ Some k → pair_numbered n ps ≡ slice_get ps k
place-found n ps k is =
    find_at (is_numbered n) ps
    ∙ ap (slice_get ps) (cond_some (nat_lt (position_or_len (is_numbered n) ps) (length ps)) (position_or_len (is_numbered n) ps) k is).1

past : (k l : ℕ) → cond (nat_lt k l) (Some k) None ≡ None → l ≤ k
past k l none = elim (nat_lt k l) as (λ b. nat_lt k l ≡ b → cond b (Some k) None ≡ None → l ≤ k) [
  | true ↦ λ is h. absurd (cc)
  | false ↦ λ is h. grind (arith, nat_tests, is)
] refl none

pub place-none : (n : ℕ) (ps : List PairRecord) → position (is_numbered n) ps ≡ None → pair_numbered n ps ≡ None
place-none n ps none =
    find_at (is_numbered n) ps ∙ slice_get_past ps (position_or_len (is_numbered n) ps) (past (position_or_len (is_numbered n) ps) (length ps) none)

-- ---- how it is found

-- the predicate of `partition_point`
pub parted : (n : ℕ) (ps : List PairRecord) → rises ps ≡ true → IsPartitionedBy (λ (p : PairRecord). nat_lt p.number n) ps
parted n [] h i j d below within is = absurd (omega arith)
parted n (p ∷ ps) h zero zero d below within is = is
parted n (p ∷ ps) h zero (suc j) d below within is =
    let less = all-at (λ q. nat_lt p.number q.number) ps j d (both (above p.number ps) (rises ps) h).0 (omega arith) in
    grind (arith, nat_tests, less, is)
parted n (p ∷ ps) h (suc i) zero d below within is = absurd (omega arith)
parted n (p ∷ ps) h (suc i) (suc j) d below within is = parted n ps (both (above p.number ps) (rises ps) h).1 i j d (omega arith) (omega arith) is

abbrev pub IsNumberPoint : ℕ → List PairRecord → ℕ → Type 0
IsNumberPoint n ps i = IsPartitionPoint (λ (p : PairRecord). nat_lt p.number n ≡ true) (λ (p : PairRecord). nat_lt p.number n ≡ false) ps i

following : (n : ℕ) (p : PairRecord) (ps : List PairRecord) (i : ℕ) → IsNumberPoint n (p ∷ ps) (suc i) → IsNumberPoint n ps i
following n p ps i point = ((λ j d low below. point.0 (suc j) d (omega arith) (omega arith)), λ j d from within. point.1 (suc j) d (omega arith) (omega arith))

next : (a b : ℕ) → a ≡ b → 1 + a ≡ suc b
next a b is = omega arith

placed : (n : ℕ) (ps : List PairRecord) (i : ℕ) (q : PairRecord) → IsNumberPoint n ps i → slice_get ps i ≡ Some q → q.number ≡ n → position_or_len (is_numbered n) ps ≡ i
placed n [] i q point at is = absurd (cc)
placed n (p ∷ ps) zero q point at is =
    let same : p ≡ q = cc in
    rw (eq-eqb p.number n (ap (λ (x : PairRecord). x.number) same ∙ is)) refl
placed n (p ∷ ps) (suc i) q point at is =
    rw (below-apart n p.number (point.0 zero p (omega arith) (omega arith))) (next _ i (placed n ps i q (following n p ps i point) at is))

pub place-here : (n : ℕ) (ps : List PairRecord) (i : ℕ) (q : PairRecord) → IsNumberPoint n ps i → slice_get ps i ≡ Some q → q.number ≡ n → position (is_numbered n) ps ≡ Some i
place-here n ps i q point at is =
    let in_list = slice_get_within ps i q at in
    let less : nat_lt i (length ps) ≡ true = grind (arith, nat_tests, in_list) in
    rw (placed n ps i q point at is, less) refl

-- the same without a partition point
direct : (n : ℕ) (ps : List PairRecord) (i : ℕ) (q : PairRecord) → rises ps ≡ true → slice_get ps i ≡ Some q → q.number ≡ n → position_or_len (is_numbered n) ps ≡ i
direct n [] i q rising at is = absurd (cc)
direct n (p ∷ ps) zero q rising at is =
    let same : p ≡ q = cc in
    rw (eq-eqb p.number n (ap (λ (x : PairRecord). x.number) same ∙ is)) refl
direct n (p ∷ ps) (suc i) q rising at is =
    let parts = both (above p.number ps) (rises ps) rising in
    let less = all-at (λ (r : PairRecord). nat_lt p.number r.number) ps i q parts.0 (slice_get_within ps i q at) in
    let below : nat_lt p.number n ≡ true = sym (ap (λ (r : PairRecord). nat_lt p.number r.number) (get_or_from_slice_get ps i q q at) ∙ ap (nat_lt p.number) is) ∙ less in
    rw (below-apart n p.number below) (next _ i (direct n ps i q parts.1 at is))

pub place-direct : (n : ℕ) (ps : List PairRecord) (i : ℕ) (q : PairRecord) → rises ps ≡ true → slice_get ps i ≡ Some q → q.number ≡ n → position (is_numbered n) ps ≡ Some i
place-direct n ps i q rising at is =
    let in_list = slice_get_within ps i q at in
    let less : nat_lt i (length ps) ≡ true = grind (arith, nat_tests, in_list) in
    rw (direct n ps i q rising at is, less) refl

none-above : (n m : ℕ) (ps : List PairRecord) → nat_lt n m ≡ true → above m ps ≡ true → position_or_len (is_numbered n) ps ≡ length ps
none-above n m [] less h = refl
none-above n m (p ∷ ps) less h =
    let b = both (nat_lt m p.number) (above m ps) h in
    let over : nat_lt n p.number ≡ true = grind (arith, nat_tests, less, b.0) in
    rw (apart n p.number over) (next _ (length ps) (none-above n m ps less b.1))

over : (n m : ℕ) → nat_lt m n ≡ false → m == n ≡ false → nat_lt n m ≡ true
over n m low other = grind (arith, nat_tests, low, other)

nowhere : (n : ℕ) (ps : List PairRecord) (i : ℕ) → rises ps ≡ true → IsNumberPoint n ps i → ((q : PairRecord) → slice_get ps i ≡ Some q → q.number == n ≡ false)
    → position_or_len (is_numbered n) ps ≡ length ps
nowhere n [] i rising point other = refl
nowhere n (p ∷ ps) zero rising point other =
    let here = other p refl in
    let low = point.1 zero p (omega arith) (omega arith) in
    rw here (next _ (length ps) (none-above n p.number ps (over n p.number low here) (both (above p.number ps) (rises ps) rising).0))
nowhere n (p ∷ ps) (suc i) rising point other =
    rw (below-apart n p.number (point.0 zero p (omega arith) (omega arith)))
    (next _ (length ps) (nowhere n ps i (both (above p.number ps) (rises ps) rising).1 (following n p ps i point) other))

pub place-nowhere : (n : ℕ) (ps : List PairRecord) (i : ℕ) → rises ps ≡ true → IsNumberPoint n ps i → ((q : PairRecord) → slice_get ps i ≡ Some q → q.number == n ≡ false)
    → position (is_numbered n) ps ≡ None
place-nowhere n ps i rising point other =
    let none : nat_lt (length ps) (length ps) ≡ false = grind (arith, nat_tests) in
    rw (nowhere n ps i rising point other, none) refl
