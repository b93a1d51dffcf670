-- The index of a checklist is sorted by id.
use Rattle.std.proofs.lemmas.Cmp.{nat_list_cmp_total}
use Rattle.std.specs.Cmp.Lexicographic.{slice_cmp}
use Rattle.std.specs.Ordering.{is_lt, nat_cmp, ordering_reverse}
use Rattle.std.specs.declared.cmp.Ordering.{Ordering}
use Rattle.std.specs.declared.cmp.Ordering.TheVariants.{Less, Equal, Greater}
use Rattle.is_pair.proofs.Common.{[], ◌&&◌, ◌-◌, ◌∙◌, ◌∷◌, ◌≡◌, ◌≤◌, ap, arith, Bool, bytes_eq, bytes_eq-Decides, drop, false, filter, find}
use Rattle.is_pair.proofs.Common.{get_or, ids_rise, if◌then◌else◌, insert, is_before, IsPartitionedBy, IsPartitionPoint, Kept, length}
use Rattle.is_pair.proofs.Common.{length-drop, List, list_all, not, refl, Some, suc, sym, take, true, zero, ℕ}
use Rattle.is_pair.proofs.PairEntries.ChangedEntry.{both, all-filter}
use Rattle.is_pair.proofs.PriorityOrder.OrderedPairs.{all-at, all-from}

abbrev pub cmp : List ℕ → List ℕ → Ordering
cmp = slice_cmp nat_cmp

-- what is before is not after
reversed_path : (a b : List ℕ) → is_before a b ≡ true → not (is_before b a) ≡ true
reversed_path a b h = by (cmp a b) (cmp b a) (nat_list_cmp_total.antisymm b a) h
  where
    by : (r s : Ordering) → s ≡ ordering_reverse r → is_lt r ≡ true → not (is_lt s) ≡ true
    by Less s is h = rw is refl
    by Equal s is h = absurd (cc)
    by Greater s is h = absurd (cc)

-- a is not after b, which is before c
before-both : (a b c : List ℕ) → not (is_before b a) ≡ true → is_before b c ≡ true → is_before a c ≡ true
before-both a b c low h = by (cmp a b) refl (nat_list_cmp_total.antisymm b a)
  where
    less : (r : Ordering) → is_lt r ≡ true → r ≡ Less
    less Less h = refl
    less Equal h = absurd (cc)
    less Greater h = absurd (cc)

    by : (r : Ordering) → cmp a b ≡ r → cmp b a ≡ ordering_reverse (cmp a b) → is_before a c ≡ true
    by Less is back = ap is_lt (nat_list_cmp_total.trans a b c is (less (cmp b c) h))
    by Equal is back = ap is_lt (nat_list_cmp_total.congr a b c is) ∙ h
    by Greater is back = let following : is_before b a ≡ true = ap is_lt (back ∙ ap ordering_reverse is) in absurd (cc)

-- an id is not before itself
pub not-before : (a b : List ℕ) → bytes_eq a b ≡ true → is_before a b ≡ false
not-before a b same = rw ((bytes_eq-Decides a b).0 same) (by (cmp b b) (nat_list_cmp_total.antisymm b b))
  where
    by : (r : Ordering) → r ≡ ordering_reverse r → is_lt r ≡ false
    by Less is = absurd (cc)
    by Equal is = refl
    by Greater is = refl

pub rising-filter : (t : Kept → Bool) (ks : List Kept) → ids_rise ks ≡ true → ids_rise (filter t ks) ≡ true
rising-filter t [] h = refl
rising-filter t (k ∷ ks) h =
    let b = both (list_all (λ (q : Kept). not (is_before q.id.0 k.id.0)) ks) (ids_rise ks) h in
    elim (t k) as (λ b. ids_rise (if b then k ∷ filter t ks else filter t ks) ≡ true) [
      | true ↦ rw (all-filter (λ (q : Kept). not (is_before q.id.0 k.id.0)) t ks b.0) (rising-filter t ks b.1)
      | false ↦ rising-filter t ks b.1
    ]

-- the predicate of `partition_point`
pub parted : (id : List ℕ) (ks : List Kept) → ids_rise ks ≡ true → IsPartitionedBy (λ (k : Kept). is_before k.id.0 id) ks
parted id [] h i j d below within is = absurd (omega arith)
parted id (k ∷ ks) h zero zero d below within is = is
parted id (k ∷ ks) h zero (suc j) d below within is =
    let b = both (list_all (λ (q : Kept). not (is_before q.id.0 k.id.0)) ks) (ids_rise ks) h in
    before-both k.id.0 (get_or ks j d).id.0 id (all-at (λ (q : Kept). not (is_before q.id.0 k.id.0)) ks j d b.0 (omega arith)) is
parted id (k ∷ ks) h (suc i) zero d below within is = absurd (omega arith)
parted id (k ∷ ks) h (suc i) (suc j) d below within is =
    parted id ks (both (list_all (λ (q : Kept). not (is_before q.id.0 k.id.0)) ks) (ids_rise ks) h).1 i j d (omega arith) (omega arith) is

abbrev pub IsPoint : List ℕ → List Kept → ℕ → Type 0
IsPoint id ks i = IsPartitionPoint (λ (k : Kept). is_before k.id.0 id ≡ true) (λ (k : Kept). is_before k.id.0 id ≡ false) ks i

all-insert : {X : Type 0} (t : X → Bool) (xs : List X) (i : ℕ) (y : X) → i ≤ length xs → list_all t xs ≡ true → t y ≡ true → list_all t (insert xs i y) ≡ true
all-insert t xs zero y within all is = rw (is, all) refl
all-insert t [] (suc i) y within all is = absurd (omega arith)
all-insert t (x ∷ xs) (suc i) y within all is =
    let b = both (t x) (list_all t xs) all in
    rw (b.0) (all-insert t xs i y (omega arith) b.1 is)

pub rising-insert : (ks : List Kept) (i : ℕ) (y : Kept) → i ≤ length ks → ids_rise ks ≡ true → IsPoint y.id.0 ks i → ids_rise (insert ks i y) ≡ true
rising-insert ks zero y within h point =
    rw (all-from (λ (q : Kept). not (is_before q.id.0 y.id.0)) ks (λ k d in_list. ap not (point.1 k d (omega arith) in_list)), h) refl
rising-insert [] (suc i) y within h point = absurd (omega arith)
rising-insert (k ∷ ks) (suc i) y within h point =
    let b = both (list_all (λ (q : Kept). not (is_before q.id.0 k.id.0)) ks) (ids_rise ks) h in
    let low = reversed_path k.id.0 y.id.0 (point.0 zero k (omega arith) (omega arith)) in
    rw (all-insert (λ (q : Kept). not (is_before q.id.0 k.id.0)) ks i y (omega arith) b.0 low)
    (rising-insert ks i y (omega arith) b.1 ((λ j d low below. point.0 (suc j) d (omega arith) (omega arith)), λ j d from in_list. point.1 (suc j) d (omega arith) (omega arith)))

-- what is looked for is not found before the point
pub find-following : (id : List ℕ) (test : Kept → Bool) (ks : List Kept) (i : ℕ) → i ≤ length ks → IsPoint id ks i → find (λ (k : Kept). bytes_eq k.id.0 id && test k) (drop i ks) ≡ find (λ (k : Kept). bytes_eq k.id.0 id && test k) ks
find-following id test ks zero within point = refl
find-following id test [] (suc i) within point = absurd (omega arith)
find-following id test (k ∷ ks) (suc i) within point =
    elim (bytes_eq k.id.0 id) as (λ b. bytes_eq k.id.0 id ≡ b → find (λ (k : Kept). bytes_eq k.id.0 id && test k) (drop i ks) ≡ (if b && test k then Some k else find (λ (k : Kept). bytes_eq k.id.0 id && test k) ks)) [
      | true ↦ λ same. let here = point.0 zero k (omega arith) (omega arith) in let there = not-before k.id.0 id same in absurd (cc)
      | false ↦ λ same. find-following id test ks i (omega arith) ((λ j d low below. point.0 (suc j) d (omega arith) (omega arith)), λ j d from in_list. point.1 (suc j) d (omega arith) (omega arith))
    ] refl

-- a slice up to the end
all-taken : {X : Type 0} (n : ℕ) (xs : List X) → length xs ≤ n → take n xs ≡ xs
all-taken zero [] within = refl
all-taken zero (x ∷ xs) within = absurd (omega arith)
all-taken (suc n) [] within = refl
all-taken (suc n) (x ∷ xs) within = ap (λ ys. x ∷ ys) (all-taken n xs (omega arith))

pub from-here : {X : Type 0} (n : ℕ) (xs : List X) → take (length xs - n) (drop n xs) ≡ drop n xs
from-here n xs = let left = length-drop n xs in all-taken (length xs - n) (drop n xs) (omega (arith, left))

pub rising-drop : (n : ℕ) (ks : List Kept) → ids_rise ks ≡ true → ids_rise (drop n ks) ≡ true
rising-drop zero ks h = h
rising-drop (suc n) [] h = refl
rising-drop (suc n) (k ∷ ks) h = rising-drop n ks (both (list_all (λ (q : Kept). not (is_before q.id.0 k.id.0)) ks) (ids_rise ks) h).1

-- ---- up to the entries after an id

-- what is before a, if a is not after b
through : (c a b : List ℕ) → is_before c a ≡ true → not (is_before b a) ≡ true → is_before c b ≡ true
through c a b is low = by (cmp a b) refl (nat_list_cmp_total.antisymm b a)
  where
    less : (r : Ordering) → is_lt r ≡ true → r ≡ Less
    less Less h = refl
    less Equal h = absurd (cc)
    less Greater h = absurd (cc)

    by : (r : Ordering) → cmp a b ≡ r → cmp b a ≡ ordering_reverse (cmp a b) → is_before c b ≡ true
    by Less e back = ap is_lt (nat_list_cmp_total.trans c a b (less (cmp c a) is) e)
    by Equal e back =
        ap is_lt (nat_list_cmp_total.antisymm c b ∙ ap ordering_reverse (sym (nat_list_cmp_total.congr a b c e)) ∙ sym (nat_list_cmp_total.antisymm c a)) ∙ is
    by Greater e back = let following : is_before b a ≡ true = ap is_lt (back ∙ ap ordering_reverse e) in absurd (cc)

not-following : (a b c : List ℕ) → not (is_before b a) ≡ true → not (is_before c b) ≡ true → not (is_before c a) ≡ true
not-following a b c low high =
    elim (is_before c a) as (λ x. is_before c a ≡ x → not x ≡ true) [
      | true ↦ λ is. let further = through c a b is low in absurd (cc)
      | false ↦ λ is. refl
    ] refl

pub parted-through : (id : List ℕ) (ks : List Kept) → ids_rise ks ≡ true → IsPartitionedBy (λ (k : Kept). not (is_before id k.id.0)) ks
parted-through id [] h i j d below within is = absurd (omega arith)
parted-through id (k ∷ ks) h zero zero d below within is = is
parted-through id (k ∷ ks) h zero (suc j) d below within is =
    let b = both (list_all (λ (q : Kept). not (is_before q.id.0 k.id.0)) ks) (ids_rise ks) h in
    not-following k.id.0 (get_or ks j d).id.0 id (all-at (λ (q : Kept). not (is_before q.id.0 k.id.0)) ks j d b.0 (omega arith)) is
parted-through id (k ∷ ks) h (suc i) zero d below within is = absurd (omega arith)
parted-through id (k ∷ ks) h (suc i) (suc j) d below within is =
    parted-through id ks (both (list_all (λ (q : Kept). not (is_before q.id.0 k.id.0)) ks) (ids_rise ks) h).1 i j d (omega arith) (omega arith) is

abbrev pub IsEnd : List ℕ → List Kept → ℕ → Type 0
IsEnd id ks i = IsPartitionPoint (λ (k : Kept). not (is_before id k.id.0) ≡ true) (λ (k : Kept). not (is_before id k.id.0) ≡ false) ks i

pub is-following : (b : Bool) → not b ≡ false → b ≡ true
is-following true h = refl
is-following false h = absurd (cc)

pub other-id : (a b : List ℕ) → is_before b a ≡ true → bytes_eq a b ≡ false
other-id a b is =
    elim (bytes_eq a b) as (λ x. bytes_eq a b ≡ x → x ≡ false) [
      | true ↦ λ same. let alike : a ≡ b = (bytes_eq-Decides a b).0 same in let none = not-before b a (rw alike ((bytes_eq-Decides b b).1 refl)) in absurd (cc)
      | false ↦ λ same. refl
    ] refl

-- what is looked for is not found after the end
pub find-within : (id : List ℕ) (test : Kept → Bool) (ks : List Kept) (i : ℕ) → i ≤ length ks → IsEnd id ks i → find (λ (k : Kept). bytes_eq k.id.0 id && test k) (take i ks) ≡ find (λ (k : Kept). bytes_eq k.id.0 id && test k) ks
find-within id test [] zero within end = refl
find-within id test [] (suc i) within end = refl
find-within id test (k ∷ ks) zero within end =
    let other = other-id k.id.0 id (is-following (is_before id k.id.0) (end.1 zero k (omega arith) (omega arith))) in
    rw other (find-within id test ks zero (omega arith) ((λ j d low below. absurd (omega arith)), λ j d from in_list. end.1 (suc j) d (omega arith) (omega arith)))
find-within id test (k ∷ ks) (suc i) within end =
    ap (λ rest. if bytes_eq k.id.0 id && test k then Some k else rest)
    (find-within id test ks i (omega arith) ((λ j d low below. end.0 (suc j) d (omega arith) (omega arith)), λ j d from in_list. end.1 (suc j) d (omega arith) (omega arith)))
