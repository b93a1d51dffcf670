-- What is listed of the pairs that are removed.
use Rattle.std.proofs.lemmas.List.Elements.{filter-append, filter_map-append}
use Rattle.is_pair.specs.declared.checklist.records.Records.{Records}
use Rattle.is_pair.specs.declared.checklist.removed.Removal.{Removal}
use Rattle.is_pair.proofs.Common.{[], ◌++◌, ◌+◌, ◌-◌, ◌<◌, ◌==◌, ◌∙◌, ◌∷◌, ◌≡◌, ◌≤◌, ap, append-nil, append_assoc, arith, Bool, cons_option}
use Rattle.is_pair.proofs.Common.{count_by-le-length, drop, drop-append-le, drop-drop, eqb-true, false, filter, get_or, Has, if◌then◌else◌}
use Rattle.is_pair.proofs.Common.{is_numbered, kept_as, last_removed, length, length-append, length-drop, length-filter, length-take, List}
use Rattle.is_pair.proofs.Common.{listed_by, map, map-append, nat_lt, nat_tests, None, not, option_to_list, pair_numbered, PairRecord}
use Rattle.is_pair.proofs.Common.{pairs_of, Rank, refl, removed_after, REMOVED_LIMIT, RemovedPair, reverse, rises, Some, sym}
use Rattle.is_pair.proofs.Common.{take, take-append-drop, take_more, true, ℕ}
use Rattle.is_pair.proofs.Common.{Evicted, EvictsSome, records_of, RecordsFit}
use Rattle.is_pair.proofs.ShortRecords.{joined-length}
use Rattle.is_pair.proofs.ListParts.{named-once, none-numbered}
use Rattle.is_pair.proofs.PairEntries.ChangedEntry.{above, both, found-number}
use Rattle.is_pair.proofs.PriorityOrder.GreatestPair.{all-has, filter-none, found-has}

-- ---- the last ones

pub last-few : (rs : List RemovedPair) → length rs ≤ REMOVED_LIMIT → last_removed rs ≡ rs
last-few rs few = let none : length rs - REMOVED_LIMIT ≡ 0 = omega (arith, few) in ap (λ (n : ℕ). drop n rs) none

pub last-more : (xs ys : List RemovedPair) → last_removed (last_removed xs ++ ys) ≡ last_removed (xs ++ ys)
last-more xs ys =
    let k = length xs - REMOVED_LIMIT in
    let within : k ≤ length xs = omega arith in
    let joined : drop k xs ++ ys ≡ drop k (xs ++ ys) = sym (drop-append-le k xs ys within) in
    let rest = length (drop k (xs ++ ys)) - REMOVED_LIMIT in
    let many : k + rest ≡ length (xs ++ ys) - REMOVED_LIMIT = omega (arith, length-drop k (xs ++ ys), length-append xs ys) in
    ap last_removed joined ∙ drop-drop rest k (xs ++ ys) ∙ ap (λ (n : ℕ). drop n (xs ++ ys)) many

pub after-none : (reason : PairRecord → Removal) (rs : List RemovedPair) → length rs ≤ REMOVED_LIMIT → rs ≡ removed_after reason [] rs
after-none reason rs few = sym (ap last_removed (append-nil rs) ∙ last-few rs few)

pub after-both : (reason : PairRecord → Removal) (first second : List PairRecord) (rs : List RemovedPair)
    → removed_after reason second (removed_after reason first rs) ≡ removed_after reason (first ++ second) rs
after-both reason first second rs =
    let f = λ (p : PairRecord). kept_as (reason p) p in
    last-more (rs ++ map f first) (map f second)
    ∙ ap last_removed (append_assoc rs (map f first) (map f second) ∙ ap (λ (t : List RemovedPair). rs ++ t) (sym (map-append f first second)))

-- one more is kept
pub after-more : (reason : PairRecord → Removal) (gone : List PairRecord) (p : PairRecord) (rs old new : List RemovedPair) → old ≡ removed_after reason gone rs
    → new ≡ last_removed (old ++ kept_as (reason p) p ∷ []) → new ≡ removed_after reason (gone ++ p ∷ []) rs
after-more reason gone p rs old new before is =
    is ∙ ap (λ (t : List RemovedPair). last_removed (t ++ kept_as (reason p) p ∷ [])) before ∙ after-both reason gone (p ∷ []) rs

pub after-some : (reason : PairRecord → Removal) (first second : List PairRecord) (rs old new : List RemovedPair) → old ≡ removed_after reason first rs
    → new ≡ removed_after reason second old → new ≡ removed_after reason (first ++ second) rs
after-some reason first second rs old new before is = is ∙ ap (removed_after reason second) before ∙ after-both reason first second rs

-- ---- the pairs that pass

pub filter-more : {X : Type 0} (t : X → Bool) (xs : List X) (i : ℕ) (x : X) → i < length xs → x ≡ get_or xs i x → t x ≡ true
    → filter t (take (i + 1) xs) ≡ filter t (take i xs) ++ x ∷ []
filter-more t xs i x within is passes =
    ap (filter t) (take_more xs i x within) ∙ filter-append t (take i xs) (get_or xs i x ∷ []) ∙ rw (← is, passes) refl

pub filter-other : {X : Type 0} (t : X → Bool) (xs : List X) (i : ℕ) (x : X) → i < length xs → x ≡ get_or xs i x → t x ≡ false
    → filter t (take (i + 1) xs) ≡ filter t (take i xs)
filter-other t xs i x within is fails =
    ap (filter t) (take_more xs i x within) ∙ filter-append t (take i xs) (get_or xs i x ∷ []) ∙ rw (← is, fails) (append-nil (filter t (take i xs)))

pub few-pass : {X : Type 0} (t : X → Bool) (xs : List X) → length (filter t xs) ≤ length xs
few-pass t xs = omega (arith, length-filter t xs, count_by-le-length t xs)

pub few-taken : {X : Type 0} (t : X → Bool) (xs : List X) (i : ℕ) → length (filter t (take i xs)) ≤ i
few-taken t xs i = omega (arith, few-pass t (take i xs), length-take i xs)

-- a number names one pair
pub filter-one : (n : ℕ) (ps : List PairRecord) → rises ps ≡ true → filter (is_numbered n) ps ≡ option_to_list (pair_numbered n ps)
filter-one n [] rising = refl
filter-one n (p ∷ ps) rising =
    let up = both (above p.number ps) (rises ps) rising in
    elim (p.number == n) as (λ b. p.number == n ≡ b → (if b then p ∷ filter (is_numbered n) ps else filter (is_numbered n) ps)
    ≡ option_to_list (if b then Some p else pair_numbered n ps)) [
      | true ↦ λ is. ap (λ (qs : List PairRecord). p ∷ qs) (filter-none (is_numbered n) ps (λ q has its.
          let less : p.number < q.number = grind (arith, nat_tests, all-has (λ (r : PairRecord). nat_lt p.number r.number) ps q up.0 has) in
          let here = eqb-true p.number n is in let there = eqb-true q.number n its in omega (arith, less, here, there)))
      | false ↦ λ is. filter-one n ps up.1
    ] refl

pub filter-only : (n : ℕ) (ps : List PairRecord) (p : PairRecord) → rises ps ≡ true → Has ps p → p.number ≡ n → filter (is_numbered n) ps ≡ p ∷ []
filter-only n ps p rising has is = filter-one n ps rising ∙ ap option_to_list (elim (pair_numbered n ps) as (λ o. pair_numbered n ps ≡ o → o ≡ Some p) [
  | Some q ↦ λ found. ap (λ (x : PairRecord). Some x) (named-once ps q p rising (found-has n ps q found) has (found-number n ps q found ∙ sym is))
  | None ↦ λ none. absurd (none-numbered n ps none p has is)
] refl)

pub split-lengths : {X : Type 0} (t : X → Bool) (xs : List X) → length (filter t xs) + length (filter (λ (x : X). not (t x)) xs) ≡ length xs
split-lengths t [] = refl
split-lengths t (x ∷ xs) =
    let rest = split-lengths t xs in
    elim (t x) as (λ b. length (if b then x ∷ filter t xs else filter t xs)
    + length (if not b then x ∷ filter (λ y. not (t y)) xs else filter (λ y. not (t y)) xs) ≡ length (x ∷ xs)) [
      | true ↦ omega (arith, rest)
      | false ↦ omega (arith, rest)
    ]

-- ---- the records

pub few-records : (r : Records) → length (records_of r) ≤ REMOVED_LIMIT
few-records r = omega (arith, joined-length r.places.items r.long.items (r.counted ∙ r.long.ok.0), r.places.ok.0, r.few)

pub none-evicted : (limit : ℕ) (ps : List PairRecord) (r : Records) → EvictsSome limit ps ps (records_of r) (records_of r)
none-evicted limit ps r = ([], λ rest new h. h, after-none (λ p. Evicted) (records_of r) (few-records r))

pub fits-fewer : (m n : ℕ) (r : Records) → m ≤ n → RecordsFit n r → RecordsFit m r
fits-fewer m n r fewer fit = (omega (arith, fewer, fit.0), omega (arith, fewer, fit.1))

-- as many pairs are left as have not gone
pub gone-left : (t : PairRecord → Bool) (ps left : List PairRecord) (gone before after : ℕ) → gone ≡ length (filter t ps)
    → left ≡ filter (λ (p : PairRecord). not (t p)) ps → before ≡ length ps → after ≡ length left → gone + after ≡ before
gone-left t ps left gone before after few is first last =
    let parts = split-lengths t ps in
    omega (arith, parts, few, ap length is, first, last)

-- ---- by priority

pub listed-counts : (by_priority : Bool) (t : PairRecord → Bool) (rs : List Rank) (ps : List PairRecord) → length (filter t (pairs_of (reverse rs) ps)) ≡ length (filter t ps)
    → length (filter t (listed_by by_priority rs ps)) ≡ length (filter t ps)
listed-counts true t rs ps same = same
listed-counts false t rs ps same = refl

of-one : (r : Rank) (ps : List PairRecord) → pairs_of (r ∷ []) ps ≡ option_to_list (pair_numbered r.number ps)
of-one r ps = elim (pair_numbered r.number ps) as (λ o. cons_option o [] ≡ option_to_list o) [ Some p ↦ refl | None ↦ refl ]

-- one entry more
pub pairs-more : (t : PairRecord → Bool) (rs : List Rank) (ps : List PairRecord) (i : ℕ) (r d : Rank) → i < length rs → r ≡ get_or rs i d
    → filter t (pairs_of (take (i + 1) rs) ps) ≡ filter t (pairs_of (take i rs) ps) ++ filter t (option_to_list (pair_numbered r.number ps))
pairs-more t rs ps i r d within is =
    ap (λ (qs : List Rank). filter t (pairs_of qs ps)) (take_more rs i d within)
    ∙ ap (filter t) (filter_map-append (λ (q : Rank). pair_numbered q.number ps) (take i rs) (get_or rs i d ∷ []))
    ∙ filter-append t (pairs_of (take i rs) ps) (pairs_of (get_or rs i d ∷ []) ps)
    ∙ ap (λ (q : Rank). filter t (pairs_of (take i rs) ps) ++ filter t (pairs_of (q ∷ []) ps)) (sym is)
    ∙ ap (λ (qs : List PairRecord). filter t (pairs_of (take i rs) ps) ++ filter t qs) (of-one r ps)

pub few-so-far : (t : PairRecord → Bool) (rs : List Rank) (ps : List PairRecord) (i : ℕ) (r d : Rank) → i < length rs → r ≡ get_or rs i d
    → length (filter t (pairs_of (take i rs) ps)) + length (filter t (option_to_list (pair_numbered r.number ps))) ≤ length (filter t (pairs_of rs ps))
few-so-far t rs ps i r d within is =
    let next = ap length (pairs-more t rs ps i r d within is) in
    let whole = ap (λ (qs : List Rank). length (filter t (pairs_of qs ps))) (take-append-drop (i + 1) rs) in
    let parts = ap (λ (qs : List PairRecord). length (filter t qs)) (filter_map-append (λ (q : Rank). pair_numbered q.number ps) (take (i + 1) rs) (drop (i + 1) rs)) in
    let more = ap length (filter-append t (pairs_of (take (i + 1) rs) ps) (pairs_of (drop (i + 1) rs) ps)) in
    omega (
      arith,
      next,
      whole,
      parts,
      more,
      length-append (filter t (pairs_of (take i rs) ps)) (filter t (option_to_list (pair_numbered r.number ps))),
      length-append (filter t (pairs_of (take (i + 1) rs) ps)) (filter t (pairs_of (drop (i + 1) rs) ps)),
    )
