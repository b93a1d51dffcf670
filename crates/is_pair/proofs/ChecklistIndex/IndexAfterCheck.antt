-- The index of a checklist after a check.
use Rattle.is_stun.specs.declared.trans_id.TransId.{TransId}
use Rattle.is_pair.proofs.Common.{[], ◌&&◌, ◌++◌, ◌-◌, ◌<◌, ◌==◌, ◌||◌, ◌∙◌, ◌∷◌, ◌≡◌, ◌≤◌, any-filter_same, ap, arith, Bool, bytes_eq}
use Rattle.is_pair.proofs.Common.{bytes_eq-Decides, change_at, change_pair, Check, drop, eqb-true, false, filter, Has, has_id}
use Rattle.is_pair.proofs.Common.{if◌then◌else◌, inl, inr, is_current, is_kept, is_named, IsIndex, keeps, Kept, last_checks, length}
use Rattle.is_pair.proofs.Common.{length-append, List, list_all, list_any, list_any-append, named_after, names, nat_le, nat_tests, not}
use Rattle.is_pair.proofs.Common.{pair_numbered, PairRecord, passes_at, refl, rises, Some, suc, sym, true, zero, ℕ}
use Rattle.is_pair.proofs.PairEntries.ChangedEntry.{both, changed-found, one-passes, found-number, rises-changed, change-keeps, any-changed}
use Rattle.is_pair.proofs.PriorityOrder.GreatestPair.{has-any}

reversed_path : (a b : ℕ) → a == b ≡ b == a
reversed_path a b = grind (arith, nat_tests)

-- an entry with this name is current if the pair is another one, or stores the id
current-named : (p : PairRecord) (i : List ℕ) (n : ℕ) (k : Kept) → names i n k ≡ true → is_current p k ≡ (not (n == p.number) || is_kept i p.checks)
current-named p i n k named =
    let b = both (k.number == n) (bytes_eq k.id.0 i) named in
    rw (eqb-true k.number n b.0, (bytes_eq-Decides k.id.0 i).0 b.1) refl

pub followed : (p : PairRecord) (id : TransId) (xs : List Kept) (i : List ℕ) (n : ℕ)
    → (names i n (record { id = id; number = p.number }) || is_named i n (filter (is_current p) xs)) ≡ named_after p id.0 i n xs
followed p id xs i n =
    let left = any-filter_same (names i n) (is_current p) (not (n == p.number) || is_kept i p.checks) (current-named p i n) xs in
    rw (left, reversed_path n p.number) (by (p.number == n) (bytes_eq id.0 i) (is_kept i p.checks) (is_named i n xs))
  where
    by : (here same kept named : Bool) → ((here && same) || ((not here || kept) && named)) ≡ (if here then same || (named && kept) else named)
    by true same true true = refl
    by true same true false = refl
    by true same false true = refl
    by true same false false = refl
    by false same kept named = refl

-- ---- the checks that stay

drop-following : {X : Type 0} (d : ℕ) (xs : List X) (x : X) → d ≤ length xs → drop d (xs ++ x ∷ []) ≡ drop d xs ++ x ∷ []
drop-following zero xs x h = refl
drop-following (suc d) [] x h = absurd (omega arith)
drop-following (suc d) (y ∷ xs) x h = drop-following d xs x (omega arith)

-- what is dropped was there
any-drop : {X : Type 0} (test : X → Bool) (d : ℕ) (xs : List X) → (list_any test xs && list_any test (drop d xs)) ≡ list_any test (drop d xs)
any-drop test zero xs = twice (list_any test xs)
  where
    twice : (b : Bool) → (b && b) ≡ b
    twice true = refl
    twice false = refl
any-drop test (suc d) [] = refl
any-drop test (suc d) (x ∷ xs) = more (test x) (list_any test xs) (list_any test (drop d xs)) (any-drop test d xs)
  where
    more : (a b c : Bool) → (b && c) ≡ c → ((a || b) && c) ≡ c
    more true b c h = refl
    more false b c h = h

-- which ids are stored once a check is sent
pub kept-once-sent : (m : ℕ) (checks : List Check) (c : Check) (i : List ℕ) → 0 < m
    → (bytes_eq c.id i || (is_kept i checks && is_kept i (last_checks m (checks ++ c ∷ [])))) ≡ is_kept i (last_checks m (checks ++ c ∷ []))
kept-once-sent m checks c i some =
    let long = length-append checks (c ∷ []) in
    let d = length (checks ++ c ∷ []) - m in
    let left = drop-following d checks c (omega (arith, long, some)) in
    rw (left, list_any-append (has_id i) (drop d checks) (c ∷ [])) (by (bytes_eq c.id i) (is_kept i checks) (list_any (has_id i) (drop d checks)) (any-drop (has_id i) d checks))
  where
    by : (same was left : Bool) → (was && left) ≡ left → (same || (was && (left || (same || false)))) ≡ (left || (same || false))
    by true was true h = refl
    by true was false h = refl
    by false true left h = refl
    by false false true h = absurd (cc)
    by false false false h = refl

-- ---- the index after a check

-- the pair with a number is found under it
module _ (ps : List PairRecord) (rising : rises ps ≡ true) (n : ℕ) (p : PairRecord) (found : pair_numbered n ps ≡ Some p) where
  keeps-one : (i : List ℕ) → keeps i n ps ≡ is_kept i p.checks
  keeps-one i = one-passes n (λ q. is_kept i q.checks) ps p rising found

others-changed : (n m : ℕ) (f : PairRecord → PairRecord) (test : PairRecord → Bool) → ((p : PairRecord) → (f p).number ≡ p.number) → n == m ≡ false
    → (p : PairRecord) → passes_at m test (change_at n f p) ≡ passes_at m test p
others-changed n m f test same other p =
    elim (p.number == n) as (λ b. p.number == n ≡ b → passes_at m test (if b then f p else p) ≡ passes_at m test p) [
      | true ↦ λ is.
          let gone : p.number == m ≡ false = grind (arith, nat_tests, is, other) in
          rw (same p, gone) refl
      | false ↦ λ is. refl
    ] refl

pub issued : (m : ℕ) (ps qs : List PairRecord) (index after : List Kept) (n : ℕ) (f : PairRecord → PairRecord) (p : PairRecord) (id : List ℕ) (c : Check)
    → 0 < m → rises ps ≡ true → IsIndex index ps → pair_numbered n ps ≡ Some p
    → ((q : PairRecord) → (f q).number ≡ q.number) → (f p).checks ≡ last_checks m (p.checks ++ c ∷ []) → c.id ≡ id
    → qs ≡ change_pair n f ps
    → ((i : List ℕ) (k : ℕ) → is_named i k after ≡ named_after (f p) id i k index)
    → IsIndex after qs
issued m ps qs index after n f p id c some rising indexed found same kept its changed named i k =
    named i k ∙ elim ((f p).number == k) as (λ b. (f p).number == k ≡ b → (if b then bytes_eq id i || (is_named i k index && is_kept i (f p).checks) else is_named i k index) ≡ keeps i k qs) [
      | true ↦ λ is.
          let here : n ≡ k = sym numbered ∙ eqb-true (f p).number k is in
          rw (indexed i k, ← here, keeps-one ps rising n p found i, keeps-one qs rising2 n (f p) found2 i, kept, ← its) (kept-once-sent m p.checks c i some)
      | false ↦ λ is.
          let other : n == k ≡ false = rw (← numbered) is in
          indexed i k ∙ sym (ap (keeps i k) changed ∙ any-changed (passes_at k (λ q. is_kept i q.checks)) (change_at n f) (others-changed n k f (λ q. is_kept i q.checks) same other) ps)
    ] refl
  where
    numbered : (f p).number ≡ n
    numbered = same p ∙ found-number n ps p found

    rising2 : rises qs ≡ true
    rising2 = ap rises changed ∙ rises-changed (change_at n f) (change-keeps (λ q. q.number) n f same) ps ∙ rising

    found2 : pair_numbered n qs ≡ Some (f p)
    found2 = ap (pair_numbered n) changed ∙ changed-found n f ps p same found

-- ---- if no check is cut

pub kept-uncut : (m : ℕ) (checks : List Check) (c : Check) (i : List ℕ) → nat_le m (length checks) ≡ false → is_kept i checks ≡ true → is_kept i (last_checks m (checks ++ c ∷ [])) ≡ true
kept-uncut m checks c i few kept =
    let long = length-append checks (c ∷ []) in
    let none : length (checks ++ c ∷ []) - m ≡ 0 = grind (arith, nat_tests, long, few) in
    rw (none, list_any-append (has_id i) checks (c ∷ []), kept) refl

all-of : {X : Type 0} (t : X → Bool) (xs : List X) → ((x : X) → Has xs x → t x ≡ true) → list_all t xs ≡ true
all-of t [] h = refl
all-of t (x ∷ xs) h = rw (h x (inl refl)) (all-of t xs (λ y has. h y (inr has)))

-- each entry is spared, or current if the pair stores what it stored
pub all-spared : (spared : List ℕ → Bool) (index : List Kept) (ps : List PairRecord) (n : ℕ) (p after : PairRecord) → rises ps ≡ true → pair_numbered n ps ≡ Some p
    → IsIndex index ps → after.number ≡ n → ((i : List ℕ) → is_kept i p.checks ≡ true → (spared i || is_kept i after.checks) ≡ true)
    → list_all (λ (k : Kept). spared k.id.0 || is_current after k) index ≡ true
all-spared spared index ps n p after rising found indexed number more =
    all-of (λ (k : Kept). spared k.id.0 || is_current after k) index (λ k has.
    elim (k.number == after.number) as (λ b. k.number == after.number ≡ b → (spared k.id.0 || (not b || is_kept k.id.0 after.checks)) ≡ true) [
      | true ↦ λ here.
          let at : k.number == n ≡ true = rw (← number) here in
          let named = has-any (names k.id.0 n) index k has (rw at ((bytes_eq-Decides k.id.0 k.id.0).1 refl)) in
          more k.id.0 (sym (keeps-one ps rising n p found k.id.0) ∙ sym (indexed k.id.0 n) ∙ named)
      | false ↦ λ _. or-true (spared k.id.0)
    ] refl) where
      or-true : (a : Bool) → a || true ≡ true
      or-true true = refl
      or-true false = refl

pub all-current : (index : List Kept) (ps : List PairRecord) (n : ℕ) (p after : PairRecord) → rises ps ≡ true → pair_numbered n ps ≡ Some p
    → IsIndex index ps → after.number ≡ n → ((i : List ℕ) → is_kept i p.checks ≡ true → is_kept i after.checks ≡ true) → list_all (is_current after) index ≡ true
all-current index ps n p after rising found indexed number more = all-spared (λ _. false) index ps n p after rising found indexed number more
