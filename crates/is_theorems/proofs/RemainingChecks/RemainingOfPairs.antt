-- How many checks pairs still send before they may be removed after timeout.
use Rattle.is_pair.specs.Due as due
use Rattle.is_theorems.proofs.Common.{[], ◌&&◌, ◌*◌, ◌++◌, ◌+◌, ◌-◌, ◌<◌, ◌||◌, ◌∷◌, ◌≡◌, ◌≤◌, answered, answered_at, ap, AreRising, arith}
use Rattle.is_theorems.proofs.Common.{Bool, change_at, change_pair, Check, check_of, checked, consent_of, eqb-true, false, filter, Has}
use Rattle.is_theorems.proofs.Common.{if◌then◌else◌, inl, inr, is_numbered, last_checks, length, length-append, length-drop, List}
use Rattle.is_theorems.proofs.Common.{ltb-false, map, nat_lt, not, PairRecord, refl, slice_get, slice_set, Some, StunTiming, subst, suc}
use Rattle.is_theorems.proofs.Common.{suc-mul, sym, true, unanswered-most, unanswered_count, zero, ℕ}
use Rattle.is_theorems.proofs.RuleEffects.SelectedPaths.{some_is}

-- ---- one pair

abbrev pub unspent : ℕ → PairRecord → ℕ
unspent m p = m - length p.checks

pub unspent-alike : (m : ℕ) (p q : PairRecord) → q.checks ≡ p.checks → unspent m p ≤ unspent m q
unspent-alike m p q same = subst (λ (cs : List Check). m - length p.checks ≤ m - length cs) (sym same) (omega arith)

length-set : (xs : List Check) (i : ℕ) (y : Check) → length (slice_set xs i y) ≡ length xs
length-set [] i y = refl
length-set (x ∷ xs) zero y = refl
length-set (x ∷ xs) (suc i) y = ap suc (length-set xs i y)

-- a response
pub unspent-answered : (m now place : ℕ) (c : Check) (p : PairRecord) → unspent m p ≤ unspent m (answered now place c p)
unspent-answered m now place c p =
    subst (λ (k : ℕ). m - length p.checks ≤ m - k) (sym (length-set p.checks place (answered_at now c))) (omega arith)

-- a check
checked-length : (n : ℕ) (cs : List Check) (c : Check) → length (last_checks n (cs ++ c ∷ [])) ≤ length cs + 1
checked-length n cs c =
    let a : length (last_checks n (cs ++ c ∷ [])) ≡ length (cs ++ c ∷ []) - (length (cs ++ c ∷ []) - n) =
    length-drop (length (cs ++ c ∷ []) - n) (cs ++ c ∷ []) in
    let b : length (cs ++ c ∷ []) ≡ length cs + 1 = length-append cs (c ∷ []) in
    omega (arith, a, b)

pub unspent-checked : (m now : ℕ) (t : StunTiming) (b : Bool) (id : List ℕ) (p : PairRecord) → unspent m p ≤ unspent m (checked now t b id p) + 1
unspent-checked m now t b id p = let k = checked-length t.max_retransmits p.checks (check_of now b id p) in omega (arith, k)

-- a pair that is removed after timeout has no checks left
spent-by : (c l u : Bool) → c ≡ true → not (not (c && (l || u))) ≡ false → l ≡ false
spent-by false l u has is = absurd (cc)
spent-by true true u has is = absurd (cc)
spent-by true false u has is = refl

pub all-spent : (lite : Bool) (now : ℕ) (t : StunTiming) (p : PairRecord) → lite ≡ false → due.has_consent (consent_of t) now p ≡ true → not (due.is_pair_expired lite now t p) ≡ false → unspent t.max_retransmits p ≡ 0
all-spent true now t p full has gone = absurd (cc)
all-spent false now t p full has gone =
    let many : t.max_retransmits ≤ unanswered_count p.checks =
    ltb-false (unanswered_count p.checks) t.max_retransmits
    (spent-by (due.has_consent (consent_of t) now p) (due.has_checks_left t p) (nat_lt now (due.possible_until t p)) has gone) in
    let most = unanswered-most p.checks in
    omega (arith, many, most)

-- ---- lists of pairs

abbrev pub unspents : ℕ → List PairRecord → ℕ
unspents m [] = 0
unspents m (p ∷ ps) = unspent m p + unspents m ps

sums : (a b c d : ℕ) → a ≤ b → c ≤ d → a + c ≤ b + d
sums a b c d h k = omega (arith, h, k)

sums-left : (a b c d : ℕ) → a ≤ b + 1 → c ≤ d → a + c ≤ b + d + 1
sums-left a b c d h k = omega (arith, h, k)

sums-right : (a b c d : ℕ) → a ≤ b → c ≤ d + 1 → a + c ≤ b + d + 1
sums-right a b c d h k = omega (arith, h, k)

pub unspents-map : (m : ℕ) (f : PairRecord → PairRecord) (xs : List PairRecord) → ((p : PairRecord) → unspent m p ≤ unspent m (f p)) → unspents m xs ≤ unspents m (map f xs)
unspents-map m f [] h = omega arith
unspents-map m f (x ∷ xs) h = sums (unspent m x) (unspent m (f x)) (unspents m xs) (unspents m (map f xs)) (h x) (unspents-map m f xs h)

pub unspents-push : (m : ℕ) (x : PairRecord) (xs : List PairRecord) → x.checks ≡ [] → unspents m (xs ++ x ∷ []) ≡ unspents m xs + m
unspents-push m x [] none = one (length x.checks) (ap length none) where
  one : (k : ℕ) → k ≡ 0 → (m - k) + 0 ≡ 0 + m
  one k is = omega (arith, is)
unspents-push m x (y ∷ ys) none = further (unspent m y) (unspents m (ys ++ x ∷ [])) (unspents m ys) (unspents-push m x ys none) where
  further : (a b c : ℕ) → b ≡ c + m → a + b ≡ a + c + m
  further a b c h = omega (arith, h)

pub unspents-filter : (m : ℕ) (keep : PairRecord → Bool) (xs : List PairRecord) → ((p : PairRecord) → Has xs p → keep p ≡ false → unspent m p ≡ 0) → unspents m xs ≤ unspents m (filter keep xs)
unspents-filter m keep [] spent = omega arith
unspents-filter m keep (x ∷ xs) spent = kept (keep x) refl (unspents-filter m keep xs (λ p has. spent p (inr has))) where
  kept : (b : Bool) → keep x ≡ b → unspents m xs ≤ unspents m (filter keep xs) → unspent m x + unspents m xs ≤ unspents m (if b then x ∷ filter keep xs else filter keep xs)
  kept true is le = sums (unspent m x) (unspent m x) (unspents m xs) (unspents m (filter keep xs)) (omega arith) le
  kept false is le = none (unspent m x) (unspents m xs) (unspents m (filter keep xs)) (spent x (inl refl) is) le where
    none : (a b c : ℕ) → a ≡ 0 → b ≤ c → a + b ≤ c
    none a b c h k = omega (arith, h, k)

pub unspents-set : (m : ℕ) (xs : List PairRecord) (i : ℕ) (p after : PairRecord) → slice_get xs i ≡ Some p → unspent m p ≤ unspent m after → unspents m xs ≤ unspents m (slice_set xs i after)
unspents-set m [] i p after at le = omega arith
unspents-set m (x ∷ xs) zero p after at le =
    sums (unspent m x) (unspent m after) (unspents m xs) (unspents m xs) (subst (λ (y : PairRecord). unspent m y ≤ unspent m after) (sym (some_is x p at)) le) (omega arith)
unspents-set m (x ∷ xs) (suc i) p after at le =
    sums (unspent m x) (unspent m x) (unspents m xs) (unspents m (slice_set xs i after)) (omega arith) (unspents-set m xs i p after at le)

-- the check of one pair, whose number no other pair has
module _ (m n : ℕ) (f : PairRecord → PairRecord) where
  unchanged : (xs : List PairRecord) → ((q : PairRecord) → Has xs q → n < q.number) → unspents m xs ≤ unspents m (map (change_at n f) xs)
  unchanged [] above = omega arith
  unchanged (x ∷ xs) above =
      sums (unspent m x) (unspent m (change_at n f x)) (unspents m xs) (unspents m (map (change_at n f) xs)) (by (is_numbered n x) refl) (unchanged xs (λ q has. above q (inr has))) where
        by : (b : Bool) → is_numbered n x ≡ b → unspent m x ≤ unspent m (if b then f x else x)
        by true is = let more = above x (inl refl) in let same = eqb-true x.number n is in absurd (let no : ⊥ = omega (arith, more, same) in no)
        by false is = omega arith

  pub unspents-change : (xs : List PairRecord) → ((p : PairRecord) → unspent m p ≤ unspent m (f p) + 1) → AreRising xs → unspents m xs ≤ unspents m (change_pair n f xs) + 1
  unspents-change [] h rising = omega arith
  unspents-change (x ∷ xs) h (first, rising) = by (is_numbered n x) refl (unspents-change xs h rising) where
    by : (b : Bool) → is_numbered n x ≡ b → unspents m xs ≤ unspents m (map (change_at n f) xs) + 1
        → unspent m x + unspents m xs ≤ unspent m (if b then f x else x) + unspents m (map (change_at n f) xs) + 1
    by true is rest =
        sums-left (unspent m x) (unspent m (f x)) (unspents m xs) (unspents m (map (change_at n f) xs)) (h x)
        (unchanged xs (λ q has. (let more = first q has in let same = eqb-true x.number n is in omega (arith, more, same))))
    by false is rest = sums-right (unspent m x) (unspent m x) (unspents m xs) (unspents m (map (change_at n f) xs)) (omega arith) rest

pub unspents-most : (m : ℕ) (xs : List PairRecord) → unspents m xs ≤ length xs * m
unspents-most m [] = omega arith
unspents-most m (x ∷ xs) =
    subst (λ (k : ℕ). unspent m x + unspents m xs ≤ k) (sym (suc-mul (length xs) m)) (most (length x.checks) (unspents m xs) (length xs * m) (unspents-most m xs)) where
      most : (k a b : ℕ) → a ≤ b → (m - k) + a ≤ b + m
      most k a b h = omega (arith, h)
