-- A check may go ahead of the pair that is due first, but no two checks one after another do.
use Rattle.is_theorems.proofs.Common.{◌&&◌, ◌*◌, ◌+◌, ◌<◌, ◌∙◌, ◌≡◌, ◌≤◌, ◌⊎◌, arith, Bool, change_at, change_pair, checked, checked-later}
use Rattle.is_theorems.proofs.Common.{due_by, due_time_of, false, if◌then◌else◌, inl, inr, is_due_by, is_numbered, IsPaced, length, List}
use Rattle.is_theorems.proofs.Common.{MAX, min, no-more, not-by, one_if, PairRecord, refl, StunTiming, suc, sym, true, ℕ}

-- ---- the number of calls

-- so many checks hold n in turn: `checks_for` of rules by which checks may go ahead, or of others
abbrev pub times : Bool → ℕ → ℕ
times ahead n = if ahead then 2 * n else n

-- One more than the number of calls that suffice if n pairs go first, this one included: one for each pair, and if checks may go ahead,
-- one for each check that does so between them, or before them if the next one may.
abbrev pub calls_left : Bool → Bool → ℕ → ℕ
calls_left ahead turn n = if ahead then 2 * n + one_if turn else n + 1

-- from n to m: one fewer goes first, or no more do and a check went ahead
abbrev pub Falls : Bool → Bool → Bool → ℕ → ℕ → Type 0
Falls ahead turn next_turn n m = (m < n) ⊎ ((m ≤ n) × (ahead ≡ true) × (turn ≡ true) × (next_turn ≡ false))

pub one-at-most : (b : Bool) → one_if b ≤ 1
one-at-most true = omega arith
one-at-most false = omega arith

falls-to-one : (n m : ℕ) (next_turn : Bool) → m < n → 2 * m + one_if next_turn + 1 ≤ 2 * n
falls-to-one n m true h = omega (arith, h)
falls-to-one n m false h = omega (arith, h)

pub calls-fall : (ahead turn next_turn : Bool) (n m : ℕ) → Falls ahead turn next_turn n m → calls_left ahead next_turn m + 1 ≤ calls_left ahead turn n
calls-fall true turn next_turn n m (inl less) = wider (falls-to-one n m next_turn less) where
  wider : 2 * m + one_if next_turn + 1 ≤ 2 * n → 2 * m + one_if next_turn + 1 ≤ 2 * n + one_if turn
  wider h = omega (arith, h)
calls-fall true true false n m (inr (le, ahead, turn, over)) = at-end n m le where
  at-end : (n m : ℕ) → m ≤ n → 2 * m + 0 + 1 ≤ 2 * n + 1
  at-end n m h = omega (arith, h)
calls-fall true true true n m (inr (le, ahead, turn, over)) = absurd (cc)
calls-fall true false next_turn n m (inr (le, ahead, turn, over)) = absurd (cc)
calls-fall false turn next_turn n m (inl less) = one-fewer n m less where
  one-fewer : (n m : ℕ) → m < n → m + 1 + 1 ≤ n + 1
  one-fewer n m h = omega (arith, h)
calls-fall false turn next_turn n m (inr (le, ahead, turn_is, over)) = absurd (cc)

-- the numbers also fall under other names, and from more
pub falls-from : (b c t u next_turn : Bool) (n k m : ℕ) → c ≡ b → u ≡ t → n ≤ k → Falls b t next_turn n m → Falls c u next_turn k m
falls-from b c t u next_turn n k m same same_turn le (inl less) = inl (omega (arith, le, less))
falls-from b c t u next_turn n k m same same_turn le (inr (no_more, ahead, turn, over)) = inr (omega (arith, le, no_more), same ∙ ahead, same_turn ∙ turn, over)

pub calls-no-more : (ahead turn : Bool) (n m : ℕ) → m ≤ n → calls_left ahead turn m ≤ calls_left ahead turn n
calls-no-more true turn n m h = twice (one_if turn) n m h where
  twice : (x n m : ℕ) → m ≤ n → 2 * m + x ≤ 2 * n + x
  twice x n m h = omega (arith, h)
calls-no-more false turn n m h = once n m h where
  once : (n m : ℕ) → m ≤ n → m + 1 ≤ n + 1
  once n m h = omega (arith, h)

-- after k of so many calls
pub calls-kept : (ahead turn : Bool) (n m k total : ℕ) → m ≤ n → calls_left ahead turn n + k ≤ total → calls_left ahead turn m + k ≤ total
calls-kept ahead turn n m k total le counted = kept (calls_left ahead turn n) (calls_left ahead turn m) (calls-no-more ahead turn n m le) counted where
  kept : (x y : ℕ) → y ≤ x → x + k ≤ total → y + k ≤ total
  kept x y le counted = omega (arith, le, counted)

pub calls-go-on : (ahead turn next_turn : Bool) (n m k total : ℕ) → Falls ahead turn next_turn n m → calls_left ahead turn n + k ≤ total → calls_left ahead next_turn m + suc k ≤ total
calls-go-on ahead turn next_turn n m k total falls counted = on (calls_left ahead turn n) (calls_left ahead next_turn m) (calls-fall ahead turn next_turn n m falls) counted where
  on : (x y : ℕ) → y + 1 ≤ x → x + k ≤ total → y + suc k ≤ total
  on x y less counted = omega (arith, less, counted)

-- if pairs are added, or nominations are to be sent at once, from i to j, each may go first
pub calls-added : (ahead turn : Bool) (n m i j k was base total : ℕ) → m + i + base ≤ n + j + was
    → calls_left ahead turn n + k + times ahead was ≤ total + times ahead i → calls_left ahead turn m + k + times ahead base ≤ total + times ahead j
calls-added true turn n m i j k was base total less counted = twice (one_if turn) less counted where
  twice : (x : ℕ) → m + i + base ≤ n + j + was → 2 * n + x + k + 2 * was ≤ total + 2 * i → 2 * m + x + k + 2 * base ≤ total + 2 * j
  twice x less counted = omega (arith, less, counted)
calls-added false turn n m i j k was base total less counted = once less counted where
  once : m + i + base ≤ n + j + was → n + 1 + k + was ≤ total + i → m + 1 + k + base ≤ total + j
  once less counted = omega (arith, less, counted)

-- a check in turn
pub calls-in-turn : (ahead turn next_turn : Bool) (n m i j k was base total : ℕ) → Falls ahead turn next_turn n m → i + base ≤ j + was
    → calls_left ahead turn n + k + times ahead was ≤ total + times ahead i → calls_left ahead next_turn m + suc k + times ahead base ≤ total + times ahead j
calls-in-turn true turn next_turn n m i j k was base total falls less counted =
    on (calls_left true turn n) (calls_left true next_turn m) (calls-fall true turn next_turn n m falls) less counted where
      on : (x y : ℕ) → y + 1 ≤ x → i + base ≤ j + was → x + k + 2 * was ≤ total + 2 * i → y + suc k + 2 * base ≤ total + 2 * j
      on x y fewer less counted = omega (arith, fewer, less, counted)
calls-in-turn false turn next_turn n m i j k was base total falls less counted =
    on (calls_left false turn n) (calls_left false next_turn m) (calls-fall false turn next_turn n m falls) less counted where
      on : (x y : ℕ) → y + 1 ≤ x → i + base ≤ j + was → x + k + was ≤ total + i → y + suc k + base ≤ total + j
      on x y fewer less counted = omega (arith, fewer, less, counted)

-- a nomination is sent at once: one less is to be sent
pub calls-at-once : (ahead turn next_turn : Bool) (n m i j k was base total : ℕ) → m ≤ n → i + base + 1 ≤ j + was
    → calls_left ahead turn n + k + times ahead was ≤ total + times ahead i → calls_left ahead next_turn m + suc k + times ahead base ≤ total + times ahead j
calls-at-once true turn next_turn n m i j k was base total no_more less counted = twice (one_if turn) (one_if next_turn) (one-at-most next_turn) no_more less counted where
  twice : (x y : ℕ) → y ≤ 1 → m ≤ n → i + base + 1 ≤ j + was → 2 * n + x + k + 2 * was ≤ total + 2 * i → 2 * m + y + suc k + 2 * base ≤ total + 2 * j
  twice x y one no_more less counted = omega (arith, one, no_more, less, counted)
calls-at-once false turn next_turn n m i j k was base total no_more less counted = once no_more less counted where
  once : m ≤ n → i + base + 1 ≤ j + was → n + 1 + k + was ≤ total + i → m + 1 + suc k + base ≤ total + j
  once no_more less counted = omega (arith, no_more, less, counted)

-- of size pairs, this one not counted, each goes first at most twice; from i to j pairs are added, and nominations are sent at once: `was`
-- and `spent` at most, of which `left` are left
pub calls-over : (ahead turn last_turn : Bool) (n m size i j k was spent left most : ℕ)
    → calls_left ahead last_turn m + k + times ahead (i + left) ≤ calls_left ahead turn n + times ahead was + times ahead (j + spent)
    → was + spent ≤ most → n + 2 ≤ 2 * size → times ahead (2 * size + j + most) ≤ k + 1 + times ahead i → ⊥
calls-over true turn last_turn n m size i j k was spent left most counted within few enough = twice (one_if turn) (one_if last_turn) (one-at-most turn) counted within few enough where
  twice : (x y : ℕ) → x ≤ 1 → 2 * m + y + k + 2 * (i + left) ≤ 2 * n + x + 2 * was + 2 * (j + spent) → was + spent ≤ most → n + 2 ≤ 2 * size
      → 2 * (2 * size + j + most) ≤ k + 1 + 2 * i → ⊥
  twice x y one counted within few enough = omega (arith, one, counted, within, few, enough)
calls-over false turn last_turn n m size i j k was spent left most counted within few enough = once counted within few enough where
  once : m + 1 + k + (i + left) ≤ n + 1 + was + (j + spent) → was + spent ≤ most → n + 2 ≤ 2 * size → 2 * size + j + most ≤ k + 1 + i → ⊥
  once counted within few enough = omega (arith, counted, within, few, enough)

-- if some go first, a call is left
pub calls-some : (ahead turn : Bool) (n : ℕ) → 0 < n → 2 ≤ calls_left ahead turn n
calls-some true turn n h = twice (one_if turn) n h where
  twice : (x n : ℕ) → 0 < n → 2 ≤ 2 * n + x
  twice x n h = omega (arith, h)
calls-some false turn n h = once n h where
  once : (n : ℕ) → 0 < n → 2 ≤ n + 1
  once n h = omega (arith, h)

-- so many checks suffice for n in turn
pub calls-from : (ahead turn : Bool) (n k : ℕ) → times ahead n ≤ k → calls_left ahead turn n ≤ k + 1
calls-from true turn n k h = twice (one_if turn) n k (one-at-most turn) h where
  twice : (x n k : ℕ) → x ≤ 1 → 2 * n ≤ k → 2 * n + x ≤ k + 1
  twice x n k one h = omega (arith, one, h)
calls-from false turn n k h = once n k h where
  once : (n k : ℕ) → n ≤ k → n + 1 ≤ k + 1
  once n k h = omega (arith, h)

-- what suffices for more checks suffices for fewer
pub times-kept : (ahead : Bool) (n m k : ℕ) → m ≤ n → times ahead n ≤ k → times ahead m ≤ k
times-kept true n m k le enough = twice n m le enough where
  twice : (n m : ℕ) → m ≤ n → 2 * n ≤ k → 2 * m ≤ k
  twice n m le enough = omega (arith, le, enough)
times-kept false n m k le enough = once n m le enough where
  once : (n m : ℕ) → m ≤ n → n ≤ k → m ≤ k
  once n m le enough = omega (arith, le, enough)

-- no calls suffice for no pair
pub none-suffices : (ahead : Bool) (size i j most : ℕ) → 0 < size → j ≡ i → times ahead (2 * size + j + most) ≤ 0 + 1 + times ahead i → ⊥
none-suffices true size i j most some same enough = twice some same enough where
  twice : 0 < size → j ≡ i → 2 * (2 * size + j + most) ≤ 0 + 1 + 2 * i → ⊥
  twice some same enough = omega (arith, some, same, enough)
none-suffices false size i j most some same enough = once some same enough where
  once : 0 < size → j ≡ i → 2 * size + j + most ≤ 0 + 1 + i → ⊥
  once some same enough = omega (arith, some, same, enough)

-- ---- the turn

pub is-turn : (a b c : Bool) → (a && b && c) ≡ true → (a ≡ true) × (b ≡ true)
is-turn true true c is = (refl, refl)
is-turn true false c is = absurd (cc)
is-turn false b c is = absurd (cc)

-- ---- a check of any pair

module _ (now by : ℕ) (t : StunTiming) (controlling : Bool) (id : List ℕ) (paced : IsPaced t) (early : now < MAX) (from : by ≤ now) where
  later-now : (p : PairRecord) → is_due_by by now t (checked now t controlling id p) ≡ false
  later-now p =
      let following : min now now < due_time_of now t (checked now t controlling id p) = checked-later now now t controlling id p paced early in
      not-by (due_time_of now t (checked now t controlling id p)) by (omega (arith, following, from))

  was-due : (b : Bool) (q : PairRecord) → is_due_by by now t (if b then checked now t controlling id q else q) ≡ true → is_due_by by now t q ≡ true
  was-due true q is = let no : true ≡ false = sym is ∙ later-now q in absurd (cc)
  was-due false q is = is

  -- it makes no pair due
  pub no-more-due : (n : ℕ) (pairs : List PairRecord) → length (due_by by now t (change_pair n (checked now t controlling id) pairs)) ≤ length (due_by by now t pairs)
  no-more-due n pairs =
      no-more (is_due_by by now t) (is_due_by by now t) (change_at n (checked now t controlling id)) pairs
      (λ q there is. was-due (is_numbered n q) q is)
