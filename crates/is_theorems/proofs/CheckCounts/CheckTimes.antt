-- When checks of a pair from which nothing arrives are sent at the earliest.
use Rattle.is_theorems.proofs.Common.{◌&&◌, ◌*◌, ◌+◌, ◌-◌, ◌/◌, ◌<◌, ◌^◌, ◌≡◌, ◌≤◌, arith, Bool, cases_lt, check_time, delay_millis}
use Rattle.is_theorems.proofs.Common.{early_delay, EARLY_RETRANSMITS, false, if◌then◌else◌, inl, inr, is_modern, later, least_delay, MAX}
use Rattle.is_theorems.proofs.Common.{MILLISECOND, min, mul-le-mul_left, nat_lt, nat_tests, pow-le-pow_right, refl, resend_delay, rto_after}
use Rattle.is_theorems.proofs.Common.{StunTiming, suc, true, zero, ℕ}

-- ---- the RTO

rto-of : (t : StunTiming) (n : ℕ) → 0 < n → resend_delay t n ≡ min (t.initial_rto.0 / MILLISECOND * 2 ^ min (n - 1) t.max_retransmits) (t.max_rto.0 / MILLISECOND) * MILLISECOND
unfolding delay_millis
rto-of t n some = grind (arith, nat_tests)

-- it is not longer than the longest one, and does not fall
rto-below : (t : StunTiming) (n : ℕ) → resend_delay t n ≤ t.max_rto.0
rto-below t zero = omega arith
rto-below t (suc n) = let delay = rto-of t (suc n) (omega arith) in omega (arith, delay)

pub rto-rising : (t : StunTiming) (few many : ℕ) → few ≤ many → resend_delay t few ≤ resend_delay t many
rto-rising t zero many less = omega arith
rto-rising t (suc few) many less =
    let times : min (suc few - 1) t.max_retransmits ≤ min (many - 1) t.max_retransmits = omega (arith, less) in
    let power : 2 ^ min (suc few - 1) t.max_retransmits ≤ 2 ^ min (many - 1) t.max_retransmits = pow-le-pow_right (omega arith) times in
    let product = mul-le-mul_left (t.initial_rto.0 / MILLISECOND) power in
    let first = rto-of t (suc few) (omega arith) in
    let second = rto-of t many (omega (arith, less)) in
    omega (arith, product, first, second)

pub rto-within : (t : StunTiming) (n : ℕ) → rto_after t n ≤ t.max_rto.0
rto-within t n = rto-below t (min n t.max_retransmits)

-- ---- the least delay

-- the shorter delay, as long as the test holds
abbrev either_delay : (b : Bool) (short long : ℕ) → ℕ
either_delay b short long = if b then min short long else long

never-longer : (b : Bool) (short long : ℕ) → either_delay b short long ≤ long
never-longer true short long = omega arith
never-longer false short long = omega arith

pub least-within : (t : StunTiming) (span after n : ℕ) → least_delay t span after n ≤ rto_after t n
least-within t span after n = never-longer (is_modern t && nat_lt after span) (early_delay n) (rto_after t n)

delays-rise : (m x y : Bool) (short long : ℕ) → (y ≡ true → x ≡ true) → either_delay (m && x) short long ≤ either_delay (m && y) short long
delays-rise false x y short long h = omega arith
delays-rise true true true short long h = omega arith
delays-rise true true false short long h = omega arith
delays-rise true false false short long h = omega arith
delays-rise true false true short long h = let no : false ≡ true = h refl in absurd (cc)

sooner-too : (a b e : ℕ) → a ≤ b → nat_lt b e ≡ true → nat_lt a e ≡ true
sooner-too a b e le h = grind (arith, nat_tests, le, h)

-- later on it is not shorter
pub least-rising : (t : StunTiming) (span n a b : ℕ) → a ≤ b → least_delay t span a n ≤ least_delay t span b n
least-rising t span n a b le = delays-rise (is_modern t) (nat_lt a span) (nat_lt b span) (early_delay n) (rto_after t n) (sooner-too a b span le)

-- ---- the earliest times

pub time-first : (t : StunTiming) (span : ℕ) → check_time t span 1 ≡ 0
unfolding check_time
time-first t span = refl

pub time-next : (t : StunTiming) (span n : ℕ) → 0 < n → check_time t span (suc n) ≡ check_time t span n + least_delay t span (check_time t span n) n
unfolding check_time
time-next t span zero some = let no : ⊥ = omega (arith, some) in absurd no
time-next t span (suc n) some = refl

-- ---- saturated times

-- a check that is sent so long after another is no sooner than the next one on schedule
pub later-next : (t : StunTiming) (span n first sent now : ℕ) → 0 < n → later first (check_time t span n) ≤ sent → later sent (least_delay t span (sent - first) n) ≤ now
    → later first (check_time t span (suc n)) ≤ now
later-next t span n first sent now some late due = elim (cases_lt sent MAX) [
  | inl early ↦
      (let after : check_time t span n ≤ sent - first = omega (arith, late, early) in
      let least = least-rising t span n (check_time t span n) (sent - first) after in
      let next = time-next t span n some in
      omega (arith, late, early, due, least, next))
  | inr past ↦ omega (arith, past, due)
]

-- ---- the delays of early checks

-- it does not fall, and no further after the fourth check
pub early-rising : (few many : ℕ) → min few 4 ≤ many → early_delay few ≤ early_delay many
early-rising few many le = elim (cases_lt many 4) [
  | inl small ↦
      (let fewer : few - EARLY_RETRANSMITS ≤ many - EARLY_RETRANSMITS = omega (arith, le, small) in
      let power : 2 ^ (few - EARLY_RETRANSMITS) ≤ 2 ^ (many - EARLY_RETRANSMITS) = pow-le-pow_right (omega arith) fewer in
      omega (arith, power))
  | inr great ↦
      (let two : 2 ≤ many - EARLY_RETRANSMITS = omega (arith, great) in
      let power : 2 ^ 2 ≤ 2 ^ (many - EARLY_RETRANSMITS) = pow-le-pow_right (omega arith) two in
      let four : 2 ^ 2 ≡ 4 = refl in
      omega (arith, power, four))
]
