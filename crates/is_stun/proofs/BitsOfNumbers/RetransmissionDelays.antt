-- Delays that double without losing bits, and what they come to.
use Rattle.std.proofs.lemmas.Bool.Decides.{nat_tests}
use Rattle.std.proofs.Math.Nat.{pow-le-pow_right, le-mul_of_pos_right, mul-le-mul_left, min-eq_left}
use Rattle.std.proofs.lemmas.List.Sums.{sum_by-append, sum_by-cons}
use Rattle.is_stun.specs.declared.timing.StunTiming.{StunTiming}
use Rattle.is_stun.proofs.Common.{[], ◌*◌, ◌++◌, ◌+◌, ◌-◌, ◌/◌, ◌<◌, ◌^◌, ◌∙◌, ◌∷◌, ◌≡◌, ◌≤◌, ◌⊎◌, add-zero, ap, arith, cases_lt}
use Rattle.is_stun.proofs.Common.{delay_millis, inl, inr, last_resend_delay, later, MAX, MILLISECOND, min, range_with_len, refl}
use Rattle.is_stun.proofs.Common.{resend_delay, suc, suc-add, sum_by, sym, timeout_of, zero, zero-add, zero-mul, ℕ}

-- so many doublings take any number but zero past so many bits
pub doubled_past : (a k j m : ℕ) → m < 2 ^ j → 0 < a → j ≤ k → m < a * 2 ^ k
doubled_past a k j m fits some many =
    let power : 2 ^ j ≤ 2 ^ k = pow-le-pow_right (omega arith) many in
    let more : 2 ^ k ≤ 2 ^ k * a = le-mul_of_pos_right (2 ^ k) some in
    omega arith

-- further doublings change nothing below the bound
pub min-doubled : (a k j m : ℕ) → m < 2 ^ j → min (a * 2 ^ min k j) m ≡ min (a * 2 ^ k) m
min-doubled a k j m fits =
    elim (cases_lt j k) [
      | inr few ↦ rw (min-eq_left few) refl
      | inl many ↦ past (cases_lt 0 a) many
    ]
  where
    past : (0 < a) ⊎ (a ≤ 0) → j < k → min (a * 2 ^ min k j) m ≡ min (a * 2 ^ k) m
    past (inl some) many =
        let left : m < a * 2 ^ min k j = doubled_past a (min k j) j m fits some (omega arith) in
        let right : m < a * 2 ^ k = doubled_past a k j m fits some (omega arith) in
        omega arith
    past (inr none) many = let zero : a ≡ 0 = omega arith in rw zero (simp zero-mul)

-- a bound of whole milliseconds fits as many nanoseconds
pub millis_fit : (n most : ℕ) → most ≤ MAX / MILLISECOND → min (min n most * MILLISECOND) MAX ≡ min n most * MILLISECOND
millis_fit n most fits = omega arith

-- where every term is one value, the sum is so many times that value
pub sum_by-steady : (f : ℕ → ℕ) (v a n : ℕ) → ((k : ℕ) → a ≤ k → k < a + n → f k ≡ v) → sum_by f (range_with_len a n) ≡ n * v
sum_by-steady f v a zero same = omega arith
sum_by-steady f v a (suc n) same =
    let here : f a ≡ v = same a (omega arith) (omega arith) in
    let following = sum_by-steady f v (a + 1) n (λ k low high. same k (omega arith) (omega arith)) in
    let all = sum_by-cons f a (range_with_len (a + 1) n) in
    omega arith

pub range_with_len-add : (a m n : ℕ) → range_with_len a (m + n) ≡ range_with_len a m ++ range_with_len (a + m) n
range_with_len-add a zero n = rw (zero-add, add-zero) refl
range_with_len-add a (suc m) n =
    let next : a + suc m ≡ a + 1 + m = omega arith in
    rw (suc-add, next) (ap (λ xs. a ∷ xs) (range_with_len-add (a + 1) m n))

-- one delay more
pub sum_by-range_more : (f : ℕ → ℕ) (a n : ℕ) → sum_by f (range_with_len a (n + 1)) ≡ sum_by f (range_with_len a n) + f (a + n)
sum_by-range_more f a n =
    ap (sum_by f) (range_with_len-add a n 1) ∙ sum_by-append f (range_with_len a n) ((a + n) ∷ []) ∙ ap (λ x. sum_by f (range_with_len a n) + x) (zero-add (f (a + n)))

pub resend_delay-pos : (t : StunTiming) (n : ℕ) → 0 < n → resend_delay t n ≡ min (t.initial_rto.0 / MILLISECOND * 2 ^ min (n - 1) t.max_retransmits) (t.max_rto.0 / MILLISECOND) * MILLISECOND
unfolding delay_millis
resend_delay-pos t n some = grind (arith, nat_tests)

-- past the doublings that the bound allows, the delay is steady
pub steady_from : (t : StunTiming) (n j : ℕ) → t.max_rto.0 / MILLISECOND < 2 ^ j → j < n → j < t.max_retransmits → resend_delay t n ≡ min (t.initial_rto.0 / MILLISECOND * 2 ^ j) (t.max_rto.0 / MILLISECOND) * MILLISECOND
steady_from t n j fits many long =
    let first = t.initial_rto.0 / MILLISECOND in
    let most = t.max_rto.0 / MILLISECOND in
    let times = min (n - 1) t.max_retransmits in
    let least : min times j ≡ j = omega arith in
    let same = min-doubled first times j most fits in
    let power = ap (λ k. min (first * 2 ^ k) most) least in
    let delay = resend_delay-pos t n (omega arith) in
    omega arith

-- so from there on each delay is the last one
pub steady_delay : (t : StunTiming) (n j : ℕ) → t.max_rto.0 / MILLISECOND < 2 ^ j → j < n → j < t.max_retransmits → resend_delay t n ≡ last_resend_delay t
steady_delay t n j fits many long =
    steady_from t n j fits many long ∙ sym (steady_from t t.max_retransmits j fits long long)

-- the growing delays one by one, and the steady ones at once
pub timeout_by_parts : (t : StunTiming) (growing from : ℕ) → 0 < from → t.max_rto.0 / MILLISECOND < 2 ^ (from - 1) → growing ≡ min t.max_retransmits from → later (later (min (sum_by (resend_delay t) (range_with_len 2 (growing - 1))) MAX) (min (last_resend_delay t * (t.max_retransmits - growing)) MAX)) (last_resend_delay t) ≡ timeout_of t
unfolding timeout_of
timeout_by_parts t growing from some fits least =
    let steady = t.max_retransmits - growing in
    let last = last_resend_delay t in
    let parts : t.max_retransmits - 1 ≡ growing - 1 + steady = omega arith in
    let split = range_with_len-add 2 (growing - 1) steady in
    let sums = sum_by-append (resend_delay t) (range_with_len 2 (growing - 1)) (range_with_len (2 + (growing - 1)) steady) in
    let following = sum_by-steady (resend_delay t) last (2 + (growing - 1)) steady (λ k low high. steady_delay t k (from - 1) fits (omega arith) (omega arith)) in
    let whole : sum_by (resend_delay t) (range_with_len 2 (t.max_retransmits - 1)) ≡ sum_by (resend_delay t) (range_with_len 2 (growing - 1)) + steady * last =
    cc in
    omega arith

pub resend_delay-bounded : (t : StunTiming) (n : ℕ) → resend_delay t n ≤ t.max_rto.0 / MILLISECOND * MILLISECOND
resend_delay-bounded t zero = omega arith
resend_delay-bounded t (suc n) = let delay = resend_delay-pos t (suc n) (omega arith) in omega arith

pub resend_delay-rising : (t : StunTiming) (few many : ℕ) → few ≤ many → resend_delay t few ≤ resend_delay t many
resend_delay-rising t zero many less = omega arith
resend_delay-rising t (suc few) many less =
    let times : min (suc few - 1) t.max_retransmits ≤ min (many - 1) t.max_retransmits = omega arith in
    let power : 2 ^ min (suc few - 1) t.max_retransmits ≤ 2 ^ min (many - 1) t.max_retransmits = pow-le-pow_right (omega arith) times in
    let product = mul-le-mul_left (t.initial_rto.0 / MILLISECOND) power in
    let less_delay = resend_delay-pos t (suc few) (omega arith) in
    let delay = resend_delay-pos t many (omega arith) in
    omega arith
