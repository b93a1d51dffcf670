-- How many checks these are with the settings of each profile.
use Rattle.is_theorems.proofs.Common.{◌*◌, ◌+◌, ◌<◌, ◌∙◌, ◌≡◌, ap, arith, asked_time, check_time, delay_millis, early_time, EndsWith, false}
use Rattle.is_theorems.proofs.Common.{is_modern, IsPastRequests, least_delay, MILLISECOND, modern_settings, NumbersOfChecks}
use Rattle.is_theorems.proofs.Common.{original_settings, refl, StunTiming, suc, sym, timeout_of, timing_of, true, ℕ}
use Rattle.is_theorems.proofs.CheckCounts.CheckTimes.{time-first, time-next}

never : {X : Type 0} → false ≡ true → X
never h = absurd (cc)

-- without early repetition
pub usual-ends : (t : StunTiming) (n : ℕ) → is_modern t ≡ false → t.max_retransmits ≡ n → EndsWith t n
usual-ends t n usual most = record {
  counted = omega (arith, most);
  over = λ modern. never (sym usual ∙ modern);
  rare = λ modern. never (sym usual ∙ modern);
}

abbrev modern : StunTiming
modern = timing_of modern_settings

abbrev original : StunTiming
original = timing_of original_settings

-- how long checks are repeated early
abbrev LONG : ℕ
LONG = early_time modern

abbrev SHORT : ℕ
SHORT = asked_time modern

abbrev USUAL : ℕ
USUAL = early_time original

-- the next time on schedule
then : (t : StunTiming) (span n at next : ℕ) → 0 < n → check_time t span n ≡ at → at + least_delay t span at n ≡ next → check_time t span (suc n) ≡ next
then t span n at next some is delay = time-next t span n some ∙ (ap (λ k. k + least_delay t span k n) is ∙ delay)

original-10 : check_time original USUAL 10 ≡ 18750 * MILLISECOND
unfolding timeout_of delay_millis
original-10 =
    let t2 = then original USUAL 1 0 (250 * MILLISECOND) (omega arith) (time-first original USUAL) refl in
    let t3 = then original USUAL 2 (250 * MILLISECOND) (750 * MILLISECOND) (omega arith) t2 refl in
    let t4 = then original USUAL 3 (750 * MILLISECOND) (1750 * MILLISECOND) (omega arith) t3 refl in
    let t5 = then original USUAL 4 (1750 * MILLISECOND) (3750 * MILLISECOND) (omega arith) t4 refl in
    let t6 = then original USUAL 5 (3750 * MILLISECOND) (6750 * MILLISECOND) (omega arith) t5 refl in
    let t7 = then original USUAL 6 (6750 * MILLISECOND) (9750 * MILLISECOND) (omega arith) t6 refl in
    let t8 = then original USUAL 7 (9750 * MILLISECOND) (12750 * MILLISECOND) (omega arith) t7 refl in
    let t9 = then original USUAL 8 (12750 * MILLISECOND) (15750 * MILLISECOND) (omega arith) t8 refl in
    then original USUAL 9 (15750 * MILLISECOND) (18750 * MILLISECOND) (omega arith) t9 refl

time-17 : check_time modern LONG 17 ≡ 25350 * MILLISECOND
unfolding timeout_of delay_millis
time-17 =
    let t2 = then modern LONG 1 0 (100 * MILLISECOND) (omega arith) (time-first modern LONG) refl in
    let t3 = then modern LONG 2 (100 * MILLISECOND) (200 * MILLISECOND) (omega arith) t2 refl in
    let t4 = then modern LONG 3 (200 * MILLISECOND) (400 * MILLISECOND) (omega arith) t3 refl in
    let t5 = then modern LONG 4 (400 * MILLISECOND) (750 * MILLISECOND) (omega arith) t4 refl in
    let t6 = then modern LONG 5 (750 * MILLISECOND) (1100 * MILLISECOND) (omega arith) t5 refl in
    let t7 = then modern LONG 6 (1100 * MILLISECOND) (1450 * MILLISECOND) (omega arith) t6 refl in
    let t8 = then modern LONG 7 (1450 * MILLISECOND) (1800 * MILLISECOND) (omega arith) t7 refl in
    let t9 = then modern LONG 8 (1800 * MILLISECOND) (2150 * MILLISECOND) (omega arith) t8 refl in
    let t10 = then modern LONG 9 (2150 * MILLISECOND) (5050 * MILLISECOND) (omega arith) t9 refl in
    let t11 = then modern LONG 10 (5050 * MILLISECOND) (7950 * MILLISECOND) (omega arith) t10 refl in
    let t12 = then modern LONG 11 (7950 * MILLISECOND) (10850 * MILLISECOND) (omega arith) t11 refl in
    let t13 = then modern LONG 12 (10850 * MILLISECOND) (13750 * MILLISECOND) (omega arith) t12 refl in
    let t14 = then modern LONG 13 (13750 * MILLISECOND) (16650 * MILLISECOND) (omega arith) t13 refl in
    let t15 = then modern LONG 14 (16650 * MILLISECOND) (19550 * MILLISECOND) (omega arith) t14 refl in
    let t16 = then modern LONG 15 (19550 * MILLISECOND) (22450 * MILLISECOND) (omega arith) t15 refl in
    then modern LONG 16 (22450 * MILLISECOND) (25350 * MILLISECOND) (omega arith) t16 refl

time-18 : check_time modern LONG 18 ≡ 28250 * MILLISECOND
unfolding timeout_of delay_millis
time-18 = then modern LONG 17 (25350 * MILLISECOND) (28250 * MILLISECOND) (omega arith) time-17 refl

-- after a request
asked-11 : check_time modern SHORT 11 ≡ 13050 * MILLISECOND
unfolding timeout_of delay_millis
asked-11 =
    let t2 = then modern SHORT 1 0 (100 * MILLISECOND) (omega arith) (time-first modern SHORT) refl in
    let t3 = then modern SHORT 2 (100 * MILLISECOND) (200 * MILLISECOND) (omega arith) t2 refl in
    let t4 = then modern SHORT 3 (200 * MILLISECOND) (400 * MILLISECOND) (omega arith) t3 refl in
    let t5 = then modern SHORT 4 (400 * MILLISECOND) (750 * MILLISECOND) (omega arith) t4 refl in
    let t6 = then modern SHORT 5 (750 * MILLISECOND) (1100 * MILLISECOND) (omega arith) t5 refl in
    let t7 = then modern SHORT 6 (1100 * MILLISECOND) (1450 * MILLISECOND) (omega arith) t6 refl in
    let t8 = then modern SHORT 7 (1450 * MILLISECOND) (4350 * MILLISECOND) (omega arith) t7 refl in
    let t9 = then modern SHORT 8 (4350 * MILLISECOND) (7250 * MILLISECOND) (omega arith) t8 refl in
    let t10 = then modern SHORT 9 (7250 * MILLISECOND) (10150 * MILLISECOND) (omega arith) t9 refl in
    then modern SHORT 10 (10150 * MILLISECOND) (13050 * MILLISECOND) (omega arith) t10 refl

asked-12 : check_time modern SHORT 12 ≡ 15950 * MILLISECOND
unfolding timeout_of delay_millis
asked-12 = then modern SHORT 11 (13050 * MILLISECOND) (15950 * MILLISECOND) (omega arith) asked-11 refl

series-is : timeout_of modern ≡ 26700 * MILLISECOND
unfolding timeout_of delay_millis
series-is = refl

early-is : LONG ≡ 2150 * MILLISECOND
unfolding timeout_of delay_millis
early-is = refl

asked-is : SHORT ≡ 1200 * MILLISECOND
unfolding timeout_of delay_millis
asked-is = refl

original-past : IsPastRequests original 9
original-past = let next = original-10 in omega (arith, next)

modern-past : IsPastRequests modern 17
modern-past = let next = time-18 in omega (arith, next)

pub numbers-of-checks : NumbersOfChecks
numbers-of-checks = (
  λ t usual. usual-ends t t.max_retransmits usual refl,
  (usual-ends original 9 refl refl, original-past),
  (
    record {
      counted = omega arith;
      over = λ _. (let next = time-18 in let series = series-is in omega (arith, next, series));
      rare = λ _. (let last = time-17 in let early = early-is in omega (arith, last, early));
    },
    modern-past,
  ),
  record {
    enough = omega arith;
    past = (let next = asked-12 in omega (arith, next));
    rare = λ _. (let last = asked-11 in let early = asked-is in omega (arith, last, early));
  },
)
