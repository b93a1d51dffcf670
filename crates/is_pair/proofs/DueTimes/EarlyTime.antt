-- A time within which checks are repeated early.
use Rattle.is_pair.proofs.Common.{◌||◌, ◌≡◌, ◌≤◌, arith, ASKED_TIME, Bool, early_span, EARLY_TIME, early_time, false, if◌then◌else◌}
use Rattle.is_pair.proofs.Common.{is_asked_first, is_within, min, nat_tests, None, Option, PairRecord, refl, Some, StunTiming, true, ℕ}

-- what is not within a time is not within a shorter one
within-less : (span most now : ℕ) (since : Option ℕ) → span ≤ most → is_within most now since ≡ false → is_within span now since ≡ false
within-less span most now None less past = refl
within-less span most now (Some at) less past = grind (arith, nat_tests, less, past)

neither : (x y : Bool) → (x || y) ≡ false → (x ≡ false) × (y ≡ false)
neither true y h = absurd (cc)
neither false y h = (refl, h)

pub past-early : (span most now : ℕ) (first second : Option ℕ) → span ≤ most → (is_within most now first || is_within most now second) ≡ false
    → (is_within span now first || is_within span now second) ≡ false
past-early span most now first second less past =
    let both = neither (is_within most now first) (is_within most now second) past in
    rw (within-less span most now first less both.0, within-less span most now second less both.1) refl

-- no pair is checked early for longer than 2.15 s
pub span-within : (t : StunTiming) (p : PairRecord) → early_span t p ≤ EARLY_TIME
span-within t p = by (is_asked_first p) where
  by : (b : Bool) → (if b then min ASKED_TIME (early_time t) else early_time t) ≤ EARLY_TIME
  by true = omega arith
  by false = omega arith
