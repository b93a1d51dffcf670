-- A pair that was checked is due after the time of the check, whenever its due time is computed from then on.
use Rattle.is_pair.specs.Due.{response_wait}
use Rattle.std.proofs.Math.Nat.{one-le-pow, one-le-mul}
use Rattle.std.proofs.Math.Seq.{get_or-append_seam}
use Rattle.is_stun.specs.Timing.{delay_millis, resend_delay, early_delay, is_modern, EARLY_INTERVAL, EARLY_RETRANSMITS}
use Rattle.is_pair.specs.declared.pair.states.NominationState.{NominationState}
use Rattle.is_pair.specs.declared.pair.states.NominationState.TheVariants.{None as Unnominated, Nominated, Attempt, Success}
use Rattle.is_pair.specs.States.{nomination_once_sent}
use Rattle.is_pair.proofs.Common.{[], ◌*◌, ◌++◌, ◌+◌, ◌-◌, ◌/◌, ◌<◌, ◌==◌, ◌^◌, ◌||◌, ◌∙◌, ◌∷◌, ◌≡◌, ◌≤◌, ap, arith, Bool, Check, check_of}
use Rattle.is_pair.proofs.Common.{checked, CheckedIsLater, computed_due_time, delay_of, delaying_count, drop, drop-append-le, false}
use Rattle.is_pair.proofs.Common.{hushed_delay, HUSHED_INTERVAL, HUSHED_TIME, if◌then◌else◌, is_answered, is_hushed, is_repeated_early}
use Rattle.is_pair.proofs.Common.{is_silent, is_within, IsPaced, last_check, last_checks, later, length, List}
use Rattle.is_pair.proofs.Common.{MAX, max, MILLISECOND, min, modern_delay, nat_lt, nat_tests, next_due_time, None, Option, option_map_or}
use Rattle.is_pair.proofs.Common.{PairRecord, position, position-Some, refl, repeated_delay, reverse, reverse-append, SHORT_INTERVAL}
use Rattle.is_pair.proofs.Common.{silent_count, slice_get, slice_get-get_or, Some, StunTiming, subst, suc, sym, true, unanswered_count}
use Rattle.is_pair.proofs.Common.{unwrap_or, usual_delay, zero, ℕ}

-- ---- the delay

product : (a b : ℕ) → 1 ≤ a → 1 ≤ b → 1 ≤ a * b
product a b h k = one-le-mul h k

whole : (n : ℕ) → MILLISECOND ≤ n → 1 ≤ n / MILLISECOND
whole n h = omega arith

millis : (t : StunTiming) (n : ℕ) → IsPaced t → 1 ≤ delay_millis t n
unfolding delay_millis
millis t n paced =
    let a : 1 ≤ t.initial_rto.0 / MILLISECOND = whole t.initial_rto.0 (let m = paced.initial in omega (arith, m)) in
    let b : 1 ≤ 2 ^ min (n - 1) t.max_retransmits = one-le-pow (min (n - 1) t.max_retransmits) 2 (omega arith) in
    let c : 1 ≤ t.initial_rto.0 / MILLISECOND * 2 ^ min (n - 1) t.max_retransmits = product _ _ a b in
    let d : 1 ≤ t.max_rto.0 / MILLISECOND = whole t.max_rto.0 (let m = paced.greatest in omega (arith, m)) in
    least (t.initial_rto.0 / MILLISECOND * 2 ^ min (n - 1) t.max_retransmits) (t.max_rto.0 / MILLISECOND) c d where
      least : (x y : ℕ) → 1 ≤ x → 1 ≤ y → 1 ≤ min x y
      least x y h k = omega arith

some-is : (n : ℕ) → 0 < n → (n == 0) ≡ false
some-is n h = grind (arith, nat_tests, h)

unless : (b : Bool) (x : ℕ) → b ≡ false → 0 < x → 0 < (if b then 0 else x)
unless true x is h = absurd (cc)
unless false x is h = h

pub delay-positive : (t : StunTiming) (n : ℕ) → IsPaced t → 0 < n → 0 < resend_delay t n
delay-positive t n paced some =
    let one : 1 ≤ delay_millis t n = millis t n paced in
    unless (n == 0) (delay_millis t n * MILLISECOND) (some-is n some) (omega (arith, one))

-- ---- the check that was just made

-- it is stored, as the last one
kept-last : (n : ℕ) (cs : List Check) (c : Check) → 0 < n → (front : List Check) × (last_checks n (cs ++ c ∷ []) ≡ front ++ c ∷ [])
kept-last n cs c some =
    let few : length (cs ++ c ∷ []) - n ≤ length cs = omega (arith, length-more cs) in
    (drop (length (cs ++ c ∷ []) - n) cs, drop-append-le (length (cs ++ c ∷ []) - n) cs (c ∷ []) few) where
      length-more : (xs : List Check) → length (xs ++ c ∷ []) ≡ length xs + 1
      length-more [] = omega arith
      length-more (x ∷ xs) = let k : length (xs ++ c ∷ []) ≡ length xs + 1 = length-more xs in omega (arith, k)

length-last : (front : List Check) (c : Check) → length (front ++ c ∷ []) ≡ length front + 1
length-last [] c = omega arith
length-last (x ∷ xs) c = let k : length (xs ++ c ∷ []) ≡ length xs + 1 = length-last xs c in omega (arith, k)

last-is : (front : List Check) (c : Check) → last_check (front ++ c ∷ []) ≡ Some c
last-is front c =
    let long : length (front ++ c ∷ []) ≡ length front + 1 = length-last front c in
    let place : length (front ++ c ∷ []) - 1 ≡ length front = omega (arith, long) in
    ap (slice_get (front ++ c ∷ [])) place
    ∙ (slice_get-get_or (front ++ c ∷ []) (length front) c (omega (arith, long)) ∙ ap Some (get_or-append_seam front c [] c))

-- and is not answered
counted-from : (cs : List Check) (c : Check) (rest : List Check) (o : Option ℕ) → is_answered c ≡ false → position is_answered (c ∷ rest) ≡ o → 0 < length cs → 0 < unwrap_or o (length cs)
counted-from cs c rest None open_still at some = some
counted-from cs c rest (Some zero) open_still at some =
    let it = position-Some is_answered (c ∷ rest) 0 c at in
    let no : true ≡ false = sym it.1 ∙ open_still in absurd (cc)
counted-from cs c rest (Some (suc i)) open_still at some = omega arith

unanswered : (front : List Check) (c : Check) → is_answered c ≡ false → 0 < unanswered_count (front ++ c ∷ [])
unanswered front c open_still =
    let long : length (front ++ c ∷ []) ≡ length front + 1 = length-last front c in
    counted-from (front ++ c ∷ []) c (reverse front) (position is_answered (reverse (front ++ c ∷ []))) open_still
    (ap (position is_answered) (sym (reverse-append front (c ∷ [])))) (omega (arith, long))

by-silence : (b : Bool) (x y : ℕ) → 0 < x → 0 < y → 0 < (if b then x else y)
by-silence true x y h k = h
by-silence false x y h k = k

delaying : (now : ℕ) (t : StunTiming) (checks : List Check) → 0 < unanswered_count checks → 0 < length checks → 0 < delaying_count now t checks
delaying now t checks open_still some = by-silence (is_silent now t checks) (unanswered_count checks) (length checks) open_still some

-- the delay after it, early or not
early-positive : (n : ℕ) → 0 < early_delay n
early-positive n = least _ _ (product EARLY_INTERVAL _ (omega arith) (one-le-pow (n - EARLY_RETRANSMITS) 2 (omega arith))) (omega arith) where
  least : (x y : ℕ) → 1 ≤ x → 1 ≤ y → 0 < min x y
  least x y h k = omega (arith, h, k)

wait-positive : (at : ℕ) (t : StunTiming) (q : PairRecord) → IsPaced t → 0 < unanswered_count q.checks → 0 < length q.checks → 0 < delay_of at t q
wait-positive at t q paced open_still some = either (is_modern t) where
  usual : 0 < usual_delay at t q.checks
  usual = delay-positive t (delaying_count at t q.checks) paced (delaying at t q.checks open_still some)

  hushed : 0 < hushed_delay at t q
  hushed = most (nat_lt (unanswered_count q.checks) t.max_retransmits || is_within (later t.max_rto.0 HUSHED_TIME) at q.consented) (response_wait q.checks) where
    most : (b : Bool) (y : ℕ) → 0 < max (if b then SHORT_INTERVAL else HUSHED_INTERVAL) y
    most true y = omega arith
    most false y = omega arith

  sooner : (x y : ℕ) → 0 < x → 0 < y → 0 < min x y
  sooner x y h k = omega (arith, h, k)

  repeated : (b : Bool) → 0 < (if b then early_delay (silent_count q) else usual_delay at t q.checks)
  repeated true = early-positive (silent_count q)
  repeated false = usual

  modern : (b : Bool) → 0 < (if b then min (hushed_delay at t q) (repeated_delay at t q) else repeated_delay at t q)
  modern true = sooner (hushed_delay at t q) (repeated_delay at t q) hushed (repeated (is_repeated_early at t q))
  modern false = repeated (is_repeated_early at t q)

  either : (b : Bool) → 0 < (if b then modern_delay at t q else usual_delay at t q.checks)
  either true = modern (is_hushed q)
  either false = usual

-- so the next one is later
next-later : (now at : ℕ) (t : StunTiming) (q : PairRecord) (c : Check) (front : List Check) → IsPaced t → now < MAX → c.sent ≡ now → is_answered c ≡ false → q.checks ≡ front ++ c ∷ []
    → now < next_due_time at t q
next-later now at t q c front paced early sent open_still is =
    let long : length q.checks ≡ length front + 1 = ap length is ∙ length-last front c in
    let counts : 0 < unanswered_count q.checks = subst (λ (xs : List Check). 0 < unanswered_count xs) (sym is) (unanswered front c open_still) in
    let some : 0 < delay_of at t q = wait-positive at t q paced counts (omega (arith, long)) in
    let here : next_due_time at t q ≡ later c.sent (delay_of at t q) =
    ap (λ (o : Option Check). option_map_or (λ (d : Check). later d.sent (delay_of at t q)) o at) (ap last_check is ∙ last-is front c) in
    subst (λ n. now < n) (sym here) (following c.sent (delay_of at t q) sent some) where
      following : (from by : ℕ) → from ≡ now → 0 < by → now < later from by
      following from by same some = omega (arith, same, some, early)

needed : (at : ℕ) (t : StunTiming) (n : NominationState) (q : PairRecord) → computed_due_time (nomination_once_sent n) at t q ≡ next_due_time at t q
needed at t Unnominated q = refl
needed at t Nominated q = refl
needed at t Attempt q = refl
needed at t Success q = refl

pub checked-later : CheckedIsLater
checked-later now at t controlling id p paced early =
    let k = kept-last t.max_retransmits p.checks (check_of now controlling id p) (let m = paced.retransmits in omega (arith, m)) in
    let q = checked now t controlling id p in
    let next : now < next_due_time at t q = next-later now at t q (check_of now controlling id p) k.0 paced early refl refl k.1 in
    let is : computed_due_time (nomination_once_sent p.nomination) at t q ≡ next_due_time at t q = needed at t p.nomination q in
    let some : 0 < t.max_rto.0 = let m = paced.greatest in omega (arith, m) in
    both (computed_due_time (nomination_once_sent p.nomination) at t q) t.max_rto.0 (subst (λ n. now < n) (sym is) next) some where
      both : (w by : ℕ) → now < w → 0 < by → min now at < min w (later at by)
      both w by h k = omega (arith, h, k, early)
