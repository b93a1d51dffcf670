-- How many checks a pair gets at most: any pair, or one whose first check followed a request.
use Rattle.is_theorems.proofs.Common.{◌*◌, ◌<◌, ◌==◌, ◌∙◌, ◌≡◌, ◌≤◌, ap, arith, ASKED_TIME, asked_time, Bool, check_time, early_span}
use Rattle.is_theorems.proofs.Common.{early_time, EndsAsked, EndsWith, false, if◌then◌else◌, is_asked_first, is_modern, min, nat_le, nat_lt}
use Rattle.is_theorems.proofs.Common.{nat_tests, None, Option, option_map_or, PairRecord, refl, SECOND, Some, StunTiming, suc, sym}
use Rattle.is_theorems.proofs.Common.{timeout_of, true, unwrap_or, zero, ℕ}
use Rattle.is_theorems.proofs.CheckCounts.SentChecks.{no-case}

-- so many checks: of each pair, or only of those whose first check followed a request
pub record Bound : Type 0 where
  pub asked : Bool
  pub checks : ℕ

-- how long such pairs are checked early at most
abbrev pub span_of : StunTiming → Bound → ℕ
span_of t b = if b.asked then asked_time t else early_time t

-- no check follows so many
pub record Ends (t : StunTiming) (b : Bound) : Type 0 where
  pub counted : t.max_retransmits ≤ b.checks
  pub over : b.asked ≡ false → is_modern t ≡ true → timeout_of t ≤ check_time t (span_of t b) (suc b.checks)
  pub rare : is_modern t ≡ true → span_of t b ≤ check_time t (span_of t b) b.checks

abbrev pub IsPastRequest : StunTiming → Bound → Type 0
IsPastRequest t b = 15 * SECOND ≤ check_time t (span_of t b) (suc b.checks)

-- ---- both bounds

abbrev pub any : ℕ → Bound
any n = record { asked = false; checks = n }

abbrev pub brought : ℕ → Bound
brought n = record { asked = true; checks = n }

pub any-ends : (t : StunTiming) (n : ℕ) → EndsWith t n → Ends t (any n)
any-ends t n h = record {
  counted = h.counted;
  over = λ _ modern. h.over modern;
  rare = h.rare;
}

pub brought-ends : (t : StunTiming) (n : ℕ) → EndsAsked t n → Ends t (brought n)
brought-ends t n h = record {
  counted = h.enough;
  over = λ other modern. no-case (sym other);
  rare = h.rare;
}

-- ---- the pairs that a bound covers

-- the first check preceded the first one after a request
abbrev pub is_late : PairRecord → Bool
is_late p = option_map_or (λ first. option_map_or (λ again. nat_lt first again) p.first_after_request false) p.first_sent false

-- With `asked` it is such a pair, or may still become one: a request arrived, but no check was sent since.
abbrev pub Covers : Bound → PairRecord → Type 0
Covers b p = b.asked ≡ true → (0 < p.requests) × (is_late p ≡ false)

pub covers-any : (n : ℕ) (p : PairRecord) → Covers (any n) p
covers-any n p asked = no-case asked

pub asked-first : (p : PairRecord) (first again : ℕ) → p.first_sent ≡ Some first → p.first_after_request ≡ Some again → is_late p ≡ false → is_asked_first p ≡ true
asked-first p first again one two early =
    ap (λ o. option_map_or (λ f. option_map_or (λ a. nat_le a f) p.first_after_request false) o false) one
    ∙ (ap (λ o. option_map_or (λ a. nat_le a first) o false) two ∙ not-less (sym before ∙ early)) where
      before : is_late p ≡ nat_lt first again
      before =
          ap (λ o. option_map_or (λ f. option_map_or (λ a. nat_lt f a) p.first_after_request false) o false) one
          ∙ ap (λ o. option_map_or (λ a. nat_lt first a) o false) two

      not-less : nat_lt first again ≡ false → nat_le again first ≡ true
      not-less h = grind (arith, nat_tests, h)

pub covered : (t : StunTiming) (b : Bound) (p : PairRecord) → (b.asked ≡ true → is_asked_first p ≡ true) → early_span t p ≤ span_of t b
covered t b p h = by b.asked (is_asked_first p) h where
  by : (b a : Bool) → (b ≡ true → a ≡ true) → (if a then min ASKED_TIME (early_time t) else early_time t) ≤ (if b then min ASKED_TIME (early_time t) else early_time t)
  by true true h = omega arith
  by true false h = no-case (h refl)
  by false true h = omega arith
  by false false h = omega arith

-- a pair whose first check followed a request
pub covers-brought : (n : ℕ) (p : PairRecord) → (p.requests ≡ 0 → p.first_after_request ≡ None) → is_asked_first p ≡ true → Covers (brought n) p
covers-brought n p unasked first asked = (some p.requests refl, early p.first_sent p.first_after_request first) where
  none : p.requests ≡ 0 → is_asked_first p ≡ false
  none zero_is = by p.first_sent p.first_after_request (unasked zero_is) where
    by : (f a : Option ℕ) → a ≡ None → option_map_or (λ first. option_map_or (λ again. nat_le again first) a false) f false ≡ false
    by None a is = refl
    by (Some first) a is = ap (λ o. option_map_or (λ again. nat_le again first) o false) is

  some : (k : ℕ) → p.requests ≡ k → 0 < k
  some zero is = no-case (sym (none is) ∙ first)
  some (suc k) is = omega arith

  early : (f a : Option ℕ) → option_map_or (λ first. option_map_or (λ again. nat_le again first) a false) f false ≡ true
      → option_map_or (λ first. option_map_or (λ again. nat_lt first again) a false) f false ≡ false
  early None a is = refl
  early (Some first) None is = refl
  early (Some first) (Some again) is = grind (arith, nat_tests, is)

-- ---- checks

-- what a check leaves of both times
abbrev once_sent : ℕ → ℕ → Option ℕ → Option ℕ
once_sent now requests again = if requests == 0 then None else Some (unwrap_or again now)

-- so a pair that is covered after a check was covered before
pub covered-before : (b : Bound) (now : ℕ) (p sent : PairRecord) → sent.requests ≡ p.requests → sent.first_sent ≡ Some (unwrap_or p.first_sent now)
    → sent.first_after_request ≡ once_sent now p.requests p.first_after_request → Covers b sent → Covers b p
covered-before b now p sent requests first again covers asked = (some, early p.first_sent p.first_after_request refl refl) where
  some : 0 < p.requests
  some = let more = (covers asked).0 in omega (arith, more, requests)

  again-is : (a : ℕ) → p.first_after_request ≡ Some a → sent.first_after_request ≡ Some a
  again-is a is = again ∙ (ap (λ b. if b then None else Some (unwrap_or p.first_after_request now)) (more p.requests some) ∙ ap (λ o. Some (unwrap_or o now)) is) where
    more : (n : ℕ) → 0 < n → (n == 0) ≡ false
    more n h = grind (arith, nat_tests, h)

  early : (f a : Option ℕ) → p.first_sent ≡ f → p.first_after_request ≡ a → option_map_or (λ first. option_map_or (λ again. nat_lt first again) a false) f false ≡ false
  early None a one two = refl
  early (Some f) None one two = refl
  early (Some f) (Some a) one two =
      sym (ap (λ o. option_map_or (λ first. option_map_or (λ again. nat_lt first again) sent.first_after_request false) o false) (first ∙ ap (λ o. Some (unwrap_or o now)) one)
      ∙ ap (λ o. option_map_or (λ again. nat_lt f again) o false) (again-is a two)) ∙ (covers asked).1
