-- A patient caller: at most as many checks are sent in a span of time as pacing intervals begin in it.
use Rattle.is_rules.specs.TimeoutTimes.{soonest}
use Rattle.is_theorems.proofs.Common.{[], ◌&&◌, ◌*◌, ◌+◌, ◌<◌, ◌∙◌, ◌∷◌, ◌≡◌, ◌≤◌, ◌⊎◌, add-mul, AgentRecord, Answer, ap, arith, BeforeEach}
use Rattle.is_theorems.proofs.Common.{begun_in, Bool, Call, CandidateRecord, check_count, checks_in_span, ChecksArePaced, cond, Entry}
use Rattle.is_theorems.proofs.Common.{false, HandleTimeout, HasCalled, inl, inr, is_before, is_idle, is_in_span, is_timeout, IsNewlyCreated}
use Rattle.is_theorems.proofs.Common.{IsPacedAt, IsPatient, later, le-div_iff_mul-le, lets_call, List, Logged, MAX, MayCallAt, min, nat_le}
use Rattle.is_theorems.proofs.Common.{nat_lt, nat_tests, NextTimeoutFrom, None, one-mul, Option, option_map_or, paced, paced-from}
use Rattle.is_theorems.proofs.Common.{pacing_of, PollTimeout, refl, SECOND, sends_check, SharedRun, Some, soon, Step, Stream, subst}
use Rattle.is_theorems.proofs.Common.{sum_by-cons, sym, timeout_count, TimeoutsCheck, true, zero-add, zero-mul, ℕ}
use Rattle.is_theorems.proofs.CheckCounts.IssuedChecks.{others-send-none, timeout-timed, IsTimedAt}
use Rattle.is_theorems.proofs.CheckCounts.LastTimes.{last-stays}

no-case : {X : Type 0} → false ≡ true → X
no-case h = absurd (cc)

pub none-some : {X : Type 0} (t : ℕ) → None ≡ Some t → X
none-some t h = absurd (cc)

pub some-is : (n m : ℕ) → Some n ≡ Some m → n ≡ m
some-is n m h = cc

-- ---- tests

pub polls : {P : Type 0} (now : ℕ) (call : Call P) (answer : Answer) → lets_call now call answer ≡ true → call ≡ PollTimeout
polls now PollTimeout answer h = refl
polls now call answer h = no-case h

pub befores : {P : Type 0} (gap now : ℕ) (call : Call P) → is_before gap now call ≡ true → (at : ℕ) × (call ≡ HandleTimeout at) × (at + gap ≤ now)
befores gap now (HandleTimeout at) h = (at, refl, grind (arith, nat_tests, h))
befores gap now call h = no-case h

-- the time that is returned has come
comes : (now : ℕ) (deadline : Option ℕ) → option_map_or (λ at. nat_le at now) deadline true ≡ true → (at : ℕ) → deadline ≡ Some at → at ≤ now
comes now deadline h at is =
    let le : nat_le at now ≡ true = ap (λ o. option_map_or (λ at. nat_le at now) o true) (sym is) ∙ h in
    grind (arith, nat_tests, le)

both : (a b : Bool) → (a && b) ≡ true → (a ≡ true) × (b ≡ true)
both true true h = (refl, refl)
both true false h = no-case h
both false b h = no-case h

pub within : (from now end : ℕ) → (nat_le from now && nat_lt now end) ≡ true → (from ≤ now) × (now < end)
within from now end h = let k = both (nat_le from now) (nat_lt now end) h in let le = k.0 in let lt = k.1 in (grind (arith, nat_tests, le), grind (arith, nat_tests, lt))

pub spans-none : {P : Type 0} (from long : ℕ) (call : Call P) → is_timeout call ≡ false → is_in_span from long call ≡ false
spans-none from long (HandleTimeout now) h = no-case (sym h)
spans-none from long call h = refl

-- ---- times

at-most : (from long pace n : ℕ) → 0 < pace → n * pace < long + pace → n ≤ begun_in long pace
at-most from long pace n some lt = (le-div_iff_mul-le some).1 (omega (arith, some, lt))

more : (n pace : ℕ) → (1 + n) * pace ≡ pace + n * pace
more n pace = add-mul 1 n pace ∙ ap (λ k. k + n * pace) (one-mul pace)

module _ {H P : Type 0} where
  soonest-least : (pace last : ℕ) (a : AgentRecord H P) → pace ≤ min (3 * SECOND) (pacing_of last a) → later last pace ≤ soonest a last
  soonest-least pace last a slow = by (is_idle a) where
    by : (b : Bool) → later last pace ≤ cond b (min (soon a last) (later last (3 * SECOND))) (soon a last)
    by true = omega (arith, slow)
    by false = omega (arith, slow)

  module _ (mac : H → List ℕ → List ℕ → List ℕ) (answers : P → CandidateRecord → ℕ → ℕ → Type 0) where
    -- ---- any caller

    checks-once : (x : Logged P) (old new : AgentRecord H P) (s t : Stream) → Step mac answers old s x.call x.entry new t → cond (sends_check x.entry) 1 0 ≤ cond (is_timeout x.call) 1 0
    checks-once x old new s t step = by (is_timeout x.call) refl where
      any : (b : Bool) → cond b 1 0 ≤ 1
      any true = omega arith
      any false = omega arith

      by : (b : Bool) → is_timeout x.call ≡ b → cond (sends_check x.entry) 1 0 ≤ cond b 1 0
      by true is = any (sends_check x.entry)
      by false is = let none : cond {A = ℕ} (sends_check x.entry) 1 0 ≡ 0 = ap (λ b. cond {A = ℕ} b 1 0) (others-send-none mac answers x.call old new s t x.entry is step) in omega (arith, none)

    pub timeouts-check : TimeoutsCheck {H = H} mac answers
    timeouts-check first last [] run = omega arith
    timeouts-check first last (x ∷ before) (mid, s, t, run, based, step) =
        let one = checks-once x mid last s t step in
        let so_far : check_count before ≤ timeout_count before = timeouts-check first mid before run in
        let checks = sum_by-cons (λ (y : Logged P). cond (sends_check y.entry) 1 0) x before in
        let calls = sum_by-cons (λ (y : Logged P). cond (is_timeout y.call) 1 0) x before in
        omega (arith, one, so_far, checks, calls)

    -- ---- a patient caller

    -- the time of the last call is that of a call of the log
    pub has_called : (from : ℕ) (first last : AgentRecord H P) (log : List (Logged P)) → IsNewlyCreated first → SharedRun mac answers first log last
        → (at : ℕ) → last.last_time ≡ Some at → from ≤ at → HasCalled from log
    has_called from first last [] (creds, tie, role, is) run at last_is le =
        none-some at (sym (ap (λ (a : AgentRecord H P). a.last_time) (run ∙ is)) ∙ last_is)
    has_called from first last (x ∷ before) new (mid, s, t, run, based, step) at last_is le =
        by x.call refl (λ same. has_called from first mid before new run at (sym same ∙ last_is) le) where
          by : (call : Call P) → x.call ≡ call → (last.last_time ≡ mid.last_time → HasCalled from before) → HasCalled from (x ∷ before)
          by (HandleTimeout now) is so_far =
              elim (timeout-timed mac answers now mid last s t x.entry (subst (λ (c : Call P). Step mac answers mid s c x.entry last t) is step)) [
                | inl now_is ↦ let same : now ≡ at = some-is now at (sym now_is ∙ last_is) in inl (now, is, omega (arith, same, le))
                | inr stays ↦ inr (so_far stays.1)
              ]
          by call is so_far = inr (so_far (last-stays mac answers x.call mid last s t x.entry (ap (λ (c : Call P). is_timeout c) is) step))

    module _ (from long pace : ℕ) (ends : from + long ≤ MAX) where
      -- up to the end of the span the next call comes an interval after the last one
      abbrev Waits : AgentRecord H P → ℕ → Type 0
      Waits a now = (at : ℕ) → a.last_time ≡ Some at → from ≤ at → later at pace ≤ now

      pub polled : (old new : AgentRecord H P) (s t : Stream) (e : Entry) (now : ℕ) → Step mac answers old s PollTimeout e new t → lets_call {P = P} now PollTimeout e.answer ≡ true
          → (at gap : ℕ) → old.last_time ≡ Some at → gap ≤ min (3 * SECOND) (pacing_of at old) → later at gap ≤ now
      polled old new s t e now (None, is, h, drawn) lets at gap last slow = absurd (subst (λ o. NextTimeoutFrom o old None new) last h)
      polled old new s t e now (Some deadline, is, h, drawn) lets at gap last slow =
          let comes_by = comes now (Some deadline) (search (ap (λ (x : Entry). lets_call {P = P} now PollTimeout x.answer) (sym is) ∙ lets)) deadline refl in
          let least = paced old new at deadline (paced-from old new at (Some deadline) last h) in
          let soon = soonest-least gap at old slow in
          omega (arith, comes_by, least, soon)

      -- `poll_timeout` returns no time before that of the last call, so after the span no time in it
      polled_in : (old new : AgentRecord H P) (s t : Stream) (x : Logged P) (now : ℕ) → now < from + long → x.call ≡ PollTimeout → Step mac answers old s PollTimeout x.entry new t
          → lets_call {P = P} now PollTimeout x.entry.answer ≡ true → (at : ℕ) → old.last_time ≡ Some at → from ≤ at → IsPacedAt from long pace old x → later at pace ≤ now
      polled_in old new s t x now inside call_is step lets at last le slow = by (nat_lt at (from + long)) refl where
        by : (b : Bool) → nat_lt at (from + long) ≡ b → later at pace ≤ now
        by true lt = let paced_is = slow call_is at last le (grind (arith, nat_tests, lt)) in polled old new s t x.entry now step lets at pace last (omega (arith, paced_is))
        by false ge =
            let past : from + long ≤ at = grind (arith, nat_tests, ge) in
            let no_sooner : later at 0 ≤ now = polled old new s t x.entry now step lets at 0 last (omega arith) in
            omega (arith, past, no_sooner, inside, ends)

      -- so does the call before, since it was patient, too
      past : (old new : AgentRecord H P) (e : Entry) (now at : ℕ) → IsTimedAt mac answers now e old new → Waits old now → new.last_time ≡ Some at → from ≤ at → min at MAX ≤ now
      past old new e now at (inl last) wait last_is le = let same : now ≡ at = some-is now at (sym last ∙ last_is) in omega (arith, same)
      past old new e now at (inr (none, stays)) wait last_is le = let later_is = wait at (sym stays ∙ last_is) le in omega (arith, later_is)

      waits : (first last : AgentRecord H P) (log : List (Logged P)) → IsNewlyCreated first → (run : SharedRun mac answers first log last)
          → IsPatient from long pace log → BeforeEach mac answers (IsPacedAt from long pace) first log last run → (now : ℕ) → now < from + long → MayCallAt pace now log → Waits last now
      waits first last [] (creds, tie, role, is) run patient slow now inside may at last_is le =
          none-some at (sym (ap (λ (a : AgentRecord H P). a.last_time) (run ∙ is)) ∙ last_is)
      waits first last (x ∷ before) new (mid, s, t, run, based, step) (patient, rest) (here, earlier) now inside (inl lets) at last_is le =
          let call_is : x.call ≡ PollTimeout = polls now x.call x.entry.answer lets in
          let asking = subst (λ (c : Call P). Step mac answers mid s c x.entry last t) call_is step in
          let was : mid.last_time ≡ Some at = sym (last-stays mac answers PollTimeout mid last s t x.entry refl asking) ∙ last_is in
          polled_in mid last s t x now inside call_is asking (subst (λ (c : Call P). lets_call now c x.entry.answer ≡ true) call_is lets) at was le here
      waits first last (x ∷ before) new (mid, s, t, run, based, step) (patient, rest) (here, earlier) now inside (inr (inl passed)) at last_is le =
          let b = befores pace now x.call passed in
          let gone = b.2 in
          let sooner : b.0 < from + long = omega (arith, gone, inside) in
          let reached = past mid last x.entry b.0 at (timeout-timed mac answers b.0 mid last s t x.entry (subst (λ (c : Call P). Step mac answers mid s c x.entry last t) b.1 step))
          (λ was was_is since. waits first mid before new run rest earlier b.0 sooner (patient b.0 b.1 sooner (has_called from first mid before new run was was_is since)) was was_is since)
          last_is le in
          omega (arith, reached, gone)
      waits first last (x ∷ before) new (mid, s, t, run, based, step) (patient, rest) (here, earlier) now inside (inr (inr (other, may))) at last_is le =
          waits first mid before new run rest earlier now inside may at (sym (last-stays mac answers x.call mid last s t x.entry (search other) step) ∙ last_is) le

      -- so many checks were sent in the span, and the last one an interval after each other one
      record Counted (a : AgentRecord H P) (n : ℕ) : Type 0 where
        sent : ℕ
        at : ℕ
        last : a.last_time ≡ Some at
        begins : from ≤ sent
        inside : sent < from + long
        before : sent ≤ at
        apart : n * pace + from ≤ sent + pace

      abbrev Holds : AgentRecord H P → ℕ → Type 0
      Holds a n = (n ≡ 0) ⊎ Counted a n

      carried : (old new : AgentRecord H P) (n : ℕ) → new.last_time ≡ old.last_time → Holds old n → Holds new n
      carried old new n same (inl none) = inl none
      carried old new n same (inr c) = inr (record { sent = c.sent; at = c.at; last = same ∙ c.last; begins = c.begins; inside = c.inside; before = c.before; apart = c.apart })

      -- a call at this time, and whether it sends a check in the span
      called : (old new : AgentRecord H P) (n now : ℕ) (b : Bool) → new.last_time ≡ Some now → (b ≡ true → (from ≤ now) × (now < from + long))
          → (now < from + long → Waits old now) → Holds old n → Holds new (cond b 1 0 + n)
      called old new n now true last inside wait (inl none) =
          let k = inside refl in let le = k.0 in
          let one = more n pace in
          let zero_is : n * pace ≡ 0 = ap (λ i. i * pace) none ∙ zero-mul pace in
          inr (record { sent = now; at = now; last = last; begins = k.0; inside = k.1; before = omega arith; apart = omega (arith, one, zero_is, le) })
      called old new n now false last inside wait (inl none) = inl (omega (arith, none))
      called old new n now true last inside wait (inr c) =
          let k = inside refl in let low = k.0 in let high = k.1 in
          let begins = c.begins in let before = c.before in let apart = c.apart in
          let later_is = wait high c.at c.last (omega (arith, begins, before)) in
          let one = more n pace in
          inr (record { sent = now; at = now; last = last; begins = k.0; inside = k.1; before = omega arith; apart = omega (arith, one, later_is, high, ends, before, apart) })
      called old new n now false last inside wait (inr c) =
          let apart = c.apart in let same = zero-add n in
          inr (record { sent = c.sent; at = now; last = last; begins = c.begins; inside = c.inside; before = follows (nat_lt now (from + long)) refl; apart = subst (λ k. k * pace + from ≤ c.sent + pace) (sym same) apart }) where
            follows : (b : Bool) → nat_lt now (from + long) ≡ b → c.sent ≤ now
            follows true lt =
                let begins = c.begins in let before = c.before in let sent_in = c.inside in
                let high : now < from + long = grind (arith, nat_tests, lt) in
                let later_is = wait high c.at c.last (omega (arith, begins, before)) in
                omega (arith, later_is, ends, before, sent_in)
            follows false ge = let sent_in = c.inside in let past : from + long ≤ now = grind (arith, nat_tests, ge) in omega (arith, sent_in, past)

      timed : (old new : AgentRecord H P) (x : Logged P) (n now : ℕ) → x.call ≡ HandleTimeout now → IsTimedAt mac answers now x.entry old new
          → (now < from + long → Waits old now) → Holds old n → Holds new (cond (is_in_span from long x.call && sends_check x.entry) 1 0 + n)
      timed old new x n now is (inl last) wait h =
          called old new n now (is_in_span from long x.call && sends_check x.entry) last
          (λ sends. (let k = both (is_in_span from long x.call) (sends_check x.entry) sends in within from now (from + long) (search (ap (λ (c : Call P). is_in_span from long c) (sym is) ∙ k.0)))) wait h
      timed old new x n now is (inr (none, same)) wait h =
          subst (λ b. Holds new (cond {A = ℕ} b 1 0 + n)) (sym (quiet (is_in_span from long x.call) (sends_check x.entry) none)) (subst (λ k. Holds new k) (sym (zero-add n)) (carried old new n same h)) where
            quiet : (a b : Bool) → b ≡ false → (a && b) ≡ false
            quiet true b none = none
            quiet false b none = refl

      other : (old new : AgentRecord H P) (x : Logged P) (n : ℕ) (s t : Stream) → is_timeout x.call ≡ false → Step mac answers old s x.call x.entry new t → Holds old n
          → Holds new (cond (is_in_span from long x.call && sends_check x.entry) 1 0 + n)
      other old new x n s t is step h =
          subst (λ b. Holds new (cond {A = ℕ} b 1 0 + n)) (sym (ap (λ b. b && sends_check x.entry) (spans-none from long x.call is)))
          (subst (λ k. Holds new k) (sym (zero-add n)) (carried old new n (last-stays mac answers x.call old new s t x.entry is step) h))

      counts : (first last : AgentRecord H P) (log : List (Logged P)) → IsNewlyCreated first → (run : SharedRun mac answers first log last)
          → IsPatient from long pace log → BeforeEach mac answers (IsPacedAt from long pace) first log last run → Holds last (checks_in_span from long log)
      counts first last [] new run patient slow = inl refl
      counts first last (x ∷ before) new (mid, s, t, run, based, step) (patient, earlier) (here, slow) =
          subst (λ n. Holds last n) (sym (sum_by-cons (λ (y : Logged P). cond (is_in_span from long y.call && sends_check y.entry) 1 0) x before))
          (by x.call refl (counts first mid before new run earlier slow)) where
            by : (call : Call P) → x.call ≡ call → Holds mid (checks_in_span from long before)
                → Holds last (cond (is_in_span from long x.call && sends_check x.entry) 1 0 + checks_in_span from long before)
            by (HandleTimeout now) is so_far = timed mid last x (checks_in_span from long before) now is
                (timeout-timed mac answers now mid last s t x.entry (subst (λ (c : Call P). Step mac answers mid s c x.entry last t) is step))
                (λ inside at last_is le. waits first mid before new run earlier slow now inside (patient now is inside (has_called from first mid before new run at last_is le)) at last_is le)
                so_far
            by call is so_far = other mid last x (checks_in_span from long before) s t (ap (λ (c : Call P). is_timeout c) is) step so_far

      few : (n : ℕ) (a : AgentRecord H P) → 0 < pace → Holds a n → n ≤ begun_in long pace
      few n a some (inl none) = omega (arith, none)
      few n a some (inr c) = let apart = c.apart in let inside = c.inside in at-most from long pace n some (omega (arith, apart, inside))

    pub checks-are-paced : ChecksArePaced {H = H} mac answers
    checks-are-paced first last log from long pace new run patient slow some ends =
        let stays : from + long ≤ MAX = omega (arith, ends) in
        few from long pace stays (checks_in_span from long log) last some (counts from long pace stays first last log new run patient slow)
