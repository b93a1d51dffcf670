-- A frugal caller: at most 49 checks are sent in a second. Each one adds 25 ms to the charges, which the first one leaves at least 25 ms after
-- it. After each call they are at most 250 ms ahead of it, or all calls since that first one came 25 ms apart.
use Rattle.is_theorems.proofs.Common.{[], ◌&&◌, ◌*◌, ◌+◌, ◌<◌, ◌∙◌, ◌∷◌, ◌≡◌, ◌≤◌, ◌⊎◌, AgentRecord, ap, arith, BeforeEach, Bool, Call}
use Rattle.is_theorems.proofs.Common.{CandidateRecord, CHARGE, charged_after, checks_in_span, cond, Entry, false, HandleTimeout, has_credit}
use Rattle.is_theorems.proofs.Common.{if◌then◌else◌, inl, inr, is_early, is_in_span, is_timeout, IsFrugal, IsNewlyCreated, IsSlowAt, later}
use Rattle.is_theorems.proofs.Common.{lets_call, List, Logged, MAX, max, MayCallAt, MILLISECOND, nat_le, nat_lt, nat_tests, pacing_of}
use Rattle.is_theorems.proofs.Common.{PollTimeout, refl, SECOND, sends_check, SharedRun, Some, Step, Stream, subst, sum_by-cons, sym, true}
use Rattle.is_theorems.proofs.Common.{zero-add, ℕ}
use Rattle.is_theorems.proofs.CheckCounts.IssuedChecks.{timeout-charged, timeout-timed}
use Rattle.is_theorems.proofs.CheckCounts.LastTimes.{charges-stay, last-stays}
use Rattle.is_theorems.proofs.CheckCounts.PacedChecks.{befores, has_called, none-some, polled, polls, some-is, spans-none, within}

-- how far ahead of a call the charges are before it, if there is credit, and after it
abbrev CREDITED : ℕ
CREDITED = 225 * MILLISECOND

abbrev AHEAD : ℕ
AHEAD = CREDITED + CHARGE

-- the charges after a call at this time, by whether it sends a check
abbrev charges_after : (sends : Bool) (now charged : ℕ) → ℕ
charges_after sends now charged = if sends then later (max now charged) CHARGE else charged

module _ {H P : Type 0} where
  -- the pacing interval is at least 25 ms, or the charges are not far ahead
  pacing-charged : (last : ℕ) (a : AgentRecord H P) → CHARGE ≤ a.timing_advance → (CHARGE ≤ pacing_of last a) ⊎ (a.charged_until ≤ later last CREDITED)
  pacing-charged last a slow = by (is_early last a) (has_credit last a) refl refl where
    by : (early credit : Bool) → is_early last a ≡ early → has_credit last a ≡ credit → (CHARGE ≤ pacing_of last a) ⊎ (a.charged_until ≤ later last CREDITED)
    by true true early credit = inr (grind (arith, nat_tests, early, credit))
    by true false early credit = inl (grind (arith, slow, early, credit))
    by false some early credit = inl (grind (arith, slow, early))

module _ (from : ℕ) (ends : from + 2 * SECOND ≤ MAX) where
  -- A call may come then: the one before is long enough ago, or the charges are not too far ahead of it.
  abbrev Comes : ℕ → ℕ → ℕ → Type 0
  Comes at now charged = (later at CHARGE ≤ now) ⊎ ((from ≤ now) × (charged ≤ now + CREDITED))

  comes-later : (at sooner now charged : ℕ) → sooner ≤ now → Comes at sooner charged → Comes at now charged
  comes-later at sooner now charged le (inl gone) = inl (omega (arith, le, gone))
  comes-later at sooner now charged le (inr (after, ahead)) = inr (omega (arith, le, after), omega (arith, le, ahead))

  -- so many checks were sent in the second
  record Counted (at charged n : ℕ) : Type 0 where
    first : ℕ
    begins : from ≤ first
    adds : n * CHARGE + first ≤ charged
    few : n * CHARGE + first < from + SECOND + AHEAD
    since : from ≤ at
    ahead : (charged ≤ at + AHEAD) ⊎ ((n * CHARGE + first ≤ at + CHARGE) ⊎ (from + SECOND ≤ at))

  -- the first check of the second
  begun : (now charged : ℕ) → from ≤ now → now < from + SECOND → Counted now (charges_after true now charged) 1
  begun now charged after before = record {
    first = now;
    begins = after;
    adds = omega (arith, before, ends);
    few = omega (arith, before);
    since = after;
    ahead = inr (inl (omega arith));
  }

  -- a call after the second
  past : (sends : Bool) (last now charged n : ℕ) → from + SECOND ≤ now → Counted last charged n → Counted now (charges_after sends now charged) n
  past sends last now charged n over c = let adds = c.adds in let few = c.few in record {
    first = c.first;
    begins = c.begins;
    adds = by sends adds few;
    few = c.few;
    since = omega (arith, over);
    ahead = inr (inr over);
  } where
    by : (sends : Bool) → n * CHARGE + c.first ≤ charged → n * CHARGE + c.first < from + SECOND + AHEAD → n * CHARGE + c.first ≤ charges_after sends now charged
    by true adds few = omega (arith, adds, few, ends)
    by false adds few = adds

  -- a call in the second that the charges let come
  credited : (sends : Bool) (last now charged n : ℕ) → from ≤ now → now < from + SECOND → charged ≤ now + CREDITED → Counted last charged n
      → Counted now (charges_after sends now charged) (cond sends 1 0 + n)
  credited true last now charged n after before ahead c = let begins = c.begins in let adds = c.adds in record {
    first = c.first;
    begins = begins;
    adds = omega (arith, adds, ahead, before, ends);
    few = omega (arith, adds, ahead, before);
    since = after;
    ahead = inl (omega (arith, ahead));
  }
  credited false last now charged n after before ahead c = let begins = c.begins in let adds = c.adds in let few = c.few in record {
    first = c.first;
    begins = begins;
    adds = omega (arith, adds);
    few = omega (arith, few);
    since = after;
    ahead = inl (omega (arith, ahead));
  }

  -- a call in the second that comes 25 ms after the one before
  waited : (sends : Bool) (last now charged n : ℕ) → later last CHARGE ≤ now → now < from + SECOND → Counted last charged n → Counted now (charges_after sends now charged) (cond sends 1 0 + n)
  waited sends last now charged n gone before c = by c.ahead where
    from_last : from ≤ last
    from_last = c.since

    slowly : (sends : Bool) → n * CHARGE + c.first ≤ last + CHARGE → Counted now (charges_after sends now charged) (cond sends 1 0 + n)
    slowly true apart = let begins = c.begins in let adds = c.adds in record {
      first = c.first;
      begins = begins;
      adds = omega (arith, adds, apart, gone, before, ends);
      few = omega (arith, apart, gone, before, ends);
      since = omega (arith, from_last, gone, before, ends);
      ahead = inr (inl (omega (arith, apart, gone, before, ends)));
    }
    slowly false apart = let begins = c.begins in let adds = c.adds in let few = c.few in record {
      first = c.first;
      begins = begins;
      adds = omega (arith, adds);
      few = omega (arith, few);
      since = omega (arith, from_last, gone, before, ends);
      ahead = inr (inl (omega (arith, apart, gone, before, ends)));
    }

    by : (charged ≤ last + AHEAD) ⊎ ((n * CHARGE + c.first ≤ last + CHARGE) ⊎ (from + SECOND ≤ last)) → Counted now (charges_after sends now charged) (cond sends 1 0 + n)
    by (inl ahead) = credited sends last now charged n (omega (arith, from_last, gone, before, ends)) before (omega (arith, ahead, gone, before, ends)) c
    by (inr (inl apart)) = slowly sends apart
    by (inr (inr over)) = absurd (let no : ⊥ = omega (arith, over, gone, before, ends) in no)

  goes-on : (sends : Bool) (last now charged n : ℕ) → Comes last now charged → now < from + SECOND → Counted last charged n → Counted now (charges_after sends now charged) (cond sends 1 0 + n)
  goes-on sends last now charged n (inl gone) before c = waited sends last now charged n gone before c
  goes-on sends last now charged n (inr (after, ahead)) before c = credited sends last now charged n after before ahead c

  module _ {H P : Type 0} (mac : H → List ℕ → List ℕ → List ℕ) (answers : P → CandidateRecord → ℕ → ℕ → Type 0) where
    -- ---- a call comes as a frugal caller lets it

    ends-soon : from + SECOND ≤ MAX
    ends-soon = omega (arith, ends)

    abbrev Waits : AgentRecord H P → ℕ → Type 0
    Waits a now = (at : ℕ) → a.last_time ≡ Some at → from ≤ at → Comes at now a.charged_until

    let-by-poll : (old new : AgentRecord H P) (s t : Stream) (x : Logged P) (now : ℕ) → now < from + SECOND → x.call ≡ PollTimeout → Step mac answers old s PollTimeout x.entry new t
        → lets_call {P = P} now PollTimeout x.entry.answer ≡ true → (at : ℕ) → old.last_time ≡ Some at → from ≤ at → IsSlowAt from old x → Comes at now old.charged_until
    let-by-poll old new s t x now before call_is step lets at last le slow = by (nat_lt at (from + SECOND)) refl where
      no_sooner : later at 0 ≤ now
      no_sooner = polled mac answers from SECOND CHARGE ends-soon old new s t x.entry now step lets at 0 last (omega arith)

      by : (b : Bool) → nat_lt at (from + SECOND) ≡ b → Comes at now old.charged_until
      by true lt = let slowly = slow call_is at last le (grind (arith, nat_tests, lt)) in elim (pacing-charged at old (omega (arith, slowly))) [
        | inl paced ↦ inl (polled mac answers from SECOND CHARGE ends-soon old new s t x.entry now step lets at CHARGE last (omega (arith, paced)))
        | inr ahead ↦ inr (omega (arith, le, no_sooner, before, ends), omega (arith, ahead, no_sooner, before, ends))
      ]
      by false ge = let past : from + SECOND ≤ at = grind (arith, nat_tests, ge) in absurd (let no : ⊥ = omega (arith, past, no_sooner, before, ends) in no)

    -- after a call the next one comes 25 ms later
    let-by-call : (old new : AgentRecord H P) (s t : Stream) (e : Entry) (sooner now : ℕ) → sooner + CHARGE ≤ now → Step mac answers old s (HandleTimeout sooner) e new t → Waits old sooner → Waits new now
    let-by-call old new s t e sooner now gone step wait at last_is le = elim (timeout-timed mac answers sooner old new s t e step) [
      | inl last ↦ let same : sooner ≡ at = some-is sooner at (sym last ∙ last_is) in inl (omega (arith, same, gone))
      | inr stays ↦
          let charges : new.charged_until ≡ old.charged_until =
          timeout-charged mac answers sooner old new s t e step ∙ ap (λ b. if b then charged_after sooner old else old.charged_until) stays.0 in
          subst (λ c. Comes at now c) (sym charges) (comes-later at sooner now old.charged_until (omega (arith, gone)) (wait at (sym stays.1 ∙ last_is) le))
    ]

    waits : (first last : AgentRecord H P) (log : List (Logged P)) → IsNewlyCreated first → (run : SharedRun mac answers first log last)
        → IsFrugal mac answers from first log last run → BeforeEach mac answers (IsSlowAt from) first log last run → (now : ℕ) → now < from + SECOND → MayCallAt CHARGE now log → Waits last now
    waits first last [] (creds, tie, role, is) run frugal slow now before may at last_is le =
        none-some at (sym (ap (λ (a : AgentRecord H P). a.last_time) (run ∙ is)) ∙ last_is)
    waits first last (x ∷ log) new (mid, s, t, run, based, step) (frugal, rest) (here, earlier) now before (inl lets) at last_is le =
        let call_is : x.call ≡ PollTimeout = polls now x.call x.entry.answer lets in
        let asking = subst (λ (c : Call P). Step mac answers mid s c x.entry last t) call_is step in
        let was : mid.last_time ≡ Some at = sym (last-stays mac answers PollTimeout mid last s t x.entry refl asking) ∙ last_is in
        subst (λ c. Comes at now c) (sym (charges-stay mac answers PollTimeout mid last s t x.entry refl asking))
        (let-by-poll mid last s t x now before call_is asking (subst (λ (c : Call P). lets_call now c x.entry.answer ≡ true) call_is lets) at was le here)
    waits first last (x ∷ log) new (mid, s, t, run, based, step) (frugal, rest) (here, earlier) now before (inr (inl passed)) at last_is le =
        let b = befores CHARGE now x.call passed in
        let gone = b.2 in
        let sooner : b.0 < from + SECOND = omega (arith, gone, before) in
        let-by-call mid last s t x.entry b.0 now b.2 (subst (λ (c : Call P). Step mac answers mid s c x.entry last t) b.1 step)
        (λ was was_is since. elim (frugal b.0 b.1 sooner (has_called mac answers from first mid log new run was was_is since)) [
          | inl may ↦ waits first mid log new run rest earlier b.0 sooner (search may) was was_is since
          | inr credit ↦ elim (credit was was_is since) [
            | inl gone ↦ inl (omega (arith, gone))
            | inr within_ ↦ let after = within_.0 in let ahead = within_.1 in inr (omega (arith, after), omega (arith, ahead))
          ]
        ]) at last_is le
    waits first last (x ∷ log) new (mid, s, t, run, based, step) (frugal, rest) (here, earlier) now before (inr (inr (other, may))) at last_is le =
        subst (λ c. Comes at now c) (sym (charges-stay mac answers x.call mid last s t x.entry (search other) step))
        (waits first mid log new run rest earlier now before may at (sym (last-stays mac answers x.call mid last s t x.entry (search other) step) ∙ last_is) le)

    -- ---- checks are counted

    record Charged (a : AgentRecord H P) (n : ℕ) : Type 0 where
      at : ℕ
      last : a.last_time ≡ Some at
      counted : Counted at a.charged_until n

    abbrev Holds : AgentRecord H P → ℕ → Type 0
    Holds a n = (n ≡ 0) ⊎ Charged a n

    carried : (old new : AgentRecord H P) (n : ℕ) → new.last_time ≡ old.last_time → new.charged_until ≡ old.charged_until → Holds old n → Holds new (0 + n)
    carried old new n last charges h = subst (λ k. Holds new k) (sym (zero-add n)) (by h) where
      by : Holds old n → Holds new n
      by (inl none) = inl none
      by (inr c) = inr (record { at = c.at; last = last ∙ c.last; counted = subst (λ k. Counted c.at k n) (sym charges) c.counted })

    -- a call at this time, and whether it is in the second, and sends a check
    called : (old new : AgentRecord H P) (n now : ℕ) (inside sends : Bool) → new.last_time ≡ Some now → new.charged_until ≡ charges_after sends now old.charged_until
        → (nat_le from now && nat_lt now (from + SECOND)) ≡ inside → (now < from + SECOND → Waits old now) → Holds old n → Holds new (cond (inside && sends) 1 0 + n)
    called old new n now inside sends last charges is wait (inl none) = by inside sends is charges where
      by : (inside sends : Bool) → (nat_le from now && nat_lt now (from + SECOND)) ≡ inside → new.charged_until ≡ charges_after sends now old.charged_until
          → Holds new (cond (inside && sends) 1 0 + n)
      by true true is charges =
          let k = within from now (from + SECOND) is in
          inr (record { at = now; last = last; counted = subst (λ m. Counted now new.charged_until (1 + m)) (sym none) (subst (λ c. Counted now c 1) (sym charges) (begun now old.charged_until k.0 k.1)) })
      by true false is charges = inl (omega (arith, none))
      by false sends is charges = inl (omega (arith, none))
    called old new n now inside sends last charges is wait (inr c) =
        inr (record { at = now; last = last; counted = subst (λ k. Counted now k (cond (inside && sends) 1 0 + n)) (sym charges) (by inside (nat_lt now (from + SECOND)) is refl) }) where
          by : (inside before : Bool) → (nat_le from now && nat_lt now (from + SECOND)) ≡ inside → nat_lt now (from + SECOND) ≡ before
              → Counted now (charges_after sends now old.charged_until) (cond (inside && sends) 1 0 + n)
          by true before is lt =
              goes-on sends c.at now old.charged_until n (wait (within from now (from + SECOND) is).1 c.at c.last c.counted.since) (within from now (from + SECOND) is).1 c.counted
          by false true is lt = absurd (
              let early : now < from + SECOND = grind (arith, nat_tests, lt) in
              let on = goes-on sends c.at now old.charged_until n (wait early c.at c.last c.counted.since) early c.counted in
              let since = on.since in
              let no : ⊥ = grind (arith, nat_tests, is, early, since) in no)
          by false false is lt =
              let over : from + SECOND ≤ now = grind (arith, nat_tests, lt) in
              subst (λ k. Counted now (charges_after sends now old.charged_until) k) (sym (zero-add n)) (past sends c.at now old.charged_until n over c.counted)

    timed : (old new : AgentRecord H P) (e : Entry) (s t : Stream) (n now : ℕ) → Step mac answers old s (HandleTimeout now) e new t
        → (now < from + SECOND → Waits old now) → Holds old n → Holds new (cond ((nat_le from now && nat_lt now (from + SECOND)) && sends_check e) 1 0 + n)
    timed old new e s t n now step wait h =
        let charges = timeout-charged mac answers now old new s t e step in
        elim (timeout-timed mac answers now old new s t e step) [
          | inl last ↦ called old new n now (nat_le from now && nat_lt now (from + SECOND)) (sends_check e) last charges refl wait h
          | inr stays ↦
              let kept : new.charged_until ≡ old.charged_until = charges ∙ ap (λ b. if b then charged_after now old else old.charged_until) stays.0 in
              subst (λ b. Holds new (cond {A = ℕ} b 1 0 + n)) (sym (quiet (nat_le from now && nat_lt now (from + SECOND)) (sends_check e) stays.0)) (carried old new n stays.1 kept h)
        ] where
          quiet : (a b : Bool) → b ≡ false → (a && b) ≡ false
          quiet true b none = none
          quiet false b none = refl

    counts : (first last : AgentRecord H P) (log : List (Logged P)) → IsNewlyCreated first → (run : SharedRun mac answers first log last)
        → IsFrugal mac answers from first log last run → BeforeEach mac answers (IsSlowAt from) first log last run → Holds last (checks_in_span from SECOND log)
    counts first last [] new run frugal slow = inl refl
    counts first last (x ∷ before) new (mid, s, t, run, based, step) (frugal, rest) (here, slow) =
        subst (λ n. Holds last n) (sym (sum_by-cons (λ (y : Logged P). cond (is_in_span from SECOND y.call && sends_check y.entry) 1 0) x before))
        (by x.call refl (counts first mid before new run rest slow)) where
          by : (call : Call P) → x.call ≡ call → Holds mid (checks_in_span from SECOND before)
              → Holds last (cond (is_in_span from SECOND x.call && sends_check x.entry) 1 0 + checks_in_span from SECOND before)
          by (HandleTimeout now) is so_far =
              subst (λ (c : Call P). Holds last (cond {A = ℕ} (is_in_span from SECOND c && sends_check x.entry) 1 0 + checks_in_span from SECOND before)) (sym is)
              (timed mid last x.entry s t (checks_in_span from SECOND before) now (subst (λ (c : Call P). Step mac answers mid s c x.entry last t) is step)
              (λ early at last_is le. elim (frugal now is early (has_called mac answers from first mid before new run at last_is le)) [
                | inl may ↦ waits first mid before new run rest slow now early (search may) at last_is le
                | inr credit ↦ elim (credit at last_is le) [
                  | inl gone ↦ inl (omega (arith, gone))
                  | inr within_ ↦ let after = within_.0 in let ahead = within_.1 in inr (omega (arith, after), omega (arith, ahead))
                ]
              ])
              so_far)
          by call is so_far =
              let other : is_timeout x.call ≡ false = ap (λ (c : Call P). is_timeout c) is in
              subst (λ b. Holds last (cond {A = ℕ} b 1 0 + checks_in_span from SECOND before)) (sym (ap (λ b. b && sends_check x.entry) (spans-none from SECOND x.call other)))
              (carried mid last (checks_in_span from SECOND before) (last-stays mac answers x.call mid last s t x.entry other step) (charges-stay mac answers x.call mid last s t x.entry other step) so_far)

    few : (a : AgentRecord H P) (n : ℕ) → Holds a n → n ≤ 49
    few a n (inl none) = omega (arith, none)
    few a n (inr c) = let few = c.counted.few in let begins = c.counted.begins in omega (arith, few, begins)

    pub charged-are-few : (first last : AgentRecord H P) (log : List (Logged P)) → IsNewlyCreated first → (run : SharedRun mac answers first log last)
        → BeforeEach mac answers (IsSlowAt from) first log last run → IsFrugal mac answers from first log last run → checks_in_span from SECOND log ≤ 49
    charged-are-few first last log new run slow frugal = few last (checks_in_span from SECOND log) (counts first last log new run frugal slow)
