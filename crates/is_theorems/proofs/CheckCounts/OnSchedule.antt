-- A pair without a response is checked no sooner than on schedule while no request arrives on it, and so gets few checks.
use Rattle.is_theorems.proofs.Common.{◌&&◌, ◌*◌, ◌+◌, ◌-◌, ◌<◌, ◌==◌, ◌||◌, ◌∙◌, ◌≡◌, ◌≤◌, ◌⊎◌, ap, arith, scheduled, Bool, cases_lt, Check}
use Rattle.is_theorems.proofs.Common.{check_of, check_time, checked, computed_due_time, delay_of, due_time_of, early_delay, early_span}
use Rattle.is_theorems.proofs.Common.{eqb-true, false, hushed_delay, if◌then◌else◌, inl, inr, is_asked_first, is_due, is_early_on}
use Rattle.is_theorems.proofs.Common.{first_unanswered, is_hushed, is_modern, is_nominated, is_nominating, max, option_map, possible_until}
use Rattle.is_theorems.proofs.Common.{is_possible, is_repeated_early, is_silent, is_valid, is_within, request_end, response_end, series_end, series_start}
use Rattle.is_theorems.proofs.Common.{last_check, last_resend_delay, later, least_delay, length, List, MAX, min, nat_lt}
use Rattle.is_theorems.proofs.Common.{nomination_once_sent, None, Option, option_map_or, PairRecord, refl, repeated_delay}
use Rattle.is_theorems.proofs.Common.{resend_delay, rto_after, SECOND, silent_count, Some, StunTiming, subst, suc, sym, timeout_of, true}
use Rattle.is_theorems.proofs.Common.{unanswered_count, unwrap_or, usual_delay, ℕ}
use Rattle.is_theorems.proofs.CheckCounts.PastTimes.{IsPast}
use Rattle.is_theorems.proofs.CheckCounts.Bounds.{Bound, Covers, Ends, IsPastRequest, asked-first, covered, span_of}
use Rattle.is_theorems.proofs.CheckCounts.CheckTimes.{early-rising, later-next, least-within, rto-rising, rto-within, time-first}
use Rattle.is_theorems.proofs.CheckCounts.SentChecks.{no-case, none-some, some-is, lt-of, not-lt, is-lt, all-free, sent-last, sent-length}
use Rattle.is_theorems.proofs.CheckCounts.SentChecks.{sent-free, sent-started, sent-calm, calm-next}

-- the first check after a request, if there was one
abbrev pub Again : PairRecord → ℕ → Type 0
Again p start = ((p.requests ≡ 0) × (p.first_after_request ≡ None)) ⊎ ((at : ℕ) × (p.first_after_request ≡ Some at) × (at ≤ start))

module _ (t : StunTiming) (bound : Bound) where
  abbrev span : ℕ
  span = span_of t bound

  -- Since the time `start` checks were sent on schedule, the last one by the time `by`, and so will be the next one. Requests came before.
  pub record HasRun (base by : ℕ) (p : PairRecord) : Type 0 where
    pub start : ℕ
    pub count : ℕ
    pub first : ℕ
    pub last : Check
    pub began : p.first_sent ≡ Some first
    pub before : first ≤ start
    pub again : Again p start
    pub heard : (at : ℕ) → p.last_request ≡ Some at → at ≤ start
    pub stored : last_check p.checks ≡ Some last
    pub some : 0 < count
    pub few : count ≤ bound.checks
    pub sent : p.checks_sent ≤ base + count
    pub least : min count 4 ≤ p.checks_sent
    pub late : later start (check_time t span count) ≤ last.sent
    pub past : last.sent ≤ by
    pub enough : min count t.max_retransmits ≤ length p.checks
    pub calm : nomination_once_sent p.nomination ≡ p.nomination
    pub planned : (due : ℕ) → p.due ≡ Some due → later last.sent (least_delay t span (last.sent - start) count) ≤ due

  -- or no check was sent
  abbrev pub Keeps : ℕ → ℕ → PairRecord → Type 0
  Keeps base by p = (p.checks_sent ≡ base) ⊎ HasRun base by p

  pub few-of : (base by : ℕ) (p : PairRecord) → Keeps base by p → p.checks_sent ≤ base + bound.checks
  few-of base by p (inl same) = omega (arith, same)
  few-of base by p (inr h) = let few = h.few in let sent = h.sent in omega (arith, few, sent)

  -- a pair with the same checks and requests, whose due time is not sooner
  pub run-as : (base by at : ℕ) (p : PairRecord) (due : Option ℕ) (error : Option ℕ) (priority : ℕ) → by ≤ at → (h : HasRun base by p)
      → ((k : ℕ) → due ≡ Some k → later h.last.sent (least_delay t span (h.last.sent - h.start) h.count) ≤ k) → HasRun base at (record p { due = due; last_error = error; priority = priority })
  run-as base by at p due error priority le h planned = record {
    start = h.start;
    count = h.count;
    first = h.first;
    last = h.last;
    began = h.began;
    before = h.before;
    again = h.again;
    heard = h.heard;
    stored = h.stored;
    some = h.some;
    few = h.few;
    sent = h.sent;
    least = h.least;
    late = h.late;
    past = (let past = h.past in omega (arith, past, le));
    enough = h.enough;
    calm = h.calm;
    planned = planned;
  }

  -- ---- when it is due

  module _ (base by now clock : ℕ) (p : PairRecord) (clean : IsPast clock p) (h : HasRun base by p) (covers : Covers bound p) (passes : by ≤ now) (invalid : is_valid p ≡ false) where
    -- whether its first check followed a request is known
    first-asked : bound.asked ≡ true → is_asked_first p ≡ true
    first-asked asked = elim h.again [
      | inl none ↦ (let some = (covers asked).0 in let zero = none.0 in let no : ⊥ = omega (arith, some, zero) in absurd no)
      | inr some ↦ asked-first p h.first some.0 h.began some.1 (covers asked).1
    ]

    short : early_span t p ≤ span
    short = covered t bound p first-asked

    abbrev gap : ℕ
    gap = h.last.sent - h.start

    abbrev early-test : Bool
    early-test = is_within (early_span t p) now p.first_sent || is_within (early_span t p) now p.first_after_request

    repeated-is : is_repeated_early now t p ≡ early-test
    repeated-is = ap (λ a. if a == 0 then is_early_on now t p else is_nominating p.nomination && nat_lt (unanswered_count p.checks) t.max_retransmits) clean.answers

    silent-is : silent_count p ≡ p.checks_sent
    silent-is = ap (λ a. if a == 0 then p.checks_sent else unanswered_count p.checks) clean.answers

    counted-enough : min h.count t.max_retransmits ≤ unanswered_count p.checks
    counted-enough = let same = all-free p.checks clean.unanswered in let enough = h.enough in omega (arith, same, enough)

    -- not sooner than an RTO, if it is not repeated early
    usual-least : rto_after t h.count ≤ usual_delay now t p.checks
    usual-least = at-least (is_silent now t p.checks) where
      at-least : (b : Bool) → rto_after t h.count ≤ resend_delay t (if b then unanswered_count p.checks else length p.checks)
      at-least true = rto-rising t (min h.count t.max_retransmits) (unanswered_count p.checks) counted-enough
      at-least false = rto-rising t (min h.count t.max_retransmits) (length p.checks) h.enough

    within-early : (at : ℕ) → at ≤ h.start → nat_lt now (later at (early_span t p)) ≡ true → now < later h.start span
    within-early at le is = let lt = lt-of now (later at (early_span t p)) is in let less = short in omega (arith, le, lt, less)

    first-early : is_within (early_span t p) now p.first_sent ≡ true → now < later h.start span
    first-early is = within-early h.first h.before (sym (ap (λ o. is_within (early_span t p) now o) h.began) ∙ is)

    again-early : is_within (early_span t p) now p.first_after_request ≡ true → now < later h.start span
    again-early is = elim h.again [
      | inl none ↦ no-case (sym (ap (λ o. is_within (early_span t p) now o) none.1) ∙ is)
      | inr some ↦ within-early some.0 some.2 (sym (ap (λ o. is_within (early_span t p) now o) some.1) ∙ is)
    ]

    early-only : (a b : Bool) → (a ≡ true → now < later h.start span) → (b ≡ true → now < later h.start span) → (a || b) ≡ true → now < later h.start span
    early-only true b one two is = one refl
    early-only false true one two is = two refl
    early-only false false one two is = no-case is

    is-early : now < later h.start span → nat_lt gap span ≡ true
    is-early lt = is-lt gap span (sooner h.start h.last.sent span (check_time t span h.count) h.past h.late lt) where
      sooner : (start sent e s : ℕ) → sent ≤ by → later start s ≤ sent → now < later start e → sent - start < e
      sooner start sent e s past late lt = omega (arith, past, late, lt, passes)

    -- without a response it is not checked in its silence
    unhushed : is_hushed p ≡ false
    unhushed = unless (is_valid p) invalid where
      unless : (v : Bool) → v ≡ false → (v && is_nominated p && nat_lt 0 (unanswered_count p.checks)) ≡ false
      unless true off = no-case (sym off)
      unless false off = refl

    delay-is : delay_of now t p ≡ (if is_modern t then repeated_delay now t p else usual_delay now t p.checks)
    delay-is = ap (λ b. if is_modern t then (if b then min (hushed_delay now t p) (repeated_delay now t p) else repeated_delay now t p) else usual_delay now t p.checks) unhushed

    delay-least : least_delay t span gap h.count ≤ delay_of now t p
    delay-least = subst (λ n. least_delay t span gap h.count ≤ n) (sym delay-is) (repeated (is_modern t) (is_repeated_early now t p) refl refl) where
      rto : ℕ
      rto = rto_after t h.count

      early : ℕ
      early = early_delay h.count

      usual : least_delay t span gap h.count ≤ usual_delay now t p.checks
      usual = let a = least-within t span gap h.count in let b = usual-least in omega (arith, a, b)

      shorter : (b c : Bool) → b ≡ true → c ≡ true → (if b && c then min early rto else rto) ≤ early
      shorter true true one two = omega arith
      shorter true false one two = no-case two
      shorter false c one two = no-case one

      repeated : (m r : Bool) → is_modern t ≡ m → is_repeated_early now t p ≡ r → least_delay t span gap h.count ≤ (if m then (if r then early_delay (silent_count p) else usual_delay now t p.checks) else usual_delay now t p.checks)
      repeated false r modern is = usual
      repeated true false modern is = usual
      repeated true true modern is =
          let lt = early-only (is_within (early_span t p) now p.first_sent) (is_within (early_span t p) now p.first_after_request) first-early again-early (sym repeated-is ∙ is) in
          let short = shorter (is_modern t) (nat_lt gap span) modern (is-early lt) in
          let more = early-rising h.count p.checks_sent h.least in
          let same = ap early_delay silent-is in
          omega (arith, short, more, same)

    -- its due time, whether it is fixed or computed now
    due-least : later h.last.sent (least_delay t span gap h.count) ≤ due_time_of now t p
    due-least = from p.due refl where
      next-is : computed_due_time p.nomination now t p ≡ later h.last.sent (delay_of now t p)
      next-is =
          ap (λ n. computed_due_time n now t p) (sym h.calm) ∙ (calm-next now t p.nomination p
          ∙ ap (λ o. option_map_or (λ (c : Check). later c.sent (delay_of now t p)) o now) h.stored)

      least : (sent d delay longest rto computed : ℕ) → computed ≡ later sent delay → d ≤ delay → d ≤ rto → rto ≤ longest → sent ≤ by → later sent d ≤ min computed (later now longest)
      least sent d delay longest rto computed a b c e f = omega (arith, a, b, c, e, f, passes)

      from : (o : Option ℕ) → p.due ≡ o → later h.last.sent (least_delay t span gap h.count) ≤ unwrap_or o (min (computed_due_time p.nomination now t p) (later now t.max_rto.0))
      from (Some due) is = h.planned due is
      from None is =
          least h.last.sent (least_delay t span gap h.count) (delay_of now t p) t.max_rto.0 (rto_after t h.count) (computed_due_time p.nomination now t p) next-is delay-least
          (least-within t span gap h.count) (rto-within t h.count) h.past

  -- fixing the due time leaves it on schedule
  pub scheduled-run : (base by now clock : ℕ) (p : PairRecord) → by ≤ now → is_valid p ≡ false → IsPast clock p → Covers bound p → Keeps base by p → Keeps base now (scheduled now t p)
  scheduled-run base by now clock p passes invalid clean covers (inl same) = inl same
  scheduled-run base by now clock p passes invalid clean covers (inr h) = inr (run-as base by now p (Some (due_time_of now t p)) p.last_error p.priority passes h
      (λ k is. (let least = due-least base by now clock p clean h covers passes invalid in let same : due_time_of now t p ≡ k = some-is (due_time_of now t p) k is in omega (arith, least, same))))

  -- ---- when it ends

  ends-by : (l u : Bool) → l ≡ false → (u ≡ true → ⊥) → (l || u) ≡ true → ⊥
  ends-by true u none past is = no-case (sym none)
  ends-by false u none past is = past is

  module _ (ends : Ends t bound) (base by now : ℕ) (p : PairRecord) (clean : IsPast now p) (h : HasRun base by p) (covers : Covers bound p) (passes : by ≤ now) (invalid : is_valid p ≡ false) (goes_on : now < MAX)
      (kept : (p.requests ≡ 0) ⊎ IsPastRequest t bound) (all : bound.checks ≤ h.count) (due : later h.last.sent (least_delay t span (h.last.sent - h.start) h.count) ≤ now) where
    same : h.count ≡ bound.checks
    same = let few = h.few in omega (arith, few, all)

    full : min h.count t.max_retransmits ≡ t.max_retransmits
    full = let count = ends.counted in omega (arith, count, all)

    next-sent : later h.start (check_time t span (suc bound.checks)) ≤ now
    next-sent = subst (λ n. later h.start (check_time t span (suc n)) ≤ now) same (later-next t span h.count h.start h.last.sent now h.some h.late due)

    series-is : series_start p ≡ (if is_asked_first p then None else Some h.first)
    series-is =
        ap (λ a. if a == 0 then (if is_asked_first p then None else p.first_sent) else option_map (λ (c : Check). c.sent) (first_unanswered p.checks)) clean.answers
        ∙ ap (λ o. if is_asked_first p then None else o) h.began

    -- the time of a series of checks is over, or does not count
    series-over : series_end t p ≤ now
    series-over = subst (λ o. (if is_modern t then option_map_or (λ at. later at (timeout_of t)) o 0 else 0) ≤ now) (sym series-is) (by-kind (is_modern t) (is_asked_first p) refl refl) where
      over-by : (first start series next : ℕ) → first ≤ start → series ≤ next → later start next ≤ now → later first series ≤ now
      over-by first start series next before over sent = omega (arith, before, over, sent)

      counts : (b : Bool) → bound.asked ≡ b → is_asked_first p ≡ false → bound.asked ≡ false
      counts true is other = no-case (sym other ∙ first-asked base by now now p clean h covers passes invalid is)
      counts false is other = is

      by-kind : (m a : Bool) → is_modern t ≡ m → is_asked_first p ≡ a → (if m then option_map_or (λ at. later at (timeout_of t)) (if a then None else Some h.first) 0 else 0) ≤ now
      by-kind false a modern asked = omega arith
      by-kind true true modern asked = omega arith
      by-kind true false modern asked = over-by h.first h.start (timeout_of t) (check_time t span (suc bound.checks)) h.before (ends.over (counts bound.asked refl asked) modern) next-sent

    -- so is that for which a request keeps it
    request-over : request_end p ≤ now
    request-over = from p.last_request refl where
      over-by : (at next : ℕ) → at ≤ h.start → 15 * SECOND ≤ next → later h.start next ≤ now → at + 15 * SECOND ≤ now
      over-by at next le long sent = omega (arith, le, long, sent, goes_on)

      from : (o : Option ℕ) → p.last_request ≡ o → option_map_or (λ at. at + 15 * SECOND) o 0 ≤ now
      from None is = omega arith
      from (Some at) is = elim kept [
        | inl zero_is ↦ none-some at (sym (clean.quiet zero_is) ∙ is)
        | inr long ↦ over-by at (check_time t span (suc bound.checks)) (h.heard at is) (omega (arith, long)) next-sent
      ]

    many-free : nat_lt (unanswered_count p.checks) t.max_retransmits ≡ false
    many-free = let enough = counted-enough base by now now p clean h covers passes invalid in let is = full in not-lt (unanswered_count p.checks) t.max_retransmits (omega (arith, enough, is))

    -- and so is that of a response to the last one
    response-over : response_end t p.checks ≤ now
    response-over =
        subst (λ o. option_map_or (λ (c : Check). later c.sent (last_resend_delay t)) o 0 ≤ now) (sym h.stored)
        (by-delay (is_modern t) (nat_lt (h.last.sent - h.start) span) refl refl due) where
          rto-is : rto_after t h.count ≡ last_resend_delay t
          rto-is = ap (resend_delay t) full

          usual : later h.last.sent (rto_after t h.count) ≤ now → later h.last.sent (last_resend_delay t) ≤ now
          usual late = let is = rto-is in omega (arith, is, late)

          rare : (start sent e s : ℕ) → later start s ≤ sent → sent ≤ by → e ≤ s → sent - start < e → ⊥
          rare start sent e s late past long lt = let no : ⊥ = omega (arith, late, past, long, lt, goes_on, passes) in no

          by-delay : (m x : Bool) → is_modern t ≡ m → nat_lt (h.last.sent - h.start) span ≡ x
              → later h.last.sent (if m && x then min (early_delay h.count) (rto_after t h.count) else rto_after t h.count) ≤ now
              → later h.last.sent (last_resend_delay t) ≤ now
          by-delay false x modern is late = usual late
          by-delay true false modern is late = usual late
          by-delay true true modern is late =
              absurd (rare h.start h.last.sent span (check_time t span h.count) h.late h.past (subst (λ n. span ≤ check_time t span n) (sym same) (ends.rare modern))
              (lt-of (h.last.sent - h.start) span is))

    over : is_possible now t p ≡ true → ⊥
    over possible =
        ends-by (nat_lt (unanswered_count p.checks) t.max_retransmits) (nat_lt now (possible_until t p)) many-free
        (λ early. last-over (request_end p) (response_end t p.checks) (series_end t p) request-over response-over series-over (lt-of now (possible_until t p) early)) possible where
          last-over : (r a b : ℕ) → r ≤ now → a ≤ now → b ≤ now → now < max r (max a b) → ⊥
          last-over r a b one two three lt = let no : ⊥ = omega (arith, one, two, three, lt) in no

  -- ---- a check

  module _ (ends : Ends t bound) (limit : 0 < t.max_retransmits) (now : ℕ) (c : Bool) (id : List ℕ) (p : PairRecord) where
    abbrev sent : PairRecord
    sent = checked now t c id (scheduled now t p)

    abbrev check : Check
    check = check_of now c id (scheduled now t p)

    again-sent : (start : ℕ) → Again p start → Again sent start
    again-sent start (inl none) = inl (none.0, ap (λ n. if n == 0 then None else Some (unwrap_or p.first_after_request now)) none.0)
    again-sent start (inr (at, is, le)) = by (p.requests == 0) refl where
      by : (b : Bool) → (p.requests == 0) ≡ b → ((p.requests ≡ 0) × ((if b then None else Some (unwrap_or p.first_after_request now)) ≡ None))
          ⊎ ((k : ℕ) × ((if b then None else Some (unwrap_or p.first_after_request now)) ≡ Some k) × (k ≤ start))
      by true zero_is = inl (eqb-true p.requests 0 zero_is, refl)
      by false some = inr (at, ap (λ o. Some (unwrap_or o now)) is, le)

    -- after the first one
    again-first : IsPast now p → Again sent now
    again-first clean = by (p.requests == 0) refl where
      upto : (o : Option ℕ) → p.first_after_request ≡ o → unwrap_or o now ≤ now
      upto None is = omega arith
      upto (Some at) is = clean.again at is

      by : (b : Bool) → (p.requests == 0) ≡ b → ((p.requests ≡ 0) × ((if b then None else Some (unwrap_or p.first_after_request now)) ≡ None))
          ⊎ ((k : ℕ) × ((if b then None else Some (unwrap_or p.first_after_request now)) ≡ Some k) × (k ≤ now))
      by true zero_is = inl (eqb-true p.requests 0 zero_is, refl)
      by false some = inr (unwrap_or p.first_after_request now, refl, upto p.first_after_request refl)

    first-upto : IsPast now p → unwrap_or p.first_sent now ≤ now
    first-upto clean = from p.first_sent refl where
      from : (o : Option ℕ) → p.first_sent ≡ o → unwrap_or o now ≤ now
      from None is = omega arith
      from (Some at) is = clean.first at is

    pub sent-past : IsPast now p → IsPast now sent
    sent-past clean = record {
      answers = clean.answers;
      quiet = clean.quiet;
      heard = clean.heard;
      first = λ at is. (let upto = first-upto clean in let same : unwrap_or p.first_sent now ≡ at = some-is (unwrap_or p.first_sent now) at is in omega (arith, upto, same));
      again = λ at is. elim (again-first clean) [
        | inl none ↦ none-some at (sym none.1 ∙ is)
        | inr some ↦ (let le = some.2 in let same : some.0 ≡ at = some-is some.0 at (sym some.1 ∙ is) in omega (arith, le, same))
      ];
      unasked = λ none. ap (λ n. if n == 0 then None else Some (unwrap_or p.first_after_request now)) none;
      unanswered = sent-free t.max_retransmits p.checks check refl clean.unanswered;
      started = λ k has. sent-started p.state;
    }

    run-sent : (base start count first : ℕ) → unwrap_or p.first_sent now ≡ first → first ≤ start → Again sent start → ((at : ℕ) → p.last_request ≡ Some at → at ≤ start)
        → suc count ≤ bound.checks → p.checks_sent ≤ base + count → min count 4 ≤ p.checks_sent → later start (check_time t span (suc count)) ≤ now → min count t.max_retransmits ≤ length p.checks
        → HasRun base now sent
    run-sent base start count first began before again heard few total least late enough = record {
      start = start;
      count = suc count;
      first = first;
      last = check;
      began = ap Some began;
      before = before;
      again = again;
      heard = heard;
      stored = sent-last t.max_retransmits p.checks check limit;
      some = omega arith;
      few = few;
      sent = omega (arith, total);
      least = omega (arith, least);
      late = late;
      past = omega arith;
      enough = sent-length t.max_retransmits p.checks check count enough;
      calm = sent-calm p.nomination;
      planned = λ due is. none-some due is;
    }

    pub sent-keeps : (base by : ℕ) → by ≤ now → now < MAX → is_valid p ≡ false → IsPast now p → Covers bound p → ((p.requests ≡ 0) ⊎ IsPastRequest t bound) → due_time_of now t p ≤ now → is_possible now t p ≡ true
        → Keeps base by p → Keeps base now sent
    sent-keeps base by passes goes_on invalid clean covers kept is_due possible (inl same) =
        let start = time-first t span in let few = ends.counted in
        inr (run-sent base now 0 (unwrap_or p.first_sent now) refl (first-upto clean) (again-first clean) clean.heard (omega (arith, few, limit)) (omega (arith, same)) (omega arith)
        (omega (arith, start)) (omega arith))
    sent-keeps base by passes goes_on invalid clean covers kept is_due possible (inr h) =
        let least = due-least base by now now p clean h covers passes invalid in
        let due : later h.last.sent (least_delay t span (h.last.sent - h.start) h.count) ≤ now = omega (arith, least, is_due) in
        let next = later-next t span h.count h.start h.last.sent now h.some h.late due in
        inr (run-sent base h.start h.count h.first (ap (λ o. unwrap_or o now) h.began) h.before (again-sent h.start h.again) h.heard
        (elim (cases_lt h.count bound.checks) [
          | inl fewer ↦ omega (arith, fewer)
          | inr all ↦ absurd (over ends base by now p clean h covers passes invalid goes_on kept all due possible)
        ]) h.sent h.least next h.enough)
