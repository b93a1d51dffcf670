-- What `handle_timeout` does to a session keeps how far its renewal is, and does not end a client with an allocation.
use Rattle.std.proofs.Common.{◌≡◌, ◌⊎◌, inl, inr, ℕ, ◌+◌, ◌*◌, ◌≤◌, ◌<◌, ◌==◌, ◌&&◌, nat_le, nat_lt, zero, suc, Bool, true, false, cond, List, Option, Some, None, is_none, arith, refl, sym, ap, subst}
use Rattle.is_turn_theorems.proofs.Common.{and_parts, at_time, Attempt, attempt_time, attempted, cases_lt, ClientTiming, is_exhausted, is_ready, is_renewal_due, IsAnswered, IsWithin, kept_alive}
use Rattle.is_turn_theorems.proofs.Common.{later, lead, Limits, MAX, nat_tests, Operation, PACE, patience, Phase, repeat_wait, request_timing, sending, sent_once_more, Session, TransId, tried_by}
use Rattle.is_turn_theorems.proofs.Common.{wait_at, waits, with_renewal, with_request}
use Rattle.is_turn.specs.declared.requests.Request.TheVariants.{Refresh}
use Rattle.is_turn.specs.Timing.{first_wait, next_wait}
use Rattle.is_turn_theorems.proofs.Standing.{Holds, Fresh, Soon, SoonFor, Stage, SentLast, Pending, Due, DueIn}
use Rattle.is_turn_theorems.proofs.OtherCalls.{through}
use Rattle.is_turn_theorems.proofs.Responses.{Called}

-- ---- a session with the renewal that is due

abbrev pub Early : ℕ → ℕ → Option Operation → Type 0
Early now renew None = now < renew
Early now renew (Some o) = Unit {0}

pub record Ran (k : Limits) (now : ℕ) (s : Session) : Type 0 where
  pub reach : s.renew.0 + lead k ≤ s.until.0
  pub pending : Pending k (request_timing s) now s.renew.0 s.paced.0 s.operation
  pub soon : Soon k now s.renew.0 s.operation
  pub early : Early now s.renew.0 s.operation
  pub ahead : now < s.until.0
  pub answered : IsAnswered k.within now s.operation
  pub patient : k.within < patience (request_timing s)

pub record Running (k : Limits) (now : ℕ) (s : Session) : Type 0 where
  pub paced : s.paced.0 ≤ now + PACE
  pub shown : now < MAX
  pub ready : is_ready s.phase ≡ true → Ran k now s

-- what is to be kept
pub record Kept (k : Limits) (now : ℕ) (phase : Phase) (new : Session) : Type 0 where
  pub holds : Holds k now now new
  pub stays : is_ready phase ≡ true → is_ready new.phase ≡ true

early_of : (b : Bool) (now renew : ℕ) (o : Option Operation) → b ≡ true → (b && is_none o && nat_le renew now) ≡ false → Early now renew o
early_of true now renew None e h = grind (arith, nat_tests)
early_of false now renew None e h = absurd (cc e)
early_of b now renew (Some o) e h = tt

renewal_begins : (k : Limits) (now d : ℕ) (s : Session) (o : Option Operation) → is_none o ≡ true → Called k now d s → now < MAX
    → (is_ready s.phase ≡ true → Soon k now s.renew.0 o) → (is_ready s.phase ≡ true → now < s.until.0)
    → (is_ready s.phase ≡ true → k.within < patience (request_timing s)) → Running k now (with_request (at_time now) (Refresh s.lifetime) s)
renewal_begins k now d s (Some o) none called shown soon ahead patient = absurd (cc none)
renewal_begins k now d s None none called shown soon ahead patient = record {
  paced = called.holds.paced;
  shown = shown;
  ready = λ r. record {
    reach = (called.holds.ready r).reach;
    pending = record { begun = omega arith; soon = let p = soon r in omega (arith, p); paced = called.holds.paced };
    soon = record { bound = let p = soon r in omega (arith, p); fresh = λ f. omega arith };
    early = tt;
    ahead = ahead r;
    answered = λ f. absurd (cc f);
    patient = patient r;
  };
}

pub begins : (k : Limits) (now d : ℕ) (s : Session) → Called k now d s → (is_ready s.phase ≡ true → now < s.until.0)
    → (is_ready s.phase ≡ true → IsAnswered k.within now s.operation) → (is_ready s.phase ≡ true → k.within < patience (request_timing s))
    → Running k now (with_renewal (at_time now) s)
begins k now d s called ahead answered patient =
    let shown : now < MAX = let p = called.shown in omega (arith, p) in
    through s (λ x. Running k now x) (is_renewal_due (at_time now) s) _ _
    (λ e. renewal_begins k now d s s.operation (and_parts (is_ready s.phase) (is_none s.operation) (and_parts (is_ready s.phase && is_none s.operation) (nat_le s.renew.0 now) e).0).1
    called shown called.soon ahead patient)
    (λ e. record {
      paced = called.holds.paced;
      shown = shown;
      ready = λ r. record {
        reach = (called.holds.ready r).reach;
        pending = (called.holds.ready r).pending;
        soon = called.soon r;
        early = early_of (is_ready s.phase) now s.renew.0 s.operation r e;
        ahead = ahead r;
        answered = answered r;
        patient = patient r;
      };
    })

-- ---- a packet of another request, or none

abbrev pub NotFresh : Option Operation → Type 0
NotFresh None = Unit {0}
NotFresh (Some o) = o.is_fresh ≡ true → ⊥

stage_paced : (b : Bool) (k : Limits) (t : ClientTiming) (now renew old pace : ℕ) (o : Operation) → (b ≡ true → ⊥) → Stage b k t now renew old o
    → Stage b k t now renew pace o
stage_paced true k t now renew old pace o not_fresh h = absurd (not_fresh refl)
stage_paced false k t now renew old pace o not_fresh h = h

pending_paced : (k : Limits) (t : ClientTiming) (now renew old pace : ℕ) (o : Option Operation) → NotFresh o → Pending k t now renew old o
    → Pending k t now renew pace o
pending_paced k t now renew old pace None not_fresh h = tt
pending_paced k t now renew old pace (Some o) not_fresh h = stage_paced o.is_fresh k t now renew old pace o not_fresh h

pub due_in : (b : Bool) (now : ℕ) (o : Operation) → (b ≡ true → now ≤ o.due.0 + PACE) → DueIn b now o
due_in true now o h = h refl
due_in false now o h = tt

pub due_now : (now renew : ℕ) (o : Option Operation) → NotFresh o → Early now renew o → Due now renew o
due_now now renew None not_fresh early = omega (arith, early)
due_now now renew (Some o) not_fresh early = due_in o.is_fresh now o (λ f. absurd (not_fresh f))

pub sends : (k : Limits) (now : ℕ) (s : Session) → Running k now s → (is_ready s.phase ≡ true → NotFresh s.operation) → Kept k now s.phase (sending (at_time now) s)
sends k now s run not_fresh = record {
  holds = record {
    paced = omega arith;
    ready = λ r. record {
      reach = (run.ready r).reach;
      pending = pending_paced k (request_timing s) now s.renew.0 s.paced.0 (later now PACE) s.operation (not_fresh r) (run.ready r).pending;
      due = due_now now s.renew.0 s.operation (not_fresh r) (run.ready r).early;
    };
  };
  stays = λ r. r;
}

pub rests : (k : Limits) (now : ℕ) (s : Session) → Running k now s → (is_ready s.phase ≡ true → Due now s.renew.0 s.operation) → Kept k now s.phase s
rests k now s run due = record {
  holds = record { paced = run.paced; ready = λ r. record { reach = (run.ready r).reach; pending = (run.ready r).pending; due = due r } };
  stays = λ r. r;
}

pub lives : (k : Limits) (now : ℕ) (id : TransId) (s : Session) → Running k now s → (is_ready s.phase ≡ true → NotFresh s.operation)
    → Kept k now s.phase (kept_alive (at_time now) id s)
lives k now id s run not_fresh =
    let h = sends k now s run not_fresh in
    record {
      holds = record { paced = h.holds.paced; ready = λ r. record { reach = (h.holds.ready r).reach; pending = (h.holds.ready r).pending; due = (h.holds.ready r).due } };
      stays = λ r. r;
    }

-- ---- an attempt times out later than it is answered

waits_by : (t : ClientTiming) (m n : ℕ) → (m < suc n) ⊎ (suc n ≤ m) → m ≤ suc n → (m ≤ n → waits t m ≤ waits t n) → waits t m ≤ waits t (suc n)
waits_by t m n (inl lt) h before = let le : waits t m ≤ waits t n = before (omega (arith, lt)) in omega (arith, le)
waits_by t m n (inr le) h before =
    let e : m ≡ suc n = omega (arith, h, le) in subst (λ (x : ℕ). waits t x ≤ waits t (suc n)) (sym e) (omega arith)

waits_more : (t : ClientTiming) (m n : ℕ) → m ≤ n → waits t m ≤ waits t n
waits_more t m zero h = let e : m ≡ 0 = omega (arith, h) in subst (λ (x : ℕ). waits t x ≤ waits t 0) (sym e) (omega arith)
waits_more t m (suc n) h = waits_by t m n (cases_lt m (suc n)) h (λ le. waits_more t m n le)

exhausted_late : (k : Limits) (t : ClientTiming) (now renew : ℕ) (o : Operation) (a : Option Attempt) → SentLast k t renew o a → IsWithin k.within now a
    → k.within < patience t → now < MAX → is_exhausted t o ≡ true → o.due.0 ≤ now → ⊥
exhausted_late k t now renew o None h w patient shown exhausted due = absurd h
exhausted_late k t now renew o (Some a) h w patient shown exhausted due =
    let all : t.requests ≤ o.sent = grind (arith, nat_tests) in
    let sent : o.sent ≡ suc h.place = h.sent in
    let most : waits t t.requests ≤ waits t (suc h.place) = waits_more t t.requests (suc h.place) (omega (arith, all, sent)) in
    let reached : later a.since.0 (waits t (suc h.place)) ≤ o.due.0 = h.due in
    absurd (omega (arith, most, reached, w, patient, shown, due))

pub times_out_late : (k : Limits) (now : ℕ) (s : Session) (o : Operation) → Ran k now (record s { operation = Some o }) → now < MAX → o.is_fresh ≡ false
    → is_exhausted (request_timing s) o ≡ true → nat_lt now o.due.0 ≡ false → ⊥
times_out_late k now s o run shown sent exhausted due =
    let past : o.due.0 ≤ now = grind (arith, nat_tests) in
    exhausted_late k (request_timing s) now s.renew.0 o o.attempts.last
    (subst (λ (b : Bool). Stage b k (request_timing s) now s.renew.0 s.paced.0 o) sent run.pending) (run.answered sent) run.patient shown exhausted past

-- ---- another packet of the last attempt

repeat_wait_is : (t : ClientTiming) (o : Operation) (place : ℕ) → o.sent ≡ suc place → o.wait.0 ≡ wait_at t place → repeat_wait t o ≡ wait_at t (suc place)
repeat_wait_is t o place sent wait =
    subst (λ (n : ℕ). cond (n == 0) (first_wait t) (next_wait t (n + 1) o.wait.0) ≡ wait_at t (suc place)) (sym sent)
    (let z : (suc place == 0) ≡ false = grind (arith, nat_tests) in
    subst (λ (b : Bool). cond b (first_wait t) (next_wait t (suc place + 1) o.wait.0) ≡ wait_at t (suc place)) (sym z)
    (subst (λ (w : ℕ). next_wait t (suc place + 1) w ≡ wait_at t (suc place)) (sym wait)
    (let e : suc place + 1 ≡ place + 2 = omega arith in ap (λ (n : ℕ). next_wait t n (wait_at t place)) e)))

repeated_last : (k : Limits) (t : ClientTiming) (now renew : ℕ) (o : Operation) (a : Option Attempt) → SentLast k t renew o a → o.due.0 ≤ now
    → SentLast k t renew (sent_once_more (at_time now) t o) a
repeated_last k t now renew o None h due = absurd h
repeated_last k t now renew o (Some a) h due =
    let wait : repeat_wait t o ≡ wait_at t (suc h.place) = repeat_wait_is t o h.place h.sent h.wait in
    let reached : later a.since.0 (waits t (suc h.place)) ≤ o.due.0 = h.due in
    record {
      soon = h.soon;
      place = suc h.place;
      sent = let e = h.sent in omega (arith, e);
      wait = wait;
      due = omega (arith, wait, reached, due);
    }

repeats_stage : (b : Bool) (k : Limits) (t : ClientTiming) (now renew old pace : ℕ) (o : Operation) → b ≡ false → Stage b k t now renew old o → o.due.0 ≤ now
    → Stage b k t now renew pace (sent_once_more (at_time now) t o)
repeats_stage true k t now renew old pace o e h due = absurd (cc e)
repeats_stage false k t now renew old pace o e h due = repeated_last k t now renew o o.attempts.last h due

pub repeats : (k : Limits) (now : ℕ) (s : Session) (o : Operation) → Running k now (record s { operation = Some o }) → o.is_fresh ≡ false → nat_lt now o.due.0 ≡ false
    → Kept k now s.phase (sending (at_time now) (record s { operation = Some (sent_once_more (at_time now) (request_timing s) o) }))
repeats k now s o run sent due =
    let past : o.due.0 ≤ now = grind (arith, nat_tests) in
    record {
      holds = record {
        paced = omega arith;
        ready = λ r. record {
          reach = (run.ready r).reach;
          pending = repeats_stage o.is_fresh k (request_timing s) now s.renew.0 s.paced.0 (later now PACE) o sent (run.ready r).pending past;
          due = due_in o.is_fresh now (sent_once_more (at_time now) (request_timing s) o) (λ f. absurd (cc (sent, f)));
        };
      };
      stays = λ r. r;
    }

-- ---- another attempt

attempt_soon : (k : Limits) (t : ClientTiming) (now renew pace : ℕ) (o : Operation) (attempt : Attempt) → attempt.since.0 ≡ now → o.is_fresh ≡ true
    → Fresh k now renew pace o → SoonFor k now renew o → SentLast k t renew (attempted attempt t o) (Some attempt)
attempt_soon k t now renew pace o attempt since fresh h soon =
    let at : now ≤ o.due.0 + PACE + k.late = soon.fresh fresh in
    let begun : o.due.0 ≤ renew + k.late + o.stale * attempt_time k = h.soon in
    record { soon = omega (arith, at, begun, since); place = 0; sent = refl; wait = refl; due = omega arith }

pub attempts : (k : Limits) (now : ℕ) (id : TransId) (key : Option (List ℕ)) (s : Session) (o : Operation) → Running k now (record s { operation = Some o })
    → o.is_fresh ≡ true
    → Kept k now s.phase (tried_by (at_time now) (record { id = id; key = key; since = at_time now }) (Some o) (record s { operation = Some o }))
attempts k now id key s o run fresh = record {
  holds = record {
    paced = omega arith;
    ready = λ r. record {
      reach = (run.ready r).reach;
      pending = attempt_soon k (request_timing s) now s.renew.0 s.paced.0 o (record { id = id; key = key; since = at_time now }) refl fresh
          (subst (λ (b : Bool). Stage b k (request_timing s) now s.renew.0 s.paced.0 o) fresh (run.ready r).pending) (run.ready r).soon;
      due = tt;
    };
  };
  stays = λ r. r;
}
