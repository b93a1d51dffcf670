-- Each step of `handle_timeout` keeps how far the renewal of an allocation is.
use Rattle.std.proofs.Common.{◌≡◌, ℕ, ◌+◌, ◌≤◌, ◌<◌, ◌&&◌, nat_le, nat_lt, Bool, true, false, cond, List, Option, Some, None, arith, refl, sym, ap, subst}
use Rattle.is_turn_theorems.proofs.Common.{after_step, and_parts, at_place, at_time, ClientTiming, due_or, due_place, failed_in, fill_bytes, is_exhausted, is_idle_step, is_ready, keep_alive_due}
use Rattle.is_turn_theorems.proofs.Common.{Lease, lease_due, Limits, nat_tests, Operation, PACE, request_timing, sending, sending_for, sent_once_more, Session, step_at, step_for, step_of, Stream}
use Rattle.is_turn_theorems.proofs.Common.{TimesOutBy}
use Rattle.is_turn.specs.Session.{due_of}
use Rattle.is_turn_theorems.proofs.Standing.{Fresh, Stage, Due, DueIn}
use Rattle.is_turn_theorems.proofs.OtherCalls.{through, unready}
use Rattle.is_turn_theorems.proofs.Responses.{failed_unready}
use Rattle.is_turn_theorems.proofs.Timeouts.{Ran, Running, Kept, NotFresh, due_in, due_now, sends, rests, lives, attempts, repeats, times_out_late}

-- ---- what is known of each step

at_end : (k : Limits) (now : ℕ) (b : Bool) (until : ℕ) → now < until → (b && nat_le until now) ≡ true → ⊥
at_end k now b until ahead e = let h : nat_le until now ≡ true = (and_parts b (nat_le until now) e).1 in let le : until ≤ now = grind (arith, nat_tests) in absurd (omega (arith, ahead, le))

fresh_is_due : (k : Limits) (t : ClientTiming) (now renew pace : ℕ) (o : Operation) → o.is_fresh ≡ true → Stage o.is_fresh k t now renew pace o → Fresh k now renew pace o
fresh_is_due k t now renew pace o e h = subst (λ (b : Bool). Stage b k t now renew pace o) e h

waits_due : (k : Limits) (now : ℕ) (s : Session) (o : Operation) → Ran k now (record s { operation = Some o }) → nat_lt now o.due.0 ≡ true → o.is_fresh ≡ true → ⊥
waits_due k now s o run early fresh =
    let h = fresh_is_due k (request_timing s) now s.renew.0 s.paced.0 o fresh run.pending in
    let begun : o.due.0 ≤ now = h.begun in
    let lt : now < o.due.0 = grind (arith, nat_tests) in
    absurd (omega (arith, begun, lt))

paced_due : (k : Limits) (now : ℕ) (s : Session) (o : Operation) → Ran k now (record s { operation = Some o }) → nat_lt now s.paced.0 ≡ true
    → DueIn o.is_fresh now o
paced_due k now s o run early = due_in o.is_fresh now o (λ f.
    let h = fresh_is_due k (request_timing s) now s.renew.0 s.paced.0 o f run.pending in
    let paced : s.paced.0 ≤ o.due.0 + PACE = h.paced in
    let lt : now < s.paced.0 = grind (arith, nat_tests) in
    omega (arith, paced, lt))

-- ---- the steps of the session

module _ (k : Limits) (now : ℕ) (key : Option (List ℕ)) (stream : Stream) where
  -- a keep-alive, or nothing
  quiet_step : (s : Session) → Running k now s → (is_ready s.phase ≡ true → NotFresh s.operation)
      → Kept k now s.phase (after_step (keep_alive_due (at_time now) s) (at_time now) key stream s).0
  quiet_step s run not_fresh =
      through (keep_alive_due (at_time now) s) (λ x. Kept k now s.phase (after_step x (at_time now) key stream s).0) (is_ready s.phase && nat_le s.quiet.0 now) _ _
      (λ e. lives k now (record { 0 = (fill_bytes 12 stream).0 }) s run not_fresh)
      (λ e. rests k now s run (λ r. due_now now s.renew.0 s.operation (not_fresh r) (run.ready r).early))

  no_response : (s : Session) (o : Operation) → Running k now (record s { operation = Some o }) → (is_ready s.phase ≡ true → ⊥)
      → Kept k now s.phase (failed_in s.phase (at_time now) None (record s { operation = Some o }))
  no_response s o run not_ready = record {
    holds = failed_unready k now now s.phase None (record s { operation = Some o }) run.paced not_ready;
    stays = λ r. absurd (not_ready r);
  }

  repeat_step : (s : Session) (o : Operation) → Running k now (record s { operation = Some o }) → nat_lt now o.due.0 ≡ false → o.is_fresh ≡ false
      → is_exhausted (request_timing s) o ≡ false
      → Kept k now s.phase (cond (is_exhausted (request_timing s) o) (record s { operation = Some o })
      (sending (at_time now) (record s { operation = Some (sent_once_more (at_time now) (request_timing s) o) })))
  repeat_step s o run due sent more =
      through s (λ x. Kept k now s.phase x) (is_exhausted (request_timing s) o) _ _ (λ e. absurd (cc (e, more))) (λ e. repeats k now s o run sent due)

  request_step : (s : Session) (o : Operation) → Running k now (record s { operation = Some o })
      → Kept k now s.phase (after_step (due_of (at_time now) (record s { operation = Some o }) o) (at_time now) key stream (record s { operation = Some o })).0
  request_step s o run =
      let t : Session = record s { operation = Some o } in
      through (due_of (at_time now) t o) (λ x. Kept k now s.phase (after_step x (at_time now) key stream t).0) (nat_lt now o.due.0) _ _
      (λ early. quiet_step t run (λ r f. waits_due k now s o (run.ready r) early f))
      (λ due. through (due_of (at_time now) t o) (λ x. Kept k now s.phase (after_step x (at_time now) key stream t).0) o.is_fresh _ _
      (λ fresh. attempts k now (record { 0 = (fill_bytes 12 stream).0 }) key s o run fresh)
      (λ sent. through (due_of (at_time now) t o) (λ x. Kept k now s.phase (after_step x (at_time now) key stream t).0) (is_exhausted (request_timing s) o) _ _
      (λ exhausted. no_response s o run (λ r. times_out_late k now s o (run.ready r) run.shown sent exhausted due))
      (λ more. repeat_step s o run due sent more)))

  or_step : (s : Session) (o : Option Operation) → Running k now (record s { operation = o })
      → Kept k now s.phase (after_step (due_or (at_time now) (record s { operation = o }) o) (at_time now) key stream (record s { operation = o })).0
  or_step s None run = quiet_step (record s { operation = None }) run (λ r. tt)
  or_step s (Some o) run = request_step s o run

  paced_due_or : (s : Session) (o : Option Operation) → Ran k now (record s { operation = o }) → nat_lt now s.paced.0 ≡ true → Due now s.renew.0 o
  paced_due_or s None run early = let e : now < s.renew.0 = run.early in omega (arith, e)
  paced_due_or s (Some o) run early = paced_due k now s o run early

  ends : (s : Session) → Running k now s → (is_ready s.phase && nat_le s.until.0 now) ≡ true → is_ready s.phase ≡ true → ⊥
  ends s run e r = at_end k now (is_ready s.phase) s.until.0 (run.ready r).ahead e

  pub session_step : (s : Session) → Running k now s → Kept k now s.phase (after_step (step_of (at_time now) s) (at_time now) key stream s).0
  session_step s run =
      through (step_of (at_time now) s) (λ x. Kept k now s.phase (after_step x (at_time now) key stream s).0) (is_ready s.phase && nat_le s.until.0 now) _ _
      (λ e. record { holds = unready k now now _ run.paced refl; stays = λ r. absurd (ends s run e r) })
      (λ e. through (step_of (at_time now) s) (λ x. Kept k now s.phase (after_step x (at_time now) key stream s).0) (nat_lt now s.paced.0) _ _
      (λ early. rests k now s run (λ r. paced_due_or s s.operation (run.ready r) early))
      (λ free. or_step s s.operation run))

-- ---- the steps of leases

idle_waits : (k : Limits) (now : ℕ) (s : Session) (o : Option Operation) → Ran k now (record s { operation = o }) → nat_le s.paced.0 now ≡ true
    → is_idle_step (due_or (at_time now) (record s { operation = o }) o) ≡ true → NotFresh o
idle_waits k now s None run free idle = tt
idle_waits k now s (Some o) run free idle =
    through (due_of (at_time now) (record s { operation = Some o }) o) (λ x. is_idle_step x ≡ true → o.is_fresh ≡ true → ⊥) (nat_lt now o.due.0) _ _
    (λ early idle fresh. waits_due k now s o run early fresh)
    (λ due. through (due_of (at_time now) (record s { operation = Some o }) o) (λ x. is_idle_step x ≡ true → o.is_fresh ≡ true → ⊥) o.is_fresh _ _
    (λ fresh idle _. absurd (cc idle)) (λ sent idle fresh. absurd (cc (sent, fresh)))) idle

free_step : (now paced : ℕ) → nat_le paced now ≡ true → nat_lt now paced ≡ true → ⊥
free_step now paced free early = let le : paced ≤ now = grind (arith, nat_tests) in let lt : now < paced = grind (arith, nat_tests) in absurd (omega (arith, le, lt))

idle_not_fresh : (k : Limits) (now : ℕ) (s : Session) → Ran k now s → nat_le s.paced.0 now ≡ true → is_idle_step (step_of (at_time now) s) ≡ true → NotFresh s.operation
idle_not_fresh k now s run free idle =
    through (step_of (at_time now) s) (λ x. is_idle_step x ≡ true → NotFresh s.operation) (is_ready s.phase && nat_le s.until.0 now) _ _
    (λ e idle. absurd (cc idle))
    (λ e. through (step_of (at_time now) s) (λ x. is_idle_step x ≡ true → NotFresh s.operation) (nat_lt now s.paced.0) _ _
    (λ early idle. absurd (free_step now s.paced.0 free early)) (λ later idle. idle_waits k now s s.operation run free idle)) idle

lease_sends : (k : Limits) (now : ℕ) (t : ClientTiming) (o : Option Operation) (s : Session) → Running k now s → (is_ready s.phase ≡ true → NotFresh s.operation)
    → Kept k now s.phase (sending_for (step_for t o) (at_time now) s)
lease_sends k now t None s run not_fresh = rests k now s run (λ r. due_now now s.renew.0 s.operation (not_fresh r) (run.ready r).early)
lease_sends k now t (Some o) s run not_fresh =
    let rest = rests k now s run (λ r. due_now now s.renew.0 s.operation (not_fresh r) (run.ready r).early) in
    through (step_for t (Some o)) (λ x. Kept k now s.phase (sending_for x (at_time now) s)) o.is_fresh _ _ (λ e. sends k now s run not_fresh)
    (λ e. through (step_for t (Some o)) (λ x. Kept k now s.phase (sending_for x (at_time now) s)) (is_exhausted t o) _ _ (λ e. rest)
    (λ e. sends k now s run not_fresh))

some_due : (b : Bool) (q : Option ℕ) (place : ℕ) → cond b q None ≡ Some place → b ≡ true
some_due true q place e = refl
some_due false q place e = absurd (cc e)

kept_is : (k : Limits) (now : ℕ) (s x new : Session) → new ≡ x → Kept k now s.phase x → Kept k now s.phase new
kept_is k now s x new e h = subst (λ (y : Session). Kept k now s.phase y) (sym e) h

pub timeout_kept : (k : Limits) (now : ℕ) (key : Option (List ℕ)) (stream : Stream) (s : Session) (l : List Lease) (p : Option ℕ) (new : Session) (l_new : List Lease)
    (stream_new : Stream) → lease_due (at_time now) (step_of (at_time now) s) s l ≡ p → Running k now s
    → TimesOutBy p (step_of (at_time now) s) (at_time now) key stream s l new l_new stream_new → Kept k now s.phase new
timeout_kept k now key stream s l None new l_new stream_new e run does =
    kept_is k now s (after_step (step_of (at_time now) s) (at_time now) key stream s).0 new (ap (λ (x : Session × Stream). x.0) does.0)
    (session_step k now key stream s run)
timeout_kept k now key stream s l (Some place) new l_new stream_new e run does =
    let is : (is_ready s.phase && (is_idle_step (step_of (at_time now) s) && nat_le s.paced.0 now)) ≡ true =
    some_due (is_ready s.phase && (is_idle_step (step_of (at_time now) s) && nat_le s.paced.0 now)) (due_place (at_time now) l) place e in
    let idle = and_parts (is_idle_step (step_of (at_time now) s)) (nat_le s.paced.0 now)
    (and_parts (is_ready s.phase) (is_idle_step (step_of (at_time now) s) && nat_le s.paced.0 now) is).1 in
    kept_is k now s (sending_for (step_at place s l) (at_time now) s) new does.0
    (lease_sends k now s.timing (at_place place l).operation s run (λ r. idle_not_fresh k now s (run.ready r) idle.1 idle.0))
