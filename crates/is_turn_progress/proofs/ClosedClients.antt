-- A client with an allocation that is closed sends two requests at most, and then it ends.
use Rattle.std.proofs.Common.{◌≡◌, ◌⊎◌, ℕ, ◌+◌, ◌*◌, ◌≤◌, ◌==◌, max, min, Bool, true, false, cond, List, [], ◌∷◌, Option, None, nat_lt, nat_le, arith, refl, sym, ap, subst, ◌∙◌, inl, inr}
use Rattle.is_turn_progress.proofs.Common.{after_poll, after_route, after_step, at_time, attempted, Call, client_packet, ClientTiming, close, closed_in, Effect, fill_bytes, handle_timeout, Instant}
use Rattle.is_turn_progress.proofs.Common.{is_exhausted, key_now, lose, nat_tests, new_operation, next_client_time, Operation, PACE, permit, Phase, poll_event, poll_transmit, probe, probed, receive}
use Rattle.is_turn_progress.proofs.Common.{Refresh, routed, send, sending, sent_once_more, Session, session_after_event, start, State, step_of, Stream, time_after, TimesOut, turn_closed, turn_lost}
use Rattle.is_turn_progress.proofs.Common.{turn_started}
use Rattle.is_turn.specs.declared.session.Phase.TheVariants as phases
use Rattle.is_turn.specs.Timing.{wait_after}
use Rattle.is_turn_progress.specs.Closing.{CLOSING, IsClosed, IsFinal, IsUnchallenged, Passes, IsPunctualExecution, HasEnded, IsEndedBy}
use Rattle.is_turn_progress.proofs.HeldRequests.{held, Held, held_as, held_poll, held_event}
use Rattle.is_turn_progress.proofs.Steps.{by_cond}

abbrev frees : Session → Operation → Session
frees b o = held phases.Closing b o

-- while it closes a request is sent twice at most
abbrev twice : ClientTiming → ClientTiming
twice t = record t { requests = min t.requests 2 }

abbrev sent_after : Instant → Session → Session
sent_after now b = record b { paced = time_after now PACE; quiet = time_after now b.timing.keep_alive.0 }

-- ---- what each call is to it

abbrev Timed : State → Session → Operation → State → Type 0
Timed x b o new =
    (stream : Stream) × (stream_new : Stream)
    × ((new.session, stream_new) ≡ after_step (step_of (at_time new.clock) (frees b o)) (at_time new.clock) (key_now x.credentials) stream (frees b o))

abbrev Called : State → Session → Operation → State → Type 0
Called x b o new = Held phases.Closing b o new.session ⊎ (Timed x b o new ⊎ HasEnded new)

quiet : (x : State) (b : Session) (o : Operation) (new : State) (f : Session → Session) → x.session ≡ frees b o → new.session ≡ f x.session
    → Held phases.Closing b o (f (frees b o)) → Called x b o new
quiet x b o new f is step k = inl (subst (λ (s : Session). Held phases.Closing b o s) (sym (step ∙ ap f is)) k)

final : (x : State) (b : Session) (o : Operation) (new : State) → x.session ≡ frees b o → IsFinal x new → Called x b o new
final x b o new is (inl same) = quiet x b o new (λ s. s) is same (held_as phases.Closing b o (frees b o) refl)
final x b o new is (inr end) = inr (inr (search end))

called : (call : Call) (mac : List ℕ → List ℕ → List ℕ) (x : State) (b : Session) (o : Operation) (new : State) → x.session ≡ frees b o
    → Effect call mac new.clock x new → IsUnchallenged call x new → Called x b o new
called start mac x b o new is effect ordinary =
    quiet x b o new (turn_started (at_time new.clock)) is effect.0 (held_as phases.Closing b o (frees b o) refl)
called (close has) mac x b o new is effect ordinary =
    quiet x b o new (turn_closed (at_time new.clock) has) is effect.1.0 (held_as phases.Closing b o (frees b o) refl)
called lose mac x b o new is effect ordinary = inr (inr (ap (λ (s : Session). s.phase) (effect.0 ∙ ap turn_lost is)))
called (permit peer) mac x b o new is effect ordinary = quiet x b o new (λ s. s) is effect.0 (held_as phases.Closing b o (frees b o) refl)
called (send peer media) mac x b o new is effect ordinary =
    quiet x b o new (λ s. after_route (routed (at_time new.clock) peer media s x.leases).1 (at_time new.clock) s) is effect.0
    (held_as phases.Closing b o (frees b o) refl)
called probe mac x b o new is effect ordinary =
    quiet x b o new (probed (at_time new.clock)) is effect.0 (held_as phases.Closing b o (frees b o) refl)
called (handle_timeout stream stream_new) mac x b o new is effect ordinary =
    let step = subst (λ (s : Session). TimesOut (at_time new.clock) (key_now x.credentials) stream s x.leases new.session new.leases stream_new) is effect.1 in
    inr (inl (stream, stream_new, step.0))
called (poll_transmit result) mac x b o new is effect ordinary =
    quiet x b o new (λ s. after_poll result (client_packet s x.leases) s) is effect.0 (held_poll phases.Closing result b o x.leases)
called poll_event mac x b o new is effect ordinary =
    quiet x b o new (λ s. session_after_event s x.leases) is effect.0 (held_event phases.Closing x.leases b o)
called (receive bytes result) mac x b o new is effect ordinary = final x b o new is ordinary

-- ---- its clock

abbrev First : Instant → Option (List ℕ) → List ℕ → Session → Operation → Session → Type 0
First now key id b o new =
    (o.is_fresh ≡ true) × (new ≡ frees (sent_after now b) (attempted (record { id = record { 0 = id }; key = key; since = now }) (twice b.timing) o))

abbrev Again : Instant → Session → Operation → Session → Type 0
Again now b o new =
    (o.is_fresh ≡ false) × (is_exhausted (twice b.timing) o ≡ false) × (new ≡ frees (sent_after now b) (sent_once_more now (twice b.timing) o))

abbrev Step : Instant → Option (List ℕ) → List ℕ → Session → Operation → Session → Type 0
Step now key id b o new = Held phases.Closing b o new ⊎ (First now key id b o new ⊎ (Again now b o new ⊎ (new.phase ≡ phases.Ended)))

repeated_is : (e : Bool) (now : Instant) (b : Session) (o : Operation) (new : Session) → e ≡ false
    → new ≡ cond e (frees b o) (sending now (frees b (sent_once_more now (twice b.timing) o)))
    → new ≡ frees (sent_after now b) (sent_once_more now (twice b.timing) o)
repeated_is true now b o new h step = absurd (cc h)
repeated_is false now b o new h step = step

timed : (now : Instant) (key : Option (List ℕ)) (stream stream_new : Stream) (b : Session) (o : Operation) (new : Session)
    → (new, stream_new) ≡ after_step (step_of now (frees b o)) now key stream (frees b o) → Step now key (fill_bytes 12 stream).0 b o new
timed now key stream stream_new b o new =
    let Result : Type 0 = Step now key (fill_bytes 12 stream).0 b o new in
    let idle : (new, stream_new) ≡ (frees b o, stream) → Result = λ step. inl (held_as phases.Closing b o new (ap (λ (x : Session × Stream). x.0) step)) in
    by_cond (λ step. (new, stream_new) ≡ after_step step now key stream (frees b o) → Result) (nat_lt now.0 b.paced.0) _ _ (λ p. idle)
    (λ p. by_cond (λ step. (new, stream_new) ≡ after_step step now key stream (frees b o) → Result) (nat_lt now.0 o.due.0) _ _ (λ q. idle)
    (λ q. by_cond (λ step. (new, stream_new) ≡ after_step step now key stream (frees b o) → Result) o.is_fresh _ _
    (λ f. λ step. inr (inl (f, ap (λ (x : Session × Stream). x.0) step)))
    (λ f. by_cond (λ step. (new, stream_new) ≡ after_step step now key stream (frees b o) → Result) (is_exhausted (twice b.timing) o) _ _
    (λ e. λ step. inr (inr (inr (ap (λ (x : Session × Stream). x.0.phase) step))))
    (λ e. λ step. inr (inr (inl (f, e, repeated_is (is_exhausted (twice b.timing) o) now b o new e (ap (λ (x : Session × Stream). x.0) step))))))))

-- ---- how far it is

-- what is left after the time at which something is due: of both requests, of the second one, of none
abbrev Stage : ℕ → ℕ → ClientTiming → Operation → ℕ → Type 0
Stage d by t o time =
    ((o.is_fresh ≡ true) × (time + d + t.rto.0 + PACE + d + t.last_wait.0 + PACE + d ≤ by))
    ⊎ (((o.is_fresh ≡ false) × (o.sent ≡ 1) × (time + d + t.last_wait.0 + PACE + d ≤ by))
    ⊎ ((o.is_fresh ≡ false) × (is_exhausted (twice t) o ≡ true) × (time + d ≤ by)))

record Frees (d by : ℕ) (s : Session) : Type 0 where
  pub base : Session
  pub operation : Operation
  pub is : s ≡ frees base operation
  pub time : ℕ
  pub due : operation.due.0 ≤ time
  pub paced : base.paced.0 ≤ time
  pub stage : Stage d by base.timing operation time

soon_enough : (d by : ℕ) (t : ClientTiming) (o : Operation) (time : ℕ) → Stage d by t o time → time + d ≤ by
soon_enough d by t o time (inl h) = let le = h.1 in omega (arith, le)
soon_enough d by t o time (inr (inl h)) = let le = h.2 in omega (arith, le)
soon_enough d by t o time (inr (inr h)) = h.2

stage_held : (d by : ℕ) (t u : ClientTiming) (o x : Operation) (time : ℕ) → u ≡ t → x.is_fresh ≡ o.is_fresh → x.sent ≡ o.sent → Stage d by t o time
    → Stage d by u x time
stage_held d by t u o x time same fresh sent h =
    subst (λ (v : ClientTiming). Stage d by v x time) (sym same)
    (subst (λ (f : Bool). Stage d by t (record x { is_fresh = f }) time) (sym fresh)
    (subst (λ (n : ℕ). Stage d by t (record x { is_fresh = o.is_fresh; sent = n }) time) (sym sent) h))

frees_held : (d by : ℕ) (s new : Session) → (h : Frees d by s) → Held phases.Closing h.base h.operation new → Frees d by new
frees_held d by s new h k = record {
  base = k.base;
  operation = k.operation;
  is = k.is;
  time = h.time;
  due = let le = h.due in omega (arith, k.due, le);
  paced = let le = h.paced in omega (arith, k.paced, le);
  stage = stage_held d by h.base.timing k.base.timing h.operation k.operation h.time k.timing k.fresh k.sent h.stage;
}

-- the first request, after which another one may be sent or none
first_waits : (t : ClientTiming) (e : Bool) → nat_le (min t.requests 2) 1 ≡ e → wait_after (twice t) 1 t.rto.0 ≡ cond e t.last_wait.0 (min t.rto.0 t.longest_wait.0)
first_waits t e h = rw h refl

abbrev First_of : ℕ → ℕ → Session → Operation → Session → ℕ → Option (List ℕ) → List ℕ → Type 0
First_of d by b o new now key id =
    new ≡ frees (sent_after (at_time now) b) (attempted (record { id = record { 0 = id }; key = key; since = at_time now }) (twice b.timing) o)

first_sent : (d by : ℕ) (b : Session) (o : Operation) (new : Session) (time now : ℕ) (key : Option (List ℕ)) (id : List ℕ) (e : Bool)
    → nat_le (min b.timing.requests 2) 1 ≡ e → now ≤ time + d → time + d + b.timing.rto.0 + PACE + d + b.timing.last_wait.0 + PACE + d ≤ by
    → First_of d by b o new now key id → Frees d by new
first_sent d by b o new time now key id true h le left is =
    let wait = first_waits b.timing true h in record {
      base = sent_after (at_time now) b;
      operation = attempted (record { id = record { 0 = id }; key = key; since = at_time now }) (twice b.timing) o;
      is = is;
      time = now + b.timing.last_wait.0 + PACE;
      due = rw wait (omega arith);
      paced = omega arith;
      stage = inr (inr (refl, h, omega (arith, left, le)));
    }
first_sent d by b o new time now key id false h le left is =
    let wait = first_waits b.timing false h in record {
      base = sent_after (at_time now) b;
      operation = attempted (record { id = record { 0 = id }; key = key; since = at_time now }) (twice b.timing) o;
      is = is;
      time = now + b.timing.rto.0 + PACE;
      due = rw wait (omega arith);
      paced = omega arith;
      stage = inr (inl (refl, refl, omega (arith, left, le)));
    }

frees_first_by : (d by : ℕ) (b : Session) (o : Operation) (new : Session) (time now : ℕ) (key : Option (List ℕ)) (id : List ℕ) → now ≤ time + d
    → Stage d by b.timing o time → First (at_time now) key id b o new → Frees d by new
frees_first_by d by b o new time now key id le (inl h) step =
    first_sent d by b o new time now key id (nat_le (min b.timing.requests 2) 1) refl le h.1 step.1
frees_first_by d by b o new time now key id le (inr (inl h)) step = let f = h.0 in let g = step.0 in absurd (cc (f, g))
frees_first_by d by b o new time now key id le (inr (inr h)) step = let f = h.0 in let g = step.0 in absurd (cc (f, g))

two_exhaust : (r : ℕ) → nat_le (min r 2) 2 ≡ true
two_exhaust r = grind (arith, nat_tests)

last_repeat : (t : ClientTiming) (sent wait : ℕ) → sent ≡ 1
    → cond (sent == 0) (wait_after (twice t) 1 t.rto.0) (wait_after (twice t) (sent + 1) (wait * 2)) ≡ t.last_wait.0
last_repeat t sent wait h = let exhausted = two_exhaust t.requests in rw h (rw exhausted refl)

second_exhausts : (t : ClientTiming) (sent : ℕ) → sent ≡ 1 → nat_le (min t.requests 2) (sent + 1) ≡ true
second_exhausts t sent h = rw h (two_exhaust t.requests)

-- the second one
frees_again_by : (d by : ℕ) (b : Session) (o : Operation) (new : Session) (time now : ℕ) → now ≤ time + d → Stage d by b.timing o time
    → Again (at_time now) b o new → Frees d by new
frees_again_by d by b o new time now le (inl h) step = let f = h.0 in let g = step.0 in absurd (cc (f, g))
frees_again_by d by b o new time now le (inr (inl h)) step =
    let left = h.2 in
    let one = h.1 in
    let wait = last_repeat b.timing o.sent o.wait.0 one in record {
      base = sent_after (at_time now) b;
      operation = sent_once_more (at_time now) (twice b.timing) o;
      is = step.2;
      time = now + b.timing.last_wait.0 + PACE;
      due = rw wait (omega arith);
      paced = omega arith;
      stage = inr (inr (h.0, second_exhausts b.timing o.sent one, omega (arith, left, le)));
    }
frees_again_by d by b o new time now le (inr (inr h)) step =
    let all = h.1 in
    let more = step.1 in
    absurd (cc (all, more))

abbrev Next : ℕ → ℕ → State → Type 0
Next d by new = HasEnded new ⊎ Frees d by new.session

frees_timed : (d by : ℕ) (x new : State) (id : List ℕ) → (h : Frees d by x.session) → new.clock ≤ h.time + d
    → Step (at_time new.clock) (key_now x.credentials) id h.base h.operation new.session → Next d by new
frees_timed d by x new id h le (inl k) = inr (frees_held d by x.session new.session h k)
frees_timed d by x new id h le (inr (inl k)) =
    inr (frees_first_by d by h.base h.operation new.session h.time new.clock (key_now x.credentials) id le h.stage k)
frees_timed d by x new id h le (inr (inr (inl k))) = inr (frees_again_by d by h.base h.operation new.session h.time new.clock le h.stage k)
frees_timed d by x new id h le (inr (inr (inr end))) = inl end

frees_called : (d by : ℕ) (x new : State) → (h : Frees d by x.session) → new.clock ≤ h.time + d → Called x h.base h.operation new → Next d by new
frees_called d by x new h le (inl k) = inr (frees_held d by x.session new.session h k)
frees_called d by x new h le (inr (inl t)) =
    frees_timed d by x new (fill_bytes 12 t.0).0 h le (timed (at_time new.clock) (key_now x.credentials) t.0 t.1 h.base h.operation new.session t.2)
frees_called d by x new h le (inr (inr end)) = inl end

-- ---- runs

passed : (mac : List ℕ → List ℕ → List ℕ) (d by : ℕ) (x new : State) → Frees d by x.session → Passes mac d x new → (new.clock ≤ by) × Next d by new
passed mac d by x new h step =
    let late = step.punctual (at_time (max h.operation.due.0 h.base.paced.0)) (ap (λ (s : Session). next_client_time s x.leases) h.is) in
    let due = h.due in
    let paced = h.paced in
    let le : new.clock ≤ h.time + d = omega (arith, late, due, paced) in
    let most = soon_enough d by h.base.timing h.operation h.time h.stage in
    (omega (arith, le, most), frees_called d by x new h le (called step.step.call mac x h.base h.operation new h.is step.step.effect step.unchallenged))

ended_or : (d by : ℕ) (x : State) (run : List State) → (Frees d by x.session → IsEndedBy by run) → Next d by x → HasEnded x ⊎ IsEndedBy by run
ended_or d by x run go (inl h) = inl h
ended_or d by x run go (inr h) = inr (go h)

ended_from : (mac : List ℕ → List ℕ → List ℕ) (d by : ℕ) (x : State) (run : List State) → Frees d by x.session → IsPunctualExecution mac d x run → IsEndedBy by run
ended_from mac d by x [] h steps = tt
ended_from mac d by x (next ∷ rest) h steps =
    let after = passed mac d by x next h steps.0 in
    (omega (arith, after.0), ended_or d by next rest (λ k. ended_from mac d by next rest k steps.1) after.1)

closed_frees : (time d : ℕ) (x : State) → (h : IsClosed time d x) → Frees d (time + CLOSING h.before.timing d) x.session
closed_frees time d x h =
    let paced = h.paced in record {
      base = record h.before { allocation = None; alive = None };
      operation = new_operation (Refresh 0) (at_time time);
      is = h.session ∙ ap (λ (p : Phase). closed_in p (at_time time) h.has_credentials h.before) h.ready;
      time = time + PACE;
      due = omega arith;
      paced = omega (arith, paced);
      stage = inl (refl, omega arith);
    }

pub ended_in_time : (mac : List ℕ → List ℕ → List ℕ) (time d : ℕ) (x : State) (run : List State) → (h : IsClosed time d x) → IsPunctualExecution mac d x run
    → IsEndedBy (time + CLOSING h.before.timing d) run
ended_in_time mac time d x run h steps = ended_from mac d (time + CLOSING h.before.timing d) x run (closed_frees time d x h) steps
