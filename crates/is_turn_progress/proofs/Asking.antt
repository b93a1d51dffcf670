-- A client that requests an allocation: what calls and the clock leave of its request.
use Rattle.std.proofs.Common.{◌≡◌, ◌⊎◌, ℕ, ◌+◌, ◌*◌, ◌<◌, ◌≤◌, ◌==◌, max, Bool, true, false, cond, List, Option, Some, None, nat_lt, nat_le, arith, refl, sym, ap, subst, ◌∙◌, inl, inr}
use Rattle.is_turn_progress.proofs.Common.{after_step, Allocate, at_time, Attempt, attempted, Challenge, ClientTiming, Credentials, fill_bytes, Instant, is_exhausted, key_now, Lease, nat_tests}
use Rattle.is_turn_progress.proofs.Common.{next_client_time, Operation, PACE, sending, sent_once_more, Session, step_of, Stream, time_after, waiting}
use Rattle.is_proto.specs.Times.{MAX, later}
use Rattle.is_stun.specs.declared.requested.AddressFamily.{AddressFamily}
use Rattle.is_turn.specs.declared.attempts.Attempts.{Attempts}
use Rattle.is_turn.specs.declared.session.Phase.TheVariants as phases
use Rattle.is_turn.specs.Timing.{wait_after}
use Rattle.is_turn_progress.proofs.HeldRequests.{held, Held, held_as}
use Rattle.is_turn_progress.proofs.Steps.{by_cond}

-- ---- the client while it asks

abbrev pub asks : Session → Operation → Session
asks b o = held phases.Asking b o

abbrev pub Like : Session → Operation → Session → Type 0
Like b o new = Held phases.Asking b o new

pub like : (b : Session) (o : Operation) (new : Session) → new ≡ asks b o → Like b o new
like b o new h = held_as phases.Asking b o new h

-- ---- the clock

abbrev pub sent_base : Instant → Session → Session
sent_base now b = record b { paced = time_after now PACE; quiet = time_after now b.timing.keep_alive.0 }

-- another attempt, if it is fresh
pub fresh_timed : (now : Instant) (key : Option (List ℕ)) (stream stream_new : Stream) (b : Session) (o : Operation) (new : Session)
    → o.is_fresh ≡ true → (new, stream_new) ≡ after_step (step_of now (asks b o)) now key stream (asks b o)
    → Like b o new
    ⊎ (new ≡ asks (sent_base now b) (attempted (record { id = record { 0 = (fill_bytes 12 stream).0 }; key = key; since = now }) b.timing o))
fresh_timed now key stream stream_new b o new h =
    let Result : Type 0 =
    Like b o new
    ⊎ (new ≡ asks (sent_base now b) (attempted (record { id = record { 0 = (fill_bytes 12 stream).0 }; key = key; since = now }) b.timing o)) in
    let idle : (new, stream_new) ≡ (asks b o, stream) → Result = λ step. inl (like b o new (ap (λ (x : Session × Stream). x.0) step)) in
    by_cond (λ step. (new, stream_new) ≡ after_step step now key stream (asks b o) → Result) (nat_lt now.0 b.paced.0) _ _ (λ p. idle)
    (λ p. by_cond (λ step. (new, stream_new) ≡ after_step step now key stream (asks b o) → Result) (nat_lt now.0 o.due.0) _ _ (λ q. idle)
    (λ q. by_cond (λ step. (new, stream_new) ≡ after_step step now key stream (asks b o) → Result) o.is_fresh _ _
    (λ f. λ step. inr (ap (λ (x : Session × Stream). x.0) step)) (λ f. λ step. absurd (cc (h, f)))))

-- another packet, if it is not exhausted
repeated_is : (e : Bool) (now : Instant) (b : Session) (o : Operation) (new : Session) → e ≡ false
    → new ≡ cond e (asks b o) (sending now (asks b (sent_once_more now b.timing o))) → new ≡ asks (sent_base now b) (sent_once_more now b.timing o)
repeated_is true now b o new h step = absurd (cc h)
repeated_is false now b o new h step = step

pub waiting_timed : (now : Instant) (key : Option (List ℕ)) (stream stream_new : Stream) (b : Session) (o : Operation) (new : Session)
    → o.is_fresh ≡ false → (nat_lt now.0 o.due.0 ≡ false → is_exhausted b.timing o ≡ true → ⊥)
    → (new, stream_new) ≡ after_step (step_of now (asks b o)) now key stream (asks b o)
    → Like b o new ⊎ (new ≡ asks (sent_base now b) (sent_once_more now b.timing o))
waiting_timed now key stream stream_new b o new h never =
    let Result : Type 0 = Like b o new ⊎ (new ≡ asks (sent_base now b) (sent_once_more now b.timing o)) in
    let idle : (new, stream_new) ≡ (asks b o, stream) → Result = λ step. inl (like b o new (ap (λ (x : Session × Stream). x.0) step)) in
    by_cond (λ step. (new, stream_new) ≡ after_step step now key stream (asks b o) → Result) (nat_lt now.0 b.paced.0) _ _ (λ p. idle)
    (λ p. by_cond (λ step. (new, stream_new) ≡ after_step step now key stream (asks b o) → Result) (nat_lt now.0 o.due.0) _ _ (λ q. idle)
    (λ q. by_cond (λ step. (new, stream_new) ≡ after_step step now key stream (asks b o) → Result) o.is_fresh _ _ (λ f. λ step. absurd (cc (h, f)))
    (λ f. by_cond (λ step. (new, stream_new) ≡ after_step step now key stream (asks b o) → Result) (is_exhausted b.timing o) _ _
    (λ e. λ step. absurd (never q e))
    (λ e. λ step. inr (repeated_is (is_exhausted b.timing o) now b o new e (ap (λ (x : Session × Stream). x.0) step))))))

-- ---- the two stages

abbrev pub more_by : Option Challenge → ℕ → ℕ → ℕ
more_by None r d = r + d
more_by (Some challenge) r d = 0

-- how much later, if a challenge is still to come
abbrev pub more : Option Credentials → ℕ → ℕ → ℕ
more None r d = 0
more (Some c) r d = more_by c.challenge r d

abbrev pub KnowsPassword : Option Credentials → Type 0
KnowsPassword None = Unit {0}
KnowsPassword (Some c) = (password : List ℕ) × (c.password ≡ Some password)

-- an attempt is due by a time
pub record Begins (r d by : ℕ) (s : Session) (c : Option Credentials) : Type 0 where
  pub base : Session
  pub operation : Operation
  pub is : s ≡ asks base operation
  pub lifetime : ℕ
  pub family : Option AddressFamily
  pub request : operation.request ≡ Allocate lifetime family
  pub fresh : operation.is_fresh ≡ true
  pub time : ℕ
  pub due : operation.due.0 ≤ time
  pub paced : base.paced.0 ≤ time
  pub enough : time + d + r + more c r d ≤ by
  pub soon : r < base.timing.last_wait.0
  pub knows : KnowsPassword c

-- an attempt waits for its response, and does not time out before it
pub record Waits (r d by : ℕ) (s : Session) (c : Option Credentials) (now : ℕ) : Type 0 where
  pub base : Session
  pub operation : Operation
  pub is : s ≡ asks base operation
  pub lifetime : ℕ
  pub family : Option AddressFamily
  pub request : operation.request ≡ Allocate lifetime family
  pub fresh : operation.is_fresh ≡ false
  pub attempt : Attempt
  pub last : operation.attempts.last ≡ Some attempt
  pub key : attempt.key ≡ key_now c
  pub lasting : base.timing.requests ≤ operation.sent → later attempt.since.0 base.timing.last_wait.0 ≤ operation.due.0
  pub since : attempt.since.0 ≤ now
  pub paced : base.paced.0 ≤ now + PACE
  pub enough : attempt.since.0 + r + more c r d ≤ by
  pub soon : r < base.timing.last_wait.0
  pub knows : KnowsPassword c

abbrev pub Stage : ℕ → ℕ → ℕ → Session → Option Credentials → ℕ → Type 0
Stage r d by s c now = Begins r d by s c ⊎ Waits r d by s c now

pub begins_like : (r d by : ℕ) (s new : Session) (c : Option Credentials) → (h : Begins r d by s c) → Like h.base h.operation new → Begins r d by new c
begins_like r d by s new c h k = record {
  base = k.base;
  operation = k.operation;
  is = k.is;
  lifetime = h.lifetime;
  family = h.family;
  request = k.request ∙ h.request;
  fresh = k.fresh ∙ h.fresh;
  time = h.time;
  due = omega (arith, k.due, h.due);
  paced = omega (arith, k.paced, h.paced);
  enough = h.enough;
  soon = subst (λ (t : ClientTiming). r < t.last_wait.0) (sym k.timing) h.soon;
  knows = h.knows;
}

abbrev IsLasting : ClientTiming → ℕ → Attempt → ℕ → Type 0
IsLasting t sent a due = t.requests ≤ sent → later a.since.0 t.last_wait.0 ≤ due

pub waits_like : (r d by : ℕ) (s new : Session) (c : Option Credentials) (now after : ℕ) → now ≤ after → (h : Waits r d by s c now)
    → Like h.base h.operation new → Waits r d by new c after
waits_like r d by s new c now after le h k = record {
  base = k.base;
  operation = k.operation;
  is = k.is;
  lifetime = h.lifetime;
  family = h.family;
  request = k.request ∙ h.request;
  fresh = k.fresh ∙ h.fresh;
  attempt = h.attempt;
  last = ap (λ (a : Attempts). a.last) k.attempts ∙ h.last;
  key = h.key;
  lasting = subst (λ (t : ClientTiming). IsLasting t k.operation.sent h.attempt k.operation.due.0) (sym k.timing)
      (subst (λ (n : ℕ). IsLasting h.base.timing n h.attempt k.operation.due.0) (sym k.sent)
      (subst (λ (n : ℕ). IsLasting h.base.timing h.operation.sent h.attempt n) (sym k.due) h.lasting));
  since = omega (arith, le, h.since);
  paced = omega (arith, le, k.paced, h.paced);
  enough = h.enough;
  soon = subst (λ (t : ClientTiming). r < t.last_wait.0) (sym k.timing) h.soon;
  knows = h.knows;
}

-- ---- what is sent

first_lasts : (t : ClientTiming) (since usual : ℕ) → t.requests ≤ 1 → later since t.last_wait.0 ≤ later since (wait_after t 1 usual)
first_lasts t since usual h = let at : nat_le t.requests 1 ≡ true = grind (arith, nat_tests, h) in rw at (omega arith)

pub begins_attempted : (r d by : ℕ) (s new : Session) (c : Option Credentials) (now : ℕ) (id : List ℕ) (h : Begins r d by s c)
    → now ≤ h.time + d
    → new ≡ asks (sent_base (at_time now) h.base) (attempted (record { id = record { 0 = id }; key = key_now c; since = at_time now }) h.base.timing h.operation)
    → Waits r d by new c now
begins_attempted r d by s new c now id h le is = record {
  base = sent_base (at_time now) h.base;
  operation = attempted (record { id = record { 0 = id }; key = key_now c; since = at_time now }) h.base.timing h.operation;
  is = is;
  lifetime = h.lifetime;
  family = h.family;
  request = h.request;
  fresh = refl;
  attempt = record { id = record { 0 = id }; key = key_now c; since = at_time now };
  last = refl;
  key = refl;
  lasting = first_lasts h.base.timing now h.base.timing.rto.0;
  since = omega arith;
  paced = omega arith;
  enough = let most = h.enough in omega (arith, le, most);
  soon = h.soon;
  knows = h.knows;
}

repeat_lasts_by : (zero : Bool) (t : ClientTiming) (sent since now wait : ℕ) → t.requests ≤ sent + 1 → since ≤ now → (zero ≡ true → sent ≡ 0)
    → later since t.last_wait.0 ≤ later now (cond zero (wait_after t 1 t.rto.0) (wait_after t (sent + 1) (wait * 2)))
repeat_lasts_by true t sent since now wait h le is =
    let none = is refl in
    let at : nat_le t.requests 1 ≡ true = grind (arith, nat_tests, h, none) in rw at (omega (arith, le))
repeat_lasts_by false t sent since now wait h le is =
    let at : nat_le t.requests (sent + 1) ≡ true = grind (arith, nat_tests, h) in rw at (omega (arith, le))

pub waits_repeated : (r d by : ℕ) (s new : Session) (c : Option Credentials) (now after : ℕ) → now ≤ after → (h : Waits r d by s c now)
    → new ≡ asks (sent_base (at_time after) h.base) (sent_once_more (at_time after) h.base.timing h.operation) → Waits r d by new c after
waits_repeated r d by s new c now after le h is = record {
  base = sent_base (at_time after) h.base;
  operation = sent_once_more (at_time after) h.base.timing h.operation;
  is = is;
  lifetime = h.lifetime;
  family = h.family;
  request = h.request;
  fresh = h.fresh;
  attempt = h.attempt;
  last = h.last;
  key = h.key;
  lasting = λ all. repeat_lasts_by (h.operation.sent == 0) h.base.timing h.operation.sent h.attempt.since.0 after h.operation.wait.0 all
      (omega (arith, le, h.since)) (λ is. grind (arith, nat_tests, is));
  since = omega (arith, le, h.since);
  paced = omega arith;
  enough = h.enough;
  soon = h.soon;
  knows = h.knows;
}

never_in_time : (q e : Bool) (t : ClientTiming) (o : Operation) (since r now by : ℕ) → q ≡ nat_lt now o.due.0 → e ≡ is_exhausted t o
    → (t.requests ≤ o.sent → later since t.last_wait.0 ≤ o.due.0) → r < t.last_wait.0 → now ≤ since + r → now < MAX → q ≡ false → e ≡ true → ⊥
never_in_time q e t o since r now by is_q is_e lasting soon served before passed all_sent =
    let all : t.requests ≤ o.sent = grind (arith, nat_tests, sym is_e ∙ all_sent) in
    let late : o.due.0 ≤ now = grind (arith, nat_tests, sym is_q ∙ passed) in
    let from = lasting all in absurd (omega (arith, late, from, soon, served, before))

pub never_exhausted : (r d by : ℕ) (s : Session) (c : Option Credentials) (now after : ℕ) → (h : Waits r d by s c now) → after ≤ h.attempt.since.0 + r
    → after < MAX → nat_lt after h.operation.due.0 ≡ false → is_exhausted h.base.timing h.operation ≡ true → ⊥
never_exhausted r d by s c now after h served before =
    never_in_time (nat_lt after h.operation.due.0) (is_exhausted h.base.timing h.operation) h.base.timing h.operation h.attempt.since.0 r after by refl refl
    h.lasting h.soon served before

-- ---- which attempt waits, and until when

waits_last : (f : Bool) (last : Option Attempt) (a : Attempt) → f ≡ false → last ≡ Some a → cond f None last ≡ Some a
waits_last true last a h k = absurd (cc h)
waits_last false last a h k = k

pub waits_for : (r d by : ℕ) (s : Session) (c : Option Credentials) (now : ℕ) → (h : Waits r d by s c now) → waiting s ≡ Some h.attempt
waits_for r d by s c now h = ap waiting h.is ∙ waits_last h.operation.is_fresh h.operation.attempts.last h.attempt h.fresh h.last

pub begins_next : (r d by : ℕ) (s : Session) (c : Option Credentials) (l : List Lease) → (h : Begins r d by s c)
    → next_client_time s l ≡ Some (at_time (max h.operation.due.0 h.base.paced.0))
begins_next r d by s c l h = ap (λ (x : Session). next_client_time x l) h.is
