-- A client that is started has its allocation in time: each call and each right response leads from one stage to the next.
use Rattle.std.proofs.Common.{◌≡◌, ◌⊎◌, ℕ, ◌+◌, ◌<◌, ◌≤◌, max, Bool, true, false, cond, List, [], ◌∷◌, Option, Some, None, arith, refl, sym, ap, subst, ◌∙◌, inl, inr}
use Rattle.is_turn_progress.proofs.Common.{after_poll, after_route, after_step, Allocate, ALLOCATING, Allocation, alternate_in, another, at_time, Attempt, attempted, Call, Challenge, client_packet}
use Rattle.is_turn_progress.proofs.Common.{close, Credentials, Datagram, Effect, fill_bytes, handle_timeout, IsAllocated, IsAnswered, IsAnsweredRun, IsExpected, IsNewUser, IsOrdinary, IsReachedBy}
use Rattle.is_turn_progress.proofs.Common.{IsReceived, IsReceivedAs, IsRespondedBy, IsRight, IsRightTo, IsStarted, kept_credentials, key_now, lose, Message, new_operation, new_session, Operation}
use Rattle.is_turn_progress.proofs.Common.{Passes, permit, poll_event, poll_transmit, probe, probed, Receipt, receive, routed, send, sent_once_more, Session, session_after_event, SocketAddr, start}
use Rattle.is_turn_progress.proofs.Common.{State, step_of, Stream, TimesOut, turn_started, waiting, without_pace}
use Rattle.is_proto.specs.Times.{MAX}
use Rattle.is_turn.specs.declared.session.Phase.TheVariants as phases
use Rattle.is_turn_progress.proofs.Asking.{asks, sent_base, Like, like, fresh_timed, waiting_timed, more, more_by, KnowsPassword, Begins, Waits, Stage, begins_like, waits_like, begins_attempted, waits_repeated, never_exhausted, waits_for, begins_next}
use Rattle.is_turn_progress.proofs.HeldRequests.{held_poll, held_event}
use Rattle.is_turn_progress.proofs.AllocateResponses.{IsLast, with_key, challenge_applies, open_success, signed_success}

-- ---- what each call is to a client that asks

abbrev Quiet : State → Session → Operation → State → Type 0
Quiet x b o new = Like b o new.session × (new.credentials ≡ x.credentials)

-- its clock
abbrev Timed : State → Session → Operation → State → Type 0
Timed x b o new =
    (stream : Stream) × (stream_new : Stream)
    × ((new.session, stream_new) ≡ after_step (step_of (at_time new.clock) (asks b o)) (at_time new.clock) (key_now x.credentials) stream (asks b o))
    × (new.credentials ≡ kept_credentials new.session x.credentials)

abbrev Received : (List ℕ → List ℕ → List ℕ) → State → State → Type 0
Received mac x new =
    (bytes : List ℕ) × (result : Receipt) × IsExpected mac bytes x
    × IsReceived mac (at_time new.clock) bytes x.session x.leases x.credentials result new.session new.leases new.credentials

abbrev Called : (List ℕ → List ℕ → List ℕ) → State → Session → Operation → State → Type 0
Called mac x b o new = Quiet x b o new ⊎ (Timed x b o new ⊎ Received mac x new)

quiet : (mac : List ℕ → List ℕ → List ℕ) (x : State) (b : Session) (o : Operation) (new : State) (f : Session → Session) → x.session ≡ asks b o
    → new.session ≡ f x.session → Like b o (f (asks b o)) → new.credentials ≡ x.credentials → Called mac x b o new
quiet mac x b o new f is step k e = inl (subst (λ (s : Session). Like b o s) (sym (step ∙ ap f is)) k, e)

received : (mac : List ℕ → List ℕ → List ℕ) (bytes : List ℕ) (result : Receipt) (x : State) (b : Session) (o : Operation) (new : State) → x.session ≡ asks b o
    → IsReceived mac (at_time new.clock) bytes x.session x.leases x.credentials result new.session new.leases new.credentials
    → IsOrdinary (receive bytes result) mac x new → Called mac x b o new
received mac bytes result x b o new is effect (inl expected) = inr (inr (bytes, result, expected, effect))
received mac bytes result x b o new is effect (inr idle) = quiet mac x b o new (λ s. s) is idle.0 (like b o (asks b o) refl) idle.1

called : (call : Call) (mac : List ℕ → List ℕ → List ℕ) (x : State) (b : Session) (o : Operation) (new : State) → x.session ≡ asks b o
    → Effect call mac new.clock x new → IsOrdinary call mac x new → Called mac x b o new
called start mac x b o new is effect ordinary =
    quiet mac x b o new (turn_started (at_time new.clock)) is effect.0 (like b o (asks b o) refl) effect.2
called (close has) mac x b o new is effect ordinary = let never : ⊥ = search ordinary in absurd never
called lose mac x b o new is effect ordinary = let never : ⊥ = search ordinary in absurd never
called (permit peer) mac x b o new is effect ordinary = quiet mac x b o new (λ s. s) is effect.0 (like b o (asks b o) refl) effect.2
called (send peer media) mac x b o new is effect ordinary =
    quiet mac x b o new (λ s. after_route (routed (at_time new.clock) peer media s x.leases).1 (at_time new.clock) s) is effect.0 (like b o (asks b o) refl) effect.2
called probe mac x b o new is effect ordinary = quiet mac x b o new (probed (at_time new.clock)) is effect.0 (like b o (asks b o) refl) effect.2
called (handle_timeout stream stream_new) mac x b o new is effect ordinary =
    let step = subst (λ (s : Session). TimesOut (at_time new.clock) (key_now x.credentials) stream s x.leases new.session new.leases stream_new) is effect.1 in
    inr (inl (stream, stream_new, step.0, effect.0))
called (poll_transmit result) mac x b o new is effect ordinary =
    quiet mac x b o new (λ s. after_poll result (client_packet s x.leases) s) is effect.0 (held_poll phases.Asking result b o x.leases) effect.2
called poll_event mac x b o new is effect ordinary =
    quiet mac x b o new (λ s. session_after_event s x.leases) is effect.0 (held_event phases.Asking x.leases b o) effect.2
called (receive bytes result) mac x b o new is effect ordinary = received mac bytes result x b o new is effect ordinary

-- ---- the stages

abbrev Next : ℕ → ℕ → ℕ → State → Type 0
Next r d by new = IsAllocated new ⊎ Stage r d by new.session new.credentials new.clock

kept : (x new : State) (b : Session) (o : Operation) → new.session ≡ asks b o → new.credentials ≡ kept_credentials new.session x.credentials
    → new.credentials ≡ x.credentials
kept x new b o is e = e ∙ ap (λ (s : Session). kept_credentials s x.credentials) is

begins_with : (r d by : ℕ) (x new : State) → new.credentials ≡ x.credentials → Begins r d by new.session x.credentials → Next r d by new
begins_with r d by x new e h = inr (inl (subst (λ (c : Option Credentials). Begins r d by new.session c) (sym e) h))

waits_with : (r d by : ℕ) (x new : State) → new.credentials ≡ x.credentials → Waits r d by new.session x.credentials new.clock → Next r d by new
waits_with r d by x new e h = inr (inr (subst (λ (c : Option Credentials). Waits r d by new.session c new.clock) (sym e) h))

-- an attempt is due
begins_timed : (r d by : ℕ) (x new : State) (stream : Stream) → (h : Begins r d by x.session x.credentials) → new.clock ≤ h.time + d
    → new.credentials ≡ kept_credentials new.session x.credentials
    → Like h.base h.operation new.session
    ⊎ (new.session ≡ asks (sent_base (at_time new.clock) h.base)
    (attempted (record { id = record { 0 = (fill_bytes 12 stream).0 }; key = key_now x.credentials; since = at_time new.clock }) h.base.timing h.operation))
    → Next r d by new
begins_timed r d by x new stream h le e (inl k) = begins_with r d by x new (kept x new k.base k.operation k.is e) (begins_like r d by x.session new.session x.credentials h k)
begins_timed r d by x new stream h le e (inr is) =
    let o = attempted (record { id = record { 0 = (fill_bytes 12 stream).0 }; key = key_now x.credentials; since = at_time new.clock }) h.base.timing h.operation in
    waits_with r d by x new (kept x new (sent_base (at_time new.clock) h.base) o is e) (begins_attempted r d by x.session new.session x.credentials new.clock (fill_bytes 12 stream).0 h le is)

none_waits : (f : Bool) (last : Option Attempt) (a : Attempt) → f ≡ true → cond f None last ≡ Some a → ⊥
none_waits true last a h e = absurd (cc e)
none_waits false last a h e = absurd (cc h)

begins_called : (mac : List ℕ → List ℕ → List ℕ) (r d by : ℕ) (x new : State) → (h : Begins r d by x.session x.credentials) → new.clock ≤ h.time + d
    → Called mac x h.base h.operation new → Next r d by new
begins_called mac r d by x new h le (inl q) = begins_with r d by x new q.1 (begins_like r d by x.session new.session x.credentials h q.0)
begins_called mac r d by x new h le (inr (inl t)) =
    begins_timed r d by x new t.0 h le t.3
    (fresh_timed (at_time new.clock) (key_now x.credentials) t.0 t.1 h.base h.operation new.session h.fresh t.2)
begins_called mac r d by x new h le (inr (inr t)) =
    let e : waiting (asks h.base h.operation) ≡ Some t.2.attempt = sym (ap waiting h.is) ∙ t.2.waits in
    absurd (none_waits h.operation.is_fresh h.operation.attempts.last t.2.attempt h.fresh e)

waits_timed : (r d by : ℕ) (x new : State) → (h : Waits r d by x.session x.credentials x.clock) → x.clock ≤ new.clock
    → new.credentials ≡ kept_credentials new.session x.credentials
    → Like h.base h.operation new.session ⊎ (new.session ≡ asks (sent_base (at_time new.clock) h.base) (sent_once_more (at_time new.clock) h.base.timing h.operation))
    → Next r d by new
waits_timed r d by x new h le e (inl k) =
    waits_with r d by x new (kept x new k.base k.operation k.is e) (waits_like r d by x.session new.session x.credentials x.clock new.clock le h k)
waits_timed r d by x new h le e (inr is) =
    waits_with r d by x new
    (kept x new (sent_base (at_time new.clock) h.base) (sent_once_more (at_time new.clock) h.base.timing h.operation) is e) (waits_repeated r d by x.session new.session x.credentials x.clock new.clock le h is)

-- ---- the right response

allocated : (new : State) → (made : Allocation) × (new.session.made ≡ Some made) → IsAllocated new
allocated new h = (h.0, rw h.1 refl)

last_of : (r d by : ℕ) (s : Session) (c : Option Credentials) (now : ℕ) → (h : Waits r d by s c now) → IsLast h.operation h.attempt
last_of r d by s c now h = record { lifetime = h.lifetime; family = h.family; request = h.request; fresh = h.fresh; last = h.last }

challenged_begins : (r d by : ℕ) (s new : Session) (k : Credentials) (c_new : Option Credentials) (realm nonce password : List ℕ) (now after : ℕ)
    → (h : Waits r d by s (Some k) now) → now ≤ after → after ≤ h.attempt.since.0 + r → k.challenge ≡ None → k.password ≡ Some password
    → new ≡ asks (without_pace (at_time after) h.base) (another (at_time after) false 401 h.operation) → c_new ≡ Some (with_key k realm nonce password) → Begins r d by new c_new
challenged_begins r d by s new k c_new realm nonce password now after h le served first knows is e =
    let most : h.attempt.since.0 + r + (r + d) ≤ by = subst (λ (c : Option Challenge). h.attempt.since.0 + r + more_by c r d ≤ by) first h.enough in
    subst (λ (c : Option Credentials). Begins r d by new c) (sym e) (record {
      base = without_pace (at_time after) h.base;
      operation = another (at_time after) false 401 h.operation;
      is = is;
      lifetime = h.lifetime;
      family = h.family;
      request = h.request;
      fresh = refl;
      time = after;
      due = omega arith;
      paced = omega arith;
      enough = omega (arith, most, served);
      soon = h.soon;
      knows = (password, knows);
    })

answered_by : (mac : List ℕ → List ℕ → List ℕ) (r d by : ℕ) (s new : Session) (k : Credentials) (c_new : Option Credentials) (challenge : Option Challenge)
    (m : Message) (alternate : Option SocketAddr) (result : Receipt) (now after : ℕ) → (h : Waits r d by s (Some k) now) → now ≤ after
    → after ≤ h.attempt.since.0 + r → k.challenge ≡ challenge → IsRightTo mac m h.attempt.id.0 h.attempt.key
    → IsAnswered mac (at_time after) m alternate (asks h.base h.operation) (Some k) result new c_new
    → ((made : Allocation) × (new.made ≡ Some made)) ⊎ Begins r d by new c_new
answered_by mac r d by s new k c_new None m alternate result now after h le served is right step =
    let unsigned : h.attempt.key ≡ None = h.key ∙ ap (λ (c : Option Challenge). key_now (Some (record k { challenge = c }))) is in
    let first = subst (λ (key : Option (List ℕ)). IsRightTo mac m h.attempt.id.0 key) unsigned right in
    let then = challenge_applies mac (at_time after) m alternate h.base h.operation h.attempt k h.knows.0 result new c_new (last_of r d by s (Some k) now h) h.knows.1
    unsigned first step in
    inr (challenged_begins r d by s new k c_new first.realm first.nonce h.knows.0 now after h le served is h.knows.1 then.0 then.1)
answered_by mac r d by s new k c_new (Some challenge) m alternate result now after h le served is right step =
    let signed : h.attempt.key ≡ Some challenge.key = h.key ∙ ap (λ (c : Option Challenge). key_now (Some (record k { challenge = c }))) is in
    let right_one = subst (λ (key : Option (List ℕ)). IsRightTo mac m h.attempt.id.0 key) signed right in
    inl (signed_success mac (at_time after) m alternate h.base h.operation h.attempt k challenge.key result new c_new (last_of r d by s (Some k) now h) signed
    right_one.0 (search (right_one.1)) step)

answered : (mac : List ℕ → List ℕ → List ℕ) (r d by : ℕ) (s new : Session) (c c_new : Option Credentials) (m : Message) (alternate : Option SocketAddr)
    (result : Receipt) (now after : ℕ) → (h : Waits r d by s c now) → now ≤ after → after ≤ h.attempt.since.0 + r → IsRight mac m h.attempt c
    → IsAnswered mac (at_time after) m alternate (asks h.base h.operation) c result new c_new
    → ((made : Allocation) × (new.made ≡ Some made)) ⊎ Begins r d by new c_new
answered mac r d by s new None c_new m alternate result now after h le served right step =
    inl (open_success mac (at_time after) m alternate h.base h.operation h.attempt result new c_new (last_of r d by s None now h) right step)
answered mac r d by s new (Some k) c_new m alternate result now after h le served right step =
    answered_by mac r d by s new k c_new k.challenge m alternate result now after h le served refl right step

next_of : (r d by : ℕ) (new : State) → ((made : Allocation) × (new.session.made ≡ Some made)) ⊎ Begins r d by new.session new.credentials → Next r d by new
next_of r d by new (inl made) = inl (allocated new made)
next_of r d by new (inr h) = inr (inl h)

same_attempt : (x : Session) (a b : Attempt) → waiting x ≡ Some a → waiting x ≡ Some b → a ≡ b
same_attempt x a b h k = cc

waits_received : (mac : List ℕ → List ℕ → List ℕ) (r d by : ℕ) (x new : State) → (h : Waits r d by x.session x.credentials x.clock) → x.clock ≤ new.clock
    → new.clock ≤ h.attempt.since.0 + r → Received mac x new → Next r d by new
waits_received mac r d by x new h le served t =
    let now = at_time new.clock in
    let expected = t.2 in
    let m = expected.message in
    let alternate = alternate_in t.0 in
    let own : expected.attempt ≡ h.attempt = same_attempt x.session expected.attempt h.attempt expected.waits (waits_for r d by x.session x.credentials x.clock h) in
    let read = subst (λ (g : Datagram). IsReceivedAs g mac now alternate x.session x.leases x.credentials t.1 new.session new.leases new.credentials) expected.read t.3 in
    let one = subst (λ (p : Option ℕ). IsRespondedBy p mac now m alternate x.session x.leases x.credentials t.1 new.session new.leases new.credentials) expected.own read in
    let step = subst (λ (s : Session). IsAnswered mac now m alternate s x.credentials t.1 new.session new.credentials) h.is one.0 in
    next_of r d by new (answered mac r d by x.session new.session x.credentials new.credentials m alternate t.1 x.clock new.clock h le served
    (subst (λ (a : Attempt). IsRight mac m a x.credentials) own expected.right) step)

waits_called : (mac : List ℕ → List ℕ → List ℕ) (r d by : ℕ) (x new : State) → by < MAX → (h : Waits r d by x.session x.credentials x.clock) → x.clock ≤ new.clock
    → new.clock ≤ h.attempt.since.0 + r → Called mac x h.base h.operation new → Next r d by new
waits_called mac r d by x new before h le served (inl q) =
    waits_with r d by x new q.1 (waits_like r d by x.session new.session x.credentials x.clock new.clock le h q.0)
waits_called mac r d by x new before h le served (inr (inl t)) =
    let most = h.enough in
    let in_time : new.clock < MAX = omega (arith, before, served, most) in
    waits_timed r d by x new h le t.3
    (waiting_timed (at_time new.clock) (key_now x.credentials) t.0 t.1 h.base h.operation new.session h.fresh
    (never_exhausted r d by x.session x.credentials x.clock new.clock h served in_time) t.2)
waits_called mac r d by x new before h le served (inr (inr t)) = waits_received mac r d by x new h le served t

-- ---- runs

passed : (mac : List ℕ → List ℕ → List ℕ) (r d by : ℕ) (x new : State) → by < MAX → Stage r d by x.session x.credentials x.clock → Passes mac r d x new
    → (new.clock ≤ by) × Next r d by new
passed mac r d by x new before (inl h) step =
    let late = step.punctual (at_time (max h.operation.due.0 h.base.paced.0)) (begins_next r d by x.session x.credentials x.leases h) in
    let due = h.due in
    let paced = h.paced in
    let le : new.clock ≤ h.time + d = omega (arith, late, due, paced) in
    let most = h.enough in (
      omega (arith, le, most),
      begins_called mac r d by x new h le (called step.step.call mac x h.base h.operation new h.is step.step.effect step.ordinary),
    )
passed mac r d by x new before (inr h) step =
    let served : new.clock ≤ h.attempt.since.0 + r = omega (arith, step.served h.attempt (waits_for r d by x.session x.credentials x.clock h)) in
    let most = h.enough in (
      omega (arith, served, most),
      waits_called mac r d by x new before h (omega (arith, step.step.forward)) served (called step.step.call mac x h.base h.operation new h.is step.step.effect step.ordinary),
    )

reached_or : (r d by : ℕ) (x : State) (run : List State) → (Stage r d by x.session x.credentials x.clock → IsReachedBy by run) → Next r d by x
    → IsAllocated x ⊎ IsReachedBy by run
reached_or r d by x run go (inl h) = inl h
reached_or r d by x run go (inr h) = inr (go h)

reached_from : (mac : List ℕ → List ℕ → List ℕ) (r d by : ℕ) (x : State) (run : List State) → by < MAX → Stage r d by x.session x.credentials x.clock
    → IsAnsweredRun mac r d x run → IsReachedBy by run
reached_from mac r d by x [] before h steps = tt
reached_from mac r d by x (next ∷ rest) before h steps =
    let after = passed mac r d by x next before h steps.0 in
    (omega (arith, after.0), reached_or r d by next rest (λ k. reached_from mac r d by next rest before k steps.1) after.1)

-- ---- the beginning

new_more : (r d : ℕ) (c : Option Credentials) → IsNewUser c → more c r d ≤ r + d
new_more r d None h = omega arith
new_more r d (Some k) h = let e : more_by k.challenge r d ≡ r + d = ap (λ (x : Credentials). more_by x.challenge r d) h.2 in omega (arith, e)

new_knows : (c : Option Credentials) → IsNewUser c → KnowsPassword c
new_knows None h = tt
new_knows (Some k) h = (h.1, ap (λ (x : Credentials). x.password) h.2)

started : (time r d : ℕ) (x : State) → IsStarted time r d x → Begins r d (time + ALLOCATING r d) x.session x.credentials
started time r d x h =
    let least = new_more r d x.credentials h.credentials in record {
      base = new_session h.server h.family h.timing h.lifetime;
      operation = new_operation (Allocate h.lifetime h.family) (at_time time);
      is = h.session;
      lifetime = h.lifetime;
      family = h.family;
      request = refl;
      fresh = refl;
      time = time;
      due = omega arith;
      paced = omega arith;
      enough = omega (arith, least);
      soon = omega (arith, h.soon);
      knows = new_knows x.credentials h.credentials;
    }

pub reached_in_time : (mac : List ℕ → List ℕ → List ℕ) (time r d : ℕ) (x : State) (run : List State) → IsStarted time r d x → IsAnsweredRun mac r d x run
    → IsReachedBy (time + ALLOCATING r d) run
reached_in_time mac time r d x run h steps =
    let before : time + ALLOCATING r d < MAX = omega (arith, h.before_end) in
    reached_from mac r d (time + ALLOCATING r d) x run before (inl (started time r d x h)) steps
