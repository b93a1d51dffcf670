-- Each call of a punctual caller whose server answers keeps the renewal of an allocation in time, so along each run nothing lapses.
use Rattle.std.proofs.Common.{◌≡◌, ℕ, ◌+◌, ◌≤◌, ◌<◌, min, max, true, List, [], ◌∷◌, Option, Some, None, position, arith, refl, sym, subst}
use Rattle.is_turn_theorems.proofs.Common.{Acceptance, advanced_in, alternate_in, at_place, at_time, Attempt, attempt_answered, Call, channel_data, close, Credentials, Datagram, datagram_of, Does}
use Rattle.is_turn_theorems.proofs.Common.{due_since, Entry, handle_timeout, Instant, is_answered_by, is_ready, is_renewal_due, is_timeout, IsAhead, IsFresh, IsInTime, IsKept, IsReceivedAs}
use Rattle.is_turn_theorems.proofs.Common.{IsRespondedBy, IsServed, IsTimely, IsTimelyFrom, key_now, Lease, lease_due, Leave, Limits, lose, malformed, margin, MAX, Message, new_session, NothingLapses}
use Rattle.is_turn_theorems.proofs.Common.{peer_data, permit, poll_event, poll_transmit, probe, Receipt, receive, request_timing, response, send, Serves, Session, SocketAddr, start, step_of, Stream}
use Rattle.is_turn_theorems.proofs.Common.{timeout_of, unasked, unparsed, with_renewal, World}
use Rattle.is_turn_theorems.proofs.Standing.{Holds, Soon, soon, ahead, holds_later, holds_rings}
use Rattle.is_turn_theorems.proofs.OtherCalls.{through, holds_is, unready, holds_started, holds_closed, holds_lost, holds_routed, holds_probed, holds_polled, holds_event}
use Rattle.is_turn_theorems.proofs.Responses.{Called}
use Rattle.is_turn_theorems.proofs.Verdicts.{servers, signed_for, response_holds}
use Rattle.is_turn_theorems.proofs.LeaseAnswers.{lease_answer_holds}
use Rattle.is_turn_theorems.proofs.Timeouts.{Kept, begins}
use Rattle.is_turn_theorems.proofs.TimeoutSteps.{timeout_kept}

-- ---- what is received

abbrev Answered : Limits → (List ℕ → List ℕ → List ℕ) → ℕ → World → Message → Type 0
Answered k mac now w m = (a : Attempt) → attempt_answered m w.session ≡ Some a → IsServed k mac now w m a

responded : (k : Limits) (mac : List ℕ → List ℕ → List ℕ) (now d : ℕ) (w : World) (m : Message) (alternate : Option SocketAddr) (p : Option ℕ) (result : Receipt)
    (new : Session) (l_new : List Lease) (c_new : Option Credentials) → Called k now d w.session → Answered k mac now w m
    → IsRespondedBy p mac (at_time now) m alternate w.session w.leases w.credentials result new l_new c_new → Holds k now d new
responded k mac now d w m alternate None result new l_new c_new called served step =
    response_holds k now d m.attributes.realm m.attributes.nonce w.session w.credentials result new c_new called step.0.0 w.session.operation m alternate refl
    (λ x e success. (served x e).success success)
    (λ x e r. servers mac step.0.0 w.credentials m x (signed_for mac step.0.0 m (attempt_answered m w.session) x e step.0.1) ((served x e).authentic r)) step.0.2
responded k mac now d w m alternate (Some place) result new l_new c_new called served step =
    lease_answer_holds k now d place m.attributes.realm m.attributes.nonce w.session w.leases w.credentials result new l_new c_new called step.0 w.session.phase
    (at_place place w.leases).operation m None step.2

received : (k : Limits) (mac : List ℕ → List ℕ → List ℕ) (now d : ℕ) (w : World) (datagram : Datagram) (alternate : Option SocketAddr) (result : Receipt)
    (new : Session) (l_new : List Lease) (c_new : Option Credentials) → Called k now d w.session
    → ((m : Message) → datagram ≡ response m → Answered k mac now w m)
    → IsReceivedAs datagram mac (at_time now) alternate w.session w.leases w.credentials result new l_new c_new → Holds k now d new
received k mac now d w (response m) alternate result new l_new c_new called served step =
    responded k mac now d w m alternate (position (is_answered_by m) w.leases) result new l_new c_new called (served m refl) step
received k mac now d w (peer_data peer contents) alternate result new l_new c_new called served step = holds_is k now d w.session new step.1 called.holds
received k mac now d w (channel_data number contents) alternate result new l_new c_new called served step = holds_is k now d w.session new step.1 called.holds
received k mac now d w malformed alternate result new l_new c_new called served step = holds_is k now d w.session new step.1 called.holds
received k mac now d w unasked alternate result new l_new c_new called served step = holds_is k now d w.session new step.1 called.holds
received k mac now d w unparsed alternate result new l_new c_new called served step = holds_is k now d w.session new step.1 called.holds

-- ---- one call

-- what is known of a client with an allocation when a call is made
record Meets (k : Limits) (now : ℕ) (s : Session) : Type 0 where
  pub ahead : now < s.until.0
  pub kept : IsKept k now s

record Follows (k : Limits) (call : Call) (due : ℕ) (w new : World) : Type 0 where
  pub holds : Holds k new.clock (due_since call due new) new.session
  pub stays : is_timeout call ≡ true → is_ready w.session.phase ≡ true → is_ready new.session.phase ≡ true

rung : (k : Limits) (d due : ℕ) (x : Session) (new : World) → due ≡ max (timeout_of new) d → new.session ≡ x → Holds k new.clock d x
    → Holds k new.clock due new.session
rung k d due x new since e h =
    subst (λ (n : ℕ). Holds k new.clock n new.session) (sym since)
    (holds_rings k new.clock d new.session new.leases (holds_is k new.clock d x new.session e h))

pub renewal_ready : (now : Instant) (s : Session) → is_ready s.phase ≡ true → is_ready (with_renewal now s).phase ≡ true
renewal_ready now s r = through s (λ x. is_ready x.phase ≡ true) (is_renewal_due now s) _ _ (λ e. r) (λ e. r)

timed : (k : Limits) (due : ℕ) (w new : World) (stream stream_new : Stream) → Called k new.clock (min due new.clock) w.session
    → (is_ready w.session.phase ≡ true → Meets k new.clock w.session) → Kept k new.clock (with_renewal (at_time new.clock) w.session).phase new.session
    → Follows k (handle_timeout stream stream_new) due w new
timed k due w new stream stream_new called meets kept = record {
  holds = holds_rings k new.clock new.clock new.session new.leases kept.holds;
  stays = λ e r. kept.stays (renewal_ready (at_time new.clock) w.session r);
}

called_follows : (k : Limits) (call : Call) (mac : List ℕ → List ℕ → List ℕ) (accepted : List Acceptance) (due : ℕ) (w new : World)
    → Called k new.clock (min due new.clock) w.session → (is_ready w.session.phase ≡ true → Meets k new.clock w.session) → Serves call k mac new.clock w
    → Does call mac accepted new.clock w new → Follows k call due w new
called_follows k start mac accepted due w new called meets serves does = record {
  holds = rung k (min due new.clock) _ _ new (omega arith) does.0 (holds_started k new.clock (min due new.clock) w.session called.holds);
  stays = λ e. absurd (cc e);
}
called_follows k (close has) mac accepted due w new called meets serves does = record {
  holds = rung k (min due new.clock) _ _ new (omega arith) does.0 (holds_closed k new.clock (min due new.clock) w.session.phase has w.session called.holds);
  stays = λ e. absurd (cc e);
}
called_follows k lose mac accepted due w new called meets serves does = record {
  holds = rung k (min due new.clock) _ _ new (omega arith) does.0 (holds_lost k new.clock (min due new.clock) w.session.phase w.session called.holds);
  stays = λ e. absurd (cc e);
}
called_follows k (permit peer) mac accepted due w new called meets serves does = record {
  holds = rung k (min due new.clock) _ w.session new (omega arith) does.0 called.holds;
  stays = λ e. absurd (cc e);
}
called_follows k (send peer media) mac accepted due w new called meets serves does = record {
  holds = rung k (min due new.clock) _ _ new (omega arith) does.0 (holds_routed k new.clock (min due new.clock) peer media w.session w.leases called.holds);
  stays = λ e. absurd (cc e);
}
called_follows k probe mac accepted due w new called meets serves does = record {
  holds = rung k (min due new.clock) _ _ new (omega arith) does.0 (holds_probed k new.clock (min due new.clock) w.session called.past called.holds called.soon);
  stays = λ e. absurd (cc e);
}
called_follows k (poll_transmit result) mac accepted due w new called meets serves does = record {
  holds = rung k (min due new.clock) _ _ new (omega arith) does.0 (holds_polled k new.clock (min due new.clock) result w.session w.leases called.holds);
  stays = λ e. absurd (cc e);
}
called_follows k poll_event mac accepted due w new called meets serves does = record {
  holds = rung k (min due new.clock) _ _ new (omega arith) does.0 (holds_event k new.clock (min due new.clock) w.session w.leases called.holds);
  stays = λ e. absurd (cc e);
}
called_follows k (receive bytes result) mac accepted due w new called meets serves does = record {
  holds = rung k (min due new.clock) _ new.session new (omega arith) refl
      (received k mac new.clock (min due new.clock) w (datagram_of bytes) (alternate_in bytes) result new.session new.leases new.credentials called
      (λ m e a. serves m a e) does.2);
  stays = λ e. absurd (cc e);
}
called_follows k (handle_timeout stream stream_new) mac accepted due w new called meets serves does =
    let now = at_time new.clock in
    let s = with_renewal now w.session in
    let l = advanced_in w.session.phase now w.leases in
    timed k due w new stream stream_new called meets
    (timeout_kept k new.clock (key_now w.credentials) stream s l (lease_due now (step_of now s) s l) new.session new.leases stream_new refl
    (begins k new.clock (min due new.clock) w.session called (λ r. (meets r).ahead) (λ r. (meets r).kept.answered) (λ r. let p = (meets r).kept.patient in omega (arith, p))) does.2)

-- ---- runs

meets : (k : Limits) (now : ℕ) (s : Session) → Leave k → now + margin k ≤ s.until.0 → IsKept k now s → Meets k now s
meets k now s leave ahead kept = record { ahead = omega (arith, leave, ahead); kept = kept }

pub entered : (k : Limits) (mac : List ℕ → List ℕ → List ℕ) (accepted : List Acceptance) (due : ℕ) (w : World) (x : Entry) → Leave k → Holds k w.clock due w.session
    → IsInTime k mac accepted due w x → IsAhead k w x × Holds k x.after.clock (due_since x.call due x.after) x.after.session
entered k mac accepted due w x leave h step =
    let now = x.after.clock in
    let past : w.clock ≤ now = step.forward in
    let in_time : now ≤ due + k.late = let p = step.punctual in omega (arith, p) in
    let sooner : (r : is_ready w.session.phase ≡ true) → Soon k now w.session.renew.0 w.session.operation = λ r.
    soon k (request_timing w.session) now w.clock due w.session.renew.0 w.session.paced.0 w.session.operation (h.ready r).pending (h.ready r).due in_time
    (step.kept r).answered in
    let far : (r : is_ready w.session.phase ≡ true) → now + margin k ≤ w.session.until.0 = λ r.
    ahead k now w.session.renew.0 w.session.until.0 w.session.operation (sooner r) (step.kept r).seldom_stale (h.ready r).reach leave in
    let called : Called k now (min due now) w.session = record {
      past = omega arith;
      holds = holds_later k w.clock now due (min due now) w.session past (omega arith) h;
      soon = sooner;
      shown = step.shown;
      leave = leave;
    } in
    let after = called_follows k x.call mac accepted due w x.after called (λ r. meets k now w.session leave (far r) (step.kept r)) step.serves step.does in
    (record { ahead = far; stays = after.stays }, after.holds)

runs : (k : Limits) (mac : List ℕ → List ℕ → List ℕ) (accepted : List Acceptance) (due : ℕ) (w : World) (run : List Entry) → Leave k → Holds k w.clock due w.session
    → IsTimelyFrom k mac accepted due w run → NothingLapses k w run
runs k mac accepted due w [] leave h steps = tt
runs k mac accepted due w (x ∷ rest) leave h steps =
    let step = entered k mac accepted due w x leave h steps.0 in
    (step.0, runs k mac accepted (due_since x.call due x.after) x.after rest leave step.1 steps.1)

pub fresh_holds : (k : Limits) (w : World) → IsFresh w → Holds k w.clock MAX w.session
fresh_holds k w fresh =
    holds_is k w.clock MAX (new_session fresh.server fresh.family fresh.timing fresh.lifetime) w.session fresh.session
    (unready k w.clock MAX _ (omega arith) refl)

pub nothing_lapses : (k : Limits) (mac : List ℕ → List ℕ → List ℕ) (accepted : List Acceptance) (w : World) (run : List Entry) → Leave k → IsFresh w
    → IsTimely k mac accepted w run → NothingLapses k w run
nothing_lapses k mac accepted w run leave fresh steps =
    runs k mac accepted MAX w run leave (fresh_holds k w fresh) steps
