-- Each call of a punctual caller keeps whose turn it is.
use Rattle.std.proofs.Common.{◌≡◌, ℕ, ◌+◌, ◌≤◌, ◌<◌, not, nat_lt, min, max, Bool, true, false, cond, List, length, Option, Some, None, is_none, position, arith, refl, sym, ap, subst, ◌∙◌}
use Rattle.is_turn_theorems.proofs.Common.{Acceptance, advanced_in, alternate_in, at_place, at_time, Call, channel_data, channel_peer, close, Credentials, Datagram, datagram_of, Does, due_since}
use Rattle.is_turn_theorems.proofs.Common.{goes_first, handle_timeout, Instant, is_answered_by, is_given, is_idle_step, is_in_line, is_ready, is_renewal_due, IsReceivedAs, IsRespondedBy, key_now}
use Rattle.is_turn_theorems.proofs.Common.{Lease, lease_due, LeaseServes, Limits, lose, malformed, MAX, Message, nat_tests, not_from_false, Operation, PACE, peer_data, permit, poll_event}
use Rattle.is_turn_theorems.proofs.Common.{poll_transmit, probe, Receipt, receive, response, send, Session, SocketAddr, start, step_of, timeout_of, unasked, unparsed, with_renewal, World}
use Rattle.is_turn_theorems.proofs.OtherCalls.{through}
use Rattle.is_turn_theorems.proofs.LeaseLists.{Closed, permits_keep, routed_keeps, heard_keeps, polled_keeps, events_keep}
use Rattle.is_turn_theorems.proofs.LeaseCalls.{BareAt}
use Rattle.is_turn_theorems.proofs.LeaseTimeouts.{kept_ready}
use Rattle.is_turn_theorems.proofs.LeaseResponses.{AnsweredAt, answered_by_keeps}
use Rattle.is_turn_theorems.proofs.LeaseTurns.{Lined, LinedIn, lined_waits, waits_pass, waits_lined, queued_same, queued_next}
use Rattle.is_turn_theorems.proofs.LeaseTurnCalls.{WaitsAt, waits_closed, answers_wait, advanced_waits}
use Rattle.is_turn_theorems.proofs.LeaseTurnSteps.{timeout_waits, ring_due}
use Rattle.is_turn_theorems.proofs.TimelyRuns.{renewal_ready}

-- ---- what is received

module _ (k : Limits) (mac : List ℕ → List ℕ → List ℕ) (taken d p now place : ℕ) (was : Bool) (w : World) (result : Receipt) (new : Session) (l_new : List Lease)
    (c_new : Option Credentials) (shown : now < MAX) (ready : is_ready new.phase ≡ true) (h : WaitsAt k taken d p now was place w.leases) where
  responded_waits : (m : Message) (alternate : Option SocketAddr) (at : Option ℕ) → AnsweredAt k mac now w m (at_place place w.leases)
      → IsRespondedBy at mac (at_time now) m alternate w.session w.leases w.credentials result new l_new c_new → WaitsAt k taken d p now was place l_new
  responded_waits m alternate None served step =
      subst (WaitsAt k taken d p now was place) (sym (step.1 ∙ kept_ready new.phase w.leases ready)) h
  responded_waits m alternate (Some q) served step =
      answered_by_keeps (WaitsAt k taken d p now was place) k mac now place q w m result new l_new c_new served
      (answers_wait k taken d p now was place q w.session.timing w.leases new shown ready h) step

  pub received_waits : (datagram : Datagram) (alternate : Option SocketAddr) → ((m : Message) → datagram ≡ response m → AnsweredAt k mac now w m (at_place place w.leases))
      → IsReceivedAs datagram mac (at_time now) alternate w.session w.leases w.credentials result new l_new c_new → WaitsAt k taken d p now was place l_new
  received_waits (response m) alternate served step = responded_waits m alternate (position (is_answered_by m) w.leases) (served m refl) step
  received_waits (peer_data peer contents) alternate served step =
      subst (WaitsAt k taken d p now was place) (sym (ap (λ (x : Receipt × List Lease). x.1) step.0))
      (heard_keeps (WaitsAt k taken d p now was place) (at_time now) (waits_closed k taken d p now was place) (Some peer) contents w.session w.leases h)
  received_waits (channel_data number contents) alternate served step =
      subst (WaitsAt k taken d p now was place) (sym (ap (λ (x : Receipt × List Lease). x.1) step.0))
      (heard_keeps (WaitsAt k taken d p now was place) (at_time now) (waits_closed k taken d p now was place) (channel_peer number w.leases) contents w.session w.leases h)
  received_waits malformed alternate served step = subst (WaitsAt k taken d p now was place) (sym step.2) h
  received_waits unasked alternate served step = subst (WaitsAt k taken d p now was place) (sym step.2) h
  received_waits unparsed alternate served step = subst (WaitsAt k taken d p now was place) (sym step.2) h

-- ---- one call

-- what is known when a call is made
pub record TurnMeets (k : Limits) (due taken place : ℕ) (w new : World) : Type 0 where
  pub shown : new.clock < MAX
  pub was_ready : is_ready w.session.phase ≡ true
  pub ready : is_ready new.session.phase ≡ true
  pub few : length new.leases ≤ k.places
  pub pace : new.session.paced.0 ≤ new.clock + PACE
  pub punctual : new.clock ≤ due + k.late
  pub forward : w.clock ≤ new.clock
  pub lined : Lined k taken due w.session.paced.0 w.clock place w.leases

more_than : (was b : Bool) (n : ℕ) → was ≡ true → n ≤ cond was (cond b (n + 1) n) 0
more_than true true n e = omega arith
more_than true false n e = omega arith
more_than false b n e = absurd (cc e)

one_more : (was b : Bool) (n : ℕ) → b ≡ true → was ≡ true → n + 1 ≤ cond was (cond b (n + 1) n) 0
one_more true true n e f = omega arith
one_more true false n e f = absurd (cc e)
one_more false b n e f = absurd (cc f)

renewal_paced : (now : Instant) (s : Session) → s.paced.0 ≡ (with_renewal now s).paced.0
renewal_paced now s = through s (λ (x : Session). s.paced.0 ≡ x.paced.0) (is_renewal_due now s) _ _ (λ e. refl) (λ e. refl)

module _ (k : Limits) (mac : List ℕ → List ℕ → List ℕ) (accepted : List Acceptance) (due taken place : ℕ) (w new : World)
    (h : TurnMeets k due taken place w new) where
  abbrev was : Bool
  was = is_in_line (at_place place w.leases).operation

  abbrev soon : ℕ
  soon = min due new.clock

  abbrev more : Bool → ℕ
  more b = cond was (cond b (taken + 1) taken) 0

  in_time : new.clock ≤ soon + k.late
  in_time = let p = h.punctual in omega (arith, p)

  start_waits : WaitsAt k taken soon w.session.paced.0 new.clock was place w.leases
  start_waits = lined_waits k taken due soon w.session.paced.0 w.clock new.clock place w.leases h.forward (omega arith) h.lined

  passed : (b : Bool) → nat_lt w.session.paced.0 new.session.paced.0 ≡ b → WaitsAt k taken soon w.session.paced.0 new.clock was place new.leases
      → WaitsAt k (more b) soon new.session.paced.0 new.clock was place new.leases
  passed true e x =
      waits_pass k taken (more true) soon soon w.session.paced.0 new.session.paced.0 new.clock was place new.leases new.leases refl
      (λ y same lt yes z.
      let turns : taken + 1 ≤ more true = one_more was true taken refl yes in
      queued_next k taken (more true) soon soon new.clock w.session.paced.0 new.session.paced.0 y.due.0 new.leases new.leases (omega (arith, turns)) in_time
      (omega arith) h.pace z) x
  passed false e x =
      let le : new.session.paced.0 ≤ w.session.paced.0 = grind (arith, nat_tests) in
      waits_pass k taken (more false) soon soon w.session.paced.0 new.session.paced.0 new.clock was place new.leases new.leases refl
      (λ y same lt yes z.
      queued_same k taken (more false) soon soon w.session.paced.0 new.session.paced.0 y.due.0 new.leases (more_than was false taken yes) (omega arith) le z) x

  lines : (b : Bool) (d : ℕ) → d ≤ new.clock → WaitsAt k (more b) d new.session.paced.0 new.clock was place new.leases
      → Lined k (more b) (max (timeout_of new) d) new.session.paced.0 new.clock place new.leases
  lines b d past x =
      waits_lined k (more b) d (timeout_of new) new.session.paced.0 new.clock was place new.leases past h.pace h.few
      (ring_due new.session new.leases place h.ready) x

  other : (l : List Lease) → new.leases ≡ l → WaitsAt k taken soon w.session.paced.0 new.clock was place l
      → Lined k (more (nat_lt w.session.paced.0 new.session.paced.0)) (max (timeout_of new) soon) new.session.paced.0 new.clock place new.leases
  other l e x =
      lines (nat_lt w.session.paced.0 new.session.paced.0) soon (omega arith)
      (passed (nat_lt w.session.paced.0 new.session.paced.0) refl (subst (WaitsAt k taken soon w.session.paced.0 new.clock was place) (sym e) x))

  closed : Closed (WaitsAt k taken soon w.session.paced.0 new.clock was place) (at_time new.clock)
  closed = waits_closed k taken soon w.session.paced.0 new.clock was place

  pub call_lined : (call : Call) → LeaseServes call k mac new.clock place w → Does call mac accepted new.clock w new
      → Lined k (more (goes_first call new.clock w.session new.session)) (due_since call due new) new.session.paced.0 new.clock place new.leases
  call_lined start serves does = other w.leases does.1 start_waits
  call_lined (close has) serves does = other w.leases (does.1 ∙ kept_ready new.session.phase w.leases h.ready) start_waits
  call_lined lose serves does = other w.leases (does.1 ∙ kept_ready new.session.phase w.leases h.ready) start_waits
  call_lined (permit peer) serves does =
      other _ does.1 (permits_keep (WaitsAt k taken soon w.session.paced.0 new.clock was place) (at_time new.clock) closed peer w.session w.leases start_waits)
  call_lined (send peer media) serves does =
      other _ does.1 (routed_keeps (WaitsAt k taken soon w.session.paced.0 new.clock was place) (at_time new.clock) closed peer media w.session w.leases start_waits)
  call_lined probe serves does = other w.leases does.1 start_waits
  call_lined (poll_transmit result) serves does =
      other _ does.1 (polled_keeps (WaitsAt k taken soon w.session.paced.0 new.clock was place) (at_time new.clock) closed result w.session w.leases start_waits)
  call_lined poll_event serves does =
      other _ does.1 (events_keep (WaitsAt k taken soon w.session.paced.0 new.clock was place) (at_time new.clock) closed w.session w.leases start_waits)
  call_lined (receive bytes result) serves does =
      other new.leases refl
      (received_waits k mac taken soon w.session.paced.0 new.clock place was w result new.session new.leases new.credentials h.shown h.ready start_waits
      (datagram_of bytes) (alternate_in bytes) (λ m e a. serves m a e) does.2)
  call_lined (handle_timeout stream stream_new) serves does =
      let at = at_time new.clock in
      let s = with_renewal at w.session in
      let l = advanced_in w.session.phase at w.leases in
      let first = goes_first (handle_timeout stream stream_new) new.clock w.session new.session in
      let begun : WaitsAt k taken soon s.paced.0 new.clock was place l =
      subst (λ (n : ℕ). WaitsAt k taken soon n new.clock was place l) (renewal_paced at w.session)
      (advanced_waits k taken soon w.session.paced.0 new.clock was place w.session.phase w.leases h.was_ready start_waits) in
      lines first new.clock (omega arith)
      (timeout_waits k taken (more first) soon new.clock place was (key_now w.credentials) stream s l (lease_due at (step_of at s) s l) new.session new.leases
      stream_new refl (renewal_ready at w.session h.was_ready) h.ready
      (record { punctual = in_time; pace = h.pace; count = λ yes. more_than was first taken yes; shown = h.shown })
      (λ e yes.
      let t = one_more was (not (is_idle_step (step_of at s))) taken (not_from_false (is_idle_step (step_of at s)) e) yes in
      omega (arith, t)) begun does.2)

-- ---- without an allocation nothing waits

bare_lined_in : (k : Limits) (taken d p now : ℕ) (l : List Lease) (b : Bool) (o : Option Operation) → is_none o ≡ true → LinedIn k taken d p now l b o
bare_lined_in k taken d p now l b None e = tt
bare_lined_in k taken d p now l b (Some o) e = absurd (cc e)

pub bare_lined : (k : Limits) (taken d p now place : ℕ) (l : List Lease) → BareAt place l → Lined k taken d p now place l
bare_lined k taken d p now place l h = bare_lined_in k taken d p now l (is_given (at_place place l)) (at_place place l).operation h.1
