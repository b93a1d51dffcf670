-- Each call of a punctual caller whose server answers keeps the renewal of a lease in time, so along each run it does not lapse.
use Rattle.std.proofs.Common.{◌≡◌, ◌⊎◌, inl, inr, ℕ, ◌+◌, ◌-◌, ◌≤◌, ◌<◌, min, max, Bool, true, false, cond, List, [], ◌∷◌, replicate, Option, Some, None, position, arith, refl, sym, ap, subst, ◌∙◌}
use Rattle.is_turn_theorems.proofs.Common.{Acceptance, advanced_in, alternate_in, at_place, at_time, Call, cases_lt, channel_data, channel_peer, ClientTiming, close, Credentials, Datagram}
use Rattle.is_turn_theorems.proofs.Common.{datagram_of, Does, driven_by, due_since, Entry, get_or-replicate, get_or_past, goes_first, handle_timeout, Instant, is_answered_by, is_given, is_in_line}
use Rattle.is_turn_theorems.proofs.Common.{is_ready, is_renewal_due, is_timeout, IsFresh, IsInTime, IsLeaseAhead, IsLeaseInTime, IsLeaseKept, IsLeaseTimely, IsLeaseTimelyFrom, IsReceivedAs}
use Rattle.is_turn_theorems.proofs.Common.{IsRespondedBy, IsTimely, IsTimelyFrom, key_now, LEAD, Lease, lease_due, lease_margin, lease_renewal_time, LeaseNeverLapses, LeaseServes, Leave}
use Rattle.is_turn_theorems.proofs.Common.{LeaveForLeases, length-replicate, Limits, lose, malformed, MAX, Message, peer_data, permit, poll_event, poll_transmit, probe, Receipt, receive, response}
use Rattle.is_turn_theorems.proofs.Common.{send, Session, SocketAddr, start, step_at, step_of, Stream, time_or_never, timeout_of, TimesOutBy, turns_after, unasked, unparsed, unused, with_renewal}
use Rattle.is_turn_theorems.proofs.Common.{World}
use Rattle.is_turn_theorems.proofs.OtherCalls.{through}
use Rattle.is_turn_theorems.proofs.Standing.{Holds}
use Rattle.is_turn_theorems.proofs.TimelyRuns.{entered as allocation_entered, fresh_holds}
use Rattle.is_turn_theorems.proofs.LeaseTurns.{Lined, in_turn}
use Rattle.is_turn_theorems.proofs.LeaseTurnRuns.{call_lined, bare_lined}
use Rattle.is_turn_theorems.proofs.LeaseLists.{Closed, permits_keep, routed_keeps, heard_keeps, polled_keeps, events_keep}
use Rattle.is_turn_theorems.proofs.LeaseStanding.{Bare, Leased, Settled, Met, IsInTurn, meets, lease_ahead, rings_at, settled_leased, met_settled, bare_leased}
use Rattle.is_turn_theorems.proofs.LeaseCalls.{MetAt, met_closed, BareAt, bare_closed}
use Rattle.is_turn_theorems.proofs.LeaseTimeouts.{LeaseRan, leases_ran, ran_settled, drives_settled, driven_keeps, due_at, advanced_unready, kept_ready, bare_kept, bare_drives}
use Rattle.is_turn_theorems.proofs.LeaseResponses.{AnsweredAt, answered_by_keeps, LeaseCalled, answers_met, answers_bare}

-- ---- what is received

responded_met : (k : Limits) (mac : List ℕ → List ℕ → List ℕ) (now d place : ℕ) (was : Bool) (w : World) (m : Message) (alternate : Option SocketAddr)
    (p : Option ℕ) (result : Receipt) (new : Session) (l_new : List Lease) (c_new : Option Credentials) → LeaseCalled k now d → is_ready new.phase ≡ true
    → AnsweredAt k mac now w m (at_place place w.leases) → MetAt k now d place was w.leases
    → IsRespondedBy p mac (at_time now) m alternate w.session w.leases w.credentials result new l_new c_new → MetAt k now d place was l_new
responded_met k mac now d place was w m alternate None result new l_new c_new called ready served h step =
    subst (MetAt k now d place was) (sym step.1) (subst (MetAt k now d place was) (sym (kept_ready new.phase w.leases ready)) h)
responded_met k mac now d place was w m alternate (Some q) result new l_new c_new called ready served h step =
    answered_by_keeps (MetAt k now d place was) k mac now place q w m result new l_new c_new served
    (answers_met k now d place q was w.session.timing w.leases new called ready h) step

received_met : (k : Limits) (mac : List ℕ → List ℕ → List ℕ) (now d place : ℕ) (was : Bool) (w : World) (datagram : Datagram)
    (alternate : Option SocketAddr) (result : Receipt) (new : Session) (l_new : List Lease) (c_new : Option Credentials) → LeaseCalled k now d
    → is_ready new.phase ≡ true → ((m : Message) → datagram ≡ response m → AnsweredAt k mac now w m (at_place place w.leases))
    → MetAt k now d place was w.leases
    → IsReceivedAs datagram mac (at_time now) alternate w.session w.leases w.credentials result new l_new c_new → MetAt k now d place was l_new
received_met k mac now d place was w (response m) alternate result new l_new c_new called ready served h step =
    responded_met k mac now d place was w m alternate (position (is_answered_by m) w.leases) result new l_new c_new called ready (served m refl) h step
received_met k mac now d place was w (peer_data peer contents) alternate result new l_new c_new called ready served h step =
    subst (MetAt k now d place was) (sym (ap (λ (x : Receipt × List Lease). x.1) step.0))
    (heard_keeps (MetAt k now d place was) (at_time now) (met_closed k now d place was) (Some peer) contents w.session w.leases h)
received_met k mac now d place was w (channel_data number contents) alternate result new l_new c_new called ready served h step =
    subst (MetAt k now d place was) (sym (ap (λ (x : Receipt × List Lease). x.1) step.0))
    (heard_keeps (MetAt k now d place was) (at_time now) (met_closed k now d place was) (channel_peer number w.leases) contents w.session w.leases h)
received_met k mac now d place was w malformed alternate result new l_new c_new called ready served h step = subst (MetAt k now d place was) (sym step.2) h
received_met k mac now d place was w unasked alternate result new l_new c_new called ready served h step = subst (MetAt k now d place was) (sym step.2) h
received_met k mac now d place was w unparsed alternate result new l_new c_new called ready served h step = subst (MetAt k now d place was) (sym step.2) h

-- ---- the clock

timeout_settles : (k : Limits) (now place : ℕ) (was : Bool) (key : Option (List ℕ)) (stream : Stream) (s : Session) (l : List Lease) (p : Option ℕ)
    (new : Session) (l_new : List Lease) (stream_new : Stream) → lease_due (at_time now) (step_of (at_time now) s) s l ≡ p → is_ready new.phase ≡ true
    → LeaseRan k s.timing now was (at_place place l) → TimesOutBy p (step_of (at_time now) s) (at_time now) key stream s l new l_new stream_new
    → Settled k now was (at_place place l_new)
timeout_settles k now place was key stream s l None new l_new stream_new e ready h does =
    subst (λ (x : List Lease). Settled k now was (at_place place x)) (sym does.1)
    (subst (λ (x : List Lease). Settled k now was (at_place place x)) (sym (kept_ready new.phase l ready)) (ran_settled k s.timing now was (at_place place l) h))
timeout_settles k now place was key stream s l (Some q) new l_new stream_new e ready h does =
    let due = due_at now q _ l e in
    subst (λ (x : List Lease). Settled k now was (at_place place x)) (sym does.1)
    (subst (λ (x : List Lease). Settled k now was (at_place place x))
    (sym (kept_ready new.phase (driven_by (step_at q s l) (at_time now) key s.timing q stream l).0 ready))
    (driven_keeps (λ x. Settled k now was (at_place place x)) (at_time now) key s.timing q stream l
    (drives_settled k s.timing now _ place q was key stream l due.due due.past h)))

renewal_timing : (now : Instant) (s : Session) → s.timing ≡ (with_renewal now s).timing
renewal_timing now s = through s (λ (x : Session). s.timing ≡ x.timing) (is_renewal_due now s) _ _ (λ e. refl) (λ e. refl)

-- ---- one call of a client with an allocation

pub record LeaseFollows (k : Limits) (call : Call) (due place : ℕ) (was : Bool) (new : World) : Type 0 where
  pub leased : Leased k (due_since call due new) (at_place place new.leases)
  pub stays : was ≡ true → is_given (at_place place new.leases) ≡ true

-- what is known of it when the call is made
pub record LeaseMeets (k : Limits) (t : ClientTiming) (now d : ℕ) (was : Bool) (g : Lease) : Type 0 where
  pub met : Met k now d was g
  pub far : is_given g ≡ true → now < time_or_never g.until
  pub kept : is_given g ≡ true → IsLeaseKept k t now g

settle : (k : Limits) (d place : ℕ) (was : Bool) (new : World) → is_ready new.session.phase ≡ true → Settled k d was (at_place place new.leases)
    → Leased k (max (timeout_of new) d) (at_place place new.leases)
settle k d place was new ready h =
    settled_leased k (timeout_of new) d was (at_place place new.leases) h (rings_at new.session new.leases place ready)

settle_met : (k : Limits) (now d place : ℕ) (was : Bool) (l : List Lease) (new : World) → is_ready new.session.phase ≡ true → new.leases ≡ l
    → MetAt k now d place was l → Settled k d was (at_place place new.leases)
settle_met k now d place was l new ready e h =
    met_settled k now d was (at_place place new.leases) (subst (MetAt k now d place was) (sym e) h)

module _ (k : Limits) (mac : List ℕ → List ℕ → List ℕ) (accepted : List Acceptance) (due place : ℕ) (was : Bool) (w new : World)
    (called : LeaseCalled k new.clock (min due new.clock)) (was_ready : is_ready w.session.phase ≡ true) (ready : is_ready new.session.phase ≡ true)
    (h : LeaseMeets k w.session.timing new.clock (min due new.clock) was (at_place place w.leases)) where
  follows : (call : Call) (l : List Lease) → due_since call due new ≡ max (timeout_of new) (min due new.clock) → new.leases ≡ l
      → MetAt k new.clock (min due new.clock) place was l → LeaseFollows k call due place was new
  follows call l e is met =
      let s = settle_met k new.clock (min due new.clock) place was l new ready is met in
      record {
        leased = subst (λ (n : ℕ). Leased k n (at_place place new.leases)) (sym e) (settle k (min due new.clock) place was new ready s);
        stays = s.stays;
      }

  closed : Closed (MetAt k new.clock (min due new.clock) place was) (at_time new.clock)
  closed = met_closed k new.clock (min due new.clock) place was

  pub call_follows : (call : Call) → LeaseServes call k mac new.clock place w → Does call mac accepted new.clock w new → LeaseFollows k call due place was new
  call_follows start serves does = follows start w.leases refl does.1 h.met
  call_follows (close has) serves does =
      follows (close has) w.leases refl (does.1 ∙ kept_ready new.session.phase w.leases ready) h.met
  call_follows lose serves does = follows lose w.leases refl (does.1 ∙ kept_ready new.session.phase w.leases ready) h.met
  call_follows (permit peer) serves does =
      follows (permit peer) _ refl does.1 (permits_keep (MetAt k new.clock (min due new.clock) place was) (at_time new.clock) closed peer w.session w.leases h.met)
  call_follows (send peer media) serves does =
      follows (send peer media) _ refl does.1
      (routed_keeps (MetAt k new.clock (min due new.clock) place was) (at_time new.clock) closed peer media w.session w.leases h.met)
  call_follows probe serves does = follows probe w.leases refl does.1 h.met
  call_follows (poll_transmit result) serves does =
      follows (poll_transmit result) _ refl does.1
      (polled_keeps (MetAt k new.clock (min due new.clock) place was) (at_time new.clock) closed result w.session w.leases h.met)
  call_follows poll_event serves does =
      follows poll_event _ refl does.1 (events_keep (MetAt k new.clock (min due new.clock) place was) (at_time new.clock) closed w.session w.leases h.met)
  call_follows (receive bytes result) serves does =
      follows (receive bytes result) new.leases refl refl
      (received_met k mac new.clock (min due new.clock) place was w (datagram_of bytes) (alternate_in bytes) result new.session new.leases new.credentials called
      ready (λ m e a. serves m a e) h.met does.2)
  call_follows (handle_timeout stream stream_new) serves does =
      let at = at_time new.clock in
      let s = with_renewal at w.session in
      let l = advanced_in w.session.phase at w.leases in
      let ran = leases_ran k w.session.timing new.clock (min due new.clock) was w.session.phase w.leases place was_ready h.met h.far h.kept in
      let settled = timeout_settles k new.clock place was (key_now w.credentials) stream s l (lease_due at (step_of at s) s l) new.session new.leases stream_new
      refl ready (subst (λ (t : ClientTiming). LeaseRan k t new.clock was (at_place place l)) (renewal_timing at w.session) ran) does.2 in
      record { leased = settle k new.clock place was new ready settled; stays = settled.stays }

-- ---- one call of a client without an allocation

responded_bare : (k : Limits) (mac : List ℕ → List ℕ → List ℕ) (now place : ℕ) (w : World) (m : Message) (alternate : Option SocketAddr) (p : Option ℕ)
    (result : Receipt) (new : Session) (l_new : List Lease) (c_new : Option Credentials) → AnsweredAt k mac now w m (at_place place w.leases) → BareAt place w.leases
    → IsRespondedBy p mac (at_time now) m alternate w.session w.leases w.credentials result new l_new c_new → BareAt place l_new
responded_bare k mac now place w m alternate None result new l_new c_new served h step =
    subst (BareAt place) (sym step.1) (bare_kept place new.phase w.leases h)
responded_bare k mac now place w m alternate (Some q) result new l_new c_new served h step =
    answered_by_keeps (BareAt place) k mac now place q w m result new l_new c_new served (answers_bare k now place q w.session.timing w.leases new h) step

received_bare : (k : Limits) (mac : List ℕ → List ℕ → List ℕ) (now place : ℕ) (w : World) (datagram : Datagram) (alternate : Option SocketAddr) (result : Receipt)
    (new : Session) (l_new : List Lease) (c_new : Option Credentials) → ((m : Message) → datagram ≡ response m → AnsweredAt k mac now w m (at_place place w.leases))
    → BareAt place w.leases → IsReceivedAs datagram mac (at_time now) alternate w.session w.leases w.credentials result new l_new c_new → BareAt place l_new
received_bare k mac now place w (response m) alternate result new l_new c_new served h step =
    responded_bare k mac now place w m alternate (position (is_answered_by m) w.leases) result new l_new c_new (served m refl) h step
received_bare k mac now place w (peer_data peer contents) alternate result new l_new c_new served h step =
    subst (BareAt place) (sym (ap (λ (x : Receipt × List Lease). x.1) step.0))
    (heard_keeps (BareAt place) (at_time now) (bare_closed place (at_time now)) (Some peer) contents w.session w.leases h)
received_bare k mac now place w (channel_data number contents) alternate result new l_new c_new served h step =
    subst (BareAt place) (sym (ap (λ (x : Receipt × List Lease). x.1) step.0))
    (heard_keeps (BareAt place) (at_time now) (bare_closed place (at_time now)) (channel_peer number w.leases) contents w.session w.leases h)
received_bare k mac now place w malformed alternate result new l_new c_new served h step = subst (BareAt place) (sym step.2) h
received_bare k mac now place w unasked alternate result new l_new c_new served h step = subst (BareAt place) (sym step.2) h
received_bare k mac now place w unparsed alternate result new l_new c_new served h step = subst (BareAt place) (sym step.2) h

timed_bare : (now place : ℕ) (key : Option (List ℕ)) (stream : Stream) (s : Session) (l : List Lease) (p : Option ℕ) (new : Session)
    (l_new : List Lease) (stream_new : Stream) → BareAt place l → TimesOutBy p (step_of (at_time now) s) (at_time now) key stream s l new l_new stream_new → BareAt place l_new
timed_bare now place key stream s l None new l_new stream_new h does =
    subst (BareAt place) (sym does.1) (bare_kept place new.phase l h)
timed_bare now place key stream s l (Some q) new l_new stream_new h does =
    subst (BareAt place) (sym does.1)
    (bare_kept place new.phase (driven_by (step_at q s l) (at_time now) key s.timing q stream l).0
    (driven_keeps (BareAt place) (at_time now) key s.timing q stream l (bare_drives place q (at_time now) key s.timing stream l h)))

module _ (k : Limits) (mac : List ℕ → List ℕ → List ℕ) (accepted : List Acceptance) (place : ℕ) (w new : World) (was_unready : is_ready w.session.phase ≡ false)
    (h : BareAt place w.leases) where
  bare_is : (l : List Lease) → new.leases ≡ l → BareAt place l → BareAt place new.leases
  bare_is l e b = subst (BareAt place) (sym e) b

  pub call_bare : (call : Call) → LeaseServes call k mac new.clock place w → Does call mac accepted new.clock w new → BareAt place new.leases
  call_bare start serves does = bare_is w.leases does.1 h
  call_bare (close has) serves does = bare_is _ does.1 (bare_kept place new.session.phase w.leases h)
  call_bare lose serves does = bare_is _ does.1 (bare_kept place new.session.phase w.leases h)
  call_bare (permit peer) serves does =
      bare_is _ does.1 (permits_keep (BareAt place) (at_time new.clock) (bare_closed place (at_time new.clock)) peer w.session w.leases h)
  call_bare (send peer media) serves does =
      bare_is _ does.1 (routed_keeps (BareAt place) (at_time new.clock) (bare_closed place (at_time new.clock)) peer media w.session w.leases h)
  call_bare probe serves does = bare_is w.leases does.1 h
  call_bare (poll_transmit result) serves does =
      bare_is _ does.1
      (polled_keeps (BareAt place) (at_time new.clock) (bare_closed place (at_time new.clock)) result w.session w.leases h)
  call_bare poll_event serves does =
      bare_is _ does.1 (events_keep (BareAt place) (at_time new.clock) (bare_closed place (at_time new.clock)) w.session w.leases h)
  call_bare (receive bytes result) serves does =
      received_bare k mac new.clock place w (datagram_of bytes) (alternate_in bytes) result new.session new.leases new.credentials (λ m e a. serves m a e) h does.2
  call_bare (handle_timeout stream stream_new) serves does =
      let at = at_time new.clock in
      let s = with_renewal at w.session in
      let l = advanced_in w.session.phase at w.leases in
      timed_bare new.clock place (key_now w.credentials) stream s l (lease_due at (step_of at s) s l) new.session new.leases stream_new
      (subst (BareAt place) (sym (advanced_unready w.session.phase at w.leases was_unready)) h) does.2

-- ---- runs

-- what holds between two calls
record LeaseHolds (k : Limits) (due turns place : ℕ) (w : World) : Type 0 where
  pub allocation : Holds k w.clock due w.session
  pub ready : is_ready w.session.phase ≡ true → Leased k due (at_place place w.leases)
  pub bare : is_ready w.session.phase ≡ false → BareAt place w.leases
  pub lined : Lined k turns due w.session.paced.0 w.clock place w.leases

-- a call that is in time for the allocation and for the lease
record LeaseStep (k : Limits) (mac : List ℕ → List ℕ → List ℕ) (accepted : List Acceptance) (place due turns : ℕ) (w : World) (x : Entry) : Type 0 where
  pub leave : Leave k
  pub spare : LeaveForLeases k
  pub call : IsInTime k mac accepted due w x
  pub lease : IsLeaseInTime k mac place turns w x

far_by : (now reach used until : ℕ) → now + (reach - used) ≤ until → used < reach → now < until
far_by now reach used until a b = omega (arith, a, b)

stays_ready : (b : Bool) (p q : Bool) → (b ≡ false → p ≡ true → q ≡ true) → (b ≡ true → p ≡ true → q ≡ true) → p ≡ true → q ≡ true
stays_ready true p q f g e = g refl e
stays_ready false p q f g e = f refl e

abbrev Entered : Limits → (place due turns : ℕ) → World → Entry → Type 0
Entered k place due turns w x = IsLeaseAhead k place w x × LeaseHolds k (due_since x.call due x.after) (turns_after turns place w x) place x.after

entered_ready : (k : Limits) (mac : List ℕ → List ℕ → List ℕ) (accepted : List Acceptance) (place due turns : ℕ) (w : World) (x : Entry)
    → is_ready w.session.phase ≡ true → LeaseHolds k due turns place w → LeaseStep k mac accepted place due turns w x → Entered k place due turns w x
entered_ready k mac accepted place due turns w x r h step =
    let now = x.after.clock in
    let g = at_place place w.leases in
    let allocation = allocation_entered k mac accepted due w x step.leave h.allocation step.call in
    let in_time : now ≤ due + k.late = step.call.punctual in
    let past : w.clock ≤ now = step.call.forward in
    let shown : now < MAX = let p = step.call.shown in omega (arith, p) in
    let kept = step.lease.kept r in
    let turn : is_given g ≡ true → IsInTurn k now g.operation =
    in_turn k turns due w.session.paced.0 w.clock now place w.leases in_time (let p = step.lease.seldom_passed in omega (arith, p)) h.lined in
    let met : Met k now (min due now) (is_given g) g = meets k w.session.timing now due g (h.ready r) in_time kept turn in
    let ahead : is_given g ≡ true → now + lease_margin k ≤ time_or_never g.until = λ s.
    lease_ahead k now g.renew.0 (time_or_never g.until) g.operation (met.given s).soon (kept s).seldom_stale (met.given s).reach step.spare in
    let called : LeaseCalled k now (min due now) = record { past = omega arith; leave = step.spare; shown = step.call.shown } in
    let ready : is_ready x.after.session.phase ≡ true = stays_ready (is_timeout x.call) _ _ (λ e r. step.lease.stays (cc e) (cc r)) allocation.0.stays r in
    let after = call_follows k mac accepted due place (is_given g) w x.after called r ready
    (record { met = met; far = λ s. far_by now LEAD (lease_renewal_time k) (time_or_never g.until) (ahead s) step.spare; kept = kept }) x.call
    step.lease.serves step.call.does in
    let lined = call_lined k mac accepted due turns place w x.after
    (record {
      shown = shown;
      was_ready = r;
      ready = ready;
      few = let p = step.lease.few in omega (arith, p);
      pace = allocation.1.paced;
      punctual = in_time;
      forward = past;
      lined = h.lined;
    }) x.call step.lease.serves step.call.does in
    let same : cond (is_in_line g.operation) (cond (goes_first x.call now w.session x.after.session) (turns + 1) turns) 0 ≡ turns_after turns place w x = omega arith in (
      record { ahead = λ r s. let p = ahead s in omega (arith, p); stays = λ r s. after.stays s },
      record {
        allocation = allocation.1;
        ready = λ e. after.leased;
        bare = λ e. absurd (cc (ready, e));
        lined = subst (λ (n : ℕ). Lined k n (due_since x.call due x.after) x.after.session.paced.0 now place x.after.leases) same lined;
      },
    )

entered_bare : (k : Limits) (mac : List ℕ → List ℕ → List ℕ) (accepted : List Acceptance) (place due turns : ℕ) (w : World) (x : Entry)
    → is_ready w.session.phase ≡ false → LeaseHolds k due turns place w → LeaseStep k mac accepted place due turns w x → Entered k place due turns w x
entered_bare k mac accepted place due turns w x r h step =
    let allocation = allocation_entered k mac accepted due w x step.leave h.allocation step.call in
    let after = call_bare k mac accepted place w x.after r (h.bare r) x.call step.lease.serves step.call.does in (
      record { ahead = λ e s. absurd (cc (r, e)); stays = λ e s. absurd (cc (r, e)) },
      record {
        allocation = allocation.1;
        ready = λ e. bare_leased k (due_since x.call due x.after) (at_place place x.after.leases) after;
        bare = λ e. after;
        lined = bare_lined k (turns_after turns place w x) (due_since x.call due x.after) x.after.session.paced.0 x.after.clock place x.after.leases after;
      },
    )

entered : (b : Bool) (k : Limits) (mac : List ℕ → List ℕ → List ℕ) (accepted : List Acceptance) (place due turns : ℕ) (w : World) (x : Entry)
    → is_ready w.session.phase ≡ b → LeaseHolds k due turns place w → LeaseStep k mac accepted place due turns w x → Entered k place due turns w x
entered true k mac accepted place due turns w x r h step = entered_ready k mac accepted place due turns w x r h step
entered false k mac accepted place due turns w x r h step = entered_bare k mac accepted place due turns w x r h step

runs : (k : Limits) (mac : List ℕ → List ℕ → List ℕ) (accepted : List Acceptance) (place due turns : ℕ) (w : World) (run : List Entry) → Leave k → LeaveForLeases k
    → LeaseHolds k due turns place w → IsTimelyFrom k mac accepted due w run → IsLeaseTimelyFrom k mac place turns w run → LeaseNeverLapses k place w run
runs k mac accepted place due turns w [] leave spare h calls leases = tt
runs k mac accepted place due turns w (x ∷ rest) leave spare h calls leases =
    let step = entered (is_ready w.session.phase) k mac accepted place due turns w x refl h
    (record { leave = leave; spare = spare; call = calls.0; lease = leases.0 }) in (
      step.0,
      runs k mac accepted place (due_since x.call due x.after) (turns_after turns place w x) x.after rest leave spare step.1 calls.1 leases.1,
    )

at_fresh : (n p : ℕ) → (p < n) ⊎ (n ≤ p) → at_place p (replicate n unused) ≡ unused
at_fresh n p (inl h) = get_or-replicate n p unused unused h
at_fresh n p (inr h) = get_or_past (replicate n unused) p unused (subst (λ (m : ℕ). m ≤ p) (sym (length-replicate n unused)) h)

fresh_bare : (n p : ℕ) → BareAt p (replicate n unused)
fresh_bare n p = subst Bare (sym (at_fresh n p (cases_lt p n))) (refl, refl)

pub lease_never_lapses : (k : Limits) (mac : List ℕ → List ℕ → List ℕ) (accepted : List Acceptance) (place : ℕ) (w : World) (run : List Entry)
    → Leave k → LeaveForLeases k → IsFresh w → IsTimely k mac accepted w run → IsLeaseTimely k mac place w run → LeaseNeverLapses k place w run
lease_never_lapses k mac accepted place w run leave spare fresh calls leases =
    let bare : BareAt place w.leases = subst (BareAt place) (sym fresh.leases) (fresh_bare fresh.places place) in
    runs k mac accepted place MAX 0 w run leave spare
    (record {
      allocation = fresh_holds k w fresh;
      ready = λ e. bare_leased k MAX (at_place place w.leases) bare;
      bare = λ e. bare;
      lined = bare_lined k 0 MAX w.session.paced.0 w.clock place w.leases bare;
    }) calls leases
