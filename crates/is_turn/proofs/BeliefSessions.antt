-- What the calls of a client do to its session keeps what it believes of its allocation within what the server has.
use Rattle.is_turn.specs.declared.relaying.Route.TheVariants as routes
use Rattle.is_turn.specs.declared.session.Allocation.{Allocation}
use Rattle.is_turn.specs.declared.session.Phase.TheVariants as phases
use Rattle.is_turn.specs.declared.session.Step.TheVariants as steps
use Rattle.is_turn.specs.declared.turn.Packet.TheVariants as packets
use Rattle.is_turn.specs.Session.{renewed, is_renewal_due}
use Rattle.is_turn.proofs.Common.{◌&&◌, ◌==◌, ◌||◌, ◌≡◌, Acceptance, after_route, after_step, allocated_in, AllocationIsHeld, another}
use Rattle.is_turn.proofs.Common.{asking, at_time, Attempt, Bool, changed_by, closed, closed_early, closed_in, cond, doubted, extended}
use Rattle.is_turn.proofs.Common.{failed_in, false, fill_bytes, freed, hinted, Instant, is_exhausted, is_gone, is_new, is_none, is_ready}
use Rattle.is_turn.proofs.Common.{is_redirected, IsForAllocation, IsHeld, IsNew, lease_failed, left, lifetime_of, List, lost, lost_in}
use Rattle.is_turn.proofs.Common.{may_be_made, None, not_renewed, Operation, Option, Packet, packet_polled, Phase, polled, probed, refl}
use Rattle.is_turn.proofs.Common.{Refresh, refreshed_in, repeated_by, reported_by, Request, request_timing, retried, Route, sending}
use Rattle.is_turn.proofs.Common.{sending_for, sent_once_more, Session, SocketAddr, Some, Step, Stream, time_after, tried_by, true}
use Rattle.is_turn.proofs.Common.{turn_started, unsent, with_another, with_doubt, with_hint, with_renewal, with_request, without_pace, ℕ}
use Rattle.is_turn.proofs.Beliefs.{Log, AttemptsGood, OperationGood, SessionGood, attempts_with}

pub session_cond : (log : Log) (b : Bool) (x y : Session) → SessionGood log x → SessionGood log y → SessionGood log (cond b x y)
session_cond log true x y p q = p
session_cond log false x y p q = q

held_in : (phase : Phase) (until : Instant) (now : ℕ) (accepted : List Acceptance) → IsHeld IsForAllocation now until.0 accepted → AllocationIsHeld phase until now accepted
held_in phases.Ready until now accepted h = h
held_in phases.New until now accepted h = tt
held_in phases.Asking until now accepted h = tt
held_in phases.Leaving until now accepted h = tt
held_in phases.Closing until now accepted h = tt
held_in phases.Ended until now accepted h = tt

-- ---- requests and ends

session_request : (log : Log) (now : Instant) (r : Request) (s : Session) → SessionGood log s → SessionGood log (with_request now r s)
session_request log now r s h = ((tt, tt, tt, tt, tt, tt), h.1)

session_changed : (log : Log) (change : Operation → Operation) (o : Option Operation) (s : Session)
    → ((x : Operation) → AttemptsGood log x.attempts → AttemptsGood log (change x).attempts) → SessionGood log s → OperationGood log o
    → SessionGood log (changed_by change o s)
session_changed log change None s keeps h k = h
session_changed log change (Some o) s keeps h k = (keeps o k, h.1)

pub session_started : (log : Log) (now : Instant) (s : Session) → SessionGood log s → SessionGood log (turn_started now s)
session_started log now s h = session_cond log (is_new s.phase) (asking now s) s ((tt, tt, tt, tt, tt, tt), tt) h

session_freed : (log : Log) (now : Instant) (s : Session) → SessionGood log (freed now s)
session_freed log now s = ((tt, tt, tt, tt, tt, tt), tt)

session_left : (log : Log) (o : Option Operation) (s : Session) → SessionGood log s → OperationGood log o
    → SessionGood log (changed_by unsent o (record s { phase = phases.Leaving }))
session_left log None s h k = (h.0, tt)
session_left log (Some o) s h k = (k, tt)

session_early : (log : Log) (has : Bool) (s : Session) → SessionGood log s → SessionGood log (closed_early has s)
session_early log has s h = session_cond log (may_be_made has s) (left s) (closed None s) (session_left log s.operation s h h.0) (tt, tt)

pub session_closed : (log : Log) (phase : Phase) (now : Instant) (has : Bool) (s : Session) → SessionGood log s → SessionGood log (closed_in phase now has s)
session_closed log phases.Ready now has s h = session_freed log now s
session_closed log phases.Asking now has s h = session_early log has s h
session_closed log phases.New now has s h = session_early log has s h
session_closed log phases.Leaving now has s h = h
session_closed log phases.Closing now has s h = h
session_closed log phases.Ended now has s h = h

pub session_lost : (log : Log) (phase : Phase) (s : Session) → SessionGood log s → SessionGood log (lost_in phase s)
session_lost log phases.New s h = (tt, tt)
session_lost log phases.Asking s h = (tt, tt)
session_lost log phases.Ready s h = (tt, tt)
session_lost log phases.Leaving s h = (tt, tt)
session_lost log phases.Closing s h = (tt, tt)
session_lost log phases.Ended s h = h

session_not_renewed : (log : Log) (now : Instant) (code : Option ℕ) (s : Session) → SessionGood log s → SessionGood log (not_renewed now code s)
session_not_renewed log now code s h = session_cond log (is_gone code) (lost code None s) (retried now s) (tt, tt) (tt, h.1)

pub session_failed : (log : Log) (phase : Phase) (now : Instant) (code : Option ℕ) (s : Session) → SessionGood log s → SessionGood log (failed_in phase now code s)
session_failed log phases.Leaving now code s h = (tt, tt)
session_failed log phases.Closing now code s h = (tt, tt)
session_failed log phases.Ready now code s h = session_not_renewed log now code s h
session_failed log phases.New now code s h = (tt, tt)
session_failed log phases.Asking now code s h = (tt, tt)
session_failed log phases.Ended now code s h = (tt, tt)

pub session_probed : (log : Log) (now : Instant) (s : Session) → SessionGood log s → SessionGood log (probed now s)
session_probed log now s h =
    session_cond log (is_ready s.phase && is_none s.operation) (with_request now (Refresh s.lifetime) s) s
    (session_request log now (Refresh s.lifetime) s h) h

pub session_lease_failed : (log : Log) (now : Instant) (code : ℕ) (s : Session) → SessionGood log s → SessionGood log (lease_failed now code s)
session_lease_failed log now code s h =
    session_cond log (is_gone (Some code)) (lost (Some code) None s) (cond (code == 403 || code == 443) s (probed now s)) (tt, tt)
    (session_cond log (code == 403 || code == 443) s (probed now s) h (session_probed log now s h))

-- ---- genuine responses

pub session_allocated : (log : Log) (phase : Phase) (now since : Instant) (seconds : ℕ) (allocation : Allocation) (s : Session)
    → IsHeld IsForAllocation log.clock (time_after since (lifetime_of seconds)).0 log.accepted
    → SessionGood log (allocated_in phase now allocation (extended since seconds s))
session_allocated log phases.Leaving now since seconds allocation s h = session_freed log now (without_pace now (extended since seconds s))
session_allocated log phases.Ready now since seconds allocation s h = (tt, h)
session_allocated log phases.New now since seconds allocation s h = (tt, h)
session_allocated log phases.Asking now since seconds allocation s h = (tt, h)
session_allocated log phases.Closing now since seconds allocation s h = (tt, h)
session_allocated log phases.Ended now since seconds allocation s h = (tt, h)

session_renewed : (log : Log) (since : Instant) (seconds : ℕ) (s : Session)
    → IsHeld IsForAllocation log.clock (time_after since (lifetime_of seconds)).0 log.accepted
    → SessionGood log (cond (seconds == 0) (lost None None s) (renewed since seconds s))
session_renewed log since seconds s h =
    session_cond log (seconds == 0) (lost None None s) (renewed since seconds s) (tt, tt)
    (tt, held_in s.phase (time_after since (lifetime_of seconds)) log.clock log.accepted h)

pub session_refreshed : (log : Log) (phase : Phase) (since : Instant) (seconds : ℕ) (s : Session)
    → IsHeld IsForAllocation log.clock (time_after since (lifetime_of seconds)).0 log.accepted → SessionGood log (refreshed_in phase since seconds s)
session_refreshed log phases.Closing since seconds s h = (tt, tt)
session_refreshed log phases.Ready since seconds s h = session_renewed log since seconds s h
session_refreshed log phases.New since seconds s h = session_renewed log since seconds s h
session_refreshed log phases.Asking since seconds s h = session_renewed log since seconds s h
session_refreshed log phases.Leaving since seconds s h = session_renewed log since seconds s h
session_refreshed log phases.Ended since seconds s h = session_renewed log since seconds s h

pub session_redirected : (log : Log) (now : Instant) (server : SocketAddr) (s : Session) → SessionGood log s → SessionGood log (is_redirected now server s)
session_redirected log now server s h = ((tt, tt, tt, tt, tt, tt), h.1)

-- ---- others

pub session_doubt : (log : Log) (code : ℕ) (s : Session) → SessionGood log s → SessionGood log (with_doubt code s)
session_doubt log code s h = session_changed log (doubted code) s.operation s (λ x k. k) h h.0

pub session_hint : (log : Log) (now : Instant) (code : ℕ) (s : Session) → SessionGood log s → SessionGood log (with_hint now code s)
session_hint log now code s h = session_changed log (hinted now code (request_timing s)) s.operation s (λ x k. k) h h.0

pub session_another : (log : Log) (now : Instant) (b : Bool) (code : ℕ) (s : Session) → SessionGood log s → SessionGood log (with_another now b code s)
session_another log now b code s h = session_changed log (another now b code) s.operation (without_pace now s) (λ x k. k) h h.0

-- ---- the clock, packets and events

pub session_renewal : (log : Log) (now : Instant) (s : Session) → SessionGood log s → SessionGood log (with_renewal now s)
session_renewal log now s h =
    session_cond log (is_renewal_due now s) (with_request now (Refresh s.lifetime) s) s (session_request log now (Refresh s.lifetime) s h) h

session_tried : (log : Log) (attempt : Attempt) (o : Option Operation) (s : Session) → attempt.since.0 ≡ log.clock → IsNew attempt.id.0 log.sent
    → SessionGood log s → OperationGood log o → SessionGood log (tried_by (at_time log.clock) attempt o s)
session_tried log attempt None s now fresh h k = h
session_tried log attempt (Some o) s now fresh h k = (attempts_with log attempt o.attempts now fresh k, h.1)

session_repeated : (log : Log) (now : Instant) (o : Option Operation) (s : Session) → SessionGood log s → OperationGood log o → SessionGood log (repeated_by now o s)
session_repeated log now None s h k = h
session_repeated log now (Some o) s h k =
    session_cond log (is_exhausted (request_timing s) o) s (sending now (record s { operation = Some (sent_once_more now (request_timing s) o) })) h (k, h.1)

pub session_step : (log : Log) (step : Step) (key : Option (List ℕ)) (stream : Stream) (s : Session) → IsNew (fill_bytes 12 stream).0 log.sent
    → SessionGood log s → SessionGood log (after_step step (at_time log.clock) key stream s).0
session_step log steps.Nothing key stream s fresh h = h
session_step log steps.Lapse key stream s fresh h = (tt, tt)
session_step log steps.Attempt key stream s fresh h =
    let attempt : Attempt = record { id = record { 0 = (fill_bytes 12 stream).0 }; key = key; since = at_time log.clock } in
    session_tried log attempt s.operation s refl fresh h h.0
session_step log steps.Repeat key stream s fresh h = session_repeated log (at_time log.clock) s.operation s h h.0
session_step log steps.TimeOut key stream s fresh h = session_failed log s.phase (at_time log.clock) None s h
session_step log steps.KeepAlive key stream s fresh h = h

pub session_sending : (log : Log) (step : Step) (now : Instant) (s : Session) → SessionGood log s → SessionGood log (sending_for step now s)
session_sending log steps.Attempt now s h = h
session_sending log steps.Repeat now s h = h
session_sending log steps.Nothing now s h = h
session_sending log steps.Lapse now s h = h
session_sending log steps.TimeOut now s h = h
session_sending log steps.KeepAlive now s h = h

pub session_polled : (log : Log) (packet : Packet) (s : Session) → SessionGood log s → SessionGood log (packet_polled packet s)
session_polled log packets.Nothing s h = h
session_polled log (packets.Request r id) s h = session_changed log polled s.operation s (λ x k. k) h h.0
session_polled log (packets.KeepAlive id) s h = h
session_polled log (packets.Lease place r id) s h = h

pub session_routed : (log : Log) (route : Route) (now : Instant) (s : Session) → SessionGood log s → SessionGood log (after_route route now s)
session_routed log routes.Nowhere now s h = h
session_routed log routes.Indication now s h = h
session_routed log (routes.Channel number) now s h = h

pub session_reported : (log : Log) (made : Option Allocation) (s : Session) → SessionGood log s → SessionGood log (reported_by made s)
session_reported log None s h = h
session_reported log (Some made) s h = h
