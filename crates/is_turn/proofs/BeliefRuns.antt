-- Each call keeps what a client believes within what the server has, so in each run it is true.
use Rattle.is_turn.specs.declared.outcome.Reason.TheVariants as reasons
use Rattle.is_turn.specs.declared.turn.Packet.TheVariants as packets
use Rattle.is_turn.specs.Alternate.{alternate_in}
use Rattle.is_turn.proofs.Common.{[], ◌<◌, ◌∷◌, ◌≡◌, ◌≤◌, ◌⊎◌, Acceptance, advanced_in, after_event, after_poll, after_step, Allocated}
use Rattle.is_turn.proofs.Common.{and_sent, another, ap, arith, at_place, at_time, Becomes, BeliefIsAlwaysTrue, BeliefIsTrue, Bool, Call}
use Rattle.is_turn.proofs.Common.{cases_lt, challenge_taken, Challenged, changed, channel_data, channel_peer, client_packet, close, code_of}
use Rattle.is_turn.proofs.Common.{cond, Credentials, Datagram, datagram_of, Does, Doubted, doubted, Dropped, dropped, Err, Failed}
use Rattle.is_turn.proofs.Common.{failed_at, false, fill_bytes, Follows, get_or-replicate, get_or_past, handle_timeout, Happens, has_failed}
use Rattle.is_turn.proofs.Common.{heard_data, heard_peer, Hinted, hinted, id_of, inl, inr, Instant, ip_of, is_answered_by, is_ready}
use Rattle.is_turn.proofs.Common.{is_redirected, is_some, IsForAllocation, IsForLease, IsFresh, IsHeld, IsHonest, IsNew, IsReceivedAs}
use Rattle.is_turn.proofs.Common.{IsRespondedBy, IsRun, kept_leases, key_now, Lasting, lasts_since, Lease, lease_due, lease_failed}
use Rattle.is_turn.proofs.Common.{lease_polled, lease_polled_in, LeaseApplies, leases_after_event, leases_after_poll, length-replicate}
use Rattle.is_turn.proofs.Common.{lifetime_for, lifetime_of, List, lose, malformed, Message, new_session, None, Ok, Operation, Option}
use Rattle.is_turn.proofs.Common.{Outcome, outcome_for, outcome_with, OutcomeApplies, Packet, peer_data, permit, poll_event, poll_transmit}
use Rattle.is_turn.proofs.Common.{position, probe, Receipt, receive, Redirected, refl, Refreshed, replicate, reported, Request, response}
use Rattle.is_turn.proofs.Common.{Result, routed, send, Sent, sent_after, Session, session_after_event, SocketAddr, Some, start, Step}
use Rattle.is_turn.proofs.Common.{step_at, step_of, Stream, StunError, subst, sym, time_after, TimesOutBy, TransId, true, unasked, unparsed}
use Rattle.is_turn.proofs.Common.{unused, with_another, with_changed, with_doubt, with_hint, with_renewal, World, ℕ}
use Rattle.is_turn.proofs.Beliefs.{Log, RequestGood, LeaseGood, LeasesGood, SessionGood, session_later, leases_later, session_sent}
use Rattle.is_turn.proofs.Beliefs.{leases_sent}
use Rattle.is_turn.proofs.BeliefAnswers.{IsBacked, IsBackedFor, backed_with}
use Rattle.is_turn.proofs.BeliefLeases.{good_set, good_list_cond, good_failed, good_doubted, good_hinted, good_another, good_polled}
use Rattle.is_turn.proofs.BeliefLeases.{good_lasts, good_permits, good_routed, good_heard, good_advanced_in, good_kept, good_driven}
use Rattle.is_turn.proofs.BeliefLeases.{good_reported}
use Rattle.is_turn.proofs.BeliefSessions.{session_cond, session_started, session_closed, session_lost, session_failed, session_probed}
use Rattle.is_turn.proofs.BeliefSessions.{session_lease_failed, session_allocated, session_refreshed, session_redirected, session_doubt}
use Rattle.is_turn.proofs.BeliefSessions.{session_hint, session_another, session_renewal, session_step, session_sending, session_polled}
use Rattle.is_turn.proofs.BeliefSessions.{session_routed, session_reported}

abbrev Good : Log → Session → List Lease → Type 0
Good log s l = SessionGood log s × LeasesGood log l

session_is : (log : Log) (s new : Session) → new ≡ s → SessionGood log s → SessionGood log new
session_is log s new e h = subst (λ (x : Session). SessionGood log x) (sym e) h

leases_is : (log : Log) (l new : List Lease) → new ≡ l → LeasesGood log l → LeasesGood log new
leases_is log l new e h = subst (λ (x : List Lease). LeasesGood log x) (sym e) h

-- ---- a response to the request for the allocation

follows : (log : Log) (now : Instant) (server : SocketAddr) (s new : Session) → SessionGood log s → Follows now server s new → SessionGood log new
follows log now server s new h (inl step) = session_is log (is_redirected now server s) new step.1 (session_redirected log now server s h)
follows log now server s new h (inr step) = session_is log (has_failed now (Some 300) s) new step.1 (session_failed log s.phase now (Some 300) s h)

abbrev SessionBacked : Log → Outcome → Type 0
SessionBacked log (Allocated since seconds allocation) = IsHeld IsForAllocation log.clock (time_after since (lifetime_of seconds)).0 log.accepted
SessionBacked log (Refreshed since seconds) = IsHeld IsForAllocation log.clock (time_after since (lifetime_of seconds)).0 log.accepted
SessionBacked log (Dropped reason) = Unit {0}
SessionBacked log (Doubted code) = Unit {0}
SessionBacked log (Hinted code) = Unit {0}
SessionBacked log (Challenged b code) = Unit {0}
SessionBacked log (Lasting since) = Unit {0}
SessionBacked log (Redirected server) = Unit {0}
SessionBacked log (Failed code) = Unit {0}

backed_by : (log : Log) (r : Request) (outcome : Outcome) → IsBacked log r outcome → SessionBacked log outcome
backed_by log r (Allocated since seconds allocation) h = h
backed_by log r (Refreshed since seconds) h = h
backed_by log r (Dropped reason) h = tt
backed_by log r (Doubted code) h = tt
backed_by log r (Hinted code) h = tt
backed_by log r (Challenged b code) h = tt
backed_by log r (Lasting since) h = tt
backed_by log r (Redirected server) h = tt
backed_by log r (Failed code) h = tt

session_backed : (log : Log) (o : Option Operation) (outcome : Outcome) → IsBackedFor log o outcome → SessionBacked log outcome
session_backed log None outcome h = subst (SessionBacked log) (sym h) tt
session_backed log (Some o) outcome h = backed_by log o.request outcome h

session_applied : (log : Log) (outcome : Outcome) (realm nonce : Option (List ℕ)) (s : Session) (c : Option Credentials) (result : Receipt)
    (new : Session) (c_new : Option Credentials) → SessionGood log s → SessionBacked log outcome
    → OutcomeApplies (at_time log.clock) outcome realm nonce s c result new c_new → SessionGood log new
session_applied log (Dropped reason) realm _ s c result new c_new h backed step = session_is log s new step.1 h
session_applied log (Doubted code) realm _ s c result new c_new h backed step = session_is log (with_doubt code s) new step.1 (session_doubt log code s h)
session_applied log (Hinted code) realm _ s c result new c_new h backed step =
    session_is log (with_hint (at_time log.clock) code s) new step.1 (session_hint log (at_time log.clock) code s h)
session_applied log (Challenged b code) realm nonce s c result new c_new h backed step =
    session_is log (cond (challenge_taken realm nonce c).1 (with_another (at_time log.clock) b code s) (with_doubt code s)) new step.1
    (session_cond log (challenge_taken realm nonce c).1 (with_another (at_time log.clock) b code s) (with_doubt code s)
    (session_another log (at_time log.clock) b code s h) (session_doubt log code s h))
session_applied log (Allocated since seconds allocation) realm _ s c result new c_new h backed step =
    session_is log _ new step.1 (search (session_allocated log s.phase (at_time log.clock) since seconds allocation s backed))
session_applied log (Refreshed since seconds) realm _ s c result new c_new h backed step =
    session_is log _ new step.1 (search (session_refreshed log s.phase since seconds s backed))
session_applied log (Lasting since) realm _ s c result new c_new h backed step = session_is log s new step.1 h
session_applied log (Redirected server) realm _ s c result new c_new h backed step = follows log (at_time log.clock) server s new h step.1
session_applied log (Failed code) realm _ s c result new c_new h backed step =
    session_is log (has_failed (at_time log.clock) (Some code) s) new step.1 (session_failed log s.phase (at_time log.clock) (Some code) s h)

-- ---- a response to the request for a lease

abbrev LeaseBacked : Log → Lease → Outcome → Type 0
LeaseBacked log g (Lasting since) = IsHeld (IsForLease g.peer g.number) log.clock (time_after since (lifetime_for g.number)).0 log.accepted
LeaseBacked log g (Allocated since seconds allocation) = Unit {0}
LeaseBacked log g (Refreshed since seconds) = Unit {0}
LeaseBacked log g (Dropped reason) = Unit {0}
LeaseBacked log g (Doubted code) = Unit {0}
LeaseBacked log g (Hinted code) = Unit {0}
LeaseBacked log g (Challenged b code) = Unit {0}
LeaseBacked log g (Redirected server) = Unit {0}
LeaseBacked log g (Failed code) = Unit {0}

lasting_backed : (log : Log) (r : Request) (since : Instant) (peer : Option SocketAddr) (number : Option ℕ) → IsForLease peer number r
    → IsBacked log r (Lasting since) → IsHeld (IsForLease peer number) log.clock (time_after since (lifetime_for number)).0 log.accepted
lasting_backed log r since None number is h = absurd is
lasting_backed log r since (Some peer) number is h = h number peer is

lease_backed_by : (log : Log) (r : Request) (g : Lease) (outcome : Outcome) → IsForLease g.peer g.number r → IsBacked log r outcome → LeaseBacked log g outcome
lease_backed_by log r g (Lasting since) is h = lasting_backed log r since g.peer g.number is h
lease_backed_by log r g (Allocated since seconds allocation) is h = tt
lease_backed_by log r g (Refreshed since seconds) is h = tt
lease_backed_by log r g (Dropped reason) is h = tt
lease_backed_by log r g (Doubted code) is h = tt
lease_backed_by log r g (Hinted code) is h = tt
lease_backed_by log r g (Challenged b code) is h = tt
lease_backed_by log r g (Redirected server) is h = tt
lease_backed_by log r g (Failed code) is h = tt

lease_backed : (log : Log) (o : Option Operation) (g : Lease) (outcome : Outcome) → RequestGood g.peer g.number o → IsBackedFor log o outcome → LeaseBacked log g outcome
lease_backed log None g outcome is h = subst (LeaseBacked log g) (sym h) tt
lease_backed log (Some o) g outcome is h = lease_backed_by log o.request g outcome is h

good_change : (log : Log) (place : ℕ) (change : Lease → Lease) (l : List Lease) → LeasesGood log l → LeaseGood log (change (at_place place l))
    → LeasesGood log (with_changed place change l)
good_change log place change l all h = good_set log l place (change (at_place place l)) all h

lease_applied : (log : Log) (place : ℕ) (outcome : Outcome) (realm nonce : Option (List ℕ)) (s : Session) (l : List Lease) (c : Option Credentials)
    (result : Receipt) (new : Session) (l_new : List Lease) (c_new : Option Credentials) → Good log s l → LeaseBacked log (at_place place l) outcome
    → LeaseApplies (at_time log.clock) place outcome realm nonce s l c result new l_new c_new → Good log new l_new
lease_applied log place (Dropped reason) realm _ s l c result new l_new c_new h backed step =
    (session_is log s new step.1 h.0, leases_is log l l_new step.2 h.1)
lease_applied log place (Doubted code) realm _ s l c result new l_new c_new h backed step = (
  session_is log s new step.1 h.0,
  leases_is log (with_changed place (changed (doubted code)) l) l_new step.2
      (good_change log place (changed (doubted code)) l h.1 (good_doubted log code (at_place place l) (h.1 place))),
)
lease_applied log place (Hinted code) realm _ s l c result new l_new c_new h backed step = (
  session_is log s new step.1 h.0,
  leases_is log (with_changed place (changed (hinted (at_time log.clock) code s.timing)) l) l_new step.2
      (good_change log place (changed (hinted (at_time log.clock) code s.timing)) l h.1
      (good_hinted log (at_time log.clock) code s.timing (at_place place l) (h.1 place))),
)
lease_applied log place (Challenged b code) realm nonce s l c result new l_new c_new h backed step = (
  session_is log s new step.0 h.0,
  leases_is log (cond (challenge_taken realm nonce c).1 (with_changed place (changed (another (at_time log.clock) b code)) l)
      (with_changed place (changed (doubted code)) l)) l_new step.1.1
      (good_list_cond log (challenge_taken realm nonce c).1 (with_changed place (changed (another (at_time log.clock) b code)) l)
      (with_changed place (changed (doubted code)) l)
      (good_change log place (changed (another (at_time log.clock) b code)) l h.1
      (good_another log (at_time log.clock) b code (at_place place l) (h.1 place)))
      (good_change log place (changed (doubted code)) l h.1 (good_doubted log code (at_place place l) (h.1 place)))),
)
lease_applied log place (Lasting since) realm _ s l c result new l_new c_new h backed step = (
  session_is log s new step.1 h.0,
  leases_is log _ l_new step.2
      (search (good_change log place (lasts_since since) l h.1 (good_lasts log since (at_place place l) (h.1 place) backed))),
)
lease_applied log place (Failed code) realm _ s l c result new l_new c_new h backed step = (
  session_is log (lease_failed (at_time log.clock) code s) new step.1 (session_lease_failed log (at_time log.clock) code s h.0),
  leases_is log (kept_leases new (with_changed place (failed_at (at_time log.clock) (Some code)) l)) l_new step.2
      (good_kept log new.phase (with_changed place (failed_at (at_time log.clock) (Some code)) l)
      (good_change log place (failed_at (at_time log.clock) (Some code)) l h.1
      (good_failed log (at_time log.clock) (Some code) (at_place place l) (h.1 place)))),
)
lease_applied log place (Allocated since seconds allocation) realm _ s l c result new l_new c_new h backed step =
    (session_is log s new step.1 h.0, leases_is log l l_new step.2 h.1)
lease_applied log place (Refreshed since seconds) realm _ s l c result new l_new c_new h backed step =
    (session_is log s new step.1 h.0, leases_is log l l_new step.2 h.1)
lease_applied log place (Redirected server) realm _ s l c result new l_new c_new h backed step =
    (session_is log s new step.1 h.0, leases_is log l l_new step.2 h.1)

-- ---- any datagram of the server

abbrev AllHonest : (List ℕ → List ℕ → List ℕ) → Log → Message → Session → List Lease → Option Credentials → Type 0
AllHonest mac log m s l c = code_of m ≡ None → IsHonest mac m log.clock log.sent log.accepted c s.operation
    × ((place : ℕ) → IsHonest mac m log.clock log.sent log.accepted c (at_place place l).operation)

responded : (p : Option ℕ) (mac : List ℕ → List ℕ → List ℕ) (log : Log) (m : Message) (alternate : Option SocketAddr) (s : Session) (l : List Lease)
    (c : Option Credentials) (result : Receipt) (new : Session) (l_new : List Lease) (c_new : Option Credentials) → Good log s l
    → AllHonest mac log m s l c → IsRespondedBy p mac (at_time log.clock) m alternate s l c result new l_new c_new → Good log new l_new
responded None mac log m alternate s l c result new l_new c_new h honest step = (
  session_applied log (outcome_for step.0.0 s c m alternate) m.attributes.realm m.attributes.nonce s c result new c_new h.0
      (session_backed log s.operation (outcome_for step.0.0 s c m alternate)
      (backed_with log mac m step.0.0 s.phase c alternate s.operation h.0.0 step.0.1 (λ success. (honest success).0))) step.0.2,
  leases_is log (kept_leases new l) l_new step.1 (good_kept log new.phase l h.1),
)
responded (Some place) mac log m alternate s l c result new l_new c_new h honest step =
    let g = at_place place l in
    lease_applied log place (outcome_with step.0 s.phase c m None g.operation) m.attributes.realm m.attributes.nonce s l c result new l_new c_new h
    (lease_backed log g.operation g (outcome_with step.0 s.phase c m None g.operation) (h.1 place).1
    (backed_with log mac m step.0 s.phase c None g.operation (h.1 place).0 step.1 (λ success. (honest success).1 place))) step.2

heard_cond : (log : Log) (b : Bool) (x y : Receipt × List Lease) → LeasesGood log x.1 → LeasesGood log y.1 → LeasesGood log (cond b x y).1
heard_cond log true x y p q = p
heard_cond log false x y p q = q

good_heard_peer : (log : Log) (now : Instant) (peer : Option SocketAddr) (contents : List ℕ) (l : List Lease) → LeasesGood log l
    → LeasesGood log (heard_peer now peer contents l).1
good_heard_peer log now None contents l all = all
good_heard_peer log now (Some peer) contents l all = good_heard log now (ip_of peer) peer l all

good_data : (log : Log) (now : Instant) (peer : Option SocketAddr) (contents : List ℕ) (s : Session) (l : List Lease) → LeasesGood log l
    → LeasesGood log (heard_data now peer contents s l).1
good_data log now peer contents s l all =
    heard_cond log (is_ready s.phase) (heard_peer now peer contents l) (dropped reasons.NotPermitted, l) (good_heard_peer log now peer contents l all) all

received : (d : Datagram) (mac : List ℕ → List ℕ → List ℕ) (log : Log) (alternate : Option SocketAddr) (s : Session) (l : List Lease)
    (c : Option Credentials) (result : Receipt) (new : Session) (l_new : List Lease) (c_new : Option Credentials) → Good log s l
    → ((m : Message) → d ≡ response m → AllHonest mac log m s l c) → IsReceivedAs d mac (at_time log.clock) alternate s l c result new l_new c_new
    → Good log new l_new
received (response m) mac log alternate s l c result new l_new c_new h honest step =
    responded (position (is_answered_by m) l) mac log m alternate s l c result new l_new c_new h (honest m refl) step
received (peer_data peer contents) mac log alternate s l c result new l_new c_new h honest step = (
  session_is log s new step.1 h.0,
  leases_is log (heard_data (at_time log.clock) (Some peer) contents s l).1 l_new (ap (λ (x : Receipt × List Lease). x.1) step.0)
      (good_data log (at_time log.clock) (Some peer) contents s l h.1),
)
received (channel_data number contents) mac log alternate s l c result new l_new c_new h honest step = (
  session_is log s new step.1 h.0,
  leases_is log (heard_data (at_time log.clock) (channel_peer number l) contents s l).1 l_new (ap (λ (x : Receipt × List Lease). x.1) step.0)
      (good_data log (at_time log.clock) (channel_peer number l) contents s l h.1),
)
received malformed mac log alternate s l c result new l_new c_new h honest step =
    (session_is log s new step.1 h.0, leases_is log l l_new step.2 h.1)
received unasked mac log alternate s l c result new l_new c_new h honest step =
    (session_is log s new step.1 h.0, leases_is log l l_new step.2 h.1)
received unparsed mac log alternate s l c result new l_new c_new h honest step =
    (session_is log s new step.1 h.0, leases_is log l l_new step.2 h.1)

-- ---- the clock

timed_out_by : (p : Option ℕ) (log : Log) (step : Step) (key : Option (List ℕ)) (stream : Stream) (s : Session) (l : List Lease) (s_new : Session)
    (l_new : List Lease) (stream_new : Stream) → IsNew (fill_bytes 12 stream).0 log.sent → Good log s l
    → TimesOutBy p step (at_time log.clock) key stream s l s_new l_new stream_new → Good log s_new l_new
timed_out_by None log step key stream s l s_new l_new stream_new fresh h does = (
  session_is log (after_step step (at_time log.clock) key stream s).0 s_new (ap (λ (x : Session × Stream). x.0) does.0)
      (session_step log step key stream s fresh h.0),
  leases_is log (kept_leases s_new l) l_new does.1 (good_kept log s_new.phase l h.1),
)
timed_out_by (Some place) log step key stream s l s_new l_new stream_new fresh h does = (
  session_is log _ s_new does.0 (session_sending log (step_at place s l) (at_time log.clock) s h.0),
  leases_is log _ l_new does.1
      (good_kept log s_new.phase _ (good_driven log (step_at place s l) key s.timing place stream l fresh h.1)),
)

-- ---- packets

good_polled_in : (log : Log) (packet : Packet) (l : List Lease) → LeasesGood log l → LeasesGood log (lease_polled_in packet l)
good_polled_in log packets.Nothing l all = all
good_polled_in log (packets.Request r id) l all = all
good_polled_in log (packets.KeepAlive id) l all = all
good_polled_in log (packets.Lease place r id) l all =
    good_set log l place (lease_polled (at_place place l)) all (good_polled log (at_place place l) (all place))

abbrev polled_log : Result (Option ℕ) StunError → Packet → Log → Log
polled_log result packet log = record log { sent = sent_after result packet log.clock log.sent }

good_sent : (log : Log) (id : Option TransId) (s : Session) (l : List Lease) → Good log s l → Good (record log { sent = and_sent id log.clock log.sent }) s l
good_sent log None s l h = h
good_sent log (Some id) s l h = (session_sent log id s h.0, leases_sent log id l h.1)

good_poll : (log : Log) (result : Result (Option ℕ) StunError) (packet : Packet) (s : Session) (l : List Lease) → Good log s l
    → Good (polled_log result packet log) (after_poll result packet s) (leases_after_poll result packet l)
good_poll log (Ok None) packet s l h = h
good_poll log (Ok (Some n)) packet s l h =
    let after = good_sent log (id_of packet) s l h in
    (session_polled (polled_log (Ok (Some n)) packet log) packet s after.0, good_polled_in (polled_log (Ok (Some n)) packet log) packet l after.1)
good_poll log (Err e) packet s l h = h

-- ---- one call

abbrev log_of : List Acceptance → World → Log
log_of accepted w = record { sent = w.sent; clock = w.clock; accepted = accepted }

abbrev WorldGood : List Acceptance → World → Type 0
WorldGood accepted w = Good (log_of accepted w) w.session w.leases

abbrev log_at : List Acceptance → List Sent → ℕ → Log
log_at accepted sent now = record { sent = sent; clock = now; accepted = accepted }

sent_is : (accepted : List Acceptance) (sent : List Sent) (new : World) → new.sent ≡ sent → Good (log_at accepted sent new.clock) new.session new.leases → WorldGood accepted new
sent_is accepted sent new e h =
    subst (λ (x : List Sent). Good (log_at accepted x new.clock) new.session new.leases) (sym e) h

becomes : (accepted : List Acceptance) (s : Session) (l : List Lease) (sent : List Sent) (new : World) → Good (log_at accepted sent new.clock) s l
    → Becomes s l sent new → WorldGood accepted new
becomes accepted s l sent new h does =
    sent_is accepted sent new does.2
    (session_is (log_at accepted sent new.clock) s new.session does.0 h.0, leases_is (log_at accepted sent new.clock) l new.leases does.1 h.1)

good_event : (log : Log) (s : Session) (l : List Lease) → Good log s l → Good log (session_after_event s l) (leases_after_event s l)
good_event log s l h =
    let after = session_reported log s.made s h.0 in (
      session_cond log (is_some s.made) (after_event s) (cond (is_some (reported l).1) s (after_event s)) after
          (session_cond log (is_some (reported l).1) s (after_event s) h.0 after),
      good_list_cond log (is_some s.made) l (reported l).0 h.1 (good_reported log l h.1),
    )

does_good : (call : Call) (mac : List ℕ → List ℕ → List ℕ) (accepted : List Acceptance) (w new : World)
    → Good (log_at accepted w.sent new.clock) w.session w.leases → Does call mac accepted new.clock w new → WorldGood accepted new
does_good start mac accepted w new h does =
    let log = log_at accepted w.sent new.clock in
    becomes accepted _ w.leases w.sent new (session_started log (at_time new.clock) w.session h.0, h.1) does
does_good (close has) mac accepted w new h does =
    let log = log_at accepted w.sent new.clock in
    becomes accepted _ _ w.sent new
    (session_closed log w.session.phase (at_time new.clock) has w.session h.0, good_kept log new.session.phase w.leases h.1) does
does_good lose mac accepted w new h does =
    let log = log_at accepted w.sent new.clock in
    becomes accepted _ _ w.sent new (session_lost log w.session.phase w.session h.0, good_kept log new.session.phase w.leases h.1) does
does_good (permit peer) mac accepted w new h does =
    let log = log_at accepted w.sent new.clock in
    becomes accepted w.session _ w.sent new (h.0, good_permits log (at_time new.clock) peer w.session w.leases h.1) does
does_good (send peer media) mac accepted w new h does =
    let log = log_at accepted w.sent new.clock in
    becomes accepted _ _ w.sent new (
      session_routed log (routed (at_time new.clock) peer media w.session w.leases).1 (at_time new.clock) w.session h.0,
      good_routed log (at_time new.clock) peer media w.session w.leases h.1,
    ) does
does_good probe mac accepted w new h does =
    let log = log_at accepted w.sent new.clock in
    becomes accepted _ w.leases w.sent new (session_probed log (at_time new.clock) w.session h.0, h.1) does
does_good (handle_timeout stream stream_new) mac accepted w new h does =
    let log = log_at accepted w.sent new.clock in
    let now = at_time new.clock in
    let s = with_renewal now w.session in
    let l = advanced_in w.session.phase now w.leases in
    sent_is accepted w.sent new does.1
    (timed_out_by (lease_due now (step_of now s) s l) log (step_of now s) (key_now w.credentials) stream s l new.session new.leases stream_new does.0
    (session_renewal log now w.session h.0, good_advanced_in log w.session.phase now w.leases h.1) does.2)
does_good (poll_transmit result) mac accepted w new h does =
    let log = log_at accepted w.sent new.clock in
    becomes accepted _ _ _ new (good_poll log result (client_packet w.session w.leases) w.session w.leases h) does
does_good poll_event mac accepted w new h does =
    let log = log_at accepted w.sent new.clock in
    becomes accepted _ _ w.sent new (good_event log w.session w.leases h) does
does_good (receive bytes result) mac accepted w new h does =
    let log = log_at accepted w.sent new.clock in
    sent_is accepted w.sent new does.1
    (received (datagram_of bytes) mac log (alternate_in bytes) w.session w.leases w.credentials result new.session new.leases new.credentials h
    does.0 does.2)

happens_good : (mac : List ℕ → List ℕ → List ℕ) (accepted : List Acceptance) (w new : World) → WorldGood accepted w → Happens mac accepted w new → WorldGood accepted new
happens_good mac accepted w new h step =
    let forward : w.clock ≤ new.clock = omega (arith, step.forward) in
    does_good step.call mac accepted w new
    (session_later (log_of accepted w) new.clock w.session forward h.0, leases_later (log_of accepted w) new.clock w.leases forward h.1) step.does

-- ---- runs

good_held : (accepted : List Acceptance) (w : World) → WorldGood accepted w → BeliefIsTrue accepted w
good_held accepted w h = record { allocation = h.0.1; leases = λ place. (h.1 place).2 }

run_held : (mac : List ℕ → List ℕ → List ℕ) (accepted : List Acceptance) (w : World) (run : List World) → WorldGood accepted w → IsRun mac accepted w run
    → BeliefIsAlwaysTrue accepted run
run_held mac accepted w [] h steps = tt
run_held mac accepted w (next ∷ rest) h steps =
    let after = happens_good mac accepted w next h steps.0 in
    (good_held accepted next after, run_held mac accepted next rest after steps.1)

at_fresh : (n k : ℕ) → (k < n) ⊎ (n ≤ k) → at_place k (replicate n unused) ≡ unused
at_fresh n k (inl h) = get_or-replicate n k unused unused h
at_fresh n k (inr h) = get_or_past (replicate n unused) k unused (subst (λ (m : ℕ). m ≤ k) (sym (length-replicate n unused)) h)

good_fresh : (log : Log) (n k : ℕ) → LeaseGood log (at_place k (replicate n unused))
good_fresh log n k = subst (λ (g : Lease). LeaseGood log g) (sym (at_fresh n k (cases_lt k n))) (tt, tt, tt)

pub fresh_held : (mac : List ℕ → List ℕ → List ℕ) (accepted : List Acceptance) (w : World) (run : List World) → IsFresh w → IsRun mac accepted w run
    → BeliefIsAlwaysTrue accepted run
fresh_held mac accepted w run fresh steps =
    let log = log_of accepted w in
    run_held mac accepted w run (
      session_is log (new_session fresh.server fresh.family fresh.timing fresh.lifetime) w.session fresh.session (tt, tt),
      leases_is log (replicate fresh.places unused) w.leases fresh.leases (good_fresh log fresh.places),
    ) steps
