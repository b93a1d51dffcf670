-- What the calls of a client do to its leases keeps what it believes of them within what the server has.
use Rattle.is_turn.specs.declared.relaying.Route.TheVariants as routes
use Rattle.is_turn.specs.declared.session.Phase.TheVariants as phases
use Rattle.is_turn.specs.declared.session.Step.TheVariants as steps
use Rattle.is_turn.proofs.Common.{[], ◌+◌, ◌<◌, ◌||◌, ◌≡◌, ◌≤◌, ◌⊎◌, Acceptance, added_at, advanced, advanced_in, another, arith}
use Rattle.is_turn.proofs.Common.{asked_again, at_place, at_time, Attempt, attempted, barred_at, Bool, cases_lt, changed, channel_added_at}
use Rattle.is_turn.proofs.Common.{channel_named_by, ClientTiming, cond, doubted, driven_by, EndIsHeld, failed_at, false, fill_bytes}
use Rattle.is_turn.proofs.Common.{get_or-map, get_or_past, heard, heard_at, heard_by, hinted, inl, inr, Instant, ip_of, is_barring}
use Rattle.is_turn.proofs.Common.{is_channel_of, is_exhausted, is_free, is_held_back, is_none, is_open, is_past, is_permission_of, is_ready}
use Rattle.is_turn.proofs.Common.{is_renewal_due, is_reported, is_some, IsForLease, IsHeld, IsNew, kept_in, lapsed, lasts_since, later_end}
use Rattle.is_turn.proofs.Common.{Lease, lease_attempted, lease_polled, lease_repeated, length, length-map, lifetime_for, List, map, max}
use Rattle.is_turn.proofs.Common.{may_permit, named_at, named_in, nat_lt, new_lease, None, Operation, Option, permits_peer, permitted}
use Rattle.is_turn.proofs.Common.{permitted_by, Phase, plain, polled, position, refl, renewed, repeated_if, reported, reported_at, Request}
use Rattle.is_turn.proofs.Common.{request_for, requested_for, retried_at, Route, routed, routed_if, sent_once_more, Session, set}
use Rattle.is_turn.proofs.Common.{SocketAddr, Some, Step, Stream, subst, sym, time_after, true, unused, used_at, used_in, with_channel}
use Rattle.is_turn.proofs.Common.{with_operation, without_report, ℕ}
use Rattle.is_turn.proofs.Beliefs.{Log, AttemptsGood, OperationGood, RequestGood, LeaseGood, LeasesGood, attempts_with}
use Rattle.is_turn.proofs.NamedPeers.{AtSet, at_set}

-- ---- places

good_is : (log : Log) (g x : Lease) → x ≡ g → LeaseGood log g → LeaseGood log x
good_is log g x e h = subst (λ (y : Lease). LeaseGood log y) (sym e) h

good_at_set : (log : Log) (l : List Lease) (i k : ℕ) (g : Lease) → LeasesGood log l → LeaseGood log g → AtSet l i g k → LeaseGood log (at_place k (set l i g))
good_at_set log l i k g all good (inl (e, put)) = good_is log g (at_place k (set l i g)) put good
good_at_set log l i k g all good (inr kept) = good_is log (at_place k l) (at_place k (set l i g)) kept (all k)

pub good_set : (log : Log) (l : List Lease) (i : ℕ) (g : Lease) → LeasesGood log l → LeaseGood log g → LeasesGood log (set l i g)
good_set log l i g all good = λ k. good_at_set log l i k g all good (at_set l i k g)

good_unused : (log : Log) → LeaseGood log unused
good_unused log = (tt, tt, tt)

pub good_none : (log : Log) → LeasesGood log []
good_none log = λ k. good_is log unused (at_place k []) (get_or_past [] k unused (omega arith)) (good_unused log)

good_at_map : (log : Log) (f : Lease → Lease) (l : List Lease) (k : ℕ) → ((g : Lease) → LeaseGood log g → LeaseGood log (f g)) → LeasesGood log l
    → (k < length l) ⊎ (length l ≤ k) → LeaseGood log (at_place k (map f l))
good_at_map log f l k h all (inl lt) = good_is log (f (at_place k l)) (at_place k (map f l)) (get_or-map f l k unused unused lt) (h (at_place k l) (all k))
good_at_map log f l k h all (inr past) =
    good_is log unused (at_place k (map f l)) (get_or_past (map f l) k unused (subst (λ (n : ℕ). n ≤ k) (sym (length-map l f)) past)) (good_unused log)

good_map : (log : Log) (f : Lease → Lease) (l : List Lease) → ((g : Lease) → LeaseGood log g → LeaseGood log (f g)) → LeasesGood log l → LeasesGood log (map f l)
good_map log f l h all = λ k. good_at_map log f l k h all (cases_lt k (length l))

pub good_list_cond : (log : Log) (b : Bool) (x y : List Lease) → LeasesGood log x → LeasesGood log y → LeasesGood log (cond b x y)
good_list_cond log true x y p q = p
good_list_cond log false x y p q = q

good_either : (log : Log) (b : Bool) (x y : List Lease × Bool) → LeasesGood log x.0 → LeasesGood log y.0 → LeasesGood log (cond b x y).0
good_either log true x y p q = p
good_either log false x y p q = q

-- ---- a lease

good_cond : (log : Log) (b : Bool) (x y : Lease) → LeaseGood log x → LeaseGood log y → LeaseGood log (cond b x y)
good_cond log true x y p q = p
good_cond log false x y p q = q

good_new : (log : Log) (peer : SocketAddr) (number : Option ℕ) (now : Instant) → LeaseGood log (new_lease peer number now)
good_new log peer number now = (tt, tt, tt)

good_named : (log : Log) (now : Instant) (g : Lease) → LeaseGood log g → LeaseGood log (named_at now g)
good_named log now g h = good_cond log (is_some g.barred) (asked_again now g) (used_at now g) h h

good_requested : (log : Log) (peer : Option SocketAddr) (now : Instant) (g : Lease) → g.peer ≡ peer → LeaseGood log g → LeaseGood log (requested_for peer now g)
good_requested log None now g e h = h
good_requested log (Some peer) now g e h =
    ((tt, tt, tt, tt, tt, tt), subst (λ (p : Option SocketAddr). IsForLease p g.number (request_for peer g.number)) (sym e) refl, h.2)

good_renewed : (log : Log) (now : Instant) (g : Lease) → LeaseGood log g → LeaseGood log (renewed now g)
good_renewed log now g h = good_cond log (is_renewal_due now g) (requested_for g.peer now g) g (good_requested log g.peer now g refl h) h

good_lapsed : (log : Log) (now : Instant) (g : Lease) → LeaseGood log g → LeaseGood log (lapsed now g)
good_lapsed log now g h = good_cond log (is_past g.until now) (record g { until = None }) g (h.0, h.1, tt) h

good_advanced : (log : Log) (now : Instant) (g : Lease) → LeaseGood log g → LeaseGood log (advanced now g)
good_advanced log now g h = good_renewed log now (lapsed now g) (good_lapsed log now g h)

pub good_failed : (log : Log) (now : Instant) (code : Option ℕ) (g : Lease) → LeaseGood log g → LeaseGood log (failed_at now code g)
good_failed log now code g h =
    good_cond log (is_none g.until || is_barring code) (barred_at now code g) (retried_at now g) (tt, tt, tt) (tt, tt, h.2)

-- the pending request, changed, with its attempts and maybe another one
good_with : (log : Log) (change : Operation → Operation) (o : Option Operation) (g : Lease)
    → ((x : Operation) → AttemptsGood log x.attempts → AttemptsGood log (change x).attempts) → ((x : Operation) → (change x).request ≡ x.request)
    → LeaseGood log g → OperationGood log o → RequestGood g.peer g.number o → LeaseGood log (with_operation change o g)
good_with log change None g keeps same h p q = h
good_with log change (Some o) g keeps same h p q =
    (keeps o p, subst (IsForLease g.peer g.number) (sym (same o)) q, h.2)

good_changed : (log : Log) (change : Operation → Operation) (g : Lease)
    → ((x : Operation) → AttemptsGood log x.attempts → AttemptsGood log (change x).attempts) → ((x : Operation) → (change x).request ≡ x.request)
    → LeaseGood log g → LeaseGood log (changed change g)
good_changed log change g keeps same h = good_with log change g.operation g keeps same h h.0 h.1

pub good_doubted : (log : Log) (code : ℕ) (g : Lease) → LeaseGood log g → LeaseGood log (changed (doubted code) g)
good_doubted log code g h = good_changed log (doubted code) g (λ x k. k) (λ x. refl) h

pub good_hinted : (log : Log) (now : Instant) (code : ℕ) (t : ClientTiming) (g : Lease) → LeaseGood log g → LeaseGood log (changed (hinted now code t) g)
good_hinted log now code t g h = good_changed log (hinted now code t) g (λ x k. k) (λ x. refl) h

pub good_another : (log : Log) (now : Instant) (b : Bool) (code : ℕ) (g : Lease) → LeaseGood log g → LeaseGood log (changed (another now b code) g)
good_another log now b code g h = good_changed log (another now b code) g (λ x k. k) (λ x. refl) h

pub good_polled : (log : Log) (g : Lease) → LeaseGood log g → LeaseGood log (lease_polled g)
good_polled log g h = good_changed log polled g (λ x k. k) (λ x. refl) h

attempts_if : (log : Log) (b : Bool) (x y : Operation) → AttemptsGood log x.attempts → AttemptsGood log y.attempts → AttemptsGood log (cond b x y).attempts
attempts_if log true x y p q = p
attempts_if log false x y p q = q

request_if : (b : Bool) (x y : Operation) → y.request ≡ x.request → (cond b x y).request ≡ x.request
request_if true x y h = refl
request_if false x y h = h

good_repeated : (log : Log) (now : Instant) (t : ClientTiming) (g : Lease) → LeaseGood log g → LeaseGood log (lease_repeated now t g)
good_repeated log now t g h =
    good_changed log (repeated_if now t) g (λ x k. attempts_if log (is_exhausted t x) x (sent_once_more now t x) k k)
    (λ x. request_if (is_exhausted t x) x (sent_once_more now t x) refl) h

held_max_by : (IsFor : Request → Type 0) (now a b : ℕ) (accepted : List Acceptance) → (a < b) ⊎ (b ≤ a) → IsHeld IsFor now a accepted → IsHeld IsFor now b accepted
    → IsHeld IsFor now (max a b) accepted
held_max_by IsFor now a b accepted (inl h) p q = let e : b ≡ max a b = omega arith in subst (λ (n : ℕ). IsHeld IsFor now n accepted) e q
held_max_by IsFor now a b accepted (inr h) p q = let e : a ≡ max a b = omega arith in subst (λ (n : ℕ). IsHeld IsFor now n accepted) e p

end_max : (peer : Option SocketAddr) (number : Option ℕ) (last : Option Instant) (until : Instant) (now : ℕ) (accepted : List Acceptance)
    → EndIsHeld peer number last now accepted → EndIsHeld peer number (Some until) now accepted
    → EndIsHeld peer number (Some (later_end last until)) now accepted
end_max peer number None until now accepted p q = q
end_max peer number (Some last) until now accepted p q =
    held_max_by (IsForLease peer number) now last.0 until.0 accepted (cases_lt last.0 until.0) p q

pub good_lasts : (log : Log) (since : Instant) (g : Lease) → LeaseGood log g
    → IsHeld (IsForLease g.peer g.number) log.clock (time_after since (lifetime_for g.number)).0 log.accepted → LeaseGood log (lasts_since since g)
good_lasts log since g h held =
    (tt, tt, end_max g.peer g.number g.until (time_after since (lifetime_for g.number)) log.clock log.accepted h.2 held)

-- ---- the user

good_named_in : (log : Log) (now : Instant) (place : ℕ) (l : List Lease) → LeasesGood log l → LeasesGood log (named_in now place l).0
good_named_in log now place l all =
    good_either log (is_held_back now (at_place place l)) (l, false) (set l place (named_at now (at_place place l)), true) all
    (good_set log l place (named_at now (at_place place l)) all (good_named log now (at_place place l) (all place)))

good_added : (log : Log) (g : Lease) (p : Option ℕ) (l : List Lease) → LeaseGood log g → LeasesGood log l → LeasesGood log (added_at g p l).0
good_added log g None l h all = all
good_added log g (Some place) l h all = good_set log l place g all h

good_permitted_by : (log : Log) (now : Instant) (ip : SocketAddr) (p : Option ℕ) (l : List Lease) → LeasesGood log l → LeasesGood log (permitted_by now ip p l).0
good_permitted_by log now ip None l all = good_added log (new_lease ip None now) (position (is_free now) l) l (good_new log ip None now) all
good_permitted_by log now ip (Some place) l all = good_named_in log now place l all

pub good_permits : (log : Log) (now : Instant) (peer : SocketAddr) (s : Session) (l : List Lease) → LeasesGood log l → LeasesGood log (permits_peer now peer s l).0
good_permits log now peer s l all =
    good_either log (may_permit peer s) (permitted now (ip_of peer) l) (l, false)
    (good_permitted_by log now (ip_of peer) (position (is_permission_of (ip_of peer)) l) l all) all

good_channel_at : (log : Log) (now : Instant) (peer : SocketAddr) (p : Option ℕ) (l : List Lease) → LeasesGood log l → LeasesGood log (channel_added_at now peer p l)
good_channel_at log now peer None l all = all
good_channel_at log now peer (Some place) l all =
    good_list_cond log (nat_lt place 4096) (set l place (new_lease peer (Some (0x4000 + place)) now)) l
    (good_set log l place (new_lease peer (Some (0x4000 + place)) now) all (good_new log peer (Some (0x4000 + place)) now)) all

good_channel_by : (log : Log) (now : Instant) (peer : SocketAddr) (p : Option ℕ) (l : List Lease) → LeasesGood log l → LeasesGood log (channel_named_by now peer p l)
good_channel_by log now peer None l all = good_channel_at log now peer (position (is_free now) l) l all
good_channel_by log now peer (Some place) l all = good_named_in log now place l all

good_routed_if : (log : Log) (b : Bool) (now : Instant) (peer : SocketAddr) (media : Bool) (l : List Lease) → LeasesGood log l → LeasesGood log (routed_if b now peer media l).0
good_routed_if log false now peer media l all = all
good_routed_if log true now peer media l all =
    good_list_cond log media (with_channel now peer l) l (good_channel_by log now peer (position (is_channel_of peer) l) l all) all

good_ready : (log : Log) (b : Bool) (x y : List Lease × Route) → LeasesGood log x.0 → LeasesGood log y.0 → LeasesGood log (cond b x y).0
good_ready log true x y p q = p
good_ready log false x y p q = q

pub good_routed : (log : Log) (now : Instant) (peer : SocketAddr) (media : Bool) (s : Session) (l : List Lease) → LeasesGood log l
    → LeasesGood log (routed now peer media s l).0
good_routed log now peer media s l all =
    let asked = permits_peer now peer s l in
    good_ready log (is_ready s.phase) (routed_if asked.1 now (plain peer) media asked.0) (l, routes.Nowhere)
    (good_routed_if log asked.1 now (plain peer) media asked.0 (good_permits log now peer s l all)) all

-- ---- data

good_used : (log : Log) (now : Instant) (p : Option ℕ) (l : List Lease) → LeasesGood log l → LeasesGood log (used_in now p l)
good_used log now None l all = all
good_used log now (Some place) l all = good_set log l place (used_at now (at_place place l)) all (all place)

good_heard_by : (log : Log) (now : Instant) (peer : SocketAddr) (place : ℕ) (l : List Lease) → LeasesGood log l → LeasesGood log (heard_by now peer place l).0
good_heard_by log now peer place l all =
    let m = set l place (used_at now (at_place place l)) in
    good_either log (is_open (at_place place l)) (used_in now (position (is_channel_of peer) m) m, true) (l, false)
    (good_used log now (position (is_channel_of peer) m) m (good_set log l place (used_at now (at_place place l)) all (all place))) all

good_heard_at : (log : Log) (now : Instant) (peer : SocketAddr) (p : Option ℕ) (l : List Lease) → LeasesGood log l → LeasesGood log (heard_at now peer p l).0
good_heard_at log now peer None l all = all
good_heard_at log now peer (Some place) l all = good_heard_by log now peer place l all

pub good_heard : (log : Log) (now : Instant) (ip peer : SocketAddr) (l : List Lease) → LeasesGood log l → LeasesGood log (heard now ip peer l).0
good_heard log now ip peer l all = good_heard_at log now peer (position (is_permission_of ip) l) l all

-- ---- the clock, packets and events

pub good_advanced_in : (log : Log) (phase : Phase) (now : Instant) (l : List Lease) → LeasesGood log l → LeasesGood log (advanced_in phase now l)
good_advanced_in log phases.Ready now l all = good_map log (advanced now) l (good_advanced log now) all
good_advanced_in log phases.New now l all = all
good_advanced_in log phases.Asking now l all = all
good_advanced_in log phases.Leaving now l all = all
good_advanced_in log phases.Closing now l all = all
good_advanced_in log phases.Ended now l all = all

pub good_kept : (log : Log) (phase : Phase) (l : List Lease) → LeasesGood log l → LeasesGood log (kept_in phase l)
good_kept log phases.Ended l all = good_none log
good_kept log phases.Ready l all = all
good_kept log phases.New l all = all
good_kept log phases.Asking l all = all
good_kept log phases.Leaving l all = all
good_kept log phases.Closing l all = all

pub good_driven : (log : Log) (step : Step) (key : Option (List ℕ)) (t : ClientTiming) (place : ℕ) (stream : Stream) (l : List Lease)
    → IsNew (fill_bytes 12 stream).0 log.sent → LeasesGood log l → LeasesGood log (driven_by step (at_time log.clock) key t place stream l).0
good_driven log steps.Nothing key t place stream l fresh all = all
good_driven log steps.Lapse key t place stream l fresh all = all
good_driven log steps.KeepAlive key t place stream l fresh all = all
good_driven log steps.Attempt key t place stream l fresh all =
    let attempt : Attempt = record { id = record { 0 = (fill_bytes 12 stream).0 }; key = key; since = at_time log.clock } in
    good_set log l place (lease_attempted (at_time log.clock) (record { 0 = (fill_bytes 12 stream).0 }) key t (at_place place l)) all
    (good_changed log (attempted attempt t) (at_place place l) (λ x k. attempts_with log attempt x.attempts refl fresh k) (λ x. refl) (all place))
good_driven log steps.Repeat key t place stream l fresh all =
    good_set log l place (lease_repeated (at_time log.clock) t (at_place place l)) all (good_repeated log (at_time log.clock) t (at_place place l) (all place))
good_driven log steps.TimeOut key t place stream l fresh all =
    good_set log l place (failed_at (at_time log.clock) None (at_place place l)) all (good_failed log (at_time log.clock) None (at_place place l) (all place))

good_reported_at : (log : Log) (p : Option ℕ) (l : List Lease) → LeasesGood log l → LeasesGood log (reported_at p l).0
good_reported_at log None l all = all
good_reported_at log (Some place) l all = good_set log l place (without_report (at_place place l)) all (all place)

pub good_reported : (log : Log) (l : List Lease) → LeasesGood log l → LeasesGood log (reported l).0
good_reported log l all = good_reported_at log (position is_reported l) l all
