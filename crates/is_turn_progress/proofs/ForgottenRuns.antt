-- Each call keeps no more secrets than are needed, so it is so in each execution.
use Rattle.std.proofs.Common.{◌≡◌, ℕ, ◌&&◌, Bool, true, false, cond, List, [], ◌∷◌, set, position, nat_lt, nat_le, arith, Option, Some, None, is_some, is_none, Result, Ok, Err, refl, sym, ap, subst, ◌∙◌}
use Rattle.is_turn_progress.proofs.Common.{advanced_in, after_event, after_poll, after_route, after_step, alive_or_nothing, Allocation, alternate_in, AlwaysForgets, asking, at_place, at_time, Attempt}
use Rattle.is_turn_progress.proofs.Common.{attempted, bound_channel, Call, changed_by, client_packet, ClientTiming, close, closed, closed_early, closed_in, Credentials, datagram_of, driven, due_or}
use Rattle.is_turn_progress.proofs.Common.{due_place, Effect, failed_in, fill_bytes, Forgets, handle_timeout, HasBecome, Instant, is_exhausted, is_new, is_ready, is_reported, IsExecution, IsForgotten}
use Rattle.is_turn_progress.proofs.Common.{IsNewClient, keep_alive_due, kept_credentials, kept_in, kept_leases, key_now, Lease, lease_due, lease_polled, lease_polled_in, leases_after_event}
use Rattle.is_turn_progress.proofs.Common.{leases_after_poll, leases_in, left, lose, lost_in, may_be_made, Operation, packet_polled, password_of, permit, permits_peer, Phase, plain, poll_event}
use Rattle.is_turn_progress.proofs.Common.{poll_transmit, polled, probe, probed, receive, Refresh, repeated_by, reported, reported_at, reported_by, request_timing, route_of, routed, routed_if, send}
use Rattle.is_turn_progress.proofs.Common.{sending, sending_for, sent_once_more, Session, session_after_event, set_past, SocketAddr, start, State, step_at, step_for, step_of, Stream, StunError}
use Rattle.is_turn_progress.proofs.Common.{takes_permissions, TimesOut, TimesOutBy, TransId, tried_by, turn_started, unsent, with_media, with_renewal, with_request, without_report}
use Rattle.is_turn.specs.declared.session.Phase.TheVariants as phases
use Rattle.is_turn_progress.proofs.ForgottenSecrets.{Safe, Kept, kept_cond, safe_cond, kept_safe, safe_changed, received_after}
use Rattle.is_turn_progress.proofs.Packets.{packet_case}
use Rattle.is_turn_progress.proofs.Steps.{by_cond}

-- ---- the user

phase_permits : (p : Phase) (v : Bool) (x : List Lease × Bool) (r : Bool) (o : Option Operation) (c : Option Credentials) (l : List Lease)
    → IsForgotten p o c l → IsForgotten p o c (cond (takes_permissions p && v) x (l, r)).0
phase_permits phases.New v x r o c l h = tt
phase_permits phases.Asking v x r o c l h = tt
phase_permits phases.Leaving v x r o c l h = tt
phase_permits phases.Ready v x r o c l h = h
phase_permits phases.Closing v x r o c l h = h
phase_permits phases.Ended v x r o c l h = h

phase_routes : {R : Type 0} (p : Phase) (x : List Lease × R) (r : R) (o : Option Operation) (c : Option Credentials) (l : List Lease)
    → IsForgotten p o c l → IsForgotten p o c (cond (is_ready p) x (l, r)).0
phase_routes phases.New x r o c l h = tt
phase_routes phases.Asking x r o c l h = tt
phase_routes phases.Leaving x r o c l h = tt
phase_routes phases.Ready x r o c l h = h
phase_routes phases.Closing x r o c l h = h
phase_routes phases.Ended x r o c l h = h

route_safe : (n : Option ℕ) (now : Instant) (s : Session) (c : Option Credentials) (l : List Lease) → Safe s c l → Safe (after_route (route_of n) now s) c l
route_safe None now s c l h = h
route_safe (Some number) now s c l h = h

routed_safe : (b : Bool) (now : Instant) (peer : SocketAddr) (media : Bool) (k : List Lease) (s : Session) (c : Option Credentials) (l : List Lease) → Safe s c l
    → Safe (after_route (routed_if b now peer media k).1 now s) c l
routed_safe false now peer media k s c l h = h
routed_safe true now peer media k s c l h = route_safe (bound_channel peer (with_media now peer media k)) now s c l h

sent_safe : (now : Instant) (peer : SocketAddr) (media : Bool) (s : Session) (c : Option Credentials) (l k : List Lease) → Safe s c k
    → Safe (after_route (routed now peer media s l).1 now s) c k
sent_safe now peer media s c l k h =
    by_cond (λ (r : List Lease × _). Safe (after_route r.1 now s) c k) (is_ready s.phase) _ _
    (λ ready. routed_safe (permits_peer now peer s l).1 now (plain peer) media (permits_peer now peer s l).0 s c k h) (λ other. h)

-- a request that is begun only while there is an allocation
ready_request : (p : Phase) (s : Session) (c : Option Credentials) (l : List Lease) (t : Session) → s.phase ≡ p → t.phase ≡ p → p ≡ phases.Ready → Safe s c l
    → Safe t c l
ready_request p s c l t e f ready h =
    let at : s.phase ≡ phases.Ready = e ∙ ready in
    let to : t.phase ≡ phases.Ready = f ∙ ready in
    let none : password_of c ≡ None = subst (λ (x : Phase). IsForgotten x s.operation c l) at h in
    subst (λ (x : Phase). IsForgotten x t.operation c l) (sym to) none

is_ready_phase : (p : Phase) → is_ready p ≡ true → p ≡ phases.Ready
is_ready_phase phases.Ready h = refl
is_ready_phase phases.New h = absurd (cc h)
is_ready_phase phases.Asking h = absurd (cc h)
is_ready_phase phases.Leaving h = absurd (cc h)
is_ready_phase phases.Closing h = absurd (cc h)
is_ready_phase phases.Ended h = absurd (cc h)

first : (a b : Bool) → (a && b) ≡ true → a ≡ true
first true b h = refl
first false b h = absurd (cc h)

probed_safe : (now : Instant) (s : Session) (c : Option Credentials) (l : List Lease) → Safe s c l → Safe (probed now s) c l
probed_safe now s c l h =
    by_cond (λ x. Safe x c l) (is_ready s.phase && is_none s.operation) (with_request now (Refresh s.lifetime) s) s
    (λ is. ready_request s.phase s c l (with_request now (Refresh s.lifetime) s) refl refl
    (is_ready_phase s.phase (first (is_ready s.phase) (is_none s.operation) is)) h) (λ other. h)

left_kept : (o : Option Operation) (s : Session) (c : Option Credentials) (l : List Lease) → Kept (changed_by unsent o (record s { phase = phases.Leaving })) c l
left_kept None s c l = tt
left_kept (Some o) s c l = tt

early_kept : (has : Bool) (s : Session) (c : Option Credentials) (l : List Lease) → Kept (closed_early has s) c l
early_kept has s c l = kept_cond (may_be_made has s) (left s) (closed None s) c l (left_kept s.operation s c l) (refl, refl, refl)

closed_kept : (p : Phase) (now : Instant) (has : Bool) (s : Session) (c : Option Credentials) (l : List Lease) → s.phase ≡ p → Safe s c l
    → Kept (closed_in p now has s) c l
closed_kept phases.Ready now has s c l e h = subst (λ (x : Phase). IsForgotten x s.operation c l) e h
closed_kept phases.New now has s c l e h = early_kept has s c l
closed_kept phases.Asking now has s c l e h = early_kept has s c l
closed_kept phases.Leaving now has s c l e h = kept_safe s c l h
closed_kept phases.Closing now has s c l e h = kept_safe s c l h
closed_kept phases.Ended now has s c l e h = kept_safe s c l h

lost_kept : (p : Phase) (s : Session) (c : Option Credentials) (l : List Lease) → Safe s c l → Kept (lost_in p s) c l
lost_kept phases.Ready s c l h = (refl, refl, refl)
lost_kept phases.New s c l h = (refl, refl, refl)
lost_kept phases.Asking s c l h = (refl, refl, refl)
lost_kept phases.Leaving s c l h = (refl, refl, refl)
lost_kept phases.Closing s c l h = (refl, refl, refl)
lost_kept phases.Ended s c l h = kept_safe s c l h

-- ---- the clock

phase_advanced : (p : Phase) (now : Instant) (o : Option Operation) (c : Option Credentials) (l : List Lease) → IsForgotten p o c l
    → IsForgotten p o c (advanced_in p now l)
phase_advanced phases.New now o c l h = tt
phase_advanced phases.Asking now o c l h = tt
phase_advanced phases.Leaving now o c l h = tt
phase_advanced phases.Ready now o c l h = h
phase_advanced phases.Closing now o c l h = h
phase_advanced phases.Ended now o c l h = h

renewal_safe : (now : Instant) (s : Session) (c : Option Credentials) (l : List Lease) → Safe s c l → Safe (with_renewal now s) c l
renewal_safe now s c l h =
    by_cond (λ x. Safe x c l) (is_ready s.phase && is_none s.operation && nat_le s.renew.0 now.0) (with_request now (Refresh s.lifetime) s) s
    (λ is. ready_request s.phase s c l (with_request now (Refresh s.lifetime) s) refl refl
    (is_ready_phase s.phase (search (first, is))) h) (λ other. h)

phase_none : (p : Phase) (o : Option Operation) (c : Option Credentials) (l : List Lease) → IsForgotten p o c l → IsForgotten p None (kept_in p c) (leases_in p l)
phase_none phases.New o c l h = tt
phase_none phases.Asking o c l h = tt
phase_none phases.Leaving o c l h = tt
phase_none phases.Ready o c l h = h
phase_none phases.Closing o c l h = h
phase_none phases.Ended o c l h = (refl, refl, refl)

timed_out_kept : (p : Phase) (now : Instant) (s : Session) (c : Option Credentials) (l : List Lease) → Safe s c l → Kept (failed_in p now None s) c l
timed_out_kept phases.Leaving now s c l h = (refl, refl, refl)
timed_out_kept phases.Closing now s c l h = (refl, refl, refl)
timed_out_kept phases.Ready now s c l h = phase_none s.phase s.operation c l h
timed_out_kept phases.New now s c l h = (refl, refl, refl)
timed_out_kept phases.Asking now s c l h = (refl, refl, refl)
timed_out_kept phases.Ended now s c l h = (refl, refl, refl)

phase_request : (p : Phase) (o x : Operation) (c : Option Credentials) (l : List Lease) → IsForgotten p (Some o) c l
    → IsForgotten p (Some x) (kept_in p c) (leases_in p l)
phase_request phases.New o x c l h = tt
phase_request phases.Asking o x c l h = tt
phase_request phases.Leaving o x c l h = tt
phase_request phases.Ready o x c l h = h
phase_request phases.Closing o x c l h = h
phase_request phases.Ended o x c l h = let none = h.2 in absurd (cc none)

tried_kept : (o : Option Operation) (now : Instant) (a : Attempt) (s : Session) (c : Option Credentials) (l : List Lease) → s.operation ≡ o → Safe s c l
    → Kept (tried_by now a o s) c l
tried_kept None now a s c l e h = kept_safe s c l h
tried_kept (Some o) now a s c l e h =
    phase_request s.phase o (attempted a (request_timing s) o) c l (subst (λ (x : Option Operation). IsForgotten s.phase x c l) e h)

repeated_kept : (o : Option Operation) (now : Instant) (s : Session) (c : Option Credentials) (l : List Lease) → s.operation ≡ o → Safe s c l
    → Kept (repeated_by now o s) c l
repeated_kept None now s c l e h = kept_safe s c l h
repeated_kept (Some o) now s c l e h =
    kept_cond (is_exhausted (request_timing s) o) s (sending now (record s { operation = Some (sent_once_more now (request_timing s) o) })) c l (kept_safe s c l h)
    (phase_request s.phase o (sent_once_more now (request_timing s) o) c l (subst (λ (x : Option Operation). IsForgotten s.phase x c l) e h))

-- what one step leaves
abbrev StepKept : Session → Option Credentials → List Lease → Session × Stream → Type 0
StepKept s c l after = Kept after.0 c l

quiet_kept : (now : Instant) (key : Option (List ℕ)) (stream : Stream) (s : Session) (c : Option Credentials) (l : List Lease) → Safe s c l
    → StepKept s c l (after_step (keep_alive_due now s) now key stream s)
quiet_kept now key stream s c l h =
    by_cond (λ step. StepKept s c l (after_step step now key stream s)) (is_ready s.phase && nat_le s.quiet.0 now.0) _ _
    (λ due. kept_safe s c l h) (λ other. kept_safe s c l h)

request_kept : (x : Option Operation) (now : Instant) (key : Option (List ℕ)) (stream : Stream) (s : Session) (c : Option Credentials) (l : List Lease)
    → s.operation ≡ x → Safe s c l → StepKept s c l (after_step (due_or now s x) now key stream s)
request_kept None now key stream s c l e h = quiet_kept now key stream s c l h
request_kept (Some o) now key stream s c l e h =
    by_cond (λ step. StepKept s c l (after_step step now key stream s)) (nat_lt now.0 o.due.0) _ _ (λ early. quiet_kept now key stream s c l h)
    (λ due. by_cond (λ step. StepKept s c l (after_step step now key stream s)) o.is_fresh _ _
    (λ fresh. tried_kept s.operation now (record { id = record { 0 = (fill_bytes 12 stream).0 }; key = key; since = now }) s c l refl h)
    (λ sent. by_cond (λ step. StepKept s c l (after_step step now key stream s)) (is_exhausted (request_timing s) o) _ _
    (λ all. timed_out_kept s.phase now s c l h) (λ more. repeated_kept s.operation now s c l refl h)))

step_kept : (now : Instant) (key : Option (List ℕ)) (stream : Stream) (s : Session) (c : Option Credentials) (l : List Lease) → Safe s c l
    → StepKept s c l (after_step (step_of now s) now key stream s)
step_kept now key stream s c l h =
    by_cond (λ step. StepKept s c l (after_step step now key stream s)) (is_ready s.phase && nat_le s.until.0 now.0) _ _ (λ end. (refl, refl, refl))
    (λ before. by_cond (λ step. StepKept s c l (after_step step now key stream s)) (nat_lt now.0 s.paced.0) _ _ (λ early. kept_safe s c l h)
    (λ due. request_kept s.operation now key stream s c l refl h))

abbrev IsReadyIf : Option ℕ → Session → Type 0
IsReadyIf None s = Unit {0}
IsReadyIf (Some place) s = s.phase ≡ phases.Ready

-- the request for a lease sends a packet
sending_case : (F : Session → Type 0) (x : Option Operation) (t : ClientTiming) (now : Instant) (s : Session) → F s → F (sending now s)
    → F (sending_for (step_for t x) now s)
sending_case F None t now s h k = h
sending_case F (Some o) t now s h k =
    by_cond (λ step. F (sending_for step now s)) o.is_fresh _ _ (λ fresh. k)
    (λ sent. by_cond (λ step. F (sending_for step now s)) (is_exhausted t o) _ _ (λ all. h) (λ more. k))

kept_new : (s new : Session) (c c_new : Option Credentials) (l l_new : List Lease) → new ≡ s → c_new ≡ kept_credentials new c → l_new ≡ kept_leases new l
    → Kept s c l → Safe new c_new l_new
kept_new s new c c_new l l_new h k e kept =
    subst (λ (x : List Lease). Safe new c_new x) (sym e) (subst (λ (x : Option Credentials). Safe new x (kept_leases new l)) (sym k)
    (subst (λ (x : Session). Kept x c l) (sym h) kept))

phase_driven : (p : Phase) (o : Option Operation) (c : Option Credentials) (l k : List Lease) → p ≡ phases.Ready → IsForgotten p o c l
    → IsForgotten p o (kept_in p c) (leases_in p k)
phase_driven phases.Ready o c l k e h = h
phase_driven phases.New o c l k e h = tt
phase_driven phases.Asking o c l k e h = tt
phase_driven phases.Leaving o c l k e h = tt
phase_driven phases.Closing o c l k e h = h
phase_driven phases.Ended o c l k e h = absurd (cc e)

timed_kept : (p : Option ℕ) (now : Instant) (key : Option (List ℕ)) (stream : Stream) (s : Session) (l : List Lease) (c : Option Credentials) (new : Session)
    (l_new : List Lease) (c_new : Option Credentials) (stream_new : Stream) → (IsReadyIf p s) → Safe s c l → c_new ≡ kept_credentials new c
    → TimesOutBy p (step_of now s) now key stream s l new l_new stream_new → Safe new c_new l_new
timed_kept None now key stream s l c new l_new c_new stream_new ready h k does =
    kept_new (after_step (step_of now s) now key stream s).0 new c c_new l l_new (ap (λ (x : Session × Stream). x.0) does.0) k does.1
    (step_kept now key stream s c l h)
timed_kept (Some place) now key stream s l c new l_new c_new stream_new ready h k does =
    let m = (driven now key place s stream l).0 in
    let kept = phase_driven s.phase s.operation c l m ready h in
    kept_new (sending_for (step_at place s l) now s) new c c_new m l_new does.0 k does.1
    (sending_case (λ x. Kept x c m) (at_place place l).operation s.timing now s kept kept)

ready_any : (x : Option ℕ) (s : Session) → s.phase ≡ phases.Ready → IsReadyIf x s
ready_any None s e = tt
ready_any (Some place) s e = e

due_ready : (b : Bool) (p : Phase) (x : Option ℕ) (s : Session) → s.phase ≡ p → IsReadyIf (cond (is_ready p && b) x None) s
due_ready b phases.Ready x s e = ready_any (cond b x None) s e
due_ready b phases.New x s e = tt
due_ready b phases.Asking x s e = tt
due_ready b phases.Leaving x s e = tt
due_ready b phases.Closing x s e = tt
due_ready b phases.Ended x s e = tt

times_out : (now : Instant) (key : Option (List ℕ)) (stream : Stream) (s : Session) (l : List Lease) (c : Option Credentials) (new : Session)
    (l_new : List Lease) (c_new : Option Credentials) (stream_new : Stream) → Safe s c l → c_new ≡ kept_credentials new c
    → TimesOut now key stream s l new l_new stream_new → Safe new c_new l_new
times_out now key stream s l c new l_new c_new stream_new h k does =
    let t = with_renewal now s in
    let m = advanced_in s.phase now l in
    timed_kept (lease_due now (step_of now t) t m) now key stream t m c new l_new c_new stream_new (due_ready _ t.phase (due_place now m) t refl)
    (renewal_safe now s c m (phase_advanced s.phase now s.operation c l h)) k does

-- ---- packets and events

phase_set : (p : Phase) (o : Option Operation) (c : Option Credentials) (l : List Lease) (i : ℕ) (g : Lease) → IsForgotten p o c l
    → IsForgotten p o c (set l i g)
phase_set phases.New o c l i g h = tt
phase_set phases.Asking o c l i g h = tt
phase_set phases.Leaving o c l i g h = tt
phase_set phases.Ready o c l i g h = h
phase_set phases.Closing o c l i g h = h
phase_set phases.Ended o c l i g h = (h.0, ap (λ (x : List Lease). set x i g) h.1 ∙ set_past [] i g (omega arith), h.2)

alive_safe : (alive : Option TransId) (s : Session) (c : Option Credentials) (l : List Lease) → Safe s c l
    → Safe (packet_polled (alive_or_nothing alive) s) c (lease_polled_in (alive_or_nothing alive) l)
alive_safe None s c l h = h
alive_safe (Some id) s c l h = h

polled_safe : (result : Result (Option ℕ) StunError) (s : Session) (c : Option Credentials) (l : List Lease) → Safe s c l
    → Safe (after_poll result (client_packet s l) s) c (leases_after_poll result (client_packet s l) l)
polled_safe (Ok None) s c l h = h
polled_safe (Ok (Some n)) s c l h =
    packet_case (λ packet. Safe (packet_polled packet s) c (lease_polled_in packet l)) s l (λ alive. alive_safe alive s c l h)
    (λ r a. safe_changed polled s c l h) (λ place r a. phase_set s.phase s.operation c l place (lease_polled (at_place place l)) h)
polled_safe (Err e) s c l h = h

reported_leases : (p : Option ℕ) (s : Session) (c : Option Credentials) (l : List Lease) → Safe s c l → Safe s c (reported_at p l).0
reported_leases None s c l h = h
reported_leases (Some place) s c l h = phase_set s.phase s.operation c l place (without_report (at_place place l)) h

leases_cond : (b : Bool) (s : Session) (c : Option Credentials) (x y : List Lease) → Safe s c x → Safe s c y → Safe s c (cond b x y)
leases_cond true s c x y h k = h
leases_cond false s c x y h k = k

after_made : (made : Option Allocation) (s : Session) (c : Option Credentials) (l : List Lease) → Safe s c l → Safe (reported_by made s) c l
after_made None s c l h = h
after_made (Some made) s c l h = h

event_safe : (s : Session) (c : Option Credentials) (l : List Lease) → Safe s c l → Safe (session_after_event s l) c (leases_after_event s l)
event_safe s c l h =
    let k = leases_cond (is_some s.made) s c l (reported l).0 h (reported_leases (position is_reported l) s c l h) in
    let m = leases_after_event s l in
    safe_cond (is_some s.made) (after_event s) (cond (is_some (reported l).1) s (after_event s)) c m (after_made s.made s c m k)
    (safe_cond (is_some (reported l).1) s (after_event s) c m k (after_made s.made s c m k))

-- ---- each call

becomes : (s : Session) (l : List Lease) (c : Option Credentials) (new : State) → Safe s c l → HasBecome s l c new → Forgets new
becomes s l c new h does =
    subst (λ (x : Session). Safe x new.credentials new.leases) (sym does.0) (subst (λ (x : List Lease). Safe s new.credentials x) (sym does.1)
    (subst (λ (x : Option Credentials). Safe s x l) (sym does.2) h))

call_forgets : (call : Call) (mac : List ℕ → List ℕ → List ℕ) (x new : State) → Forgets x → Effect call mac new.clock x new → Forgets new
call_forgets start mac x new h does =
    becomes (turn_started (at_time new.clock) x.session) x.leases x.credentials new
    (safe_cond (is_new x.session.phase) (asking (at_time new.clock) x.session) x.session x.credentials x.leases tt h) does
call_forgets (close has) mac x new h does =
    kept_new (closed_in x.session.phase (at_time new.clock) has x.session) new.session x.credentials new.credentials x.leases new.leases does.1.0 (search (does.1.2)) (search (does.1.1))
    (closed_kept x.session.phase (at_time new.clock) has x.session x.credentials x.leases refl h)
call_forgets lose mac x new h does =
    kept_new (lost_in x.session.phase x.session) new.session x.credentials new.credentials x.leases new.leases does.0 (search (does.2)) (search (does.1))
    (lost_kept x.session.phase x.session x.credentials x.leases h)
call_forgets (permit peer) mac x new h does =
    becomes x.session (permits_peer (at_time new.clock) peer x.session x.leases).0 x.credentials new
    (phase_permits x.session.phase _ _ false x.session.operation x.credentials x.leases h) does
call_forgets (send peer media) mac x new h does =
    let now = at_time new.clock in
    becomes (after_route (routed now peer media x.session x.leases).1 now x.session) (routed now peer media x.session x.leases).0 x.credentials new
    (sent_safe now peer media x.session x.credentials x.leases (routed now peer media x.session x.leases).0
    (phase_routes x.session.phase _ _ x.session.operation x.credentials x.leases h)) does
call_forgets probe mac x new h does =
    becomes (probed (at_time new.clock) x.session) x.leases x.credentials new (probed_safe (at_time new.clock) x.session x.credentials x.leases h) does
call_forgets (handle_timeout stream stream_new) mac x new h does =
    times_out (at_time new.clock) (key_now x.credentials) stream x.session x.leases x.credentials new.session new.leases new.credentials stream_new h (search (does.0)) does.1
call_forgets (poll_transmit result) mac x new h does =
    becomes (after_poll result (client_packet x.session x.leases) x.session) (leases_after_poll result (client_packet x.session x.leases) x.leases) x.credentials new
    (polled_safe result x.session x.credentials x.leases h) does
call_forgets poll_event mac x new h does =
    becomes (session_after_event x.session x.leases) (leases_after_event x.session x.leases) x.credentials new (event_safe x.session x.credentials x.leases h) does
call_forgets (receive bytes result) mac x new h does =
    received_after (datagram_of bytes) mac (at_time new.clock) (alternate_in bytes) x.session x.leases x.credentials result new.session new.leases new.credentials h
    does

execution_forgets : (mac : List ℕ → List ℕ → List ℕ) (x : State) (run : List State) → Forgets x → IsExecution mac x run → AlwaysForgets run
execution_forgets mac x [] h steps = tt
execution_forgets mac x (next ∷ rest) h steps =
    let after = call_forgets steps.0.call mac x next h steps.0.effect in (after, execution_forgets mac next rest after steps.1)

pub always_forgets : (mac : List ℕ → List ℕ → List ℕ) (x : State) (run : List State) → IsNewClient x → IsExecution mac x run → AlwaysForgets run
always_forgets mac x run fresh steps =
    execution_forgets mac x run (subst (λ (s : Session). Safe s x.credentials x.leases) (sym fresh.session) tt) steps
