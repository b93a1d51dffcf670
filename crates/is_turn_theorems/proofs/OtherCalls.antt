-- What a user's calls and polls do to a session keeps how far its renewal is.
use Rattle.std.proofs.Common.{◌≡◌, ℕ, ◌+◌, ◌≤◌, ◌==◌, ◌&&◌, ◌||◌, Bool, true, false, cond, List, Option, Some, None, is_none, is_some, position, Result, Ok, Err, arith, refl, sym, subst}
use Rattle.is_turn_theorems.proofs.Common.{after_event, after_poll, after_route, alive_or_nothing, and_parts, asking, at_place, at_time, Attempt, bound_channel, changed_by, client_packet}
use Rattle.is_turn_theorems.proofs.Common.{ClientTiming, closed, closed_early, closed_in, is_gone, is_new, is_ready, is_to_be_sent, Lease, lease_failed, lease_packet_at, lease_packet_of}
use Rattle.is_turn_theorems.proofs.Common.{lease_request, left, Limits, lost, lost_in, may_be_made, Operation, PACE, packet_after, packet_due, packet_or, packet_polled, permits_peer, Phase, plain}
use Rattle.is_turn_theorems.proofs.Common.{polled, probed, quiet_after, reported, reported_by, Request, request_or, request_timing, route_of, routed, routed_if, Session, session_after_event}
use Rattle.is_turn_theorems.proofs.Common.{SocketAddr, TransId, turn_started, unsent, with_media, with_request}
use Rattle.is_proto.specs.declared.error.StunError.{StunError}
use Rattle.is_turn.specs.declared.requests.Request.TheVariants.{Refresh}
use Rattle.is_turn.specs.declared.session.Allocation.{Allocation}
use Rattle.is_turn.specs.declared.session.Phase.TheVariants as phases
use Rattle.is_turn_theorems.proofs.Standing.{Holds, Soon, Stage, SentLast, DueIn}

-- ---- cases

-- what holds in each of two cases
pub through : {A : Type 0} (of : A) (P : A → Type 0) (b : Bool) (x y : A) → (b ≡ true → P x) → (b ≡ false → P y) → P (cond b x y)
through of P true x y p q = p refl
through of P false x y p q = q refl

pub holds_is : (k : Limits) (now d : ℕ) (s new : Session) → new ≡ s → Holds k now d s → Holds k now d new
holds_is k now d s new e h = subst (λ (x : Session). Holds k now d x) (sym e) h

pub holds_cond : (k : Limits) (now d : ℕ) (b : Bool) (x y : Session) → (b ≡ true → Holds k now d x) → (b ≡ false → Holds k now d y)
    → Holds k now d (cond b x y)
holds_cond k now d true x y p q = p refl
holds_cond k now d false x y p q = q refl

-- without an allocation there is nothing to hold but the pace
pub unready : (k : Limits) (now d : ℕ) (s : Session) → s.paced.0 ≤ now + PACE → is_ready s.phase ≡ false → Holds k now d s
unready k now d s p e = record { paced = p; ready = λ r. absurd (cc (e, r)) }

-- ---- a request begins

request_begins : (k : Limits) (now d : ℕ) (r : Request) (s : Session) (o : Option Operation) → is_none o ≡ true → d ≤ now → Holds k now d s
    → (is_ready s.phase ≡ true → Soon k now s.renew.0 o) → Holds k now d (with_request (at_time now) r s)
request_begins k now d r s (Some o) e le h soon = absurd (cc e)
request_begins k now d r s None e le h soon = record {
  paced = h.paced;
  ready = λ ready. record {
    reach = (h.ready ready).reach;
    pending = record { begun = omega arith; soon = let p = soon ready in omega (arith, p); paced = h.paced };
    due = omega (arith, le);
  };
}

pub holds_probed : (k : Limits) (now d : ℕ) (s : Session) → d ≤ now → Holds k now d s → (is_ready s.phase ≡ true → Soon k now s.renew.0 s.operation)
    → Holds k now d (probed (at_time now) s)
holds_probed k now d s le h soon =
    holds_cond k now d (is_ready s.phase && is_none s.operation) (with_request (at_time now) (Refresh s.lifetime) s) s
    (λ e. request_begins k now d (Refresh s.lifetime) s s.operation (and_parts (is_ready s.phase) (is_none s.operation) e).1 le h soon) (λ e. h)

-- ---- calls of the user

pub holds_started : (k : Limits) (now d : ℕ) (s : Session) → Holds k now d s → Holds k now d (turn_started (at_time now) s)
holds_started k now d s h = holds_cond k now d (is_new s.phase) (asking (at_time now) s) s (λ e. unready k now d _ h.paced refl) (λ e. h)

holds_left : (k : Limits) (now d : ℕ) (o : Option Operation) (s : Session) → Holds k now d s
    → Holds k now d (changed_by unsent o (record s { phase = phases.Leaving }))
holds_left k now d None s h = unready k now d _ h.paced refl
holds_left k now d (Some o) s h = unready k now d _ h.paced refl

holds_early : (k : Limits) (now d : ℕ) (has : Bool) (s : Session) → Holds k now d s → Holds k now d (closed_early has s)
holds_early k now d has s h =
    holds_cond k now d (may_be_made has s) (left s) (closed None s) (λ e. holds_left k now d s.operation s h) (λ e. unready k now d _ h.paced refl)

pub holds_closed : (k : Limits) (now d : ℕ) (phase : Phase) (has : Bool) (s : Session) → Holds k now d s → Holds k now d (closed_in phase (at_time now) has s)
holds_closed k now d phases.Ready has s h = unready k now d _ h.paced refl
holds_closed k now d phases.Asking has s h = holds_early k now d has s h
holds_closed k now d phases.New has s h = holds_early k now d has s h
holds_closed k now d phases.Leaving has s h = h
holds_closed k now d phases.Closing has s h = h
holds_closed k now d phases.Ended has s h = h

pub holds_lost : (k : Limits) (now d : ℕ) (phase : Phase) (s : Session) → Holds k now d s → Holds k now d (lost_in phase s)
holds_lost k now d phases.Ready s h = unready k now d _ h.paced refl
holds_lost k now d phases.Asking s h = unready k now d _ h.paced refl
holds_lost k now d phases.New s h = unready k now d _ h.paced refl
holds_lost k now d phases.Leaving s h = unready k now d _ h.paced refl
holds_lost k now d phases.Closing s h = unready k now d _ h.paced refl
holds_lost k now d phases.Ended s h = h

quiet_holds : (k : Limits) (now d : ℕ) (s : Session) → Holds k now d s → Holds k now d (quiet_after (at_time now) s)
quiet_holds k now d s h =
    record { paced = h.paced; ready = λ r. record { reach = (h.ready r).reach; pending = (h.ready r).pending; due = (h.ready r).due } }

routed_over_holds : (k : Limits) (now d : ℕ) (number : Option ℕ) (s : Session) → Holds k now d s → Holds k now d (after_route (route_of number) (at_time now) s)
routed_over_holds k now d None s h = quiet_holds k now d s h
routed_over_holds k now d (Some number) s h = quiet_holds k now d s h

routed_if_holds : (k : Limits) (now d : ℕ) (b : Bool) (peer : SocketAddr) (media : Bool) (s : Session) (l : List Lease) → Holds k now d s
    → Holds k now d (after_route (routed_if b (at_time now) peer media l).1 (at_time now) s)
routed_if_holds k now d false peer media s l h = h
routed_if_holds k now d true peer media s l h = routed_over_holds k now d (bound_channel peer (with_media (at_time now) peer media l)) s h

pub holds_routed : (k : Limits) (now d : ℕ) (peer : SocketAddr) (media : Bool) (s : Session) (l : List Lease) → Holds k now d s
    → Holds k now d (after_route (routed (at_time now) peer media s l).1 (at_time now) s)
holds_routed k now d peer media s l h =
    let asked = permits_peer (at_time now) peer s l in
    through (routed (at_time now) peer media s l) (λ x. Holds k now d (after_route x.1 (at_time now) s)) (is_ready s.phase) _ _
    (λ e. routed_if_holds k now d asked.1 (plain peer) media s asked.0 h) (λ e. h)

-- ---- polls

polled_stage : (b : Bool) (k : Limits) (t : ClientTiming) (now renew pace : ℕ) (o : Operation) → Stage b k t now renew pace o → Stage b k t now renew pace (polled o)
polled_stage true k t now renew pace o h = record { begun = h.begun; soon = h.soon; paced = h.paced }
polled_stage false k t now renew pace o h = polled_last k t renew o o.attempts.last h
  where
    polled_last : (k : Limits) (t : ClientTiming) (renew : ℕ) (o : Operation) (a : Option Attempt) → SentLast k t renew o a → SentLast k t renew (polled o) a
    polled_last k t renew o None h = absurd h
    polled_last k t renew o (Some a) h = record { soon = h.soon; place = h.place; sent = h.sent; wait = h.wait; due = h.due }

polled_due : (b : Bool) (d : ℕ) (o : Operation) → DueIn b d o → DueIn b d (polled o)
polled_due true d o h = h
polled_due false d o h = tt

request_polled_holds : (k : Limits) (now d : ℕ) (s : Session) (o : Option Operation) → Holds k now d (record s { operation = o })
    → Holds k now d (changed_by polled o (record s { operation = o }))
request_polled_holds k now d s None h = h
request_polled_holds k now d s (Some o) h = record {
  paced = h.paced;
  ready = λ r. record {
    reach = (h.ready r).reach;
    pending = polled_stage o.is_fresh k (request_timing s) now s.renew.0 s.paced.0 o (h.ready r).pending;
    due = polled_due o.is_fresh d o (h.ready r).due;
  };
}

quiet_polled : (k : Limits) (now d : ℕ) (alive : Option TransId) (s : Session) → Holds k now d s → Holds k now d (packet_polled (alive_or_nothing alive) s)
quiet_polled k now d None s h = h
quiet_polled k now d (Some id) s h =
    record { paced = h.paced; ready = λ r. record { reach = (h.ready r).reach; pending = (h.ready r).pending; due = (h.ready r).due } }

last_polled : (k : Limits) (now d place : ℕ) (o : Operation) (a : Option Attempt) (alive : Option TransId) (s : Session) → Holds k now d s
    → Holds k now d (packet_polled (lease_request place o.request a (alive_or_nothing alive)) s)
last_polled k now d place o None alive s h = quiet_polled k now d alive s h
last_polled k now d place o (Some a) alive s h = h

lease_of_polled : (k : Limits) (now d place : ℕ) (o : Option Operation) (alive : Option TransId) (s : Session) → Holds k now d s
    → Holds k now d (packet_polled (lease_packet_of place o (alive_or_nothing alive)) s)
lease_of_polled k now d place None alive s h = quiet_polled k now d alive s h
lease_of_polled k now d place (Some o) alive s h = last_polled k now d place o o.attempts.last alive s h

lease_at_polled : (k : Limits) (now d : ℕ) (p : Option ℕ) (l : List Lease) (alive : Option TransId) (s : Session) → Holds k now d s
    → Holds k now d (packet_polled (lease_packet_at p l (alive_or_nothing alive)) s)
lease_at_polled k now d None l alive s h = quiet_polled k now d alive s h
lease_at_polled k now d (Some place) l alive s h = lease_of_polled k now d place (at_place place l).operation alive s h

alive_polled : (k : Limits) (now d : ℕ) (l : List Lease) (alive : Option TransId) (s : Session) → Holds k now d s
    → Holds k now d (packet_polled (packet_after (alive_or_nothing alive) l) s)
alive_polled k now d l None s h = lease_at_polled k now d (position is_to_be_sent l) l None s h
alive_polled k now d l (Some id) s h = lease_at_polled k now d (position is_to_be_sent l) l (Some id) s h

request_polled_last : (k : Limits) (now d : ℕ) (l : List Lease) (o : Operation) (a : Option Attempt) (s : Session) → Holds k now d s
    → Holds k now d (packet_polled (packet_after (request_or o.request a (alive_or_nothing s.alive)) l) s)
request_polled_last k now d l o None s h = alive_polled k now d l s.alive s h
request_polled_last k now d l o (Some a) s h = request_polled_holds k now d s s.operation h

due_polled : (k : Limits) (now d : ℕ) (l : List Lease) (o : Option Operation) (s : Session) → Holds k now d s
    → Holds k now d (packet_polled (packet_after (packet_or o (alive_or_nothing s.alive)) l) s)
due_polled k now d l None s h = alive_polled k now d l s.alive s h
due_polled k now d l (Some o) s h =
    through (packet_due s) (λ x. Holds k now d (packet_polled (packet_after x l) s)) o.is_waiting _ _
    (λ e. request_polled_last k now d l o o.attempts.last s h) (λ e. alive_polled k now d l s.alive s h)

pub holds_polled : (k : Limits) (now d : ℕ) (result : Result (Option ℕ) StunError) (s : Session) (l : List Lease) → Holds k now d s
    → Holds k now d (after_poll result (client_packet s l) s)
holds_polled k now d (Ok None) s l h = h
holds_polled k now d (Ok (Some n)) s l h = due_polled k now d l s.operation s h
holds_polled k now d (Err e) s l h = h

reported_holds : (k : Limits) (now d : ℕ) (made : Option Allocation) (s : Session) → Holds k now d s → Holds k now d (reported_by made s)
reported_holds k now d None s h =
    record { paced = h.paced; ready = λ r. record { reach = (h.ready r).reach; pending = (h.ready r).pending; due = (h.ready r).due } }
reported_holds k now d (Some made) s h =
    record { paced = h.paced; ready = λ r. record { reach = (h.ready r).reach; pending = (h.ready r).pending; due = (h.ready r).due } }

pub holds_event : (k : Limits) (now d : ℕ) (s : Session) (l : List Lease) → Holds k now d s → Holds k now d (session_after_event s l)
holds_event k now d s l h =
    holds_cond k now d (is_some s.made) (after_event s) (cond (is_some (reported l).1) s (after_event s)) (λ e. reported_holds k now d s.made s h)
    (λ e. holds_cond k now d (is_some (reported l).1) s (after_event s) (λ e. h) (λ e. reported_holds k now d s.made s h))

-- ---- a lease that the server does not give

pub holds_lease_failed : (k : Limits) (now d code : ℕ) (s : Session) → d ≤ now → Holds k now d s → (is_ready s.phase ≡ true → Soon k now s.renew.0 s.operation)
    → Holds k now d (lease_failed (at_time now) code s)
holds_lease_failed k now d code s le h soon =
    holds_cond k now d (is_gone (Some code)) (lost (Some code) None s) (cond (code == 403 || code == 443) s (probed (at_time now) s))
    (λ e. unready k now d _ h.paced refl)
    (λ e. holds_cond k now d (code == 403 || code == 443) s (probed (at_time now) s) (λ e. h) (λ e. holds_probed k now d s le h soon))
