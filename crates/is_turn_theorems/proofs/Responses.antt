-- What a response of the server does to a session keeps how far its renewal is.
use Rattle.std.proofs.Common.{◌≡◌, inl, inr, ℕ, ◌+◌, ◌*◌, ◌≤◌, ◌<◌, ◌==◌, Bool, true, false, cond, Option, Some, None, arith, refl, ap, ◌∙◌}
use Rattle.is_turn_theorems.proofs.Common.{allocated_in, another, at_time, Attempt, attempt_time, changed_by, ClientTiming, doubted, extended, failed_in, Follows, has_failed, hinted, Instant}
use Rattle.is_turn_theorems.proofs.Common.{is_ready, is_redirected, lasts, later, lead, Leave, lifetime_of, Limits, lost, MAX, Operation, PACE, Phase, refreshed_in, renewal_of, request_timing, SECOND}
use Rattle.is_turn_theorems.proofs.Common.{Session, SocketAddr, stale_count, without_pace}
use Rattle.is_turn.specs.declared.session.Allocation.{Allocation}
use Rattle.is_turn.specs.declared.session.Phase.TheVariants as phases
use Rattle.is_turn.specs.Session.{renewed}
use Rattle.is_turn_theorems.proofs.Standing.{Holds, Soon, Stage, SentLast, DueIn, times_more}
use Rattle.is_turn_theorems.proofs.OtherCalls.{holds_is, holds_cond, unready}

-- ---- a call at this time

pub record Called (k : Limits) (now d : ℕ) (s : Session) : Type 0 where
  pub past : d ≤ now
  pub holds : Holds k now d s
  pub soon : is_ready s.phase ≡ true → Soon k now s.renew.0 s.operation
  pub shown : now + 3600 * SECOND < MAX
  pub leave : Leave k

unready_if : (k : Limits) (now d : ℕ) (s : Session) → s.paced.0 ≤ now + PACE → (is_ready s.phase ≡ true → ⊥) → Holds k now d s
unready_if k now d s p not_ready = record { paced = p; ready = λ r. absurd (not_ready r) }

-- ---- success responses

lead_le : (k : Limits) (seconds : ℕ) → k.lifetime ≤ seconds → renewal_of (lifetime_of seconds) + lead k ≤ lifetime_of seconds
lead_le k seconds h = omega (arith, h)

lead_half : (k : Limits) (seconds : ℕ) → k.lifetime ≤ seconds → lead k ≤ renewal_of (lifetime_of seconds)
lead_half k seconds h = omega (arith, h)

within_le : (k : Limits) → Leave k → k.within ≤ lead k
within_le k h =
    let more : (k.challenges + 1) * attempt_time k ≡ k.challenges * attempt_time k + attempt_time k = times_more k.challenges (attempt_time k) in
    omega (arith, more, h)

lifetime_most : (seconds : ℕ) → lifetime_of seconds ≤ 3600 * SECOND
lifetime_most seconds = omega arith

reach_by : (since now ren life reach within : ℕ) → since ≤ now → now ≤ since + within → now + 3600 * SECOND < MAX → life ≤ 3600 * SECOND
    → ren + reach ≤ life → reach ≤ ren → within ≤ reach → (later since ren + reach ≤ later since life) × (now ≤ later since ren)
reach_by since now ren life reach within a b c d e f g = (omega arith, omega arith)

-- after a success response no request is pending, and the renewal is ahead
pub record Extends (k : Limits) (now since seconds : ℕ) : Type 0 where
  pub reach : later since (renewal_of (lifetime_of seconds)) + lead k ≤ later since (lifetime_of seconds)
  pub ahead : now ≤ later since (renewal_of (lifetime_of seconds))

pub extends : (k : Limits) (now since seconds : ℕ) → Leave k → now + 3600 * SECOND < MAX → k.lifetime ≤ seconds → since ≤ now → now ≤ since + k.within
    → Extends k now since seconds
extends k now since seconds leave shown lasts after within =
    let h = reach_by since now (renewal_of (lifetime_of seconds)) (lifetime_of seconds) (lead k) k.within after within shown (lifetime_most seconds)
    (lead_le k seconds lasts) (lead_half k seconds lasts) (within_le k leave) in
    record { reach = h.0; ahead = h.1 }

pub allocated_holds : (k : Limits) (now d : ℕ) (phase : Phase) (since : Instant) (seconds : ℕ) (allocation : Allocation) (s : Session) → d ≤ now
    → s.paced.0 ≤ now + PACE → Extends k now since.0 seconds → Holds k now d (allocated_in phase (at_time now) allocation (extended since seconds s))
allocated_holds k now d phases.Leaving since seconds allocation s le p x = unready k now d _ (omega (arith, p)) refl
allocated_holds k now d phases.New since seconds allocation s le p x =
    record { paced = p; ready = λ r. record { reach = x.reach; pending = tt; due = let a = x.ahead in omega (arith, le, a) } }
allocated_holds k now d phases.Asking since seconds allocation s le p x =
    record { paced = p; ready = λ r. record { reach = x.reach; pending = tt; due = let a = x.ahead in omega (arith, le, a) } }
allocated_holds k now d phases.Ready since seconds allocation s le p x =
    record { paced = p; ready = λ r. record { reach = x.reach; pending = tt; due = let a = x.ahead in omega (arith, le, a) } }
allocated_holds k now d phases.Closing since seconds allocation s le p x =
    record { paced = p; ready = λ r. record { reach = x.reach; pending = tt; due = let a = x.ahead in omega (arith, le, a) } }
allocated_holds k now d phases.Ended since seconds allocation s le p x =
    record { paced = p; ready = λ r. record { reach = x.reach; pending = tt; due = let a = x.ahead in omega (arith, le, a) } }

renewed_holds : (k : Limits) (now d : ℕ) (since : Instant) (seconds : ℕ) (s : Session) → d ≤ now → s.paced.0 ≤ now + PACE → Extends k now since.0 seconds
    → Holds k now d (cond (seconds == 0) (lost None None s) (renewed since seconds s))
renewed_holds k now d since seconds s le p x =
    holds_cond k now d (seconds == 0) (lost None None s) (renewed since seconds s) (λ e. unready k now d _ p refl)
    (λ e. record { paced = p; ready = λ r. record { reach = x.reach; pending = tt; due = let a = x.ahead in omega (arith, le, a) } })

pub refreshed_holds : (k : Limits) (now d : ℕ) (phase : Phase) (since : Instant) (seconds : ℕ) (s : Session) → d ≤ now → s.paced.0 ≤ now + PACE
    → Extends k now since.0 seconds → Holds k now d (refreshed_in phase since seconds s)
refreshed_holds k now d phases.Closing since seconds s le p x = unready k now d _ p refl
refreshed_holds k now d phases.Leaving since seconds s le p x = renewed_holds k now d since seconds s le p x
refreshed_holds k now d phases.New since seconds s le p x = renewed_holds k now d since seconds s le p x
refreshed_holds k now d phases.Asking since seconds s le p x = renewed_holds k now d since seconds s le p x
refreshed_holds k now d phases.Ready since seconds s le p x = renewed_holds k now d since seconds s le p x
refreshed_holds k now d phases.Ended since seconds s le p x = renewed_holds k now d since seconds s le p x

-- ---- other responses

pub failed_unready : (k : Limits) (now d : ℕ) (phase : Phase) (code : Option ℕ) (s : Session) → s.paced.0 ≤ now + PACE → (is_ready phase ≡ true → ⊥)
    → Holds k now d (failed_in phase (at_time now) code s)
failed_unready k now d phases.Ready code s p not_ready = absurd (not_ready refl)
failed_unready k now d phases.New code s p not_ready = unready k now d _ p refl
failed_unready k now d phases.Asking code s p not_ready = unready k now d _ p refl
failed_unready k now d phases.Leaving code s p not_ready = unready k now d _ p refl
failed_unready k now d phases.Closing code s p not_ready = unready k now d _ p refl
failed_unready k now d phases.Ended code s p not_ready = unready k now d _ p refl

pub follows_unready : (k : Limits) (now d : ℕ) (server : SocketAddr) (s new : Session) → s.paced.0 ≤ now + PACE → (is_ready s.phase ≡ true → ⊥)
    → Follows (at_time now) server s new → Holds k now d new
follows_unready k now d server s new p not_ready (inl step) =
    holds_is k now d (is_redirected (at_time now) server s) new step.1 (unready_if k now d _ (omega (arith, p)) not_ready)
follows_unready k now d server s new p not_ready (inr step) =
    holds_is k now d (has_failed (at_time now) (Some 300) s) new step.1 (failed_unready k now d s.phase (Some 300) s p not_ready)

pub hint_unready : (k : Limits) (now d : ℕ) (code : ℕ) (t : ClientTiming) (o : Option Operation) (s : Session) → s.paced.0 ≤ now + PACE
    → (is_ready s.phase ≡ true → ⊥) → Holds k now d (changed_by (hinted (at_time now) code t) o s)
hint_unready k now d code t None s p not_ready = unready_if k now d _ p not_ready
hint_unready k now d code t (Some o) s p not_ready = unready_if k now d _ p not_ready

doubted_stage : (b : Bool) (k : Limits) (t : ClientTiming) (now renew pace code : ℕ) (o : Operation) → Stage b k t now renew pace o
    → Stage b k t now renew pace (doubted code o)
doubted_stage true k t now renew pace code o h = record { begun = h.begun; soon = h.soon; paced = h.paced }
doubted_stage false k t now renew pace code o h = doubted_last k t renew o o.attempts.last h
  where
    doubted_last : (k : Limits) (t : ClientTiming) (renew : ℕ) (o : Operation) (a : Option Attempt) → SentLast k t renew o a → SentLast k t renew (doubted code o) a
    doubted_last k t renew o None h = absurd h
    doubted_last k t renew o (Some a) h = record { soon = h.soon; place = h.place; sent = h.sent; wait = h.wait; due = h.due }

doubted_due : (b : Bool) (d code : ℕ) (o : Operation) → DueIn b d o → DueIn b d (doubted code o)
doubted_due true d code o h = h
doubted_due false d code o h = tt

pub doubt_holds : (k : Limits) (now d code : ℕ) (s : Session) (o : Option Operation) → Holds k now d (record s { operation = o })
    → Holds k now d (changed_by (doubted code) o (record s { operation = o }))
doubt_holds k now d code s None h = h
doubt_holds k now d code s (Some o) h = record {
  paced = h.paced;
  ready = λ r. record {
    reach = (h.ready r).reach;
    pending = doubted_stage o.is_fresh k (request_timing s) now s.renew.0 s.paced.0 code o (h.ready r).pending;
    due = doubted_due o.is_fresh d code o (h.ready r).due;
  };
}

-- ---- challenges

abbrev pub Counts : ℕ → Option Operation → Type 0
Counts code None = Unit {0}
Counts code (Some o) = stale_count code o.stale ≡ o.stale + 1

pub another_holds : (k : Limits) (now d : ℕ) (b : Bool) (code : ℕ) (s : Session) (o : Option Operation) → d ≤ now → Holds k now d (record s { operation = o })
    → (is_ready s.phase ≡ true → Soon k now s.renew.0 o) → (is_ready s.phase ≡ true → Counts code o)
    → Holds k now d (changed_by (another (at_time now) b code) o (without_pace (at_time now) (record s { operation = o })))
another_holds k now d b code s None le h soon counts = record {
  paced = omega arith;
  ready = λ r. record { reach = (h.ready r).reach; pending = tt; due = (h.ready r).due };
}
another_holds k now d b code s (Some o) le h soon counts = record {
  paced = omega arith;
  ready = λ r. record {
    reach = (h.ready r).reach;
    pending = record {
      begun = omega arith;
      soon =
          let e : stale_count code o.stale * attempt_time k ≡ o.stale * attempt_time k + attempt_time k =
          ap (λ (n : ℕ). n * attempt_time k) (counts r) ∙ times_more o.stale (attempt_time k) in
          let p = (soon r).bound in omega (arith, e, p);
      paced = omega arith;
    };
    due = omega (arith, le);
  };
}
