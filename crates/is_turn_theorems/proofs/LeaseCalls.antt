-- What calls and responses do to a lease keeps how far its renewal is.
use Rattle.std.proofs.Common.{◌≡◌, ℕ, ◌+◌, ◌*◌, ◌≤◌, ◌<◌, ◌&&◌, ◌||◌, Bool, true, false, Option, Some, None, is_none, is_some, List, arith, refl, sym, subst}
use Rattle.is_turn_theorems.proofs.Common.{another, asked_again, at_place, at_time, barred_at, ClientTiming, doubted, failed_at, hinted, Instant, is_barring, is_free, is_given, is_idle, lasts_since}
use Rattle.is_turn_theorems.proofs.Common.{later, later_end, LEAD, Lease, lease_attempt_time, lease_polled, LeaveForLeases, lifetime_for, Limits, MAX, new_lease, Operation, polled, queue_time}
use Rattle.is_turn_theorems.proofs.Common.{renewal_of, retried_at, SECOND, SocketAddr, stale_count, time_after, used_at, with_operation, without_report}
use Rattle.is_turn_theorems.proofs.OtherCalls.{through}
use Rattle.is_turn_theorems.proofs.Standing.{times_more}
use Rattle.is_turn_theorems.proofs.LeaseLists.{Closed, keep_set}
use Rattle.is_turn_theorems.proofs.LeaseStanding.{Live, has_any, Bare, Met, none_some, any_given}

-- ---- a lease that is not given, and is not requested

pub bare_met : (k : Limits) (now d : ℕ) (was : Bool) (g : Lease) → (has_any g ≡ true → ⊥) → (was ≡ true → is_given g ≡ true) → Met k now d was g
bare_met k now d was g none stays = record {
  live = λ e. absurd (none e);
  stays = stays;
  given = λ e. absurd (none (any_given g e));
}

four_none : (a b c d e : Bool) → (a && b && c && d && e) ≡ true → b ≡ true
four_none true true c d e h = refl
four_none true false c d e h = absurd (cc h)
four_none false b c d e h = absurd (cc h)

free_none : (now : Instant) (g : Lease) → is_free now g ≡ true → is_none g.until ≡ true
free_none now g h = four_none (is_none g.number) (is_none g.until) (is_none g.operation) (is_none g.report) (is_idle now g) h

barred_bare : (g : Lease) → (has_any g ≡ true → Live g) → is_some g.barred ≡ true → has_any g ≡ true → ⊥
barred_bare g live barred e = none_some g.barred (live e).allowed barred

-- ---- its pending request, changed

polled_met : (k : Limits) (now d : ℕ) (was : Bool) (g : Lease) (o : Option Operation) → Met k now d was (record g { operation = o })
    → Met k now d was (with_operation polled o (record g { operation = o }))
polled_met k now d was g None h = h
polled_met k now d was g (Some o) h = record {
  live = λ e. let x = h.live e in record { allowed = x.allowed; named = x.named };
  stays = h.stays;
  given = λ e. record {
    reach = (h.given e).reach;
    pending = (h.given e).pending;
    soon = record { bound = (h.given e).soon.bound; fresh = (h.given e).soon.fresh };
    due = λ none. absurd (cc none);
  };
}

pub doubted_met : (k : Limits) (now d code : ℕ) (was : Bool) (g : Lease) (o : Option Operation) → Met k now d was (record g { operation = o })
    → Met k now d was (with_operation (doubted code) o (record g { operation = o }))
doubted_met k now d code was g None h = h
doubted_met k now d code was g (Some o) h = record {
  live = λ e. let x = h.live e in record { allowed = x.allowed; named = x.named };
  stays = h.stays;
  given = λ e. record {
    reach = (h.given e).reach;
    pending = (h.given e).pending;
    soon = record { bound = (h.given e).soon.bound; fresh = (h.given e).soon.fresh };
    due = λ none. absurd (cc none);
  };
}

-- of what is not given
pub hinted_met : (k : Limits) (now d code : ℕ) (was : Bool) (at : Instant) (t : ClientTiming) (g : Lease) (o : Option Operation) → (is_given g ≡ true → ⊥)
    → Met k now d was (record g { operation = o }) → Met k now d was (with_operation (hinted at code t) o (record g { operation = o }))
hinted_met k now d code was at t g None gone h = h
hinted_met k now d code was at t g (Some o) gone h = record {
  live = λ e. let x = h.live e in record { allowed = x.allowed; named = x.named };
  stays = h.stays;
  given = λ e. absurd (gone e);
}

abbrev pub LeaseCounts : ℕ → Option Operation → Type 0
LeaseCounts code None = Unit {0}
LeaseCounts code (Some o) = stale_count code o.stale ≡ o.stale + 1

another_pending : (now renew late stale more each : ℕ) → more ≡ stale + 1 → now ≤ renew + late + (stale * each + each) → now ≤ renew + late + more * each
another_pending now renew late stale more each e h =
    let m : (stale + 1) * each ≡ stale * each + each = times_more stale each in
    subst (λ (n : ℕ). now ≤ renew + late + n * each) (sym e) (omega (arith, m, h))

pub another_met : (k : Limits) (now d code : ℕ) (was b : Bool) (g : Lease) (o : Option Operation) → (is_given g ≡ true → LeaseCounts code o)
    → Met k now d was (record g { operation = o }) → Met k now d was (with_operation (another (at_time now) b code) o (record g { operation = o }))
another_met k now d code was b g None counts h = h
another_met k now d code was b g (Some o) counts h = record {
  live = λ e. let x = h.live e in record { allowed = x.allowed; named = x.named };
  stays = h.stays;
  given = λ e.
      let x = h.given e in
      let p = another_pending now g.renew.0 k.late o.stale (stale_count code o.stale) (lease_attempt_time k) (counts e) x.soon.bound in
      record {
        reach = x.reach;
        pending = p;
        soon = record { bound = omega (arith, p); fresh = λ f. omega arith };
        due = λ none. absurd (cc none);
      };
}

-- ---- success and failure

-- a success response: counted from when its attempt was first sent
lasts_reach : (since now : ℕ) (number : Option ℕ) → since ≤ now → now + 3600 * SECOND < MAX
    → later since (renewal_of (lifetime_for number)) + LEAD ≤ later since (lifetime_for number)
lasts_reach since now None a b = omega (arith, a, b)
lasts_reach since now (Some number) a b = omega (arith, a, b)

lasts_ahead : (since now within : ℕ) (number : Option ℕ) → since ≤ now → now ≤ since + within → now + 3600 * SECOND < MAX → within < LEAD
    → now ≤ later since (renewal_of (lifetime_for number))
lasts_ahead since now within None a b c d = omega (arith, a, b, c, d)
lasts_ahead since now within (Some number) a b c d = omega (arith, a, b, c, d)

end_le : (last : Option Instant) (until : Instant) (n : ℕ) → n ≤ until.0 → n ≤ (later_end last until).0
end_le None until n h = h
end_le (Some last) until n h = omega (arith, h)

pub within_lead : (k : Limits) → LeaveForLeases k → k.within < LEAD
within_lead k h = by_plain k.late k.challenges (queue_time k) k.within LEAD h
  where
    by_plain : (late most queue within reach : ℕ) → late + (most + 1) * (queue + within) < reach → within < reach
    by_plain late most queue within reach h =
        let m : (most + 1) * (queue + within) ≡ most * (queue + within) + (queue + within) = times_more most (queue + within) in
        omega (arith, m, h)

pub lasts_met : (k : Limits) (now d : ℕ) (was : Bool) (since : Instant) (g : Lease) → d ≤ now → LeaveForLeases k → now + 3600 * SECOND < MAX
    → since.0 ≤ now → now ≤ since.0 + k.within → (has_any g ≡ true → Live g) → has_any g ≡ true → Met k now d was (lasts_since since g)
lasts_met k now d was since g past leave shown after within live any =
    let a = lasts_ahead since.0 now k.within g.number after within shown (within_lead k leave) in
    record {
      live = λ e. let x = live any in record { allowed = x.allowed; named = x.named };
      stays = λ e. refl;
      given = λ e. record {
        reach = end_le g.until (time_after since (lifetime_for g.number)) (later since.0 (renewal_of (lifetime_for g.number)) + LEAD)
            (lasts_reach since.0 now g.number after shown);
        pending = tt;
        soon = omega (arith, a);
        due = λ none. omega (arith, a, past);
      };
    }

-- of what is not given
pub failed_met : (k : Limits) (now d : ℕ) (was : Bool) (at : Instant) (code : Option ℕ) (g : Lease) → (is_given g ≡ true → ⊥) → (was ≡ true → is_given g ≡ true)
    → Met k now d was (failed_at at code g)
failed_met k now d was at code g gone stays =
    through g (λ x. Met k now d was x) (is_none g.until || is_barring code) (barred_at at code g) (retried_at at g)
    (λ e. bare_met k now d was (barred_at at code g) (λ any. absurd (cc any)) (λ w. absurd (gone (stays w))))
    (λ e. bare_met k now d was (retried_at at g) (λ any. gone (or_false (is_some g.until) any)) stays)
  where
    or_false : (b : Bool) → (b || false) ≡ true → b ≡ true
    or_false true e = refl
    or_false false e = absurd (cc e)

-- ---- calls

module _ (k : Limits) (now d place : ℕ) (was : Bool) where
  abbrev pub MetAt : List Lease → Type 0
  MetAt l = Met k now d was (at_place place l)

  met_used : (g : Lease) → Met k now d was g → Met k now d was (used_at (at_time now) g)
  met_used g h = record {
    live = λ e. let x = h.live e in record { allowed = x.allowed; named = x.named };
    stays = h.stays;
    given = λ e. let x = h.given e in record { reach = x.reach; pending = x.pending; soon = x.soon; due = x.due };
  }

  met_again : (g : Lease) → is_some g.barred ≡ true → Met k now d was g → Met k now d was (asked_again (at_time now) g)
  met_again g barred h = bare_met k now d was (asked_again (at_time now) g) (λ e. barred_bare g h.live barred e) h.stays

  met_new : (g : Lease) (peer : SocketAddr) (number : Option ℕ) → is_free (at_time now) g ≡ true → Met k now d was g
      → Met k now d was (new_lease peer number (at_time now))
  met_new g peer number free h =
      bare_met k now d was (new_lease peer number (at_time now)) (λ e. absurd (cc e))
      (λ w. absurd (none_some g.until (free_none (at_time now) g free) (h.stays w)))

  met_reported : (g : Lease) → Met k now d was g → Met k now d was (without_report g)
  met_reported g h = record {
    live = λ e. let x = h.live e in record { allowed = x.allowed; named = x.named };
    stays = h.stays;
    given = λ e. let x = h.given e in record { reach = x.reach; pending = x.pending; soon = x.soon; due = x.due };
  }

  pub met_closed : Closed MetAt (at_time now)
  met_closed = record {
    used = λ q l h. keep_set (Met k now d was) place q l (used_at (at_time now) (at_place q l)) (λ e x. met_used (at_place q l) x) h;
    again = λ q l barred h.
        keep_set (Met k now d was) place q l (asked_again (at_time now) (at_place q l)) (λ e x. met_again (at_place q l) barred x) h;
    new = λ q l peer number free h.
        keep_set (Met k now d was) place q l (new_lease peer number (at_time now)) (λ e x. met_new (at_place q l) peer number free x) h;
    polled = λ q l h.
        keep_set (Met k now d was) place q l (lease_polled (at_place q l)) (λ e x. polled_met k now d was (at_place q l) (at_place q l).operation x) h;
    reported = λ q l h. keep_set (Met k now d was) place q l (without_report (at_place q l)) (λ e x. met_reported (at_place q l) x) h;
  }

-- ---- without an allocation

pub bare_changed : (change : Operation → Operation) (g : Lease) (o : Option Operation) → Bare (record g { operation = o })
    → Bare (with_operation change o (record g { operation = o }))
bare_changed change g None h = h
bare_changed change g (Some o) h = absurd (cc (h.1))

pub bare_failed : (at : Instant) (code : Option ℕ) (g : Lease) → Bare g → Bare (failed_at at code g)
bare_failed at code g h =
    through g Bare (is_none g.until || is_barring code) (barred_at at code g) (retried_at at g) (λ e. (refl, refl)) (λ e. (h.0, refl))

abbrev pub BareAt : ℕ → List Lease → Type 0
BareAt place l = Bare (at_place place l)

pub bare_closed : (place : ℕ) (now : Instant) → Closed (BareAt place) now
bare_closed place now = record {
  used = λ q l h. keep_set Bare place q l (used_at now (at_place q l)) (λ e x. (x.0, x.1)) h;
  again = λ q l barred h. keep_set Bare place q l (asked_again now (at_place q l)) (λ e x. (x.0, x.1)) h;
  new = λ q l peer number free h. keep_set Bare place q l (new_lease peer number now) (λ e x. (refl, refl)) h;
  polled = λ q l h. keep_set Bare place q l (lease_polled (at_place q l)) (λ e x. bare_changed polled (at_place q l) (at_place q l).operation x) h;
  reported = λ q l h. keep_set Bare place q l (without_report (at_place q l)) (λ e x. (x.0, x.1)) h;
}
