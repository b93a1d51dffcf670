-- How far a client is with the renewal of a lease, and what time makes of it.
use Rattle.std.proofs.Common.{◌≡◌, ◌⊎◌, inl, inr, ℕ, ◌+◌, ◌*◌, ◌-◌, ◌≤◌, ◌<◌, ◌&&◌, ◌||◌, Bool, true, false, cond, max, min, fold, map, zero, suc, Option, Some, None, is_none, is_some, List, [], ◌∷◌, arith, refl, sym, subst}
use Rattle.is_turn_theorems.proofs.Common.{at_place, Attempt, cases_lt, change_time, ClientTiming, earliest_change, get_or_past, is_given, is_in_use, is_ready, IsAnswered, IsLeaseKept, IsSeldomStale}
use Rattle.is_turn_theorems.proofs.Common.{IsWithin, LEAD, Lease, lease_attempt_time, lease_margin, LeaveForLeases, Limits, MAX, next_client_time, Operation, queue_time, Session, time_or}
use Rattle.is_turn_theorems.proofs.Common.{time_or_never, unused, with_leases}
use Rattle.is_turn_theorems.proofs.Standing.{times_more, times_le}

-- ---- a pending request

-- when its last attempt was first sent
abbrev pub SinceLast : Limits → ℕ → ℕ → Option Attempt → Type 0
SinceLast k renew stale None = ⊥
SinceLast k renew stale (Some a) = a.since.0 ≤ renew + k.late + stale * lease_attempt_time k + queue_time k

-- another attempt is due, or the last one was sent
abbrev pub LeaseStage : Bool → Limits → ℕ → ℕ → ℕ → Option Attempt → Type 0
LeaseStage true k renew due stale last = due ≤ renew + k.late + stale * lease_attempt_time k
LeaseStage false k renew due stale last = SinceLast k renew stale last

abbrev pub LeasePending : Limits → ℕ → Option Operation → Type 0
LeasePending k renew None = Unit {0}
LeasePending k renew (Some o) = LeaseStage o.is_fresh k renew o.due.0 o.stale o.attempts.last

-- ---- a lease

-- neither barred, nor a place for one
pub record Live (g : Lease) : Type 0 where
  pub allowed : is_none g.barred ≡ true
  pub named : is_some g.peer ≡ true

abbrev pub has_any : Lease → Bool
has_any g = is_some g.until || is_some g.operation

-- between two calls, given since when `handle_timeout` is due
pub record Given (k : Limits) (d : ℕ) (g : Lease) : Type 0 where
  pub reach : g.renew.0 + LEAD ≤ time_or_never g.until
  pub pending : LeasePending k g.renew.0 g.operation
  pub due : is_none g.operation ≡ true → is_in_use g ≡ true → d ≤ g.renew.0

pub record Leased (k : Limits) (d : ℕ) (g : Lease) : Type 0 where
  pub live : has_any g ≡ true → Live g
  pub given : is_given g ≡ true → Given k d g

-- without an allocation: not requested yet
abbrev pub Bare : Lease → Type 0
Bare g = (is_none g.until ≡ true) × (is_none g.operation ≡ true)

-- after a call, given whether it was given before
pub record SettledGiven (k : Limits) (d : ℕ) (g : Lease) : Type 0 where
  pub reach : g.renew.0 + LEAD ≤ time_or_never g.until
  pub pending : LeasePending k g.renew.0 g.operation
  pub due : is_none g.operation ≡ true → d ≤ g.renew.0

pub record Settled (k : Limits) (d : ℕ) (was : Bool) (g : Lease) : Type 0 where
  pub live : has_any g ≡ true → Live g
  pub stays : was ≡ true → is_given g ≡ true
  pub given : is_given g ≡ true → SettledGiven k d g

-- ---- a call in time

pub record LeaseSoonFor (k : Limits) (now renew : ℕ) (o : Operation) : Type 0 where
  pub bound : now ≤ renew + k.late + (o.stale * lease_attempt_time k + lease_attempt_time k)
  pub fresh : o.is_fresh ≡ true → now ≤ o.due.0 + queue_time k

abbrev pub LeaseSoon : Limits → ℕ → ℕ → Option Operation → Type 0
LeaseSoon k now renew None = now ≤ renew + k.late
LeaseSoon k now renew (Some o) = LeaseSoonFor k now renew o

pub record MetGiven (k : Limits) (now d : ℕ) (g : Lease) : Type 0 where
  pub reach : g.renew.0 + LEAD ≤ time_or_never g.until
  pub pending : LeasePending k g.renew.0 g.operation
  pub soon : LeaseSoon k now g.renew.0 g.operation
  pub due : is_none g.operation ≡ true → d ≤ g.renew.0

pub record Met (k : Limits) (now d : ℕ) (was : Bool) (g : Lease) : Type 0 where
  pub live : has_any g ≡ true → Live g
  pub stays : was ≡ true → is_given g ≡ true
  pub given : is_given g ≡ true → MetGiven k now d g

-- an attempt is sent when its turn has come
abbrev pub IsInTurn : Limits → ℕ → Option Operation → Type 0
IsInTurn k now None = Unit {0}
IsInTurn k now (Some o) = o.is_fresh ≡ true → now ≤ o.due.0 + queue_time k

fresh_bound : (now due renew late stale queue within : ℕ) → due ≤ renew + late + stale * (queue + within) → now ≤ due + queue
    → now ≤ renew + late + (stale * (queue + within) + (queue + within))
fresh_bound now due renew late stale queue within a b = omega (arith, a, b)

sent_bound : (now since renew late stale queue within : ℕ) → since ≤ renew + late + stale * (queue + within) + queue → now ≤ since + within
    → now ≤ renew + late + (stale * (queue + within) + (queue + within))
sent_bound now since renew late stale queue within a b = omega (arith, a, b)

sent_soon : (k : Limits) (now renew : ℕ) (o : Operation) (a : Option Attempt) → o.is_fresh ≡ false → SinceLast k renew o.stale a → IsWithin k.within now a
    → LeaseSoonFor k now renew o
sent_soon k now renew o None e h w = absurd h
sent_soon k now renew o (Some a) e h w =
    let b = sent_bound now a.since.0 renew k.late o.stale (queue_time k) k.within (omega (arith, h)) (omega (arith, w)) in
    record { bound = omega (arith, b); fresh = λ f. absurd (cc (e, f)) }

stage_soon : (b : Bool) (k : Limits) (now renew : ℕ) (o : Operation) → o.is_fresh ≡ b → LeaseStage b k renew o.due.0 o.stale o.attempts.last
    → (b ≡ false → IsWithin k.within now o.attempts.last) → (b ≡ true → now ≤ o.due.0 + queue_time k) → LeaseSoonFor k now renew o
stage_soon true k now renew o e h w turn =
    let b = fresh_bound now o.due.0 renew k.late o.stale (queue_time k) k.within (omega (arith, h)) (turn refl) in
    record { bound = omega (arith, b); fresh = λ f. turn refl }
stage_soon false k now renew o e h w turn = sent_soon k now renew o o.attempts.last e h (w refl)

soon_by : (late now d renew : ℕ) → (now < renew) ⊎ (renew ≤ now) → (renew ≤ now → d ≤ renew) → now ≤ d + late → now ≤ renew + late
soon_by late now d renew (inl early) due le = omega (arith, early)
soon_by late now d renew (inr past) due le = let p = due past in omega (arith, p, le)

lease_soon : (k : Limits) (now d renew : ℕ) (o : Option Operation) → LeasePending k renew o → (is_none o ≡ true → renew ≤ now → d ≤ renew)
    → now ≤ d + k.late → IsAnswered k.within now o → IsInTurn k now o → LeaseSoon k now renew o
lease_soon k now d renew None h due le answered turn = soon_by k.late now d renew (cases_lt now renew) (due refl) le
lease_soon k now d renew (Some o) h due le answered turn = stage_soon o.is_fresh k now renew o refl h answered turn

due_by : (now d renew : ℕ) → (now < renew) ⊎ (renew ≤ now) → (renew ≤ now → d ≤ renew) → min d now ≤ renew
due_by now d renew (inl early) due = omega (arith, early)
due_by now d renew (inr past) due = let p = due past in omega (arith, p)

-- what is known of a lease when a call is made
pub meets : (k : Limits) (t : ClientTiming) (now d : ℕ) (g : Lease) → Leased k d g → now ≤ d + k.late
    → (is_given g ≡ true → IsLeaseKept k t now g) → (is_given g ≡ true → IsInTurn k now g.operation) → Met k now (min d now) (is_given g) g
meets k t now d g h le kept turn = record {
  live = h.live;
  stays = λ e. e;
  given = λ e.
      let x = h.given e in
      let y = kept e in
      let due : is_none g.operation ≡ true → g.renew.0 ≤ now → d ≤ g.renew.0 = λ none past. x.due none (y.in_use none (omega (arith, past))) in
      record {
        reach = x.reach;
        pending = x.pending;
        soon = lease_soon k now d g.renew.0 g.operation x.pending due le y.answered (turn e);
        due = λ none. due_by now d g.renew.0 (cases_lt now g.renew.0) (due none);
      };
}

-- then the end is ahead
ahead_by : (now renew late stale most each reach until : ℕ) → now ≤ renew + late + (stale * each + each) → stale ≤ most → renew + reach ≤ until
    → late + (most + 1) * each < reach → now + (reach - (late + (most + 1) * each)) ≤ until
ahead_by now renew late stale most each reach until a b c d =
    let le : stale * each ≤ most * each = times_le stale most each b in
    let more : (most + 1) * each ≡ most * each + each = times_more most each in
    omega (arith, a, le, more, c, d)

ahead_of : (now renew late most each reach until : ℕ) → now ≤ renew + late → renew + reach ≤ until
    → late + (most + 1) * each < reach → now + (reach - (late + (most + 1) * each)) ≤ until
ahead_of now renew late most each reach until a c d =
    let more : (most + 1) * each ≡ most * each + each = times_more most each in
    omega (arith, a, more, c, d)

pub lease_ahead : (k : Limits) (now renew until : ℕ) (o : Option Operation) → LeaseSoon k now renew o → IsSeldomStale k.challenges o
    → renew + LEAD ≤ until → LeaveForLeases k → now + lease_margin k ≤ until
lease_ahead k now renew until None h seldom reach leave =
    let left = ahead_of now renew k.late k.challenges (lease_attempt_time k) LEAD until (omega (arith, h)) reach (omega (arith, leave)) in omega (arith, left)
lease_ahead k now renew until (Some o) h seldom reach leave =
    let bound = h.bound in
    let left = ahead_by now renew k.late o.stale k.challenges (lease_attempt_time k) LEAD until (omega (arith, bound)) (omega (arith, seldom)) reach
    (omega (arith, leave)) in
    omega (arith, left)

-- ---- the time of `poll_timeout`

least_start : (f : Lease → ℕ) (m : ℕ) (l : List Lease) → fold min m (map f l) ≤ m
least_start f m [] = omega arith
least_start f m (x ∷ l) = let h : fold min (min m (f x)) (map f l) ≤ min m (f x) = least_start f (min m (f x)) l in omega (arith, h)

-- the least of all is that of none more
pub least_at : (f : Lease → ℕ) (m : ℕ) (l : List Lease) (p : ℕ) → m ≤ f unused → fold min m (map f l) ≤ f (at_place p l)
least_at f m [] p h = subst (λ (g : Lease). m ≤ f g) (sym (get_or_past [] p unused (omega arith))) h
least_at f m (x ∷ l) zero h = let k : fold min (min m (f x)) (map f l) ≤ min m (f x) = least_start f (min m (f x)) l in omega (arith, k)
least_at f m (x ∷ l) (suc p) h = least_at f (min m (f x)) l p (omega (arith, h))

pub change_at : (l : List Lease) (p : ℕ) → earliest_change l ≤ change_time (at_place p l)
change_at l p = least_at change_time MAX l p (omega arith)

lease_rings : (s : Session) (l : List Lease) (o : Option Operation) → is_ready s.phase ≡ true
    → time_or_never (with_leases (time_or o s) s l) ≤ earliest_change l
lease_rings s l None r = rw r (rw r (omega arith))
lease_rings s l (Some o) r = rw r (omega arith)

pub rings_at : (s : Session) (l : List Lease) (p : ℕ) → is_ready s.phase ≡ true → time_or_never (next_client_time s l) ≤ change_time (at_place p l)
rings_at s l p r =
    let a = lease_rings s l s.operation r in
    let b = change_at l p in
    omega (arith, a, b)

all_true : (a b c : Bool) (x y : ℕ) → a ≡ true → b ≡ true → c ≡ true → cond (a && b && c) x y ≡ x
all_true true true true x y p q r = refl
all_true true true false x y p q r = absurd (cc r)
all_true true false c x y p q r = absurd (cc q)
all_true false b c x y p q r = absurd (cc p)

change_in_use : (g : Lease) → is_none g.operation ≡ true → is_none g.barred ≡ true → is_in_use g ≡ true → change_time g ≤ g.renew.0
change_in_use g none allowed used =
    let e = all_true (is_none g.operation) (is_none g.barred) (is_in_use g) g.renew.0 MAX none allowed used in
    omega (arith, e)

pub any_given : (g : Lease) → is_given g ≡ true → has_any g ≡ true
any_given g e = or_left (is_some g.until) (is_some g.operation) e
  where
    or_left : (a b : Bool) → a ≡ true → (a || b) ≡ true
    or_left true b e = refl
    or_left false b e = absurd (cc e)

pub settled_leased : (k : Limits) (r d : ℕ) (was : Bool) (g : Lease) → Settled k d was g → r ≤ change_time g → Leased k (max r d) g
settled_leased k r d was g h le = record {
  live = h.live;
  given = λ e.
      let x = h.given e in
      record {
        reach = x.reach;
        pending = x.pending;
        due = λ none used.
            let a = change_in_use g none (h.live (any_given g e)).allowed used in
            let b = x.due none in
            omega (arith, a, b, le);
      };
}

pub met_settled : (k : Limits) (now d : ℕ) (was : Bool) (g : Lease) → Met k now d was g → Settled k d was g
met_settled k now d was g h = record {
  live = h.live;
  stays = h.stays;
  given = λ e. record { reach = (h.given e).reach; pending = (h.given e).pending; due = (h.given e).due };
}

-- ---- without an allocation

pub none_some : {A : Type 0} (x : Option A) → is_none x ≡ true → is_some x ≡ true → ⊥
none_some None a b = absurd (cc b)
none_some (Some x) a b = absurd (cc a)

bare_any : {A B : Type 0} (x : Option A) (y : Option B) → is_none x ≡ true → is_none y ≡ true → (is_some x || is_some y) ≡ true → ⊥
bare_any None None a b e = absurd (cc e)
bare_any (Some x) y a b e = absurd (cc a)
bare_any None (Some y) a b e = absurd (cc b)

pub bare_leased : (k : Limits) (d : ℕ) (g : Lease) → Bare g → Leased k d g
bare_leased k d g h = record {
  live = λ e. absurd (bare_any g.until g.operation h.0 h.1 e);
  given = λ e. absurd (none_some g.until h.0 e);
}
