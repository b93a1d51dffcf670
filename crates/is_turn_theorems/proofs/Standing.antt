-- How far a client with an allocation is with its renewal, and what time makes of it.
use Rattle.std.proofs.Common.{◌≡◌, ℕ, ◌+◌, ◌*◌, ◌-◌, ◌≤◌, ◌<◌, suc, Bool, true, false, max, Option, Some, None, List, arith, refl}
use Rattle.is_turn_theorems.proofs.Common.{Attempt, attempt_time, ClientTiming, is_ready, IsAnswered, IsSeldomStale, IsWithin, later, lead, Lease, Leave, Limits, margin, next_client_time, Operation}
use Rattle.is_turn_theorems.proofs.Common.{PACE, request_timing, Session, time_or, time_or_never, wait_at, waits, with_leases}
use Rattle.std.proofs.lemmas.Nat.{mul-le}

-- ---- products

pub times_more : (n e : ℕ) → (n + 1) * e ≡ n * e + e
times_more n e = grind arith

pub times_le : (n m e : ℕ) → n ≤ m → n * e ≤ m * e
times_le n m e h = mul-le n e m e h (omega arith)

-- ---- a pending request

-- another attempt is due
pub record Fresh (k : Limits) (now renew pace : ℕ) (o : Operation) : Type 0 where
  pub begun : o.due.0 ≤ now
  pub soon : o.due.0 ≤ renew + k.late + o.stale * attempt_time k
  pub paced : pace ≤ o.due.0 + PACE

-- the last attempt was sent, and is repeated
pub record Sent (k : Limits) (t : ClientTiming) (renew : ℕ) (o : Operation) (a : Attempt) : Type 0 where
  pub soon : a.since.0 ≤ renew + k.late + o.stale * attempt_time k + k.late + PACE
  pub place : ℕ
  pub sent : o.sent ≡ suc place
  pub wait : o.wait.0 ≡ wait_at t place
  pub due : later a.since.0 (waits t (suc place)) ≤ o.due.0

abbrev pub SentLast : Limits → ClientTiming → ℕ → Operation → Option Attempt → Type 0
SentLast k t renew o None = ⊥
SentLast k t renew o (Some a) = Sent k t renew o a

abbrev pub Stage : Bool → Limits → ClientTiming → ℕ → ℕ → ℕ → Operation → Type 0
Stage true k t now renew paced o = Fresh k now renew paced o
Stage false k t now renew paced o = SentLast k t renew o o.attempts.last

abbrev pub Pending : Limits → ClientTiming → ℕ → ℕ → ℕ → Option Operation → Type 0
Pending k t now renew paced None = Unit {0}
Pending k t now renew paced (Some o) = Stage o.is_fresh k t now renew paced o

-- ---- since when `handle_timeout` is due

abbrev pub DueIn : Bool → ℕ → Operation → Type 0
DueIn true due o = due ≤ o.due.0 + PACE
DueIn false due o = Unit {0}

abbrev pub Due : ℕ → ℕ → Option Operation → Type 0
Due due renew None = due ≤ renew
Due due renew (Some o) = DueIn o.is_fresh due o

-- ---- a client with an allocation

pub record Standing (k : Limits) (now d : ℕ) (s : Session) : Type 0 where
  pub reach : s.renew.0 + lead k ≤ s.until.0
  pub pending : Pending k (request_timing s) now s.renew.0 s.paced.0 s.operation
  pub due : Due d s.renew.0 s.operation

pub record Holds (k : Limits) (now d : ℕ) (s : Session) : Type 0 where
  pub paced : s.paced.0 ≤ now + PACE
  pub ready : is_ready s.phase ≡ true → Standing k now d s

-- ---- what is called in time

pub record SoonFor (k : Limits) (now renew : ℕ) (o : Operation) : Type 0 where
  pub bound : now ≤ renew + k.late + (o.stale * attempt_time k + attempt_time k)
  pub fresh : o.is_fresh ≡ true → now ≤ o.due.0 + PACE + k.late

abbrev pub Soon : Limits → ℕ → ℕ → Option Operation → Type 0
Soon k now renew None = now ≤ renew + k.late
Soon k now renew (Some o) = SoonFor k now renew o

soon_last : (k : Limits) (t : ClientTiming) (now renew : ℕ) (o : Operation) (a : Option Attempt) → o.is_fresh ≡ false → SentLast k t renew o a
    → IsWithin k.within now a → SoonFor k now renew o
soon_last k t now renew o None e h q = absurd h
soon_last k t now renew o (Some a) e h q = record {
  bound = let p : a.since.0 ≤ renew + k.late + o.stale * attempt_time k + k.late + PACE = h.soon in omega (arith, p, q);
  fresh = λ f. absurd (cc (e, f));
}

soon_stage : (b : Bool) (k : Limits) (t : ClientTiming) (now old due renew paced : ℕ) (o : Operation) → o.is_fresh ≡ b
    → Stage b k t old renew paced o → DueIn b due o → now ≤ due + k.late → (b ≡ false → IsWithin k.within now o.attempts.last) → SoonFor k now renew o
soon_stage true k t now old due renew paced o e h d q w =
    let p : o.due.0 ≤ renew + k.late + o.stale * attempt_time k = h.soon in
    record { bound = omega (arith, p, d, q); fresh = λ f. omega (arith, d, q) }
soon_stage false k t now old due renew paced o e h d q w = soon_last k t now renew o o.attempts.last e h (w refl)

-- the time of a call, if it is in time
pub soon : (k : Limits) (t : ClientTiming) (now old due renew paced : ℕ) (o : Option Operation) → Pending k t old renew paced o → Due due renew o
    → now ≤ due + k.late → IsAnswered k.within now o → Soon k now renew o
soon k t now old due renew paced None h d q w = omega (arith, d, q)
soon k t now old due renew paced (Some o) h d q w = soon_stage o.is_fresh k t now old due renew paced o refl h d q w

-- then the end is ahead
ahead_by : (now renew late used most reach until : ℕ) → now ≤ renew + late + used → used ≤ most → renew + reach ≤ until → late + most < reach
    → now + (reach - (late + most)) ≤ until
ahead_by now renew late used most reach until a b c d = omega arith

pub ahead : (k : Limits) (now renew until : ℕ) (o : Option Operation) → Soon k now renew o → IsSeldomStale k.challenges o → renew + lead k ≤ until → Leave k
    → now + margin k ≤ until
ahead k now renew until None h seldom reach leave =
    let left = ahead_by now renew k.late 0 ((k.challenges + 1) * attempt_time k) (lead k) until (omega (arith, h)) (omega arith) reach (omega (arith, leave)) in
    omega (arith, left)
ahead k now renew until (Some o) h seldom reach leave =
    let le : o.stale * attempt_time k ≤ k.challenges * attempt_time k = times_le o.stale k.challenges (attempt_time k) (omega (arith, seldom)) in
    let more : (k.challenges + 1) * attempt_time k ≡ k.challenges * attempt_time k + attempt_time k = times_more k.challenges (attempt_time k) in
    let left = ahead_by now renew k.late (o.stale * attempt_time k + attempt_time k) ((k.challenges + 1) * attempt_time k) (lead k) until
    h.bound (omega (arith, le, more)) reach (omega (arith, leave)) in
    omega (arith, left)

-- ---- time passes

pending_later : (k : Limits) (t : ClientTiming) (now after renew paced : ℕ) (o : Option Operation) → now ≤ after → Pending k t now renew paced o
    → Pending k t after renew paced o
pending_later k t now after renew paced None le h = tt
pending_later k t now after renew paced (Some o) le h = stage_later o.is_fresh h
  where
    stage_later : (b : Bool) → Stage b k t now renew paced o → Stage b k t after renew paced o
    stage_later true h = record { begun = omega (arith, h.begun, le); soon = h.soon; paced = h.paced }
    stage_later false h = h

due_sooner : (d e renew : ℕ) (o : Option Operation) → e ≤ d → Due d renew o → Due e renew o
due_sooner d e renew None le h = omega (arith, le, h)
due_sooner d e renew (Some o) le h = sooner o.is_fresh h
  where
    sooner : (b : Bool) → DueIn b d o → DueIn b e o
    sooner true h = omega (arith, le, h)
    sooner false h = tt

pub holds_later : (k : Limits) (now after d e : ℕ) (s : Session) → now ≤ after → e ≤ d → Holds k now d s → Holds k after e s
holds_later k now after d e s le sooner h = record {
  paced = let p = h.paced in omega (arith, p, le);
  ready = λ r. record {
    reach = (h.ready r).reach;
    pending = pending_later k (request_timing s) now after s.renew.0 s.paced.0 s.operation le (h.ready r).pending;
    due = due_sooner d e s.renew.0 s.operation sooner (h.ready r).due;
  };
}

-- ---- the time of `poll_timeout`

abbrev RingsBy : ℕ → Session → Option Operation → Type 0
RingsBy ring s None = ring ≤ s.renew.0
RingsBy ring s (Some o) = ring ≤ max o.due.0 s.paced.0

rings : (s : Session) (l : List Lease) (o : Option Operation) → is_ready s.phase ≡ true → RingsBy (time_or_never (with_leases (time_or o s) s l)) s o
rings s l None r = rw r (rw r (omega arith))
rings s l (Some o) r = rw r (omega arith)

due_rings : (k : Limits) (t : ClientTiming) (now d ring : ℕ) (s : Session) (o : Option Operation) → Pending k t now s.renew.0 s.paced.0 o
    → Due d s.renew.0 o → RingsBy ring s o → Due (max ring d) s.renew.0 o
due_rings k t now d ring s None h due by = omega (arith, due, by)
due_rings k t now d ring s (Some o) h due by = later_in o.is_fresh h due
  where
    later_in : (b : Bool) → Stage b k t now s.renew.0 s.paced.0 o → DueIn b d o → DueIn b (max ring d) o
    later_in true h due = let p = h.paced in omega (arith, p, due, by)
    later_in false h due = tt

pub holds_rings : (k : Limits) (now d : ℕ) (s : Session) (l : List Lease) → Holds k now d s → Holds k now (max (time_or_never (next_client_time s l)) d) s
holds_rings k now d s l h = record {
  paced = h.paced;
  ready = λ r. record {
    reach = (h.ready r).reach;
    pending = (h.ready r).pending;
    due = due_rings k (request_timing s) now d _ s s.operation (h.ready r).pending (h.ready r).due (rings s l s.operation r);
  };
}
