-- What `handle_timeout` does to a lease keeps how far its renewal is.
use Rattle.std.proofs.Common.{◌≡◌, ◌⊎◌, inl, inr, ℕ, ◌+◌, ◌*◌, ◌≤◌, ◌<◌, ◌&&◌, nat_le, Bool, true, false, cond, map, length, position, Option, Some, None, is_none, is_some, List, [], set, arith, refl, sym, ap, subst}
use Rattle.is_turn_theorems.proofs.Common.{advanced, advanced_in, at_place, at_time, Attempt, attempted, cases_lt, ClientTiming, driven_by, due_place, earliest_due, failed_at, fill_bytes, get_or-map}
use Rattle.is_turn_theorems.proofs.Common.{get_or_past, Instant, is_due_by, is_due_in, is_exhausted, is_given, is_in_use, is_past, is_ready, IsInUse, IsLeaseKept, IsPatient, kept_in, lapsed, LEAD}
use Rattle.is_turn_theorems.proofs.Common.{Lease, lease_attempt_time, lease_attempted, lease_repeated, lease_step, length-map, Limits, nat_tests, Operation, or_right, Phase, queue_time, renewed}
use Rattle.is_turn_theorems.proofs.Common.{repeated_if, requested_for, sent_once_more, SocketAddr, step_for, Stream, time_or_never, unused, with_operation}
use Rattle.std.proofs.lemmas.List.Quantifiers.{position-Some}
use Rattle.is_turn.specs.declared.session.Phase.TheVariants as phases
use Rattle.is_turn.specs.Leases.{is_renewal_due}
use Rattle.is_turn_theorems.proofs.OtherCalls.{through}
use Rattle.is_turn_theorems.proofs.LeaseLists.{keep_or, keep_set}
use Rattle.is_turn_theorems.proofs.LeaseStanding.{Live, has_any, Bare, Settled, Met, LeaseStage, LeasePending, LeaseSoon, any_given, met_settled}
use Rattle.is_turn_theorems.proofs.LeaseCalls.{BareAt, bare_changed, bare_failed, failed_met}

-- ---- what is at its end lapses, and what is due is requested

pub record RanGiven (k : Limits) (t : ClientTiming) (now : ℕ) (g : Lease) : Type 0 where
  pub reach : g.renew.0 + LEAD ≤ time_or_never g.until
  pub pending : LeasePending k g.renew.0 g.operation
  pub soon : LeaseSoon k now g.renew.0 g.operation
  pub early : is_none g.operation ≡ true → now < g.renew.0
  pub patient : IsPatient t now g.operation

pub record LeaseRan (k : Limits) (t : ClientTiming) (now : ℕ) (was : Bool) (g : Lease) : Type 0 where
  pub live : has_any g ≡ true → Live g
  pub stays : was ≡ true → is_given g ≡ true
  pub given : is_given g ≡ true → RanGiven k t now g

past_end : (u : Option Instant) (now : ℕ) → is_past u (at_time now) ≡ true → now < time_or_never u → ⊥
past_end None now e h = absurd (cc e)
past_end (Some u) now e h = let le : u.0 ≤ now = grind (arith, nat_tests) in absurd (omega (arith, le, h))

-- what is known before it is requested
record Asks (k : Limits) (t : ClientTiming) (now d : ℕ) (was : Bool) (g : Lease) : Type 0 where
  pub met : Met k now d was g
  pub kept : is_given g ≡ true → IsLeaseKept k t now g

lapsed_asks : (k : Limits) (t : ClientTiming) (now d : ℕ) (was : Bool) (g : Lease) → Met k now d was g → (is_given g ≡ true → now < time_or_never g.until)
    → (is_given g ≡ true → IsLeaseKept k t now g) → Asks k t now d was (lapsed (at_time now) g)
lapsed_asks k t now d was g h far kept =
    through g (λ x. Asks k t now d was x) (is_past g.until (at_time now)) (record g { until = None }) g
    (λ past. record {
      met = record {
        live = λ e. let x = h.live (or_right (is_some g.until) (is_some g.operation) e) in record { allowed = x.allowed; named = x.named };
        stays = λ w. absurd (past_end g.until now past (far (h.stays w)));
        given = λ e. absurd (cc e);
      };
      kept = λ e. absurd (cc e);
    })
    (λ ahead. record { met = h; kept = kept })

soon_none : (k : Limits) (now renew : ℕ) (o : Option Operation) → is_none o ≡ true → LeaseSoon k now renew o → now ≤ renew + k.late
soon_none k now renew None e h = h
soon_none k now renew (Some o) e h = absurd (cc e)

is_named : (p q : Option SocketAddr) → p ≡ q → is_some q ≡ is_some p
is_named p q e = ap (λ (x : Option SocketAddr). is_some x) (sym e)

-- each of four
due_none : (a b c d : Bool) → (a && b && c && d) ≡ true → (b ≡ true) × (c ≡ true)
due_none true true true d e = (refl, refl)
due_none true true false d e = absurd (cc e)
due_none true false c d e = absurd (cc e)
due_none false b c d e = absurd (cc e)

all_four : (a b c d : Bool) → a ≡ true → b ≡ true → c ≡ true → d ≡ true → (a && b && c && d) ≡ false → ⊥
all_four true true true true p q r s e = absurd (cc e)
all_four false b c d p q r s e = absurd (cc p)
all_four true false c d p q r s e = absurd (cc q)
all_four true true false d p q r s e = absurd (cc r)
all_four true true true false p q r s e = absurd (cc s)

requested_ran : (k : Limits) (t : ClientTiming) (now d : ℕ) (was : Bool) (g : Lease) (p : Option SocketAddr) → g.peer ≡ p → is_none g.operation ≡ true
    → is_none g.barred ≡ true → Met k now d was g → LeaseRan k t now was (requested_for p (at_time now) g)
requested_ran k t now d was g None e none allowed h = record {
  live = h.live;
  stays = h.stays;
  given = λ s. let n = (h.live (any_given g s)).named in absurd (cc (n, is_named g.peer None e));
}
requested_ran k t now d was g (Some peer) e none allowed h = record {
  live = λ any. record { allowed = allowed; named = sym (is_named g.peer (Some peer) e) };
  stays = h.stays;
  given = λ s.
      let x = h.given s in
      let p = soon_none k now g.renew.0 g.operation none x.soon in
      record {
        reach = x.reach;
        pending = omega (arith, p);
        soon = record { bound = omega (arith, p); fresh = λ f. omega arith };
        early = λ n. absurd (cc n);
        patient = λ f. absurd (cc f);
      };
}

early_by : (now : ℕ) (g : Lease) → (now < g.renew.0) ⊎ (g.renew.0 ≤ now) → is_none g.operation ≡ true → is_none g.barred ≡ true → IsInUse now g
    → is_renewal_due (at_time now) g ≡ false → now < g.renew.0
early_by now g (inl early) none allowed used e = early
early_by now g (inr past) none allowed used e =
    let le : nat_le g.renew.0 now ≡ true = grind (arith, nat_tests) in
    absurd (all_four (nat_le g.renew.0 now) (is_none g.operation) (is_none g.barred) (is_in_use g) le none allowed (used none (omega (arith, past))) e)

renewed_ran : (k : Limits) (t : ClientTiming) (now d : ℕ) (was : Bool) (g : Lease) → Asks k t now d was g → LeaseRan k t now was (renewed (at_time now) g)
renewed_ran k t now d was g asks =
    let h = asks.met in
    through g (λ x. LeaseRan k t now was x) (is_renewal_due (at_time now) g) (requested_for g.peer (at_time now) g) g
    (λ due. let n = due_none (nat_le g.renew.0 now) (is_none g.operation) (is_none g.barred) (is_in_use g) due in
    requested_ran k t now d was g g.peer refl n.0 n.1 h)
    (λ waits. record {
      live = h.live;
      stays = h.stays;
      given = λ s.
          let x = h.given s in
          let y = asks.kept s in
          record {
            reach = x.reach;
            pending = x.pending;
            soon = x.soon;
            early = λ none. early_by now g (cases_lt now g.renew.0) none (h.live (any_given g s)).allowed y.in_use waits;
            patient = y.patient;
          };
    })

advanced_ran : (k : Limits) (t : ClientTiming) (now d : ℕ) (was : Bool) (g : Lease) → Met k now d was g → (is_given g ≡ true → now < time_or_never g.until)
    → (is_given g ≡ true → IsLeaseKept k t now g) → LeaseRan k t now was (advanced (at_time now) g)
advanced_ran k t now d was g h far kept = renewed_ran k t now d was (lapsed (at_time now) g) (lapsed_asks k t now d was g h far kept)

unused_ran : (k : Limits) (t : ClientTiming) (now d : ℕ) (was : Bool) → Met k now d was unused → LeaseRan k t now was unused
unused_ran k t now d was h = record { live = h.live; stays = h.stays; given = λ e. absurd (cc e) }

map_ran : (k : Limits) (t : ClientTiming) (now d : ℕ) (was : Bool) (l : List Lease) (p : ℕ) → (p < length l) ⊎ (length l ≤ p) → Met k now d was (at_place p l)
    → (is_given (at_place p l) ≡ true → now < time_or_never (at_place p l).until) → (is_given (at_place p l) ≡ true → IsLeaseKept k t now (at_place p l))
    → LeaseRan k t now was (at_place p (map (advanced (at_time now)) l))
map_ran k t now d was l p (inl lt) h far kept =
    subst (λ (g : Lease). LeaseRan k t now was g) (sym (get_or-map (advanced (at_time now)) l p unused unused lt))
    (advanced_ran k t now d was (at_place p l) h far kept)
map_ran k t now d was l p (inr past) h far kept =
    subst (λ (g : Lease). LeaseRan k t now was g)
    (sym (get_or_past (map (advanced (at_time now)) l) p unused (subst (λ (n : ℕ). n ≤ p) (sym (length-map l (advanced (at_time now)))) past)))
    (unused_ran k t now d was (subst (λ (g : Lease). Met k now d was g) (get_or_past l p unused past) h))

pub advanced_ready : (phase : Phase) (at : Instant) (l : List Lease) → is_ready phase ≡ true → advanced_in phase at l ≡ map (advanced at) l
advanced_ready phases.Ready at l e = refl
advanced_ready phases.New at l e = absurd (cc e)
advanced_ready phases.Asking at l e = absurd (cc e)
advanced_ready phases.Leaving at l e = absurd (cc e)
advanced_ready phases.Closing at l e = absurd (cc e)
advanced_ready phases.Ended at l e = absurd (cc e)

pub advanced_unready : (phase : Phase) (at : Instant) (l : List Lease) → is_ready phase ≡ false → advanced_in phase at l ≡ l
advanced_unready phases.Ready at l e = absurd (cc e)
advanced_unready phases.New at l e = refl
advanced_unready phases.Asking at l e = refl
advanced_unready phases.Leaving at l e = refl
advanced_unready phases.Closing at l e = refl
advanced_unready phases.Ended at l e = refl

pub leases_ran : (k : Limits) (t : ClientTiming) (now d : ℕ) (was : Bool) (phase : Phase) (l : List Lease) (p : ℕ) → is_ready phase ≡ true
    → Met k now d was (at_place p l) → (is_given (at_place p l) ≡ true → now < time_or_never (at_place p l).until)
    → (is_given (at_place p l) ≡ true → IsLeaseKept k t now (at_place p l)) → LeaseRan k t now was (at_place p (advanced_in phase (at_time now) l))
leases_ran k t now d was phase l p r h far kept =
    subst (λ (x : List Lease). LeaseRan k t now was (at_place p x)) (sym (advanced_ready phase (at_time now) l r))
    (map_ran k t now d was l p (cases_lt p (length l)) h far kept)

-- ---- what its request has due

pub ran_settled : (k : Limits) (t : ClientTiming) (now : ℕ) (was : Bool) (g : Lease) → LeaseRan k t now was g → Settled k now was g
ran_settled k t now was g h = record {
  live = h.live;
  stays = h.stays;
  given = λ s.
      let x = h.given s in
      record { reach = x.reach; pending = x.pending; due = λ none. let e = x.early none in omega (arith, e) };
}

abbrev pub IsFreshIn : Option Operation → Type 0
IsFreshIn None = Unit {0}
IsFreshIn (Some o) = o.is_fresh ≡ true

-- there are more packets of the last attempt
abbrev pub IsMoreIn : ClientTiming → Option Operation → Type 0
IsMoreIn t None = Unit {0}
IsMoreIn t (Some o) = (o.is_fresh ≡ false) × (is_exhausted t o ≡ false)

-- each packet of the last attempt was sent
abbrev pub IsOverIn : ClientTiming → Option Operation → Type 0
IsOverIn t None = Unit {0}
IsOverIn t (Some o) = (o.is_fresh ≡ false) × (is_exhausted t o ≡ true)

-- no attempt of a lease that is given times out
not_over : (t : ClientTiming) (now n : ℕ) (o : Option Operation) → IsOverIn t o → is_due_in n o ≡ true → n ≤ now → IsPatient t now o → ⊥
not_over t now n None over due le patient = absurd (cc due)
not_over t now n (Some o) over due le patient =
    let later = patient over.0 over.1 in
    let past : o.due.0 ≤ n = grind (arith, nat_tests) in
    absurd (omega (arith, later, past, le))

stage_moved : (b : Bool) (k : Limits) (renew due after stale : ℕ) (last : Option Attempt) → b ≡ false → LeaseStage b k renew due stale last
    → LeaseStage b k renew after stale last
stage_moved true k renew due after stale last e h = absurd (cc e)
stage_moved false k renew due after stale last e h = h

fresh_since : (b : Bool) (k : Limits) (now renew due stale : ℕ) (last : Option Attempt) → b ≡ true → LeaseStage b k renew due stale last → now ≤ due + queue_time k
    → now ≤ renew + k.late + stale * lease_attempt_time k + queue_time k
fresh_since true k now renew due stale last e h turn = added now renew k.late (stale * lease_attempt_time k) due (queue_time k) h turn
  where
    added : (now renew late used due queue : ℕ) → due ≤ renew + late + used → now ≤ due + queue → now ≤ renew + late + used + queue
    added now renew late used due queue a b = omega (arith, a, b)
fresh_since false k now renew due stale last e h turn = absurd (cc e)

attempted_settled : (k : Limits) (t : ClientTiming) (now : ℕ) (was : Bool) (attempt : Attempt) (g : Lease) (o : Option Operation) → attempt.since.0 ≡ now
    → IsFreshIn o → LeaseRan k t now was (record g { operation = o }) → Settled k now was (with_operation (attempted attempt t) o (record g { operation = o }))
attempted_settled k t now was attempt g None since fresh h = ran_settled k t now was (record g { operation = None }) h
attempted_settled k t now was attempt g (Some o) since fresh h = record {
  live = λ e. let x = h.live e in record { allowed = x.allowed; named = x.named };
  stays = h.stays;
  given = λ s.
      let x = h.given s in
      let p = fresh_since o.is_fresh k now g.renew.0 o.due.0 o.stale o.attempts.last fresh x.pending (x.soon.fresh fresh) in
      record {
        reach = x.reach;
        pending = subst (λ (n : ℕ). n ≤ g.renew.0 + k.late + o.stale * lease_attempt_time k + queue_time k) (sym since) p;
        due = λ none. absurd (cc none);
      };
}

repeated_settled : (k : Limits) (t : ClientTiming) (now : ℕ) (was : Bool) (g : Lease) (o : Option Operation) → IsMoreIn t o
    → LeaseRan k t now was (record g { operation = o }) → Settled k now was (with_operation (repeated_if (at_time now) t) o (record g { operation = o }))
repeated_settled k t now was g None sent h = ran_settled k t now was (record g { operation = None }) h
repeated_settled k t now was g (Some o) sent h =
    through o (λ x. Settled k now was (record g { operation = Some x })) (is_exhausted t o) o (sent_once_more (at_time now) t o)
    (λ e. ran_settled k t now was (record g { operation = Some o }) h)
    (λ more. record {
      live = λ e. let x = h.live e in record { allowed = x.allowed; named = x.named };
      stays = h.stays;
      given = λ s.
          let x = h.given s in
          record {
            reach = x.reach;
            pending = stage_moved o.is_fresh k g.renew.0 o.due.0 _ o.stale o.attempts.last sent.0 x.pending;
            due = λ none. absurd (cc none);
          };
    })

-- ---- one step

over_gone : (k : Limits) (t : ClientTiming) (now n : ℕ) (was : Bool) (g : Lease) → IsOverIn t g.operation → is_due_by n g ≡ true → n ≤ now
    → LeaseRan k t now was g → is_given g ≡ true → ⊥
over_gone k t now n was g over due le h s = not_over t now n g.operation over due le (h.given s).patient

timeout_settled : (k : Limits) (t : ClientTiming) (now n : ℕ) (was : Bool) (g : Lease) → IsOverIn t g.operation → is_due_by n g ≡ true → n ≤ now
    → LeaseRan k t now was g → Settled k now was (failed_at (at_time now) None g)
timeout_settled k t now n was g over due le h =
    met_settled k now now was (failed_at (at_time now) None g)
    (failed_met k now now was (at_time now) None g (over_gone k t now n was g over due le h) h.stays)

-- what a step may do to the request in a place
pub record Drives (R : List Lease → Type 0) (now : Instant) (key : Option (List ℕ)) (t : ClientTiming) (q : ℕ) (stream : Stream) (l : List Lease) : Type 0 where
  pub rests : is_none (at_place q l).operation ≡ true → R l
  pub attempts : IsFreshIn (at_place q l).operation → R (set l q (lease_attempted now (record { 0 = (fill_bytes 12 stream).0 }) key t (at_place q l)))
  pub repeats : IsMoreIn t (at_place q l).operation → R (set l q (lease_repeated now t (at_place q l)))
  pub times_out : IsOverIn t (at_place q l).operation → R (set l q (failed_at now None (at_place q l)))

driven_in : (R : List Lease → Type 0) (now : Instant) (key : Option (List ℕ)) (t : ClientTiming) (q : ℕ) (stream : Stream) (l : List Lease) (o : Option Operation)
    → (at_place q l).operation ≡ o → Drives R now key t q stream l → R (driven_by (step_for t o) now key t q stream l).0
driven_in R now key t q stream l None e h = h.rests (ap (λ (x : Option Operation). is_none x) e)
driven_in R now key t q stream l (Some o) e h =
    through (step_for t (Some o)) (λ x. R (driven_by x now key t q stream l).0) o.is_fresh _ _ (λ fresh. h.attempts (subst IsFreshIn (sym e) fresh))
    (λ sent. through (step_for t (Some o)) (λ x. R (driven_by x now key t q stream l).0) (is_exhausted t o) _ _
    (λ over. h.times_out (subst (IsOverIn t) (sym e) (sent, over))) (λ more. h.repeats (subst (IsMoreIn t) (sym e) (sent, more))))

pub driven_keeps : (R : List Lease → Type 0) (now : Instant) (key : Option (List ℕ)) (t : ClientTiming) (q : ℕ) (stream : Stream) (l : List Lease)
    → Drives R now key t q stream l → R (driven_by (lease_step t (at_place q l)) now key t q stream l).0
driven_keeps R now key t q stream l h = driven_in R now key t q stream l (at_place q l).operation refl h

module _ (k : Limits) (t : ClientTiming) (now n place q : ℕ) (was : Bool) (key : Option (List ℕ)) (stream : Stream) (l : List Lease) where
  unmoved : LeaseRan k t now was (at_place place l) → Settled k now was (at_place place l)
  unmoved h = ran_settled k t now was (at_place place l) h

  -- a lease that is put, of which this is known
  put_settled : (g : Lease) → (LeaseRan k t now was (at_place q l) → Settled k now was g) → LeaseRan k t now was (at_place place l)
      → Settled k now was (at_place place (set l q g))
  put_settled g f h = keep_or (λ x. LeaseRan k t now was x) (λ x. Settled k now was x) place q l g f unmoved h

  pub drives_settled : is_due_by n (at_place q l) ≡ true → n ≤ now → LeaseRan k t now was (at_place place l)
      → Drives (λ x. Settled k now was (at_place place x)) (at_time now) key t q stream l
  drives_settled due le h = record {
    rests = λ none. unmoved h;
    attempts = λ fresh.
        let attempt : Attempt = record { id = record { 0 = (fill_bytes 12 stream).0 }; key = key; since = at_time now } in
        put_settled (lease_attempted (at_time now) (record { 0 = (fill_bytes 12 stream).0 }) key t (at_place q l))
        (λ x. attempted_settled k t now was attempt (at_place q l) (at_place q l).operation refl fresh x) h;
    repeats = λ sent.
        put_settled (lease_repeated (at_time now) t (at_place q l))
        (λ x. repeated_settled k t now was (at_place q l) (at_place q l).operation sent x) h;
    times_out = λ over.
        put_settled (failed_at (at_time now) None (at_place q l)) (λ x. timeout_settled k t now n was (at_place q l) over due le x) h;
  }

cond_some : (b : Bool) (x : Option ℕ) (q : ℕ) → cond b x None ≡ Some q → (b ≡ true) × (x ≡ Some q)
cond_some true x q e = (refl, e)
cond_some false x q e = absurd (cc e)

-- the request whose turn it is
pub record IsDueAt (now q : ℕ) (l : List Lease) : Type 0 where
  pub inside : q < length l
  pub past : earliest_due l ≤ now
  pub due : is_due_by (earliest_due l) (at_place q l) ≡ true

pub due_at : (now q : ℕ) (b : Bool) (l : List Lease) → cond b (due_place (at_time now) l) None ≡ Some q → IsDueAt now q l
due_at now q b l e =
    let place = cond_some b (due_place (at_time now) l) q e in
    let found = cond_some (nat_le (earliest_due l) now) (position (is_due_by (earliest_due l)) l) q place.1 in
    let test : nat_le (earliest_due l) now ≡ true = found.0 in
    let at = position-Some (is_due_by (earliest_due l)) l q unused found.1 in
    record {
      inside = at.0;
      past = le_of (earliest_due l) now test;
      due = at.1;
    }
  where
    le_of : (a b : ℕ) → nat_le a b ≡ true → a ≤ b
    le_of a b h = grind (arith, nat_tests)

-- ---- an ended client has no leases

pub kept_ready : (phase : Phase) (l : List Lease) → is_ready phase ≡ true → kept_in phase l ≡ l
kept_ready phases.Ready l e = refl
kept_ready phases.New l e = absurd (cc e)
kept_ready phases.Asking l e = absurd (cc e)
kept_ready phases.Leaving l e = absurd (cc e)
kept_ready phases.Closing l e = absurd (cc e)
kept_ready phases.Ended l e = absurd (cc e)

pub bare_none : (place : ℕ) → BareAt place []
bare_none place = subst Bare (sym (get_or_past [] place unused (omega arith))) (refl, refl)

pub bare_kept : (place : ℕ) (phase : Phase) (l : List Lease) → BareAt place l → BareAt place (kept_in phase l)
bare_kept place phases.Ended l h = bare_none place
bare_kept place phases.Ready l h = h
bare_kept place phases.New l h = h
bare_kept place phases.Asking l h = h
bare_kept place phases.Leaving l h = h
bare_kept place phases.Closing l h = h

-- ---- without an allocation nothing is requested

pub bare_drives : (place q : ℕ) (at : Instant) (key : Option (List ℕ)) (t : ClientTiming) (stream : Stream) (l : List Lease) → BareAt place l
    → Drives (BareAt place) at key t q stream l
bare_drives place q at key t stream l h = record {
  rests = λ none. h;
  attempts = λ fresh.
      keep_set Bare place q l (lease_attempted at (record { 0 = (fill_bytes 12 stream).0 }) key t (at_place q l))
      (λ e x. bare_changed (attempted (record { id = record { 0 = (fill_bytes 12 stream).0 }; key = key; since = at }) t) (at_place q l) (at_place q l).operation x) h;
  repeats = λ sent.
      keep_set Bare place q l (lease_repeated at t (at_place q l)) (λ e x. bare_changed (repeated_if at t) (at_place q l) (at_place q l).operation x) h;
  times_out = λ over. keep_set Bare place q l (failed_at at None (at_place q l)) (λ e x. bare_failed at None (at_place q l) x) h;
}
