-- One step of `handle_timeout` keeps whose turn it is: a packet leaves of the request that is due first, or of the allocation's.
use Rattle.std.proofs.Common.{◌≡◌, ◌⊎◌, inl, inr, ℕ, ◌+◌, ◌≤◌, ◌<◌, ◌&&◌, ◌||◌, nat_le, nat_lt, Bool, true, false, cond, max, min, map, fold, position, set, length, suc, List, [], ◌∷◌, Option, Some, None, is_none, arith, refl, sym, ap, subst, ◌∙◌}
use Rattle.is_turn_theorems.proofs.Common.{after_step, at_place, at_time, Attempt, attempted, barred_at, ClientTiming, driven_by, due_of, due_or_never, due_place, earliest_due, failed_at, fill_bytes}
use Rattle.is_turn_theorems.proofs.Common.{Instant, is_barring, is_due_by, is_due_in, is_exhausted, is_given, is_idle_step, is_ready, later, Lease, lease_attempted, lease_due, lease_repeated, Limits}
use Rattle.is_turn_theorems.proofs.Common.{MAX, nat_tests, next_client_time, Operation, PACE, repeat_wait, repeated_if, retried_at, sent_once_more, Session, step_at, step_of, Stream, time_or}
use Rattle.is_turn_theorems.proofs.Common.{time_or_never, TimesOutBy, unused, with_leases, with_operation}
use Rattle.std.proofs.lemmas.List.Sums.{fails_before_first}
use Rattle.std.specs.List.{position_or_len}
use Rattle.is_turn.specs.Timing.{first_wait}
use Rattle.is_turn_theorems.proofs.OtherCalls.{through}
use Rattle.is_turn_theorems.proofs.LeaseLists.{AtSet, at_set}
use Rattle.is_turn_theorems.proofs.LeaseStanding.{least_at}
use Rattle.is_turn_theorems.proofs.LeaseTimeouts.{Drives, driven_keeps, IsMoreIn, IsDueAt, due_at, kept_ready}
use Rattle.is_turn_theorems.proofs.LeaseTurns.{one_if, weight, due_count, set_sent, due_weight, WaitsIn, Waits, waits_pass, queued_next, queued_paced}
use Rattle.is_turn_theorems.proofs.LeaseTurnCalls.{cond_none, not_due, failed_weighs}

-- ---- the request that is due first

pub first_due : (l : List Lease) (p : ℕ) → earliest_due l ≤ due_of (at_place p l)
first_due l p = least_at due_of MAX l p (omega arith)

due_is : (g : Lease) (x : Operation) → g.operation ≡ Some x → due_of g ≡ x.due.0
due_is g x e = ap (λ (o : Option Operation). due_or_never o) e

due_weight_in : (e n : ℕ) (g : Lease) (o : Option Operation) → g.operation ≡ o → is_due_in e o ≡ true → e ≤ n → weight n g ≡ 1
due_weight_in e n g None same due le = absurd (cc due)
due_weight_in e n g (Some x) same due le =
    let past : x.due.0 ≤ e = grind (arith, nat_tests) in
    due_weight n g x same (omega (arith, past, le))

-- ---- what is sent is due later

later_none : (now wait n : ℕ) → n < now → now < MAX → one_if (nat_le (later now wait) n) ≡ 0
later_none now wait n lt shown = cond_none (nat_le (later now wait) n) (not_due (later now wait) n (omega (arith, lt, shown)))

attempted_weighs : (now n : ℕ) (t : ClientTiming) (attempt : Attempt) (g : Lease) (o : Option Operation) → attempt.since.0 ≡ now → n < now → now < MAX
    → weight n (with_operation (attempted attempt t) o (record g { operation = o })) ≡ 0
attempted_weighs now n t attempt g None e lt shown = refl
attempted_weighs now n t attempt g (Some o) e lt shown =
    subst (λ (m : ℕ). one_if (nat_le (later m (first_wait t)) n) ≡ 0) (sym e) (later_none now (first_wait t) n lt shown)

repeated_weighs : (now n : ℕ) (t : ClientTiming) (g : Lease) (o : Option Operation) → IsMoreIn t o → n < now → now < MAX
    → weight n (with_operation (repeated_if (at_time now) t) o (record g { operation = o })) ≡ 0
repeated_weighs now n t g None more lt shown = refl
repeated_weighs now n t g (Some o) more lt shown =
    through o (λ x. weight n (record g { operation = Some x }) ≡ 0) (is_exhausted t o) o (sent_once_more (at_time now) t o)
    (λ e. absurd (cc (more.1, e))) (λ e. later_none now (repeat_wait t o) n lt shown)

-- it waits no more
abbrev IsDone : Option Operation → Type 0
IsDone None = Unit {0}
IsDone (Some o) = o.is_fresh ≡ false

attempted_done : (t : ClientTiming) (attempt : Attempt) (g : Lease) (o : Option Operation)
    → IsDone (with_operation (attempted attempt t) o (record g { operation = o })).operation
attempted_done t attempt g None = tt
attempted_done t attempt g (Some o) = refl

repeated_done : (now : Instant) (t : ClientTiming) (g : Lease) (o : Option Operation) → IsMoreIn t o
    → IsDone (with_operation (repeated_if now t) o (record g { operation = o })).operation
repeated_done now t g None more = tt
repeated_done now t g (Some o) more =
    through o (λ (x : Operation). x.is_fresh ≡ false) (is_exhausted t o) o (sent_once_more now t o) (λ e. more.0) (λ e. more.0)

failed_done : (at : Instant) (code : Option ℕ) (g : Lease) → IsDone (failed_at at code g).operation
failed_done at code g = through g (λ x. IsDone x.operation) (is_none g.until || is_barring code) (barred_at at code g) (retried_at at g) (λ e. tt) (λ e. tt)

done_waits : (k : Limits) (taken d p now : ℕ) (was : Bool) (l : List Lease) (b : Bool) (o : Option Operation) → IsDone o → WaitsIn k taken d p now was l b o
done_waits k taken d p now was l b None done = tt
done_waits k taken d p now was l b (Some o) done = λ s f. absurd (cc (done, f))

-- what is known of a step for the lease in a place
pub record Turn (k : Limits) (taken more d next now : ℕ) (was : Bool) : Type 0 where
  pub punctual : now ≤ d + k.late
  pub pace : next ≤ now + PACE
  pub count : was ≡ true → taken ≤ more
  pub shown : now < MAX

module _ (k : Limits) (taken more d p next now place q : ℕ) (was : Bool) (key : Option (List ℕ)) (t : ClientTiming) (stream : Stream) (l : List Lease)
    (turn : Turn k taken more d next now was) (due : IsDueAt now q l) (h : Waits k taken d p now was place l) where
  put_turn : (x : Lease) → ((n : ℕ) → n < now → weight n x ≡ 0) → IsDone x.operation → Waits k more now next now was place (set l q x)
  put_turn x none done = by_place (at_set l q place x)
    where
      counted : (y : Operation) → (at_place place l).operation ≡ Some y → y.due.0 < now → was ≡ true
          → due_count y.due.0 (set l q x) + taken + 1 ≤ due_count y.due.0 l + more
      counted y e lt w =
          let first : earliest_due l ≤ y.due.0 = subst (λ (n : ℕ). earliest_due l ≤ n) (due_is (at_place place l) y e) (first_due l place) in
          let one = due_weight_in (earliest_due l) y.due.0 (at_place q l) (at_place q l).operation refl due.due first in
          let less = set_sent y.due.0 l q x due.inside one (none y.due.0 lt) in
          let few = turn.count w in
          omega (arith, less, few)

      by_place : AtSet l q x place → Waits k more now next now was place (set l q x)
      by_place (inl (e, put)) =
          subst (λ (y : Lease). WaitsIn k more now next now was (set l q x) (is_given y) y.operation) (sym put)
          (done_waits k more now next now was (set l q x) (is_given x) x.operation done)
      by_place (inr kept) =
          waits_pass k taken more d now p next now was place l (set l q x) kept
          (λ y e lt w z. queued_next k taken more d now now p next y.due.0 l (set l q x) (counted y e lt w) turn.punctual (omega arith) turn.pace z) h

  no_request : (o : Option Operation) (e : ℕ) → is_none o ≡ true → is_due_in e o ≡ true → ⊥
  no_request None e none is = absurd (cc is)
  no_request (Some o) e none is = absurd (cc none)

  pub drives_waits : Drives (λ x. Waits k more now next now was place x) (at_time now) key t q stream l
  drives_waits = record {
    rests = λ none. absurd (no_request (at_place q l).operation (earliest_due l) none due.due);
    attempts = λ fresh.
        let attempt : Attempt = record { id = record { 0 = (fill_bytes 12 stream).0 }; key = key; since = at_time now } in
        put_turn (lease_attempted (at_time now) (record { 0 = (fill_bytes 12 stream).0 }) key t (at_place q l))
        (λ n lt. attempted_weighs now n t attempt (at_place q l) (at_place q l).operation refl lt turn.shown)
        (attempted_done t attempt (at_place q l) (at_place q l).operation);
    repeats = λ more.
        put_turn (lease_repeated (at_time now) t (at_place q l))
        (λ n lt. repeated_weighs now n t (at_place q l) (at_place q l).operation more lt turn.shown)
        (repeated_done (at_time now) t (at_place q l) (at_place q l).operation more);
    times_out = λ over.
        put_turn (failed_at (at_time now) None (at_place q l)) (λ n lt. failed_weighs n (at_time now) None (at_place q l))
        (failed_done (at_time now) None (at_place q l));
  }

-- ---- without a request for a lease

least_above : (f : Lease → ℕ) (n m : ℕ) (l : List Lease) → n < m → ((i : ℕ) → i < length l → n < f (at_place i l)) → n < fold min m (map f l)
least_above f n m [] lt h = lt
least_above f n m (x ∷ l) lt h =
    let first : n < f x = h 0 (omega arith) in
    least_above f n (min m (f x)) l (omega (arith, lt, first)) (λ i le. h (suc i) (omega (arith, le)))

due_above : (n : ℕ) (o : Option Operation) → n < MAX → is_due_in n o ≡ false → n < due_or_never o
due_above n None shown e = shown
due_above n (Some o) shown e = let lt : n < o.due.0 = grind (arith, nat_tests) in lt

first_found : (l : List Lease) → earliest_due l < MAX → position (is_due_by (earliest_due l)) l ≡ None → ⊥
first_found l shown none = absurd (less_itself (earliest_due l)
    (least_above due_of (earliest_due l) MAX l shown
    (λ i lt. due_above (earliest_due l) (at_place i l).operation shown (fails_before_first (is_due_by (earliest_due l)) l i unused (before i lt)))))
  where
    less_itself : (n : ℕ) → n < n → ⊥
    less_itself n h = absurd (omega (arith, h))

    all_before : (b : Bool) (n m : ℕ) → nat_lt n m ≡ b → cond b (Some n) None ≡ None → m ≤ n
    all_before true n m e h = absurd (cc h)
    all_before false n m e h = grind (arith, nat_tests)

    before : (i : ℕ) → i < length l → i < position_or_len (is_due_by (earliest_due l)) l
    before i lt =
        let p = position_or_len (is_due_by (earliest_due l)) l in
        let le : length l ≤ p = all_before (nat_lt p (length l)) p (length l) refl none in
        omega (arith, lt, le)

none_due : (now : ℕ) (l : List Lease) (b : Bool) → nat_le (earliest_due l) now ≡ b → now < MAX → cond b (position (is_due_by (earliest_due l)) l) None ≡ None
    → now < earliest_due l
none_due now l true e shown none =
    let le : earliest_due l ≤ now = grind (arith, nat_tests) in
    absurd (first_found l (omega (arith, le, shown)) none)
none_due now l false e shown none = grind (arith, nat_tests)

cond_none_of : (b : Bool) (x : Option ℕ) → b ≡ true → cond b x None ≡ None → x ≡ None
cond_none_of true x e h = h
cond_none_of false x e h = absurd (cc e)

-- the pace allows no packet, or no request for a lease is due
waits_idle : (now : ℕ) (s : Session) (l : List Lease) → is_ready s.phase ≡ true → is_idle_step (step_of (at_time now) s) ≡ true → now < MAX
    → lease_due (at_time now) (step_of (at_time now) s) s l ≡ None → (now < s.paced.0) ⊎ (now < earliest_due l)
waits_idle now s l ready idle shown none = by_pace (nat_le s.paced.0 now) refl
  where
    both_true : (a b c : Bool) → a ≡ true → b ≡ true → c ≡ true → (a && (b && c)) ≡ true
    both_true true true true p q r = refl
    both_true true true false p q r = absurd (cc r)
    both_true true false c p q r = absurd (cc q)
    both_true false b c p q r = absurd (cc p)

    by_pace : (b : Bool) → nat_le s.paced.0 now ≡ b → (now < s.paced.0) ⊎ (now < earliest_due l)
    by_pace true e =
        inr (none_due now l (nat_le (earliest_due l) now) refl shown
        (cond_none_of _ (due_place (at_time now) l) (both_true (is_ready s.phase) (is_idle_step (step_of (at_time now) s)) (nat_le s.paced.0 now) ready idle e) none))
    by_pace false e = inl (grind (arith, nat_tests))

-- if the pace allows none, it stays
paced_stays : (now : ℕ) (key : Option (List ℕ)) (stream : Stream) (s : Session) → now < s.paced.0 → is_idle_step (step_of (at_time now) s) ≡ true
    → (after_step (step_of (at_time now) s) (at_time now) key stream s).0.paced.0 ≡ s.paced.0
paced_stays now key stream s early idle =
    through (step_of (at_time now) s) (λ x. is_idle_step x ≡ true → (after_step x (at_time now) key stream s).0.paced.0 ≡ s.paced.0)
    (is_ready s.phase && nat_le s.until.0 now) _ _ (λ e idle. absurd (cc idle))
    (λ e. through (step_of (at_time now) s) (λ x. is_idle_step x ≡ true → (after_step x (at_time now) key stream s).0.paced.0 ≡ s.paced.0)
    (nat_lt now s.paced.0) _ _ (λ e idle. refl) (λ later idle. absurd (no_packet now s.paced.0 early later))) idle
  where
    no_packet : (a b : ℕ) → a < b → nat_lt a b ≡ false → ⊥
    no_packet a b lt e = let le : b ≤ a = grind (arith, nat_tests) in absurd (omega (arith, lt, le))

-- ---- the whole call

pass_timeout : (k : Limits) (taken more d next now place : ℕ) (was : Bool) (key : Option (List ℕ)) (stream : Stream) (s : Session) (l : List Lease) (b : Bool)
    → is_idle_step (step_of (at_time now) s) ≡ b → is_ready s.phase ≡ true → Turn k taken more d next now was
    → (is_idle_step (step_of (at_time now) s) ≡ false → was ≡ true → taken + 1 ≤ more)
    → lease_due (at_time now) (step_of (at_time now) s) s l ≡ None → next ≡ (after_step (step_of (at_time now) s) (at_time now) key stream s).0.paced.0
    → Waits k taken d s.paced.0 now was place l → Waits k more now next now was place l
pass_timeout k taken more d next now place was key stream s l false e ready turn passed none after h =
    waits_pass k taken more d now s.paced.0 next now was place l l refl
    (λ y same lt w z.
    let more_turns = passed e w in
    queued_next k taken more d now now s.paced.0 next y.due.0 l l (omega (arith, more_turns)) turn.punctual (omega arith) turn.pace z) h
pass_timeout k taken more d next now place was key stream s l true e ready turn passed none after h = by_case (waits_idle now s l ready e turn.shown none)
  where
    by_case : (now < s.paced.0) ⊎ (now < earliest_due l) → Waits k more now next now was place l
    by_case (inl early) =
        let stays : next ≡ s.paced.0 = after ∙ paced_stays now key stream s early e in
        waits_pass k taken more d now s.paced.0 next now was place l l refl
        (λ y same lt w z. queued_paced k taken more d now s.paced.0 next y.due.0 l (turn.count w) early (omega (arith, stays)) z) h
    by_case (inr before) =
        waits_pass k taken more d now s.paced.0 next now was place l l refl
        (λ y same lt w z.
        let a = first_due l place in
        let c = due_is (at_place place l) y same in
        absurd (omega (arith, a, c, lt, before))) h

pub timeout_waits : (k : Limits) (taken more d now place : ℕ) (was : Bool) (key : Option (List ℕ)) (stream : Stream) (s : Session) (l : List Lease) (p : Option ℕ)
    (new : Session) (l_new : List Lease) (stream_new : Stream) → lease_due (at_time now) (step_of (at_time now) s) s l ≡ p → is_ready s.phase ≡ true
    → is_ready new.phase ≡ true → Turn k taken more d new.paced.0 now was
    → (is_idle_step (step_of (at_time now) s) ≡ false → was ≡ true → taken + 1 ≤ more) → Waits k taken d s.paced.0 now was place l
    → TimesOutBy p (step_of (at_time now) s) (at_time now) key stream s l new l_new stream_new → Waits k more now new.paced.0 now was place l_new
timeout_waits k taken more d now place was key stream s l None new l_new stream_new e was_ready ready turn passed h does =
    subst (Waits k more now new.paced.0 now was place) (sym (does.1 ∙ kept_ready new.phase l ready))
    (pass_timeout k taken more d new.paced.0 now place was key stream s l (is_idle_step (step_of (at_time now) s)) refl was_ready turn passed e
    (ap (λ (x : Session × Stream). x.0.paced.0) does.0) h)
timeout_waits k taken more d now place was key stream s l (Some q) new l_new stream_new e was_ready ready turn passed h does =
    let due = due_at now q _ l e in
    subst (Waits k more now new.paced.0 now was place)
    (sym (does.1 ∙ kept_ready new.phase (driven_by (step_at q s l) (at_time now) key s.timing q stream l).0 ready))
    (driven_keeps (λ x. Waits k more now new.paced.0 now was place x) (at_time now) key s.timing q stream l
    (drives_waits k taken more d s.paced.0 new.paced.0 now place q was key s.timing stream l turn due h))

-- ---- the time of `poll_timeout`

ring_first : (s : Session) (l : List Lease) (o : Option Operation) → is_ready s.phase ≡ true
    → time_or_never (with_leases (time_or o s) s l) ≤ max (earliest_due l) s.paced.0
ring_first s l None r = rw r (rw r (omega arith))
ring_first s l (Some o) r = rw r (omega arith)

pub ring_due : (s : Session) (l : List Lease) (p : ℕ) → is_ready s.phase ≡ true → time_or_never (next_client_time s l) ≤ max (due_of (at_place p l)) s.paced.0
ring_due s l p r =
    let a = ring_first s l s.operation r in
    let b = first_due l p in
    omega (arith, a, b)
