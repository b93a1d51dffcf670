-- What calls and responses do to the leases keeps whose turn it is.
use Rattle.std.proofs.Common.{◌≡◌, ◌⊎◌, inl, inr, ℕ, ◌≤◌, ◌<◌, ◌||◌, nat_le, Bool, true, false, min, map, length, List, Option, Some, None, is_none, arith, refl, sym, subst, le_refl}
use Rattle.is_turn_theorems.proofs.Common.{advanced, advanced_in, another, asked_again, at_place, at_time, barred_at, cases_lt, changed, ClientTiming, doubted, failed_at, get_or-map, get_or_past}
use Rattle.is_turn_theorems.proofs.Common.{hinted, Instant, is_barring, is_given, is_past, is_ready, lapsed, lasts_since, later, Lease, lease_polled, length-map, Limits, MAX, nat_tests, new_lease}
use Rattle.is_turn_theorems.proofs.Common.{Operation, Phase, polled, renewed, requested_for, retried_at, Session, SocketAddr, unused, used_at, with_changed, with_operation, without_report}
use Rattle.is_turn.specs.Leases.{is_renewal_due}
use Rattle.is_turn_theorems.proofs.OtherCalls.{through}
use Rattle.is_turn_theorems.proofs.LeaseLists.{Closed}
use Rattle.is_turn_theorems.proofs.LeaseTimeouts.{kept_ready, advanced_ready}
use Rattle.is_turn_theorems.proofs.LeaseResponses.{Answers}
use Rattle.is_turn_theorems.proofs.LeaseTurns.{one_if, weight, map_lighter, WaitsIn, Waits, Keeps, keeps_self, waits_become, waits_set}

-- ---- weights

cond_le : (b : Bool) (n : ℕ) → (b ≡ true → ⊥) → one_if b ≤ n
cond_le true n h = absurd (h refl)
cond_le false n h = omega arith

pub cond_none : (b : Bool) → (b ≡ true → ⊥) → one_if b ≡ 0
cond_none true h = absurd (h refl)
cond_none false h = refl

cond_less : (b c : Bool) → (c ≡ true → b ≡ true) → one_if c ≤ one_if b
cond_less b false h = omega arith
cond_less true true h = omega arith
cond_less false true h = absurd (cc (h refl))

pub not_due : (due d : ℕ) → d < due → nat_le due d ≡ true → ⊥
not_due due d lt e = let le : due ≤ d = grind (arith, nat_tests) in absurd (omega (arith, lt, le))

-- ---- each change

polled_weighs : (n : ℕ) (g : Lease) (o : Option Operation) → weight n (with_operation polled o (record g { operation = o })) ≤ weight n (record g { operation = o })
polled_weighs n g None = le_refl _
polled_weighs n g (Some o) = le_refl _

polled_keeps : (now : ℕ) (g : Lease) (o : Option Operation) → Keeps now (is_given g) o (is_given (with_operation polled o (record g { operation = o })))
    (with_operation polled o (record g { operation = o })).operation
polled_keeps now g None = tt
polled_keeps now g (Some o) = λ s f. inr (s, f, refl)

doubted_weighs : (n code : ℕ) (g : Lease) (o : Option Operation)
    → weight n (with_operation (doubted code) o (record g { operation = o })) ≤ weight n (record g { operation = o })
doubted_weighs n code g None = le_refl _
doubted_weighs n code g (Some o) = le_refl _

doubted_keeps : (now code : ℕ) (g : Lease) (o : Option Operation) → Keeps now (is_given g) o (is_given (with_operation (doubted code) o (record g { operation = o })))
    (with_operation (doubted code) o (record g { operation = o })).operation
doubted_keeps now code g None = tt
doubted_keeps now code g (Some o) = λ s f. inr (s, f, refl)

hinted_due : (now due wait d : ℕ) → d < now → now < MAX → nat_le (min due (later now wait)) d ≡ true → nat_le due d ≡ true
hinted_due now due wait d lt shown e =
    let le : min due (later now wait) ≤ d = le_of (min due (later now wait)) d e in
    of_le due d (omega (arith, le, lt, shown))
  where
    le_of : (a b : ℕ) → nat_le a b ≡ true → a ≤ b
    le_of a b h = grind (arith, nat_tests)

    of_le : (a b : ℕ) → a ≤ b → nat_le a b ≡ true
    of_le a b h = grind (arith, nat_tests)

hinted_weighs : (now n code : ℕ) (t : ClientTiming) (g : Lease) (o : Option Operation) → n < now → now < MAX
    → weight n (with_operation (hinted (at_time now) code t) o (record g { operation = o })) ≤ weight n (record g { operation = o })
hinted_weighs now n code t g None lt shown = le_refl _
hinted_weighs now n code t g (Some o) lt shown =
    cond_less (nat_le o.due.0 n) (nat_le (min o.due.0 (later now t.rto.0)) n) (hinted_due now o.due.0 t.rto.0 n lt shown)

gone_keeps : (now : ℕ) (b c : Bool) (o x : Option Operation) → (c ≡ true → ⊥) → Keeps now b o c x
gone_keeps now b c o None gone = tt
gone_keeps now b c None (Some x) gone = λ s. absurd (gone s)
gone_keeps now b c (Some o) (Some x) gone = λ s. absurd (gone s)

given_with : (change : Operation → Operation) (g : Lease) (o : Option Operation) → is_given (with_operation change o (record g { operation = o })) ≡ true → is_given g ≡ true
given_with change g None s = s
given_with change g (Some o) s = s

another_weighs : (now n code : ℕ) (b : Bool) (g : Lease) (o : Option Operation) → n < now
    → weight n (with_operation (another (at_time now) b code) o (record g { operation = o })) ≤ weight n (record g { operation = o })
another_weighs now n code b g None lt = le_refl _
another_weighs now n code b g (Some o) lt = cond_le (nat_le now n) (one_if (nat_le o.due.0 n)) (not_due now n lt)

another_keeps : (now code : ℕ) (b : Bool) (g : Lease) (o : Option Operation)
    → Keeps now (is_given g) o (is_given (with_operation (another (at_time now) b code) o (record g { operation = o })))
    (with_operation (another (at_time now) b code) o (record g { operation = o })).operation
another_keeps now code b g None = tt
another_keeps now code b g (Some o) = λ s f. inl refl

pub failed_weighs : (n : ℕ) (at : Instant) (code : Option ℕ) (g : Lease) → weight n (failed_at at code g) ≡ 0
failed_weighs n at code g =
    through g (λ x. weight n x ≡ 0) (is_none g.until || is_barring code) (barred_at at code g) (retried_at at g) (λ e. refl) (λ e. refl)

failed_keeps : (now : ℕ) (b : Bool) (o : Option Operation) (at : Instant) (code : Option ℕ) (g : Lease)
    → Keeps now b o (is_given (failed_at at code g)) (failed_at at code g).operation
failed_keeps now b o at code g =
    through g (λ x. Keeps now b o (is_given x) x.operation) (is_none g.until || is_barring code) (barred_at at code g) (retried_at at g) (λ e. tt) (λ e. tt)

none_le : (a b : ℕ) → a ≡ 0 → a ≤ b
none_le a b e = omega (arith, e)

-- ---- calls and responses

module _ (k : Limits) (taken d p now : ℕ) (was : Bool) (place : ℕ) where
  abbrev pub WaitsAt : List Lease → Type 0
  WaitsAt l = Waits k taken d p now was place l

  pub waits_closed : Closed WaitsAt (at_time now)
  waits_closed = record {
    used = λ q l h.
        waits_set k taken d p now was place q l (used_at (at_time now) (at_place q l)) (λ n lt. le_refl _)
        (λ e. keeps_self now (is_given (at_place q l)) (at_place q l).operation) h;
    again = λ q l barred h.
        waits_set k taken d p now was place q l (asked_again (at_time now) (at_place q l)) (λ n lt. le_refl _)
        (λ e. keeps_self now (is_given (at_place q l)) (at_place q l).operation) h;
    new = λ q l peer number free h.
        waits_set k taken d p now was place q l (new_lease peer number (at_time now)) (λ n lt. none_le _ _ refl) (λ e. tt) h;
    polled = λ q l h.
        waits_set k taken d p now was place q l (lease_polled (at_place q l)) (λ n lt. polled_weighs n (at_place q l) (at_place q l).operation)
        (λ e. polled_keeps now (at_place q l) (at_place q l).operation) h;
    reported = λ q l h.
        waits_set k taken d p now was place q l (without_report (at_place q l)) (λ n lt. le_refl _)
        (λ e. keeps_self now (is_given (at_place q l)) (at_place q l).operation) h;
  }

  pub answers_wait : (q : ℕ) (t : ClientTiming) (l : List Lease) (new : Session) → now < MAX → is_ready new.phase ≡ true → WaitsAt l
      → Answers WaitsAt k now place q t l new
  answers_wait q t l new shown ready h = record {
    keeps = h;
    doubts = λ code.
        waits_set k taken d p now was place q l (changed (doubted code) (at_place q l))
        (λ n lt. doubted_weighs n code (at_place q l) (at_place q l).operation) (λ e. doubted_keeps now code (at_place q l) (at_place q l).operation) h;
    hints = λ code gone.
        waits_set k taken d p now was place q l (changed (hinted (at_time now) code t) (at_place q l))
        (λ n lt. hinted_weighs now n code t (at_place q l) (at_place q l).operation lt shown)
        (λ e. gone_keeps now _ _ (at_place q l).operation _
        (λ s. gone e (given_with (hinted (at_time now) code t) (at_place q l) (at_place q l).operation s))) h;
    again = λ b code counts.
        waits_set k taken d p now was place q l (changed (another (at_time now) b code) (at_place q l))
        (λ n lt. another_weighs now n code b (at_place q l) (at_place q l).operation lt)
        (λ e. another_keeps now code b (at_place q l) (at_place q l).operation) h;
    lasts = λ since some time.
        waits_set k taken d p now was place q l (lasts_since since (at_place q l)) (λ n lt. none_le _ _ refl) (λ e. tt) h;
    fails = λ code gone.
        subst WaitsAt (sym (kept_ready new.phase (with_changed q (failed_at (at_time now) (Some code)) l) ready))
        (waits_set k taken d p now was place q l (failed_at (at_time now) (Some code) (at_place q l))
        (λ n lt. none_le _ _ (failed_weighs n (at_time now) (Some code) (at_place q l)))
        (λ e. failed_keeps now (is_given (at_place q l)) (at_place q l).operation (at_time now) (Some code) (at_place q l)) h);
  }

-- ---- what begins

lapsed_weighs : (n : ℕ) (at : Instant) (g : Lease) → weight n (lapsed at g) ≤ weight n g
lapsed_weighs n at g = through g (λ x. weight n x ≤ weight n g) (is_past g.until at) (record g { until = None }) g (λ e. le_refl _) (λ e. le_refl _)

requested_weighs : (now n : ℕ) (peer : Option SocketAddr) (g : Lease) → n < now → weight n (requested_for peer (at_time now) g) ≤ weight n g
requested_weighs now n None g lt = le_refl _
requested_weighs now n (Some peer) g lt = cond_le (nat_le now n) (weight n g) (not_due now n lt)

renewed_weighs : (now n : ℕ) (g : Lease) → n < now → weight n (renewed (at_time now) g) ≤ weight n g
renewed_weighs now n g lt =
    through g (λ x. weight n x ≤ weight n g) (is_renewal_due (at_time now) g) (requested_for g.peer (at_time now) g) g
    (λ e. requested_weighs now n g.peer g lt) (λ e. le_refl _)

advanced_weighs : (now n : ℕ) (g : Lease) → n < now → weight n (advanced (at_time now) g) ≤ weight n g
advanced_weighs now n g lt =
    let a = renewed_weighs now n (lapsed (at_time now) g) lt in
    let b = lapsed_weighs n (at_time now) g in
    omega (arith, a, b)

lapsed_keeps : (now : ℕ) (at : Instant) (g : Lease) → Keeps now (is_given g) g.operation (is_given (lapsed at g)) (lapsed at g).operation
lapsed_keeps now at g =
    through g (λ x. Keeps now (is_given g) g.operation (is_given x) x.operation) (is_past g.until at) (record g { until = None }) g
    (λ e. gone_keeps now (is_given g) false g.operation g.operation (λ s. absurd (cc s))) (λ e. keeps_self now (is_given g) g.operation)

new_keeps : (now : ℕ) (b : Bool) (o : Option Operation) (x : Operation) → x.due.0 ≡ now → Keeps now b o b (Some x)
new_keeps now b None x e = λ s f. e
new_keeps now b (Some o) x e = λ s f. inl e

requested_keeps : (now : ℕ) (peer : Option SocketAddr) (g : Lease)
    → Keeps now (is_given g) g.operation (is_given (requested_for peer (at_time now) g)) (requested_for peer (at_time now) g).operation
requested_keeps now None g = keeps_self now (is_given g) g.operation
requested_keeps now (Some peer) g = new_keeps now (is_given g) g.operation _ refl

renewed_keeps : (now : ℕ) (g : Lease) → Keeps now (is_given g) g.operation (is_given (renewed (at_time now) g)) (renewed (at_time now) g).operation
renewed_keeps now g =
    through g (λ x. Keeps now (is_given g) g.operation (is_given x) x.operation) (is_renewal_due (at_time now) g) (requested_for g.peer (at_time now) g) g
    (λ e. requested_keeps now g.peer g) (λ e. keeps_self now (is_given g) g.operation)

advanced_at : (k : Limits) (taken d p now : ℕ) (was : Bool) (l : List Lease) (g : Lease) → WaitsIn k taken d p now was l (is_given g) g.operation
    → WaitsIn k taken d p now was (map (advanced (at_time now)) l) (is_given (advanced (at_time now) g)) (advanced (at_time now) g).operation
advanced_at k taken d p now was l g h =
    let m = map (advanced (at_time now)) l in
    let x = lapsed (at_time now) g in
    waits_become k taken d p now was l m x (renewed (at_time now) x) (λ n lt. map_lighter n (advanced (at_time now)) l (λ y. advanced_weighs now n y lt))
    (renewed_keeps now x) (waits_become k taken d p now was l l g x (λ n lt. le_refl _) (lapsed_keeps now (at_time now) g) h)

map_waits : (k : Limits) (taken d p now : ℕ) (was : Bool) (place : ℕ) (l : List Lease) → (place < length l) ⊎ (length l ≤ place)
    → Waits k taken d p now was place l → Waits k taken d p now was place (map (advanced (at_time now)) l)
map_waits k taken d p now was place l (inl lt) h =
    subst (λ (g : Lease). WaitsIn k taken d p now was (map (advanced (at_time now)) l) (is_given g) g.operation)
    (sym (get_or-map (advanced (at_time now)) l place unused unused lt)) (advanced_at k taken d p now was l (at_place place l) h)
map_waits k taken d p now was place l (inr past) h =
    subst (λ (g : Lease). WaitsIn k taken d p now was (map (advanced (at_time now)) l) (is_given g) g.operation)
    (sym (get_or_past (map (advanced (at_time now)) l) place unused (subst (λ (n : ℕ). n ≤ place) (sym (length-map l (advanced (at_time now)))) past))) tt

pub advanced_waits : (k : Limits) (taken d p now : ℕ) (was : Bool) (place : ℕ) (phase : Phase) (l : List Lease) → is_ready phase ≡ true
    → Waits k taken d p now was place l → Waits k taken d p now was place (advanced_in phase (at_time now) l)
advanced_waits k taken d p now was place phase l r h =
    subst (Waits k taken d p now was place) (sym (advanced_ready phase (at_time now) l r)) (map_waits k taken d p now was place l (cases_lt place (length l)) h)
