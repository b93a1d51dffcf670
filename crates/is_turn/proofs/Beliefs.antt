-- What a client believes is true: each end is counted from a time at which no packet of its request had left.
use Rattle.is_turn.specs.declared.session.Phase.TheVariants as phases
use Rattle.is_turn.specs.Attempts.{if_id, or, attempt_with, is_of_id, with_attempt}
use Rattle.is_turn.proofs.Common.{[], ◌+◌, ◌∷◌, ◌≡◌, ◌≤◌, Acceptance, AllocationIsHeld, answered_in, answers_request, arith, at_place}
use Rattle.is_turn.proofs.Common.{Attempt, Attempts, Bool, bytes_eq, cond, EndIsHeld, false, id_in, inl, inr, Instant, IsForAllocation}
use Rattle.is_turn.proofs.Common.{IsForLease, IsHeld, IsNew, Lease, List, Message, None, Operation, Option, Phase, refl, Request, Sent}
use Rattle.is_turn.proofs.Common.{Session, SocketAddr, Some, stated_lifetime, subst, sym, TransId, true, WasAccepted, WasSent, ℕ}

-- ---- a log: what left, the time, and what the server accepted

pub record Log : Type 0 where
  pub sent : List Sent
  pub clock : ℕ
  pub accepted : List Acceptance

-- each packet with this ID left at this time or later
abbrev pub SentSince : List ℕ → ℕ → List Sent → Type 0
SentSince id since [] = Unit {0}
SentSince id since (x ∷ sent) = (bytes_eq id x.id.0 ≡ true → since ≤ x.time) × SentSince id since sent

abbrev pub AttemptGood : Log → Option Attempt → Type 0
AttemptGood log None = Unit {0}
AttemptGood log (Some a) = (a.since.0 ≤ log.clock) × SentSince a.id.0 a.since.0 log.sent

abbrev pub AttemptsGood : Log → Attempts → Type 0
AttemptsGood log a =
    AttemptGood log a.last × AttemptGood log a.second × AttemptGood log a.third × AttemptGood log a.fourth × AttemptGood log a.fifth × AttemptGood log a.sixth

abbrev pub OperationGood : Log → Option Operation → Type 0
OperationGood log None = Unit {0}
OperationGood log (Some o) = AttemptsGood log o.attempts

abbrev pub RequestGood : Option SocketAddr → Option ℕ → Option Operation → Type 0
RequestGood peer number None = Unit {0}
RequestGood peer number (Some o) = IsForLease peer number o.request

abbrev pub FieldsGood : Log → Option SocketAddr → Option ℕ → Option Instant → Option Operation → Type 0
FieldsGood log peer number until o = OperationGood log o × RequestGood peer number o × EndIsHeld peer number until log.clock log.accepted

abbrev pub LeaseGood : Log → Lease → Type 0
LeaseGood log g = FieldsGood log g.peer g.number g.until g.operation

abbrev pub LeasesGood : Log → List Lease → Type 0
LeasesGood log l = (place : ℕ) → LeaseGood log (at_place place l)

abbrev pub SessionGood : Log → Session → Type 0
SessionGood log s = OperationGood log s.operation × AllocationIsHeld s.phase s.until log.clock log.accepted

-- ---- an attempt that a response answers was counted from before its packets

sent_since : (id other : List ℕ) (since time : ℕ) (sent : List Sent) → bytes_eq id other ≡ true → SentSince id since sent → WasSent other time sent → since ≤ time
sent_since id other since time [] same all was = absurd was
sent_since id other since time (x ∷ sent) same all (inl h) =
    let first : since ≤ x.time = all.0 (subst (λ (y : List ℕ). bytes_eq id y ≡ true) (sym h.0) same) in omega (arith, first, h.1)
sent_since id other since time (x ∷ sent) same all (inr h) = sent_since id other since time sent same all.1 h

-- what was accepted lasts as long as what is counted from the attempt
held_by : (IsFor : Request → Type 0) (r : Request) (m : Message) (now until : ℕ) (a : Attempt) (sent : List Sent) (accepted : List Acceptance)
    → IsFor r → bytes_eq a.id.0 m.id ≡ true → SentSince a.id.0 a.since.0 sent → until ≤ a.since.0 + stated_lifetime r m → WasAccepted r m now sent accepted
    → IsHeld IsFor now until accepted
held_by IsFor r m now until a sent [] is same all reach was = absurd was
held_by IsFor r m now until a sent (g ∷ accepted) is same all reach (inl h) =
    let first = sent_since a.id.0 m.id a.since.0 _ sent same all h.after in
    inl (subst IsFor (sym h.request) is, omega (arith, h.before), omega (arith, reach, first, h.lasts))
held_by IsFor r m now until a sent (g ∷ accepted) is same all reach (inr h) = inr (held_by IsFor r m now until a sent accepted is same all reach h)

-- ---- the clock goes forward

pub held_later : (IsFor : Request → Type 0) (now after until : ℕ) (accepted : List Acceptance) → now ≤ after → IsHeld IsFor now until accepted → IsHeld IsFor after until accepted
held_later IsFor now after until [] le h = absurd h
held_later IsFor now after until (g ∷ accepted) le (inl h) = inl (h.0, omega (arith, le, h.1), h.2)
held_later IsFor now after until (g ∷ accepted) le (inr h) = inr (held_later IsFor now after until accepted le h)

abbrev at_clock : ℕ → Log → Log
at_clock now log = record log { clock = now }

attempt_later : (log : Log) (now : ℕ) (a : Option Attempt) → log.clock ≤ now → AttemptGood log a → AttemptGood (at_clock now log) a
attempt_later log now None le h = tt
attempt_later log now (Some a) le h = (omega (arith, le, h.0), h.1)

operation_later : (log : Log) (now : ℕ) (o : Option Operation) → log.clock ≤ now → OperationGood log o → OperationGood (at_clock now log) o
operation_later log now None le h = tt
operation_later log now (Some o) le h = (
  attempt_later log now o.attempts.last le h.0,
  attempt_later log now o.attempts.second le h.1,
  attempt_later log now o.attempts.third le h.2,
  attempt_later log now o.attempts.fourth le h.3,
  attempt_later log now o.attempts.fifth le h.4,
  attempt_later log now o.attempts.sixth le h.5,
)

allocation_later : (phase : Phase) (until : Instant) (now after : ℕ) (accepted : List Acceptance) → now ≤ after
    → AllocationIsHeld phase until now accepted → AllocationIsHeld phase until after accepted
allocation_later phases.Ready until now after accepted le h = held_later IsForAllocation now after until.0 accepted le h
allocation_later phases.New until now after accepted le h = tt
allocation_later phases.Asking until now after accepted le h = tt
allocation_later phases.Leaving until now after accepted le h = tt
allocation_later phases.Closing until now after accepted le h = tt
allocation_later phases.Ended until now after accepted le h = tt

end_later : (peer : Option SocketAddr) (number : Option ℕ) (until : Option Instant) (now after : ℕ) (accepted : List Acceptance) → now ≤ after
    → EndIsHeld peer number until now accepted → EndIsHeld peer number until after accepted
end_later peer number None now after accepted le h = tt
end_later peer number (Some until) now after accepted le h = held_later (IsForLease peer number) now after until.0 accepted le h

pub session_later : (log : Log) (now : ℕ) (s : Session) → log.clock ≤ now → SessionGood log s → SessionGood (at_clock now log) s
session_later log now s le h =
    (operation_later log now s.operation le h.0, allocation_later s.phase s.until log.clock now log.accepted le h.1)

pub leases_later : (log : Log) (now : ℕ) (l : List Lease) → log.clock ≤ now → LeasesGood log l → LeasesGood (at_clock now log) l
leases_later log now l le h = λ place.
    let g = at_place place l in
    (operation_later log now g.operation le (h place).0, (h place).1, end_later g.peer g.number g.until log.clock now log.accepted le (h place).2)

-- ---- a packet leaves

attempt_sent : (log : Log) (id : TransId) (a : Option Attempt) → AttemptGood log a
    → AttemptGood (record log { sent = record { id = id; time = log.clock } ∷ log.sent }) a
attempt_sent log id None h = tt
attempt_sent log id (Some a) h = (h.0, ((λ same. h.0), h.1))

operation_sent : (log : Log) (id : TransId) (o : Option Operation) → OperationGood log o
    → OperationGood (record log { sent = record { id = id; time = log.clock } ∷ log.sent }) o
operation_sent log id None h = tt
operation_sent log id (Some o) h = (
  attempt_sent log id o.attempts.last h.0,
  attempt_sent log id o.attempts.second h.1,
  attempt_sent log id o.attempts.third h.2,
  attempt_sent log id o.attempts.fourth h.3,
  attempt_sent log id o.attempts.fifth h.4,
  attempt_sent log id o.attempts.sixth h.5,
)

pub session_sent : (log : Log) (id : TransId) (s : Session) → SessionGood log s → SessionGood (record log { sent = record { id = id; time = log.clock } ∷ log.sent }) s
session_sent log id s h = (operation_sent log id s.operation h.0, h.1)

pub leases_sent : (log : Log) (id : TransId) (l : List Lease) → LeasesGood log l → LeasesGood (record log { sent = record { id = id; time = log.clock } ∷ log.sent }) l
leases_sent log id l h = λ place. (operation_sent log id (at_place place l).operation (h place).0, (h place).1, (h place).2)

-- ---- a new attempt

new_since : (id : List ℕ) (since : ℕ) (sent : List Sent) → IsNew id sent → SentSince id since sent
new_since id since [] h = tt
new_since id since (x ∷ sent) h = ((λ same. absurd (h.0 same)), new_since id since sent h.1)

pub attempts_with : (log : Log) (attempt : Attempt) (a : Attempts) → attempt.since.0 ≡ log.clock → IsNew attempt.id.0 log.sent → AttemptsGood log a
    → AttemptsGood log (with_attempt attempt a)
attempts_with log attempt a now fresh h =
    ((omega (arith, now), new_since attempt.id.0 attempt.since.0 log.sent fresh), h.0, h.1, h.2, h.3, h.4)

-- ---- the attempt with an ID

found_if : (b : Bool) (id : TransId) (a x : Attempt) → b ≡ is_of_id id a → cond b (Some a) None ≡ Some x → (a ≡ x) × (is_of_id id x ≡ true)
found_if true id a x h e =
    let same : a ≡ x = grind arith in (same, subst (λ (y : Attempt). is_of_id id y ≡ true) same (sym h))
found_if false id a x h e = absurd (cc e)

abbrev Found : Log → TransId → Attempt → Type 0
Found log id x = (is_of_id id x ≡ true) × AttemptGood log (Some x)

found_one : (log : Log) (id : TransId) (a : Option Attempt) (x : Attempt) → AttemptGood log a → if_id id a ≡ Some x → Found log id x
found_one log id None x good e = absurd (cc e)
found_one log id (Some a) x good e =
    let h = found_if (is_of_id id a) id a x refl e in (h.1, subst (λ (y : Attempt). AttemptGood log (Some y)) h.0 good)

found_or : (log : Log) (id : TransId) (a b : Option Attempt) (x : Attempt) → ((y : Attempt) → a ≡ Some y → Found log id y)
    → ((y : Attempt) → b ≡ Some y → Found log id y) → or a b ≡ Some x → Found log id x
found_or log id None b x p q e = q x e
found_or log id (Some a) b x p q e = p x e

found_with : (log : Log) (id : TransId) (a : Attempts) (x : Attempt) → AttemptsGood log a → attempt_with id a ≡ Some x → Found log id x
found_with log id a x good e =
    found_or log id (if_id id a.last)
    (or (if_id id a.second) (or (if_id id a.third) (or (if_id id a.fourth) (or (if_id id a.fifth) (if_id id a.sixth))))) x (λ y h. found_one log id a.last y good.0 h)
    (λ y h. found_or log id (if_id id a.second) (or (if_id id a.third) (or (if_id id a.fourth) (or (if_id id a.fifth) (if_id id a.sixth)))) y (λ z k. found_one log id a.second z good.1 k)
    (λ y h. found_or log id (if_id id a.third) (or (if_id id a.fourth) (or (if_id id a.fifth) (if_id id a.sixth))) y (λ z k. found_one log id a.third z good.2 k)
    (λ y h. found_or log id (if_id id a.fourth) (or (if_id id a.fifth) (if_id id a.sixth)) y (λ z k. found_one log id a.fourth z good.3 k)
    (λ y h. found_or log id (if_id id a.fifth) (if_id id a.sixth) y (λ z k. found_one log id a.fifth z good.4 k)
    (λ z k. found_one log id a.sixth z good.5 k) h) h) h) h) e

found_answer : (b : Bool) (log : Log) (m : Message) (o : Operation) (x : Attempt) → AttemptsGood log o.attempts
    → cond b (attempt_with (id_in m) o.attempts) None ≡ Some x → Found log (id_in m) x
found_answer true log m o x good e = found_with log (id_in m) o.attempts x good e
found_answer false log m o x good e = absurd (cc e)

-- what was accepted of a request that the message answers lasts as long as its attempt says
pub answered_held : (log : Log) (IsFor : Request → Type 0) (m : Message) (o : Operation) (a : Attempt) (until : ℕ) → AttemptsGood log o.attempts
    → answered_in m o ≡ Some a → IsFor o.request → until ≤ a.since.0 + stated_lifetime o.request m → WasAccepted o.request m log.clock log.sent log.accepted
    → IsHeld IsFor log.clock until log.accepted
answered_held log IsFor m o a until good e is reach was =
    let found = found_answer (answers_request o.request m.method) log m o a good e in
    held_by IsFor o.request m log.clock until a log.sent log.accepted is found.0 found.1.1 reach was
