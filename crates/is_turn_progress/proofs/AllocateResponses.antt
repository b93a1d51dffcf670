-- What the right response to an Allocate request does: a challenge makes another attempt, a success response the allocation.
use Rattle.std.proofs.Common.{◌≡◌, ℕ, ◌≤◌, ◌==◌, Bool, true, false, List, length, Option, Some, None, bytes_eq, nat_lt, not, arith, refl, sym, ap, subst}
use Rattle.is_turn_progress.proofs.Common.{Allocate, Allocation, another, answered_in, Attempt, challenge_taken, code_of, code_or_success, Credentials, Instant, is_last_sent, is_unknown}
use Rattle.is_turn_progress.proofs.Common.{IsAllocateSuccess, IsAnswered, IsChallengedBy, IsFirstChallenge, IsSignedFor, key_in, lasts, long_term_key, Message, nat_tests, on_challenge, on_code}
use Rattle.is_turn_progress.proofs.Common.{on_success, Operation, outcome_by, outcome_or, OutcomeApplies, Receipt, relays, Request, Session, SocketAddr, takes_challenge, Verdict, verdict_of}
use Rattle.is_turn_progress.proofs.Common.{without_pace}
use Rattle.std.proofs.lemmas.Slice.Eq.{bytes_eq-Decides}
use Rattle.is_stun.specs.declared.header.Method.TheVariants as methods
use Rattle.is_stun.specs.declared.requested.AddressFamily.{AddressFamily}
use Rattle.is_stun.specs.Integrity.{IsSignedBy}
use Rattle.is_turn.specs.declared.session.Phase.TheVariants as phases
use Rattle.is_turn.specs.declared.verdict.Verdict.TheVariants as verdicts
use Rattle.is_turn_progress.proofs.Asking.{asks}
use Rattle.is_turn_progress.proofs.Steps.{by_cond}

same : (x : List ℕ) → bytes_eq x x ≡ true
same x = grind (arith, bytes_eq-Decides x x)

-- ---- the request that waits, and its last attempt

pub record IsLast (o : Operation) (a : Attempt) : Type 0 where
  pub lifetime : ℕ
  pub family : Option AddressFamily
  pub request : o.request ≡ Allocate lifetime family
  pub fresh : o.is_fresh ≡ false
  pub last : o.attempts.last ≡ Some a

answered_last : (m : Message) (o : Operation) (a : Attempt) → IsLast o a → m.method ≡ methods.Allocate → m.id ≡ a.id.0 → answered_in m o ≡ Some a
answered_last m o a h method to = rw (h.request, method, h.last, to, same a.id.0) refl

-- ---- a challenge

challenge_verdict : (b is_last : Bool) (key : Option (List ℕ)) (k : Credentials) (m : Message) (id : List ℕ) → IsFirstChallenge m id
    → verdict_of b is_last key (Some k) m ≡ verdicts.Challenge
challenge_verdict true is_last key k m id h = rw (h.class, h.code) refl
challenge_verdict false is_last key k m id h = rw (h.class, h.code, h.unsigned) refl

challenge_code : (m : Message) (id : List ℕ) → IsFirstChallenge m id → code_or_success m ≡ 401
challenge_code m id h = rw (h.class, h.code) refl

takes : (o : Operation) (a : Attempt) → IsLast o a → takes_challenge a.id false 401 o ≡ true
takes o a h = rw (h.fresh, h.last, same a.id.0) refl

-- the credentials after a challenge
abbrev pub with_key : Credentials → List ℕ → List ℕ → List ℕ → Credentials
with_key k realm nonce password =
    record k { challenge = Some (record { realm = realm; nonce = nonce; key = long_term_key k.username realm password }) }

taken : (k : Credentials) (realm nonce password : List ℕ) → length realm ≤ 763 → length nonce ≤ 763 → k.password ≡ Some password
    → challenge_taken (Some realm) (Some nonce) (Some k) ≡ (Some (with_key k realm nonce password), true)
taken k realm nonce password short also knows =
    let a : nat_lt 763 (length realm) ≡ false = grind (arith, nat_tests, short) in
    let b : nat_lt 763 (length nonce) ≡ false = grind (arith, nat_tests, also) in
    rw (a, b, knows) refl

pub challenge_applies : (mac : List ℕ → List ℕ → List ℕ) (now : Instant) (m : Message) (alternate : Option SocketAddr) (b : Session) (o : Operation)
    (a : Attempt) (k : Credentials) (password : List ℕ) (result : Receipt) (new : Session) (c_new : Option Credentials) → IsLast o a
    → k.password ≡ Some password → a.key ≡ None → (h : IsFirstChallenge m a.id.0) → IsAnswered mac now m alternate (asks b o) (Some k) result new c_new
    → (new ≡ asks (without_pace now b) (another now false 401 o)) × (c_new ≡ Some (with_key k h.realm h.nonce password))
challenge_applies mac now m alternate b o a k password result new c_new is knows unsigned h step =
    let s = asks b o in
    let found = subst (λ (x : Option Attempt). OutcomeApplies now (outcome_or step.0 phases.Asking (Some k) m alternate o x) m.attributes.realm
    m.attributes.nonce s (Some k) result new c_new) (answered_last m o a is h.method h.to) step.2 in
    let judged = subst (λ (v : Verdict). OutcomeApplies now (outcome_by v phases.Asking (is_unknown (Some k)) o a m alternate) m.attributes.realm
    m.attributes.nonce s (Some k) result new c_new) (challenge_verdict step.0 (is_last_sent a o) a.key k m a.id.0 h) found in
    let coded = subst (λ (code : ℕ). OutcomeApplies now (on_challenge o a code (is_unknown (Some k))) m.attributes.realm m.attributes.nonce s (Some k)
    result new c_new) (challenge_code m a.id.0 h) judged in
    let keyed = subst (λ (key : Option (List ℕ)). OutcomeApplies now (on_challenge o (record a { key = key }) 401 (is_unknown (Some k)))
    m.attributes.realm m.attributes.nonce s (Some k) result new c_new) unsigned coded in
    let asked = by_cond (λ outcome. OutcomeApplies now outcome m.attributes.realm m.attributes.nonce s (Some k) result new c_new
    → IsChallengedBy now false 401 s (challenge_taken m.attributes.realm m.attributes.nonce (Some k)) result new c_new)
    (not (takes_challenge a.id false 401 o)) _ _ (λ refused. λ x. let e : not (takes_challenge a.id false 401 o) ≡ false = ap not (takes o a is) in absurd (cc (e, refused)))
    (λ allowed. λ x. x) keyed in
    let realm = subst (λ (r : Option (List ℕ)). IsChallengedBy now false 401 s (challenge_taken r m.attributes.nonce (Some k)) result new c_new) h.has_realm asked in
    let nonce = subst (λ (n : Option (List ℕ)). IsChallengedBy now false 401 s (challenge_taken (Some h.realm) n (Some k)) result new c_new) h.has_nonce realm in
    let known = subst (λ (t : Option Credentials × Bool). IsChallengedBy now false 401 s t result new c_new)
    (taken k h.realm h.nonce password (omega (arith, h.short_realm)) (omega (arith, h.short_nonce)) knows) nonce in
    (known.1, known.2)

-- ---- a success response

success_code : (m : Message) (id : List ℕ) → IsAllocateSuccess m id → code_of m ≡ None
success_code m id h = rw h.class refl

open_verdict : (b is_last : Bool) (key : Option (List ℕ)) (m : Message) (id : List ℕ) → IsAllocateSuccess m id
    → verdict_of b is_last key None m ≡ verdicts.Genuine
open_verdict b is_last key m id h = rw h.class refl

signed_verdict : (is_last : Bool) (key : Option (List ℕ)) (k : Credentials) (m : Message) (id : List ℕ) → IsAllocateSuccess m id
    → verdict_of true is_last key (Some k) m ≡ verdicts.Genuine
signed_verdict is_last key k m id h = rw h.class refl

-- what a genuine success response does
abbrev Makes : Session → Type 0
Makes new = (made : Allocation) × (new.made ≡ Some made)

genuine_applies : (now : Instant) (m : Message) (alternate : Option SocketAddr) (b : Session) (o : Operation) (a : Attempt) (c : Option Credentials)
    (result : Receipt) (new : Session) (c_new : Option Credentials) → IsLast o a → IsAllocateSuccess m a.id.0
    → OutcomeApplies now (outcome_by verdicts.Genuine phases.Asking (is_unknown c) o a m alternate) m.attributes.realm m.attributes.nonce (asks b o) c
    result new c_new → Makes new
genuine_applies now m alternate b o a c result new c_new is h step =
    let s = asks b o in
    let realm = m.attributes.realm in
    let nonce = m.attributes.nonce in
    let coded = subst (λ (code : Option ℕ). OutcomeApplies now (on_code phases.Asking o.request a m alternate code) realm nonce s c result new c_new)
    (success_code m a.id.0 h) step in
    let requested = subst (λ (r : Request). OutcomeApplies now (on_success r a m) realm nonce s c result new c_new) is.request coded in
    let relayed = subst (λ (r : Option SocketAddr). OutcomeApplies now (relays a m r) realm nonce s c result new c_new) h.has_relayed requested in
    let lasting = subst (λ (n : Option ℕ). OutcomeApplies now (lasts a m h.relayed n) realm nonce s c result new c_new) h.has_lifetime relayed in
    by_cond (λ outcome. OutcomeApplies now outcome realm nonce s c result new c_new → Makes new) (h.seconds == 0) _ _
    (λ zero. λ x. let none : h.seconds ≡ 0 = grind (arith, nat_tests, zero) in let more = h.lasts in absurd (omega (arith, none, more)))
    (λ some. λ x. (record { relayed = h.relayed; mapped = m.attributes.xor_mapped_address }, ap (λ (y : Session). y.made) x.1)) lasting

pub open_success : (mac : List ℕ → List ℕ → List ℕ) (now : Instant) (m : Message) (alternate : Option SocketAddr) (b : Session) (o : Operation)
    (a : Attempt) (result : Receipt) (new : Session) (c_new : Option Credentials) → IsLast o a → IsAllocateSuccess m a.id.0
    → IsAnswered mac now m alternate (asks b o) None result new c_new → Makes new
open_success mac now m alternate b o a result new c_new is h step =
    let s = asks b o in
    let found = subst (λ (x : Option Attempt). OutcomeApplies now (outcome_or step.0 phases.Asking None m alternate o x) m.attributes.realm
    m.attributes.nonce s None result new c_new) (answered_last m o a is h.method h.to) step.2 in
    genuine_applies now m alternate b o a None result new c_new is h
    (subst (λ (v : Verdict). OutcomeApplies now (outcome_by v phases.Asking (is_unknown None) o a m alternate) m.attributes.realm m.attributes.nonce s None
    result new c_new) (open_verdict step.0 (is_last_sent a o) a.key m a.id.0 h) found)

pub signed_success : (mac : List ℕ → List ℕ → List ℕ) (now : Instant) (m : Message) (alternate : Option SocketAddr) (b : Session) (o : Operation)
    (a : Attempt) (k : Credentials) (key : List ℕ) (result : Receipt) (new : Session) (c_new : Option Credentials) → IsLast o a → a.key ≡ Some key
    → IsAllocateSuccess m a.id.0 → IsSignedBy mac m key → IsAnswered mac now m alternate (asks b o) (Some k) result new c_new → Makes new
signed_success mac now m alternate b o a k key result new c_new is keyed h signed step =
    let s = asks b o in
    let own = answered_last m o a is h.method h.to in
    let found = subst (λ (x : Option Attempt). OutcomeApplies now (outcome_or step.0 phases.Asking (Some k) m alternate o x) m.attributes.realm
    m.attributes.nonce s (Some k) result new c_new) own step.2 in
    let counts : step.0 ≡ true =
    step.1.1 (subst (λ (x : Option Attempt). IsSignedFor mac m (key_in x)) (sym own) (subst (λ (x : Option (List ℕ)). IsSignedFor mac m x) (sym keyed) signed)) in
    let verified = subst (λ (t : Bool). OutcomeApplies now (outcome_by (verdict_of t (is_last_sent a o) a.key (Some k) m) phases.Asking (is_unknown (Some k)) o a m
    alternate) m.attributes.realm m.attributes.nonce s (Some k) result new c_new) counts found in
    genuine_applies now m alternate b o a (Some k) result new c_new is h
    (subst (λ (v : Verdict). OutcomeApplies now (outcome_by v phases.Asking (is_unknown (Some k)) o a m alternate) m.attributes.realm m.attributes.nonce s (Some k)
    result new c_new) (signed_verdict (is_last_sent a o) a.key k m a.id.0 h) verified)
