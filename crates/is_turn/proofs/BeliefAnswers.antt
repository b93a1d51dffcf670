-- A response that the client believes says what the server has.
use Rattle.is_turn.specs.declared.outcome.Reason.TheVariants as reasons
use Rattle.is_turn.specs.declared.requests.Request.TheVariants as requests
use Rattle.is_turn.specs.declared.session.Phase.TheVariants as phases
use Rattle.is_turn.specs.declared.verdict.Verdict.TheVariants as verdicts
use Rattle.is_turn.proofs.Common.{◌&&◌, ◌*◌, ◌+◌, ◌==◌, ◌↔◌, ◌∙◌, ◌≡◌, ◌≤◌, ◌⊎◌, Allocated, answered_by, answered_in, ap, arith, Attempt}
use Rattle.is_turn.proofs.Common.{Bool, Challenged, code_of, code_or_success, cond, Credentials, Doubted, Dropped, Failed, false, Hinted}
use Rattle.is_turn.proofs.Common.{inl, inr, is_last_sent, is_some, is_unknown, IsBelievable, IsForAllocation, IsForLease, IsHeld, IsHonest}
use Rattle.is_turn.proofs.Common.{IsSignedFor, IsTrue, key_in, Lasting, lasts, later, lifetime_for, lifetime_of, List, Message, None, not}
use Rattle.is_turn.proofs.Common.{on_alternate, on_challenge, on_code, on_success, Operation, Option, Outcome, outcome_by, outcome_or}
use Rattle.is_turn.proofs.Common.{outcome_with, Phase, Redirected, refl, Refreshed, relays, Request, request_for, SECOND, seconds_or_none}
use Rattle.is_turn.proofs.Common.{SocketAddr, Some, stated_lifetime, subst, sym, takes_challenge, true, Verdict, verdict_of, WasAccepted, ℕ}
use Rattle.is_turn.proofs.Beliefs.{Log, AttemptsGood, OperationGood, answered_held}
use Rattle.is_turn.proofs.Receiving.{Means, means}

-- ---- an outcome that makes the client believe something says how long it lasts

-- the server has what the outcome of a response to this request says
abbrev pub IsBacked : Log → Request → Outcome → Type 0
IsBacked log r (Allocated since seconds allocation) = IsHeld IsForAllocation log.clock (later since.0 (lifetime_of seconds)) log.accepted
IsBacked log r (Refreshed since seconds) = IsHeld IsForAllocation log.clock (later since.0 (lifetime_of seconds)) log.accepted
IsBacked log r (Lasting since) = (number : Option ℕ) (peer : SocketAddr) → r ≡ request_for peer number
    → IsHeld (IsForLease (Some peer) number) log.clock (later since.0 (lifetime_for number)) log.accepted
IsBacked log r (Dropped reason) = Unit {0}
IsBacked log r (Doubted code) = Unit {0}
IsBacked log r (Hinted code) = Unit {0}
IsBacked log r (Challenged b code) = Unit {0}
IsBacked log r (Redirected server) = Unit {0}
IsBacked log r (Failed code) = Unit {0}

backed_cond : (log : Log) (r : Request) (b : Bool) (x y : Outcome) → IsBacked log r x → IsBacked log r y → IsBacked log r (cond b x y)
backed_cond log r true x y p q = p
backed_cond log r false x y p q = q

lifetime_le : (since seconds : ℕ) → later since (lifetime_of seconds) ≤ since + seconds * SECOND
lifetime_le since seconds = omega arith

stated_for : (peer : SocketAddr) (number : Option ℕ) (m : Message) → stated_lifetime (request_for peer number) m ≡ lifetime_for number
stated_for peer None m = refl
stated_for peer (Some number) m = refl

later_stated : (since by most : ℕ) → most ≡ by → later since by ≤ since + most
later_stated since by most h = omega (arith, h)

-- the request was accepted, and this is the attempt that the message answers
pub record Answered (log : Log) (m : Message) (o : Operation) (a : Attempt) : Type 0 where
  pub good : AttemptsGood log o.attempts
  pub attempt : answered_in m o ≡ Some a
  pub accepted : WasAccepted o.request m log.clock log.sent log.accepted

backed_lasts : (log : Log) (m : Message) (o : Operation) (a : Attempt) (relayed : SocketAddr) (life : Option ℕ) → IsForAllocation o.request
    → stated_lifetime o.request m ≡ seconds_or_none life * SECOND → Answered log m o a → IsBacked log o.request (lasts a m relayed life)
backed_lasts log m o a relayed None is says h = tt
backed_lasts log m o a relayed (Some seconds) is says h =
    backed_cond log o.request (seconds == 0) (Dropped reasons.Malformed)
    (Allocated a.since seconds (record { relayed = relayed; mapped = m.attributes.xor_mapped_address })) tt
    (answered_held log IsForAllocation m o a (later a.since.0 (lifetime_of seconds)) h.good h.attempt is
    (subst (λ (n : ℕ). later a.since.0 (lifetime_of seconds) ≤ a.since.0 + n) (sym says) (lifetime_le a.since.0 seconds)) h.accepted)

backed_relays : (log : Log) (m : Message) (o : Operation) (a : Attempt) (relayed : Option SocketAddr) → IsForAllocation o.request
    → stated_lifetime o.request m ≡ seconds_or_none m.attributes.lifetime * SECOND → Answered log m o a → IsBacked log o.request (relays a m relayed)
backed_relays log m o a None is says h = tt
backed_relays log m o a (Some relayed) is says h = backed_lasts log m o a relayed m.attributes.lifetime is says h

backed_lease : (log : Log) (m : Message) (o : Operation) (a : Attempt) → Answered log m o a → IsBacked log o.request (Lasting a.since)
backed_lease log m o a h = λ number peer e.
    answered_held log (IsForLease (Some peer) number) m o a (later a.since.0 (lifetime_for number)) h.good h.attempt e
    (later_stated a.since.0 (lifetime_for number) (stated_lifetime o.request m) (ap (λ (r : Request). stated_lifetime r m) e ∙ stated_for peer number m)) h.accepted

backed_success : (log : Log) (m : Message) (o : Operation) (a : Attempt) (r : Request) → o.request ≡ r → Answered log m o a
    → IsBacked log o.request (on_success r a m)
backed_success log m o a (requests.Allocate seconds family) e h =
    backed_relays log m o a m.attributes.xor_relayed_address (subst IsForAllocation (sym e) tt) (ap (λ (r : Request). stated_lifetime r m) e) h
backed_success log m o a (requests.Refresh seconds) e h =
    answered_held log IsForAllocation m o a (later a.since.0 (lifetime_of (seconds_or_none m.attributes.lifetime))) h.good h.attempt
    (subst IsForAllocation (sym e) tt)
    (subst (λ (n : ℕ). later a.since.0 (lifetime_of (seconds_or_none m.attributes.lifetime)) ≤ a.since.0 + n)
    (sym (ap (λ (r : Request). stated_lifetime r m) e)) (lifetime_le a.since.0 (seconds_or_none m.attributes.lifetime))) h.accepted
backed_success log m o a (requests.CreatePermission peer) e h = backed_lease log m o a h
backed_success log m o a (requests.ChannelBind number peer) e h = backed_lease log m o a h

backed_alternate : (log : Log) (r : Request) (phase : Phase) (alternate : Option SocketAddr) → IsBacked log r (on_alternate phase alternate)
backed_alternate log r phases.Asking None = tt
backed_alternate log r phases.Asking (Some server) = tt
backed_alternate log r phases.New alternate = tt
backed_alternate log r phases.Leaving alternate = tt
backed_alternate log r phases.Ready alternate = tt
backed_alternate log r phases.Closing alternate = tt
backed_alternate log r phases.Ended alternate = tt

backed_code : (log : Log) (m : Message) (o : Operation) (a : Attempt) (phase : Phase) (alternate : Option SocketAddr) (code : Option ℕ)
    → (code ≡ None → Answered log m o a) → IsBacked log o.request (on_code phase o.request a m alternate code)
backed_code log m o a phase alternate None h = backed_success log m o a o.request refl (h refl)
backed_code log m o a phase alternate (Some code) h =
    backed_cond log o.request (code == 300) (on_alternate phase alternate) (Failed code) (backed_alternate log o.request phase alternate) tt

backed_challenge : (log : Log) (r : Request) (o : Operation) (a : Attempt) (code : ℕ) (unknown : Bool) → IsBacked log r (on_challenge o a code unknown)
backed_challenge log r o a code unknown =
    backed_cond log r (not (takes_challenge a.id (is_some a.key) code o)) (Dropped reasons.Challenge)
    (cond (code == 401 && is_some a.key && unknown) (Hinted code) (Challenged (is_some a.key) code)) tt
    (backed_cond log r (code == 401 && is_some a.key && unknown) (Hinted code) (Challenged (is_some a.key) code) tt tt)

-- of the verdicts only one counts, and it needs a signature if there are credentials
backed_verdict : (log : Log) (m : Message) (o : Operation) (a : Attempt) (phase : Phase) (unknown : Bool) (alternate : Option SocketAddr) (verdict : Verdict)
    → (verdict ≡ verdicts.Genuine → code_of m ≡ None → Answered log m o a) → IsBacked log o.request (outcome_by verdict phase unknown o a m alternate)
backed_verdict log m o a phase unknown alternate verdicts.Malformed h = tt
backed_verdict log m o a phase unknown alternate verdicts.Unauthentic h = tt
backed_verdict log m o a phase unknown alternate verdicts.Hint h = tt
backed_verdict log m o a phase unknown alternate verdicts.Challenge h = backed_challenge log o.request o a (code_or_success m) unknown
backed_verdict log m o a phase unknown alternate verdicts.Redirect h = backed_alternate log o.request phase alternate
backed_verdict log m o a phase unknown alternate verdicts.Genuine h = backed_code log m o a phase alternate (code_of m) (λ e. h refl e)

genuine_signed : (b is_last : Bool) (key : Option (List ℕ)) (c : Option Credentials) (m : Message) → verdict_of b is_last key c m ≡ verdicts.Genuine
    → (c ≡ None) ⊎ (b ≡ true)
genuine_signed b is_last key None m e = inl refl
genuine_signed b is_last key (Some c) m e = inr (subst (λ (v : Verdict). Means b key m v) e (means b is_last key c m))

believable : (mac : List ℕ → List ℕ → List ℕ) (m : Message) (a : Attempt) (b : Bool) (c : Option Credentials) → (IsTrue b ↔ IsSignedFor mac m a.key)
    → (c ≡ None) ⊎ (b ≡ true) → IsBelievable mac m a c
believable mac m a b c signs (inl h) = inl h
believable mac m a b c signs (inr h) = inr (signs.0 h)

backed_or : (log : Log) (mac : List ℕ → List ℕ → List ℕ) (m : Message) (b : Bool) (phase : Phase) (c : Option Credentials) (alternate : Option SocketAddr)
    (o : Operation) (a : Option Attempt) → answered_in m o ≡ a → AttemptsGood log o.attempts → (IsTrue b ↔ IsSignedFor mac m (key_in a))
    → (code_of m ≡ None → IsHonest mac m log.clock log.sent log.accepted c (Some o)) → IsBacked log o.request (outcome_or b phase c m alternate o a)
backed_or log mac m b phase c alternate o None e good signs honest = tt
backed_or log mac m b phase c alternate o (Some a) e good signs honest =
    backed_verdict log m o a phase (is_unknown c) alternate (verdict_of b (is_last_sent a o) a.key c m)
    (λ genuine success. record {
      good = good;
      attempt = e;
      accepted = honest success a e (believable mac m a b c signs (genuine_signed b (is_last_sent a o) a.key c m genuine));
    })

abbrev pub IsBackedFor : Log → Option Operation → Outcome → Type 0
IsBackedFor log None outcome = (outcome ≡ Dropped reasons.Unasked)
IsBackedFor log (Some o) outcome = IsBacked log o.request outcome

pub backed_with : (log : Log) (mac : List ℕ → List ℕ → List ℕ) (m : Message) (b : Bool) (phase : Phase) (c : Option Credentials)
    (alternate : Option SocketAddr) (o : Option Operation) → OperationGood log o → (IsTrue b ↔ IsSignedFor mac m (key_in (answered_by m o)))
    → (code_of m ≡ None → IsHonest mac m log.clock log.sent log.accepted c o) → IsBackedFor log o (outcome_with b phase c m alternate o)
backed_with log mac m b phase c alternate None good signs honest = refl
backed_with log mac m b phase c alternate (Some o) good signs honest =
    backed_or log mac m b phase c alternate o (answered_in m o) refl good signs honest
