-- What is no response to an attempt does nothing. With credentials, a response that is not signed with the key of its attempt changes
-- nothing that the client believes of its allocation, except a 300 to an attempt that was not signed.
use Rattle.is_turn.specs.declared.outcome.Reason.TheVariants as reasons
use Rattle.is_turn.specs.declared.session.Phase.TheVariants as phases
use Rattle.is_turn.specs.declared.verdict.Verdict.TheVariants as verdicts
use Rattle.is_turn.specs.Turn.{kept_in}
use Rattle.is_turn.proofs.Common.{◌&&◌, ◌==◌, ◌||◌, ◌∙◌, ◌≡◌, ◌⊎◌, Allocated, another, answered_by, answered_in, Answers, AnswersLease, ap}
use Rattle.is_turn.proofs.Common.{arith, at_place, Attempt, attempt_answered, Bool, bytes_eq, Challenge, challenge_by, challenge_taken}
use Rattle.is_turn.proofs.Common.{Challenged, challenged, changed_by, code_of, code_or_success, cond, Credentials, datagram_of, Doubted}
use Rattle.is_turn.proofs.Common.{doubted, Dropped, dropped, Failed, false, forgotten, has_failed, Hinted, hinted, inl, inr, Instant}
use Rattle.is_turn.proofs.Common.{is_answered_by, is_challenge, is_code, is_last_sent, is_malformed, is_none, is_ready, is_refreshed}
use Rattle.is_turn.proofs.Common.{is_some, is_unknown, IsAnswered, IsGenuine, IsLeaseAnswered, IsLeaseGenuine, IsRedirection, IsRespondedBy}
use Rattle.is_turn.proofs.Common.{IsSome, IsWhole, KeepsPin, key_answered, key_in, Lasting, Lease, lease_failed, LeaseApplies, length, List}
use Rattle.is_turn.proofs.Common.{Message, nat_lt, None, not, on_alternate, on_challenge, OnlyByGenuine, Operation, Option, Outcome}
use Rattle.is_turn.proofs.Common.{outcome_by, outcome_for, outcome_or, outcome_with, OutcomeApplies, Phase, pin_in, pin_of, position}
use Rattle.is_turn.proofs.Common.{probed, Reason, Receipt, Redirected, refl, Refresh, Refreshed, request_timing, response, SameBelief}
use Rattle.is_turn.proofs.Common.{Session, SocketAddr, Some, subst, sym, takes_challenge, true, Verdict, verdict_of, verdict_with}
use Rattle.is_turn.proofs.Common.{with_another, with_challenge, with_doubt, with_hint, with_request, without_challenge, without_pace, ℕ}

-- ---- no response to an attempt

idle_or : (phase : Phase) (c : Option Credentials) (m : Message) (alternate : Option SocketAddr) (o : Operation) (a : Option Attempt)
    → IsSome a ⊎ ((b : Bool) → outcome_or b phase c m alternate o a ≡ Dropped reasons.Unasked)
idle_or phase c m alternate o None = inr (λ b. refl)
idle_or phase c m alternate o (Some a) = inl refl

idle_with : (phase : Phase) (c : Option Credentials) (m : Message) (alternate : Option SocketAddr) (o : Option Operation)
    → IsSome (answered_by m o) ⊎ ((b : Bool) → outcome_with b phase c m alternate o ≡ Dropped reasons.Unasked)
idle_with phase c m alternate None = inr (λ b. refl)
idle_with phase c m alternate (Some o) = idle_or phase c m alternate o (answered_in m o)

whole : (reason : Reason) (s : Session) (c : Option Credentials) (result : Receipt) (new : Session) (c_new : Option Credentials)
    → (result ≡ dropped reason) × (new ≡ s) × (c_new ≡ c) → IsWhole s c new c_new
whole reason s c result new c_new step = (step.1, step.2)

only_by : (mac : List ℕ → List ℕ → List ℕ) (now : Instant) (m : Message) (alternate : Option SocketAddr) (s : Session) (c : Option Credentials)
    (result : Receipt) (new : Session) (c_new : Option Credentials) (source : SocketAddr) (bytes : List ℕ)
    → source ≡ s.server → datagram_of bytes ≡ response m
    → IsSome (attempt_answered m s) ⊎ ((b : Bool) → outcome_for b s c m alternate ≡ Dropped reasons.Unasked)
    → IsAnswered mac now m alternate s c result new c_new → IsWhole s c new c_new ⊎ Answers source bytes s
only_by mac now m alternate s c result new c_new source bytes server read (inl some) step =
    inr (record { server = server; message = m; read = read; attempt = some })
only_by mac now m alternate s c result new c_new source bytes server read (inr idle) step =
    inl (whole reasons.Unasked s c result new c_new
    (subst (λ (o : Outcome). OutcomeApplies now o m.attributes.realm m.attributes.nonce s c result new c_new) (idle step.0) step.2))

pub only_answers : (mac : List ℕ → List ℕ → List ℕ) (now : Instant) (m : Message) (alternate : Option SocketAddr) (s : Session) (c : Option Credentials)
    (result : Receipt) (new : Session) (c_new : Option Credentials) (source : SocketAddr) (bytes : List ℕ)
    → source ≡ s.server → datagram_of bytes ≡ response m
    → IsAnswered mac now m alternate s c result new c_new → IsWhole s c new c_new ⊎ Answers source bytes s
only_answers mac now m alternate s c result new c_new source bytes server read step =
    only_by mac now m alternate s c result new c_new source bytes server read (idle_with s.phase c m alternate s.operation) step

-- ---- outcomes that leave what the client believes

abbrev IsHarmless : Outcome → Type 0
IsHarmless (Dropped reason) = Unit {0}
IsHarmless (Doubted code) = Unit {0}
IsHarmless (Hinted code) = Unit {0}
IsHarmless (Challenged is_signed code) = Unit {0}
IsHarmless _ = ⊥

believes : (s after new : Session) → SameBelief s after → new ≡ after → SameBelief s new
believes s after new same h = subst (λ (x : Session). SameBelief s x) (sym h) same

-- the pending request is no part of what it believes
same_changed : (change : Operation → Operation) (o : Option Operation) (s : Session) → SameBelief s (changed_by change o s)
same_changed change None s = (refl, refl, refl, refl)
same_changed change (Some o) s = (refl, refl, refl, refl)

either : (b : Bool) (s x y new : Session) → SameBelief s x → SameBelief s y → new ≡ cond b x y → SameBelief s new
either true s x y new p q h = believes s x new p h
either false s x y new p q h = believes s y new q h

harmless : (now : Instant) (outcome : Outcome) (realm nonce : Option (List ℕ)) (s : Session) (c : Option Credentials) (result : Receipt)
    (new : Session) (c_new : Option Credentials) → IsHarmless outcome → OutcomeApplies now outcome realm nonce s c result new c_new → SameBelief s new
harmless now (Dropped reason) realm _ s c result new c_new h step = believes s s new (refl, refl, refl, refl) step.1
harmless now (Doubted code) realm _ s c result new c_new h step = believes s (with_doubt code s) new (same_changed (doubted code) s.operation s) step.1
harmless now (Hinted code) realm _ s c result new c_new h step =
    believes s (with_hint now code s) new (same_changed (hinted now code (request_timing s)) s.operation s) step.1
harmless now (Challenged b code) realm nonce s c result new c_new h step =
    either (challenge_taken realm nonce c).1 s (with_another now b code s) (with_doubt code s) new
    (same_changed (another now b code) s.operation (without_pace now s)) (same_changed (doubted code) s.operation s) step.1
harmless now (Allocated since seconds allocation) realm _ s c result new c_new h step = absurd h
harmless now (Refreshed since seconds) realm _ s c result new c_new h step = absurd h
harmless now (Lasting since) realm _ s c result new c_new h step = absurd h
harmless now (Redirected server) realm _ s c result new c_new h step = absurd h
harmless now (Failed code) realm _ s c result new c_new h step = absurd h

-- ---- which verdicts need a signature

abbrev pub IsUnsigned300 : Option (List ℕ) → Message → Type 0
IsUnsigned300 key m = (code_of m ≡ Some 300) × (is_some m.integrity ≡ false) × (key ≡ None)

abbrev pub Means : Bool → Option (List ℕ) → Message → Verdict → Type 0
Means b key m verdicts.Genuine = b ≡ true
Means b key m verdicts.Redirect = IsUnsigned300 key m
Means b key m _ = Unit {0}

code_300 : (code : Option ℕ) → is_code 300 code ≡ true → code ≡ Some 300
code_300 None h = absurd (cc h)
code_300 (Some code) h = grind arith

no_key : (key : Option (List ℕ)) → is_none key ≡ true → key ≡ None
no_key None h = refl
no_key (Some key) h = absurd (cc h)

both : (a b : Bool) → true ≡ (a && b) → (a ≡ true) × (b ≡ true)
both true true h = (refl, refl)
both true false h = absurd (cc h)
both false b h = absurd (cc h)

unsigned_300 : (key : Option (List ℕ)) (m : Message) → false ≡ is_some m.integrity → true ≡ (is_code 300 (code_of m) && is_none key) → IsUnsigned300 key m
unsigned_300 key m unsigned redirects =
    let h : (is_code 300 (code_of m) ≡ true) × (is_none key ≡ true) = both (is_code 300 (code_of m)) (is_none key) redirects in
    (code_300 (code_of m) h.0, sym unsigned, no_key key h.1)

means_by : (b challenges signed redirects hints : Bool) (key : Option (List ℕ)) (m : Message)
    → signed ≡ is_some m.integrity → redirects ≡ (is_code 300 (code_of m) && is_none key)
    → Means b key m (cond challenges verdicts.Challenge (cond b verdicts.Genuine (cond signed verdicts.Unauthentic
    (cond redirects verdicts.Redirect (cond hints verdicts.Hint verdicts.Unauthentic)))))
means_by b true signed redirects hints key m p q = tt
means_by true false signed redirects hints key m p q = refl
means_by false false true redirects hints key m p q = tt
means_by false false false true hints key m p q = unsigned_300 key m p q
means_by false false false false true key m p q = tt
means_by false false false false false key m p q = tt

means_or : (malformed b : Bool) (key : Option (List ℕ)) (m : Message) (verdict : Verdict) → Means b key m verdict → Means b key m (cond malformed verdicts.Malformed verdict)
means_or true b key m verdict h = tt
means_or false b key m verdict h = h

pub means : (b is_last : Bool) (key : Option (List ℕ)) (c : Credentials) (m : Message) → Means b key m (verdict_of b is_last key (Some c) m)
means b is_last key c m =
    means_or (is_malformed m) b key m (verdict_with b is_last key c m) (means_by b (is_challenge (code_of m) && (b || is_none m.integrity))
    (is_some m.integrity) (is_code 300 (code_of m) && is_none key) (is_last && is_some c.password) key m refl refl)

-- ---- why an outcome may change what the client believes

abbrev IsReason : Bool → Option (List ℕ) → Message → Outcome → Type 0
IsReason b key m outcome = IsHarmless outcome ⊎ ((b ≡ true) ⊎ IsUnsigned300 key m)

harmless_of_three : (x y : Bool) (p q r : Outcome) → IsHarmless p → IsHarmless q → IsHarmless r → IsHarmless (cond x p (cond y q r))
harmless_of_three true y p q r a b c = a
harmless_of_three false true p q r a b c = b
harmless_of_three false false p q r a b c = c

harmless_challenge : (o : Operation) (a : Attempt) (code : ℕ) (unknown : Bool) → IsHarmless (on_challenge o a code unknown)
harmless_challenge o a code unknown = harmless_of_three (not (takes_challenge a.id (is_some a.key) code o)) (code == 401 && is_some a.key && unknown)
    (Dropped reasons.Challenge) (Hinted code) (Challenged (is_some a.key) code) tt tt tt

reason_by : (verdict : Verdict) (b : Bool) (phase : Phase) (unknown : Bool) (o : Operation) (a : Attempt) (m : Message) (alternate : Option SocketAddr)
    → Means b a.key m verdict → IsReason b a.key m (outcome_by verdict phase unknown o a m alternate)
reason_by verdicts.Malformed b phase unknown o a m alternate h = inl tt
reason_by verdicts.Unauthentic b phase unknown o a m alternate h = inl tt
reason_by verdicts.Hint b phase unknown o a m alternate h = inl tt
reason_by verdicts.Challenge b phase unknown o a m alternate h = inl (harmless_challenge o a (code_or_success m) unknown)
reason_by verdicts.Redirect b phase unknown o a m alternate h = inr (inr h)
reason_by verdicts.Genuine b phase unknown o a m alternate h = inr (inl h)

reason_or : (b : Bool) (phase : Phase) (c : Credentials) (m : Message) (alternate : Option SocketAddr) (o : Operation) (a : Option Attempt)
    → IsReason b (key_in a) m (outcome_or b phase (Some c) m alternate o a)
reason_or b phase c m alternate o None = inl tt
reason_or b phase c m alternate o (Some a) =
    reason_by (verdict_of b (is_last_sent a o) a.key (Some c) m) b phase (is_unknown (Some c)) o a m alternate (means b (is_last_sent a o) a.key c m)

reason_with : (b : Bool) (phase : Phase) (c : Credentials) (m : Message) (alternate : Option SocketAddr) (o : Option Operation)
    → IsReason b (key_in (answered_by m o)) m (outcome_with b phase (Some c) m alternate o)
reason_with b phase c m alternate None = inl tt
reason_with b phase c m alternate (Some o) = reason_or b phase c m alternate o (answered_in m o)

-- ---- the theorem, of a response to the request for the allocation

abbrev pub OnlyByOwn : (List ℕ → List ℕ → List ℕ) → List ℕ → Session → Option Credentials → Session → Type 0
OnlyByOwn mac bytes s c new = IsSome c → SameBelief s new ⊎ (IsGenuine mac bytes s ⊎ IsRedirection bytes s)

by_reason : (mac : List ℕ → List ℕ → List ℕ) (now : Instant) (m : Message) (alternate : Option SocketAddr) (s : Session) (c : Credentials)
    (result : Receipt) (new : Session) (c_new : Option Credentials) (bytes : List ℕ) → datagram_of bytes ≡ response m
    → (step : IsAnswered mac now m alternate s (Some c) result new c_new) → IsReason step.0 (key_answered m s) m (outcome_for step.0 s (Some c) m alternate)
    → OnlyByOwn mac bytes s (Some c) new
by_reason mac now m alternate s c result new c_new bytes read step (inl h) =
    λ some. inl (harmless now (outcome_for step.0 s (Some c) m alternate) m.attributes.realm m.attributes.nonce s (Some c) result new c_new h step.2)
by_reason mac now m alternate s c result new c_new bytes read step (inr (inl signed)) = λ some. inr (inl (m, read, step.1.0 signed))
by_reason mac now m alternate s c result new c_new bytes read step (inr (inr h)) =
    λ some. inr (inr (record { message = m; read = read; code = h.0; unsigned = h.1; first = h.2 }))

pub only_genuine : (mac : List ℕ → List ℕ → List ℕ) (now : Instant) (m : Message) (alternate : Option SocketAddr) (s : Session) (c : Option Credentials)
    (result : Receipt) (new : Session) (c_new : Option Credentials) (bytes : List ℕ) → datagram_of bytes ≡ response m
    → IsAnswered mac now m alternate s c result new c_new → OnlyByOwn mac bytes s c new
only_genuine mac now m alternate s None result new c_new bytes read step = λ some. absurd (cc some)
only_genuine mac now m alternate s (Some c) result new c_new bytes read step =
    by_reason mac now m alternate s c result new c_new bytes read step (reason_with step.0 s.phase c m alternate s.operation)

-- ---- the request for a lease

-- an outcome after which the client believes what it did: any but an error response other than 300
abbrev IsCalm : Outcome → Type 0
IsCalm (Failed code) = code ≡ 300
IsCalm _ = Unit {0}

calm_of_three : (x y : Bool) (p q r : Outcome) → IsCalm p → IsCalm q → IsCalm r → IsCalm (cond x p (cond y q r))
calm_of_three true y p q r a b c = a
calm_of_three false true p q r a b c = b
calm_of_three false false p q r a b c = c

calm_alternate : (phase : Phase) → IsCalm (on_alternate phase None)
calm_alternate phases.New = refl
calm_alternate phases.Asking = refl
calm_alternate phases.Leaving = refl
calm_alternate phases.Ready = refl
calm_alternate phases.Closing = refl
calm_alternate phases.Ended = refl

calm_by : (verdict : Verdict) (b : Bool) (phase : Phase) (unknown : Bool) (o : Operation) (a : Attempt) (m : Message)
    → Means b a.key m verdict → IsCalm (outcome_by verdict phase unknown o a m None) ⊎ (b ≡ true)
calm_by verdicts.Malformed b phase unknown o a m h = inl tt
calm_by verdicts.Unauthentic b phase unknown o a m h = inl tt
calm_by verdicts.Hint b phase unknown o a m h = inl tt
calm_by verdicts.Challenge b phase unknown o a m h =
    inl (calm_of_three (not (takes_challenge a.id (is_some a.key) (code_or_success m) o)) (code_or_success m == 401 && is_some a.key && unknown)
    (Dropped reasons.Challenge) (Hinted (code_or_success m)) (Challenged (is_some a.key) (code_or_success m)) tt tt tt)
calm_by verdicts.Redirect b phase unknown o a m h = inl (calm_alternate phase)
calm_by verdicts.Genuine b phase unknown o a m h = inr h

calm_or : (b : Bool) (phase : Phase) (c : Credentials) (m : Message) (o : Operation) (a : Option Attempt)
    → IsCalm (outcome_or b phase (Some c) m None o a) ⊎ (b ≡ true)
calm_or b phase c m o None = inl tt
calm_or b phase c m o (Some a) =
    calm_by (verdict_of b (is_last_sent a o) a.key (Some c) m) b phase (is_unknown (Some c)) o a m (means b (is_last_sent a o) a.key c m)

calm_with : (b : Bool) (phase : Phase) (c : Credentials) (m : Message) (o : Option Operation)
    → IsCalm (outcome_with b phase (Some c) m None o) ⊎ (b ≡ true)
calm_with b phase c m None = inl tt
calm_with b phase c m (Some o) = calm_or b phase c m o (answered_in m o)

same_if : (b : Bool) (s x y : Session) → SameBelief s x → SameBelief s y → SameBelief s (cond b x y)
same_if true s x y p q = p
same_if false s x y p q = q

same_probed : (now : Instant) (s : Session) → SameBelief s (probed now s)
same_probed now s =
    same_if (is_ready s.phase && is_none s.operation) s (with_request now (Refresh s.lifetime) s) s (refl, refl, refl, refl) (refl, refl, refl, refl)

calm_lease : (now : Instant) (place : ℕ) (outcome : Outcome) (realm nonce : Option (List ℕ)) (s : Session) (l : List Lease) (c : Option Credentials)
    (result : Receipt) (new : Session) (l_new : List Lease) (c_new : Option Credentials) → IsCalm outcome
    → LeaseApplies now place outcome realm nonce s l c result new l_new c_new → SameBelief s new
calm_lease now place (Dropped reason) realm _ s l c result new l_new c_new h step = believes s s new (refl, refl, refl, refl) step.1
calm_lease now place (Doubted code) realm _ s l c result new l_new c_new h step = believes s s new (refl, refl, refl, refl) step.1
calm_lease now place (Hinted code) realm _ s l c result new l_new c_new h step = believes s s new (refl, refl, refl, refl) step.1
calm_lease now place (Challenged b code) realm _ s l c result new l_new c_new h step = believes s s new (refl, refl, refl, refl) step.0
calm_lease now place (Lasting since) realm _ s l c result new l_new c_new h step = believes s s new (refl, refl, refl, refl) step.1
calm_lease now place (Failed code) realm _ s l c result new l_new c_new h step =
    believes s (lease_failed now code s) new (subst (λ (n : ℕ). SameBelief s (lease_failed now n s)) (sym h) (same_probed now s)) step.1
calm_lease now place (Allocated since seconds allocation) realm _ s l c result new l_new c_new h step =
    believes s s new (refl, refl, refl, refl) step.1
calm_lease now place (Refreshed since seconds) realm _ s l c result new l_new c_new h step = believes s s new (refl, refl, refl, refl) step.1
calm_lease now place (Redirected server) realm _ s l c result new l_new c_new h step = believes s s new (refl, refl, refl, refl) step.1

by_lease : (mac : List ℕ → List ℕ → List ℕ) (now : Instant) (m : Message) (place : ℕ) (s : Session) (l : List Lease) (c : Credentials)
    (result : Receipt) (new : Session) (l_new : List Lease) (c_new : Option Credentials) (bytes : List ℕ) → datagram_of bytes ≡ response m
    → (step : IsLeaseAnswered mac now m place s l (Some c) result new l_new c_new)
    → IsCalm (outcome_with step.0 s.phase (Some c) m None (at_place place l).operation) ⊎ (step.0 ≡ true)
    → OnlyByGenuine mac bytes s l (Some c) new
by_lease mac now m place s l c result new l_new c_new bytes read step (inl calm) =
    λ some. inl (calm_lease now place (outcome_with step.0 s.phase (Some c) m None (at_place place l).operation) m.attributes.realm
    m.attributes.nonce s l (Some c) result new l_new c_new calm step.2)
by_lease mac now m place s l c result new l_new c_new bytes read step (inr signed) =
    λ some. inr (inr (m, place, read, step.1.0 signed))

lease_genuine : (mac : List ℕ → List ℕ → List ℕ) (now : Instant) (m : Message) (place : ℕ) (s : Session) (l : List Lease) (c : Option Credentials)
    (result : Receipt) (new : Session) (l_new : List Lease) (c_new : Option Credentials) (bytes : List ℕ) → datagram_of bytes ≡ response m
    → IsLeaseAnswered mac now m place s l c result new l_new c_new → OnlyByGenuine mac bytes s l c new
lease_genuine mac now m place s l None result new l_new c_new bytes read step = λ some. absurd (cc some)
lease_genuine mac now m place s l (Some c) result new l_new c_new bytes read step =
    by_lease mac now m place s l c result new l_new c_new bytes read step (calm_with step.0 s.phase c m (at_place place l).operation)

-- ---- the theorem, of any response

widen : (A B C : Type 0) → A ⊎ B → A ⊎ (B ⊎ C)
widen A B C (inl a) = inl a
widen A B C (inr b) = inr (inl b)

pub responded_genuine : (p : Option ℕ) (mac : List ℕ → List ℕ → List ℕ) (now : Instant) (m : Message) (alternate : Option SocketAddr) (s : Session)
    (l : List Lease) (c : Option Credentials) (result : Receipt) (new : Session) (l_new : List Lease) (c_new : Option Credentials) (bytes : List ℕ)
    → datagram_of bytes ≡ response m → IsRespondedBy p mac now m alternate s l c result new l_new c_new → OnlyByGenuine mac bytes s l c new
responded_genuine None mac now m alternate s l c result new l_new c_new bytes read step =
    λ some. widen (SameBelief s new) (IsGenuine mac bytes s ⊎ IsRedirection bytes s) (IsLeaseGenuine mac bytes l)
    (only_genuine mac now m alternate s c result new c_new bytes read step.0 some)
responded_genuine (Some place) mac now m alternate s l c result new l_new c_new bytes read step =
    lease_genuine mac now m place s l c result new l_new c_new bytes read step

pub responded_answers : (p : Option ℕ) (mac : List ℕ → List ℕ → List ℕ) (now : Instant) (m : Message) (alternate : Option SocketAddr) (s : Session)
    (l : List Lease) (c : Option Credentials) (result : Receipt) (new : Session) (l_new : List Lease) (c_new : Option Credentials)
    (source : SocketAddr) (bytes : List ℕ) → source ≡ s.server → datagram_of bytes ≡ response m → position (is_answered_by m) l ≡ p
    → IsRespondedBy p mac now m alternate s l c result new l_new c_new → IsWhole s c new c_new ⊎ (Answers source bytes s ⊎ AnswersLease source bytes s l)
responded_answers None mac now m alternate s l c result new l_new c_new source bytes server read at step =
    widen (IsWhole s c new c_new) (Answers source bytes s) (AnswersLease source bytes s l)
    (only_answers mac now m alternate s c result new c_new source bytes server read step.0)
responded_answers (Some place) mac now m alternate s l c result new l_new c_new source bytes server read at step =
    inr (inr (record { server = server; message = m; read = read; place = subst (λ (o : Option ℕ). IsSome o) (sym at) refl }))

-- ---- realm and key stay once they are confirmed

pin_if : (b : Bool) (last : Challenge) (nonce : List ℕ) (k : Credentials) → pin_in k.challenge ≡ pin_in (Some last)
    → pin_in (with_challenge (cond b (Some (record last { nonce = nonce })) None) k).0.challenge ≡ pin_in (Some last)
pin_if true last nonce k h = refl
pin_if false last nonce k h = h

pin_by : (username realm nonce : List ℕ) (challenge : Option Challenge) (k : Credentials) → pin_in k.challenge ≡ pin_in challenge
    → pin_in (with_challenge (challenge_by username realm nonce None challenge) k).0.challenge ≡ pin_in challenge
pin_by username realm nonce None k h = h
pin_by username realm nonce (Some last) k h = pin_if (bytes_eq last.realm realm) last nonce k h

pin_short : (long : Bool) (realm nonce : List ℕ) (k : Credentials) → k.password ≡ None
    → pin_in (cond long (k, false) (with_challenge (challenge_by k.username realm nonce k.password k.challenge) k)).0.challenge ≡ pin_in k.challenge
pin_short true realm nonce k h = refl
pin_short false realm nonce k h =
    subst (λ (p : Option (List ℕ)). pin_in (with_challenge (challenge_by k.username realm nonce p k.challenge) k).0.challenge ≡ pin_in k.challenge)
    (sym h) (pin_by k.username realm nonce k.challenge k refl)

pin_challenged : (realm nonce : Option (List ℕ)) (k : Credentials) → k.password ≡ None → pin_in (challenged realm nonce k).0.challenge ≡ pin_in k.challenge
pin_challenged None _ k h = refl
pin_challenged (Some realm) None k h = refl
pin_challenged (Some realm) (Some nonce) k h = pin_short (nat_lt 763 (length realm) || nat_lt 763 (length nonce)) realm nonce k h

pin_without : (k : Credentials) → k.password ≡ None → pin_in (without_challenge k).challenge ≡ pin_in k.challenge
pin_without k h = rw h refl

pin_kept : (phase : Phase) (c x new : Option Credentials) → pin_of x ≡ pin_of c → new ≡ kept_in phase x → (new ≡ None) ⊎ (pin_of new ≡ pin_of c)
pin_kept phases.Ended c x new same h = inl h
pin_kept _ c x new same h = inr (ap pin_of h ∙ same)

pin_after : (now : Instant) (outcome : Outcome) (realm nonce : Option (List ℕ)) (s : Session) (k : Credentials) (result : Receipt)
    (new : Session) (c_new : Option Credentials) → k.password ≡ None → OutcomeApplies now outcome realm nonce s (Some k) result new c_new
    → (c_new ≡ None) ⊎ (pin_of c_new ≡ pin_of (Some k))
pin_after now (Dropped reason) realm _ s k result new c_new h step = inr (ap pin_of step.2)
pin_after now (Doubted code) realm _ s k result new c_new h step = inr (ap pin_of step.2)
pin_after now (Hinted code) realm _ s k result new c_new h step = inr (ap pin_of step.2)
pin_after now (Challenged b code) realm nonce s k result new c_new h step = inr (ap pin_of step.2 ∙ pin_challenged realm nonce k h)
pin_after now (Allocated since seconds allocation) realm _ s k result new c_new h step = inr (ap pin_of step.2)
pin_after now (Refreshed since seconds) realm _ s k result new c_new h step =
    pin_kept (is_refreshed since seconds s).phase (Some k) (Some (forgotten k)) c_new refl step.2
pin_after now (Lasting since) realm _ s k result new c_new h step = inr (ap pin_of step.2)
pin_after now (Redirected server) realm _ s k result new c_new h step =
    pin_kept new.phase (Some k) (Some (without_challenge k)) c_new (pin_without k h) step.2
pin_after now (Failed code) realm _ s k result new c_new h step =
    pin_kept (has_failed now (Some code) s).phase (Some k) (Some (forgotten k)) c_new refl step.2

pub keeps_pin : (mac : List ℕ → List ℕ → List ℕ) (now : Instant) (m : Message) (alternate : Option SocketAddr) (s : Session) (c : Option Credentials)
    (result : Receipt) (new : Session) (c_new : Option Credentials) → IsAnswered mac now m alternate s c result new c_new → KeepsPin c c_new
keeps_pin mac now m alternate s None result new c_new step = λ confirmed. absurd confirmed
keeps_pin mac now m alternate s (Some k) result new c_new step = λ confirmed.
    pin_after now (outcome_for step.0 s (Some k) m alternate) m.attributes.realm m.attributes.nonce s k result new c_new confirmed step.2

pin_leased : (now : Instant) (place : ℕ) (outcome : Outcome) (realm nonce : Option (List ℕ)) (s : Session) (l : List Lease) (k : Credentials)
    (result : Receipt) (new : Session) (l_new : List Lease) (c_new : Option Credentials) → k.password ≡ None
    → LeaseApplies now place outcome realm nonce s l (Some k) result new l_new c_new → (c_new ≡ None) ⊎ (pin_of c_new ≡ pin_of (Some k))
pin_leased now place (Dropped reason) realm _ s l k result new l_new c_new h step = inr (ap pin_of step.3)
pin_leased now place (Doubted code) realm _ s l k result new l_new c_new h step = inr (ap pin_of step.3)
pin_leased now place (Hinted code) realm _ s l k result new l_new c_new h step = inr (ap pin_of step.3)
pin_leased now place (Challenged b code) realm nonce s l k result new l_new c_new h step =
    inr (ap pin_of step.1.2 ∙ pin_challenged realm nonce k h)
pin_leased now place (Lasting since) realm _ s l k result new l_new c_new h step = inr (ap pin_of step.3)
pin_leased now place (Failed code) realm _ s l k result new l_new c_new h step =
    pin_kept new.phase (Some k) (Some (forgotten k)) c_new refl step.3
pin_leased now place (Allocated since seconds allocation) realm _ s l k result new l_new c_new h step = inr (ap pin_of step.3)
pin_leased now place (Refreshed since seconds) realm _ s l k result new l_new c_new h step = inr (ap pin_of step.3)
pin_leased now place (Redirected server) realm _ s l k result new l_new c_new h step = inr (ap pin_of step.3)

lease_pin : (mac : List ℕ → List ℕ → List ℕ) (now : Instant) (m : Message) (place : ℕ) (s : Session) (l : List Lease) (c : Option Credentials)
    (result : Receipt) (new : Session) (l_new : List Lease) (c_new : Option Credentials)
    → IsLeaseAnswered mac now m place s l c result new l_new c_new → KeepsPin c c_new
lease_pin mac now m place s l None result new l_new c_new step = λ confirmed. absurd confirmed
lease_pin mac now m place s l (Some k) result new l_new c_new step = λ confirmed.
    pin_leased now place (outcome_with step.0 s.phase (Some k) m None (at_place place l).operation) m.attributes.realm m.attributes.nonce
    s l k result new l_new c_new confirmed step.2

pub responded_pin : (p : Option ℕ) (mac : List ℕ → List ℕ → List ℕ) (now : Instant) (m : Message) (alternate : Option SocketAddr) (s : Session)
    (l : List Lease) (c : Option Credentials) (result : Receipt) (new : Session) (l_new : List Lease) (c_new : Option Credentials)
    → IsRespondedBy p mac now m alternate s l c result new l_new c_new → KeepsPin c c_new
responded_pin None mac now m alternate s l c result new l_new c_new step = keeps_pin mac now m alternate s c result new c_new step.0
responded_pin (Some place) mac now m alternate s l c result new l_new c_new step = lease_pin mac now m place s l c result new l_new c_new step
