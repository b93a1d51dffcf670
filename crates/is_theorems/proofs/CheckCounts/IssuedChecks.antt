-- Only a `handle_timeout` call that serves no early request sends a check, and its time is the last time then. All other calls leave the
-- last time, except that one that serves an early request may be the first. Each check is charged.
use Rattle.is_stun.specs.declared.header.Class.TheVariants as class
use Rattle.is_theorems.proofs.Common.{◌∙◌, ◌≡◌, ◌⊎◌, Absent, AddLocalCandidate, AddRemoteCandidate, AddsUnknownSender, AgentRecord, ap}
use Rattle.is_theorems.proofs.Common.{at_request, Barred, Bool, Call, candidate_at, CandidateRecord, charged_after, Class, Conflict}
use Rattle.is_theorems.proofs.Common.{conflict_of, CountsAndServes, Drops, Emitted, Entry, Err, false, FindsOrAddsPair, formed, Full}
use Rattle.is_theorems.proofs.Common.{HandlesFailure, HandleTimeout, IceCreds, if◌then◌else◌, in_turn, inl, inr, InvalidateCandidate}
use Rattle.is_theorems.proofs.Common.{is_for_other_peer, is_misled, is_modern, is_request, is_timeout, Issued, Known, List, local_place}
use Rattle.is_theorems.proofs.Common.{MaintainsPairs, MatchOption, Message, None, Ok, Option, option_map_or, Path, PollEvent, PollTimeout}
use Rattle.is_theorems.proofs.Common.{PollTransmit, Queues, ReceivePacket, Receives, RecordsAndResponds, RecreateCandidatePairs, refl}
use Rattle.is_theorems.proofs.Common.{RemotePlace, request_at, request_counted, request_in, RequestRecord, ResolvesRoleConflict}
use Rattle.is_theorems.proofs.Common.{ResolvesRoleConflictBy, RestartIce, Send487, sends_check, Serves, ServesQueued, SetConsent}
use Rattle.is_theorems.proofs.Common.{SetControlling, SetControlTieBreaker, SetIceLite, SetInitialStunRto, SetLiteTimeout}
use Rattle.is_theorems.proofs.Common.{SetLocalCredentials, SetLocalPreference, SetMaxCandidatePairs, SetMaxCandidates, SetMaxDiscovered}
use Rattle.is_theorems.proofs.Common.{SetMaxStunRetransmits, SetMaxStunRto, SetMtu, SetProfile, SetRemoteCredentials, SetRenomination}
use Rattle.is_theorems.proofs.Common.{SetTimingAdvance, SkipPairIds, Some, Step, Stream, switched, SwitchRole, sym, Takes, timeout_begun}
use Rattle.is_theorems.proofs.Common.{true, Unknown, unwrap_or, Vacant, with_pair, with_sender, with_sender_at, ℕ}
use Rattle.is_theorems.proofs.CallEffects.CallsThatEmitNothing.{calm, is_calm}
use Rattle.is_theorems.proofs.PunctualTimeouts.UnchangedPacing.{Pace, maintains, serves}
use Rattle.is_theorems.proofs.RuleEffects.NotedErrors.{by_failure}
use Rattle.is_theorems.proofs.RuleEffects.UnchangedSettings.{either}

-- ---- what is issued

abbrev asks : Emitted → Bool
asks emitted = option_map_or (λ (issued : Issued). is_request issued.class) emitted.issued false

of : (x emitted : Emitted) → emitted ≡ x → asks x ≡ false → asks emitted ≡ false
of x emitted is h = ap (λ (y : Emitted). asks y) is ∙ h

module _ {H P : Type 0} where
  drops : (s new : AgentRecord H P) (emitted : Emitted) → Drops s emitted new → asks emitted ≡ false
  drops s new emitted h = of _ emitted h.0 refl

  module _ (mac : H → List ℕ → List ℕ → List ℕ) (q : RequestRecord) where
    pair : (l r number : ℕ) (s new : AgentRecord H P) (emitted : Emitted) → RecordsAndResponds mac q l r number s emitted new → asks emitted ≡ false
    pair l r number s new emitted (path, mid, nominates, (values, is, made)) = of _ emitted is refl

    takes : (l r : ℕ) (number : Option ℕ) (s new : AgentRecord H P) (emitted : Emitted) → FindsOrAddsPair mac q l r number s emitted new → asks emitted ≡ false
    takes l r (Some number) s new emitted h = pair l r number s new emitted h
    takes l r None s new emitted h = either (candidate_at s.local l).discarded h
        (λ _ k. drops s new emitted k)
        (λ _ k. pair l r s.next_number (with_pair (formed s l r) s) new emitted k.1)

    joins : (l : ℕ) (place : RemotePlace) (s new : AgentRecord H P) (emitted : Emitted) → AddsUnknownSender mac q l place s emitted new → asks emitted ≡ false
    joins l (Known r) s new emitted (number, between, h) = takes l r number s new emitted h
    joins l Barred s new emitted h = drops s new emitted h
    joins l Unknown s new emitted (number, between, h) = takes l _ number (with_sender q s) new emitted h
    joins l (Vacant r) s new emitted (number, between, h) = takes l r number (with_sender_at r q s) new emitted h
    joins l Full s new emitted h = drops s new emitted h

    admitted : (l : ℕ) (s new : AgentRecord H P) (emitted : Emitted) → CountsAndServes mac q l s emitted new → asks emitted ≡ false
    admitted l s new emitted h = either (is_misled s.controlling q) h
        (λ _ k. drops s new emitted k)
        (λ _ k. joins l k.0 (request_counted s) new emitted k.2)

    resolves : (conflict : Conflict) (l : ℕ) (s new : AgentRecord H P) (emitted : Emitted) → ResolvesRoleConflictBy mac conflict q l s emitted new → asks emitted ≡ false
    resolves Absent l s new emitted h = admitted l s new emitted h
    resolves Send487 l s new emitted (values, is, made) = of _ emitted is refl
    resolves SwitchRole l s new emitted h = admitted l (switched s) new emitted h

    here : (place : Option ℕ) (s new : AgentRecord H P) (emitted : Emitted) → MatchOption place (Drops s emitted new) (λ l. ResolvesRoleConflict mac q l s emitted new) → asks emitted ≡ false
    here None s new emitted h = drops s new emitted h
    here (Some l) s new emitted h = resolves (conflict_of s q) l s new emitted h

    responds : (s new : AgentRecord H P) (emitted : Emitted) → Serves mac q s emitted new → asks emitted ≡ false
    responds s new emitted h = either (is_for_other_peer s q) (in_turn mac q s new emitted h)
        (λ _ k. drops s new emitted k)
        (λ _ k. here (local_place s.local q) s new emitted k)

    requested : (remote : Option IceCreds) (s new : AgentRecord H P) (emitted : Emitted) → MatchOption remote (Queues q s emitted new) (λ _. Serves mac q s emitted new) → asks emitted ≡ false
    requested None s new emitted h = of _ emitted h.0 refl
    requested (Some peer) s new emitted h = responds s new emitted h

  module _ (mac : H → List ℕ → List ℕ → List ℕ) (answers : P → CandidateRecord → ℕ → ℕ → Type 0) where
    failure : (old new : AgentRecord H P) (via : Path) (m : Message) (emitted : Emitted) → HandlesFailure old via m emitted new → asks emitted ≡ false
    failure old new via m emitted h = by_failure (λ x _. asks x ≡ false) old new via m emitted (λ code. refl) (λ code. refl) h

    by-class : (c : Class) (now : ℕ) (old mid : AgentRecord H P) (via : Path) (m : Message) (emitted : Emitted) → Takes mac c now old via m emitted mid → asks emitted ≡ false
    by-class class.Request now old mid via m emitted h = requested mac (request_in now via m) old.remote_creds old mid emitted h
    by-class class.Success now old mid via m emitted (recorded, records, (path, named, nominates, is, done)) = of _ emitted is refl
    by-class class.Failure now old mid via m emitted h = failure old mid via m emitted h
    by-class class.Indication now old mid via m emitted h = absurd h
    by-class class.Unknown now old mid via m emitted h = absurd h

    entered : (x e : Entry) → e ≡ x → asks x.emitted ≡ false → sends_check e ≡ false
    entered x e is h = ap (λ (y : Entry). sends_check y) is ∙ h

    received : (now : ℕ) (old new : AgentRecord H P) (via : Path) (bytes : List ℕ) (e : Entry) → Receives mac answers now old via bytes e new → sends_check e ≡ false
    received now old new via bytes e (inl (fault, has, is, made)) = entered _ e is refl
    received now old new via bytes e (inr (m, reads, (Ok true, emitted, is, (accepted, (mid, takes_it, made))))) =
        entered _ e is (by-class m.class now old mid via m emitted takes_it)
    received now old new via bytes e (inr (m, reads, (Ok false, emitted, is, (no_one, nothing, made)))) = entered _ e is (of _ emitted nothing refl)
    received now old new via bytes e (inr (m, reads, (Err error, emitted, is, (may, nothing, made)))) = entered _ e is (of _ emitted nothing refl)

    quiet-call : (call : Call P) (old new : AgentRecord H P) (s t : Stream) (e : Entry) → is_calm call ≡ true → Step mac answers old s call e new t → sends_check e ≡ false
    quiet-call call old new s t e is h = ap (λ (o : Option Issued). option_map_or (λ (issued : Issued). is_request issued.class) o false) (calm mac answers old new s t e call is h).issued

    -- no other call sends a check
    pub others-send-none : (call : Call P) (old new : AgentRecord H P) (s t : Stream) (e : Entry) → is_timeout call ≡ false → Step mac answers old s call e new t → sends_check e ≡ false
    others-send-none (ReceivePacket now via bytes) old new s t e is (h, drawn) = received now old new via bytes e h
    others-send-none (HandleTimeout now) old new s t e is h = let no : true ≡ false = is in absurd (cc)
    others-send-none (SetMtu target warn) old new s t e is h = quiet-call (SetMtu target warn) old new s t e refl h
    others-send-none (SetControlTieBreaker tie) old new s t e is h = quiet-call (SetControlTieBreaker tie) old new s t e refl h
    others-send-none (SetMaxCandidatePairs n) old new s t e is h = quiet-call (SetMaxCandidatePairs n) old new s t e refl h
    others-send-none (SetMaxDiscovered n) old new s t e is h = quiet-call (SetMaxDiscovered n) old new s t e refl h
    others-send-none (SetMaxCandidates n) old new s t e is h = quiet-call (SetMaxCandidates n) old new s t e refl h
    others-send-none (SetIceLite lite) old new s t e is h = quiet-call (SetIceLite lite) old new s t e refl h
    others-send-none (SetRenomination on) old new s t e is h = quiet-call (SetRenomination on) old new s t e refl h
    others-send-none (SetProfile profile) old new s t e is h = quiet-call (SetProfile profile) old new s t e refl h
    others-send-none (SetConsent consent) old new s t e is h = quiet-call (SetConsent consent) old new s t e refl h
    others-send-none (SetTimingAdvance by) old new s t e is h = quiet-call (SetTimingAdvance by) old new s t e refl h
    others-send-none (SetInitialStunRto rto) old new s t e is h = quiet-call (SetInitialStunRto rto) old new s t e refl h
    others-send-none (SetMaxStunRto rto) old new s t e is h = quiet-call (SetMaxStunRto rto) old new s t e refl h
    others-send-none (SetMaxStunRetransmits n) old new s t e is h = quiet-call (SetMaxStunRetransmits n) old new s t e refl h
    others-send-none (SetLiteTimeout by) old new s t e is h = quiet-call (SetLiteTimeout by) old new s t e refl h
    others-send-none (SetLocalPreference object) old new s t e is h = quiet-call (SetLocalPreference object) old new s t e refl h
    others-send-none (SetControlling controlling) old new s t e is h = quiet-call (SetControlling controlling) old new s t e refl h
    others-send-none (SetLocalCredentials creds) old new s t e is h = quiet-call (SetLocalCredentials creds) old new s t e refl h
    others-send-none (SetRemoteCredentials creds) old new s t e is h = quiet-call (SetRemoteCredentials creds) old new s t e refl h
    others-send-none (SkipPairIds n) old new s t e is h = quiet-call (SkipPairIds n) old new s t e refl h
    others-send-none (AddLocalCandidate c) old new s t e is h = quiet-call (AddLocalCandidate c) old new s t e refl h
    others-send-none (AddRemoteCandidate c) old new s t e is h = quiet-call (AddRemoteCandidate c) old new s t e refl h
    others-send-none (InvalidateCandidate c) old new s t e is h = quiet-call (InvalidateCandidate c) old new s t e refl h
    others-send-none (RestartIce creds keep) old new s t e is h = quiet-call (RestartIce creds keep) old new s t e refl h
    others-send-none RecreateCandidatePairs old new s t e is h = quiet-call RecreateCandidatePairs old new s t e refl h
    others-send-none PollTransmit old new s t e is h = quiet-call PollTransmit old new s t e refl h
    others-send-none PollTimeout old new s t e is h = quiet-call PollTimeout old new s t e refl h
    others-send-none PollEvent old new s t e is h = quiet-call PollEvent old new s t e refl h

    -- ---- the time of the last call

    -- A `handle_timeout` call is the last one then, or it sends no check, and the last time stays.
    abbrev pub IsTimedAt : ℕ → Entry → AgentRecord H P → AgentRecord H P → Type 0
    IsTimedAt now e old new = (new.last_time ≡ Some now) ⊎ ((sends_check e ≡ false) × (new.last_time ≡ old.last_time))

    noted : (now : ℕ) (old : AgentRecord H P) → ((at_request now old).last_time ≡ Some now) ⊎ ((at_request now old).last_time ≡ old.last_time)
    noted now old = by (is_modern old.timing) old.last_time where
      by : (b : Bool) (o : Option ℕ) → ((if b then Some (unwrap_or o now) else o) ≡ Some now) ⊎ ((if b then Some (unwrap_or o now) else o) ≡ o)
      by false o = inr refl
      by true None = inl refl
      by true (Some at) = inr refl

    timed : (now : ℕ) (request : Option RequestRecord) (old new : AgentRecord H P) (s t : Stream) (emitted : Emitted) (e : Entry) → sends_check e ≡ asks emitted
        → MatchOption request (MaintainsPairs mac now old s emitted new t) (λ q. ServesQueued mac q (at_request now old) s emitted new t) → IsTimedAt now e old new
    timed now None old new s t emitted e same h = inl (ap (λ (p : Pace). p.clock.last_time) (maintains mac now old new s t emitted h))
    timed now (Some q) old new s t emitted e same h =
        let stays : new.last_time ≡ (at_request now old).last_time = ap (λ (p : Pace). p.clock.last_time) (serves mac q _ new emitted h.0) in
        elim (noted now old) [
          | inl now_is ↦ inl (stays ∙ now_is)
          | inr was ↦ inr (same ∙ responds mac q _ new emitted h.0, stays ∙ was)
        ]

    pub timeout-timed : (now : ℕ) (old new : AgentRecord H P) (s t : Stream) (e : Entry) → Step mac answers old s (HandleTimeout now) e new t → IsTimedAt now e old new
    timeout-timed now old new s t e (Ok _, emitted, is, h) =
        timed now (request_at now old) (timeout_begun now old) new s t emitted e (ap (λ (y : Entry). sends_check y) is) h
    timeout-timed now old new s t e (Err error, emitted, is, (may, nothing, made, drawn)) =
        inr (entered _ e is (of _ emitted nothing refl), ap (λ (a : AgentRecord H P). a.last_time) made)

    -- Each check is charged, and nothing else is.
    pub timeout-charged : (now : ℕ) (old new : AgentRecord H P) (s t : Stream) (e : Entry) → Step mac answers old s (HandleTimeout now) e new t
        → new.charged_until ≡ (if sends_check e then charged_after now old else old.charged_until)
    timeout-charged now old new s t e (Ok _, emitted, is, h) = by (request_at now old) h where
      after : Bool → ℕ
      after sends = if sends then charged_after now old else old.charged_until

      by : (request : Option RequestRecord)
          → MatchOption request (MaintainsPairs mac now (timeout_begun now old) s emitted new t) (λ q. ServesQueued mac q (at_request now (timeout_begun now old)) s emitted new t)
          → new.charged_until ≡ after (sends_check e)
      by None m = ap (λ (p : Pace). p.charged_until) (maintains mac now (timeout_begun now old) new s t emitted m) ∙ ap (λ (y : Entry). after (sends_check y)) (sym is)
      by (Some q) m =
          ap (λ (p : Pace). p.charged_until) (serves mac q _ new emitted m.0)
          ∙ ap after (sym (entered _ e is (responds mac q _ new emitted m.0)))
    timeout-charged now old new s t e (Err error, emitted, is, (may, nothing, made, drawn)) =
        ap (λ (a : AgentRecord H P). a.charged_until) made
        ∙ ap (λ b. if b then charged_after now old else old.charged_until) (sym (entered _ e is (of _ emitted nothing refl)))
