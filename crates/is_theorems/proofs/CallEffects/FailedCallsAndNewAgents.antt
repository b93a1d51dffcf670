-- A call that fails keeps the abstract state and the stream, and a newly created agent is sound.
use Rattle.is_theorems.proofs.Common.{◌&&◌, ◌==◌, ◌∙◌, ◌≡◌, added, AddLocalCandidate, AddRemoteCandidate, AddsLocal, AddsRemote}
use Rattle.is_theorems.proofs.Common.{AgentRecord, Answer, answer_by, ap, appended, arith, as_own, as_remote, BadCandidate, Becomes, Bool}
use Rattle.is_theorems.proofs.Common.{Call, candidate_at, candidate_priority, CandidateRecord, comes_again, CredentialsTooLong, Done, done}
use Rattle.is_theorems.proofs.Common.{enabled, enabled_again, EnrolsAt, Enters, Entry, Err, false, Flag, FreshIsSound, HandleTimeout}
use Rattle.is_theorems.proofs.Common.{Happened, has_selected, IceCreds, IceError, inl, inr, InvalidateCandidate, is_ignored, is_rejection}
use Rattle.is_theorems.proofs.Common.{is_same_place, is_too_high, is_unwanted, JoinsRemote, length, List, LiteStaysControlled}
use Rattle.is_theorems.proofs.Common.{local_discarded, loses_selected, MatchBool, MayDo, MaySelect, MtuTooSmall, nat_lt, NextTimeout, None}
use Rattle.is_theorems.proofs.Common.{not, NotCalled, nothing_emitted, Ok, Option, OutOfMemory, PairIdsExhausted, Path, Polled, PollEvent}
use Rattle.is_theorems.proofs.Common.{PollTimeout, PollTransmit, position, preferred, PriorityTooHigh, quiet, ReceivePacket, Receives}
use Rattle.is_theorems.proofs.Common.{RecreateCandidatePairs, Recreates, refl, RejectionKeeps, Reselects, RestartIce, Restarts, Result}
use Rattle.is_theorems.proofs.Common.{selected_only, SetConsent, SetControlling, SetControlTieBreaker, SetIceLite, SetInitialStunRto}
use Rattle.is_theorems.proofs.Common.{SetLiteTimeout, SetLocalCredentials, SetLocalPreference, SetMaxCandidatePairs, SetMaxCandidates, SetMaxDiscovered}
use Rattle.is_theorems.proofs.Common.{SetMaxStunRetransmits, SetMaxStunRto, SetMtu, SetProfile, SetRemoteCredentials, SetRenomination}
use Rattle.is_theorems.proofs.Common.{SetsLocal, SetsMtu, SetsRemote, SetTimingAdvance, updates_late, SkipPairIds, Some, Step, Stream, subst}
use Rattle.is_theorems.proofs.Common.{sym, true, with_retransmits, ℕ}
use Rattle.is_theorems.proofs.RuleEffects.UnchangedSettings.{either}

never : {A : Type 0} → false ≡ true → A
never h = cc

-- a result that is no error
no_rejection : {A : Type 0} (e : Entry) (a : Answer) → e.answer ≡ a → is_rejection a ≡ false → is_rejection e.answer ≡ true → A
no_rejection e a is isnt h = never (sym isnt ∙ ap is_rejection (sym is) ∙ h)

added-no : (place : Option ℕ) → is_rejection (added place) ≡ false
added-no None = refl
added-no (Some place) = refl

module _ {H P : Type 0} where
  pub mtu_kept : (old new : AgentRecord H P) (target warn : ℕ) (error : IceError) → SetsMtu old target warn (Err error) new → new ≡ old
  mtu_kept old new target warn MtuTooSmall h = h.1
  mtu_kept old new target warn (BadCandidate text) h = absurd h
  mtu_kept old new target warn OutOfMemory h = absurd h
  mtu_kept old new target warn PairIdsExhausted h = absurd h
  mtu_kept old new target warn CredentialsTooLong h = absurd h
  mtu_kept old new target warn PriorityTooHigh h = absurd h
  mtu_kept old new target warn LiteStaysControlled h = absurd h

  pub local_kept : (old new : AgentRecord H P) (creds : IceCreds) (error : IceError) → SetsLocal old creds (Err error) new → new ≡ old
  local_kept old new creds CredentialsTooLong h = h.1
  local_kept old new creds (BadCandidate text) h = absurd h
  local_kept old new creds OutOfMemory h = absurd h
  local_kept old new creds PairIdsExhausted h = absurd h
  local_kept old new creds MtuTooSmall h = absurd h
  local_kept old new creds PriorityTooHigh h = absurd h
  local_kept old new creds LiteStaysControlled h = absurd h

  pub remote_kept : (old new : AgentRecord H P) (creds : IceCreds) (error : IceError) → SetsRemote old creds (Err error) new → new ≡ old
  remote_kept old new creds CredentialsTooLong h = h.1
  remote_kept old new creds (BadCandidate text) h = absurd h
  remote_kept old new creds OutOfMemory h = absurd h
  remote_kept old new creds PairIdsExhausted h = absurd h
  remote_kept old new creds MtuTooSmall h = absurd h
  remote_kept old new creds PriorityTooHigh h = absurd h
  remote_kept old new creds LiteStaysControlled h = absurd h

  pub restart_kept : (old new : AgentRecord H P) (creds : IceCreds) (keep : Bool) (error : IceError) → Restarts old creds keep (Err error) new → new ≡ old
  restart_kept old new creds keep CredentialsTooLong h = h.1
  restart_kept old new creds keep OutOfMemory h = h.1
  restart_kept old new creds keep (BadCandidate text) h = absurd h
  restart_kept old new creds keep PairIdsExhausted h = absurd h
  restart_kept old new creds keep MtuTooSmall h = absurd h
  restart_kept old new creds keep PriorityTooHigh h = absurd h
  restart_kept old new creds keep LiteStaysControlled h = absurd h

  pub recreation_kept : (old new : AgentRecord H P) (error : IceError) → Recreates old (Err error) new → new ≡ old
  recreation_kept old new PairIdsExhausted h = h.1
  recreation_kept old new OutOfMemory h = h.1
  recreation_kept old new (BadCandidate text) h = absurd h
  recreation_kept old new CredentialsTooLong h = absurd h
  recreation_kept old new MtuTooSmall h = absurd h
  recreation_kept old new PriorityTooHigh h = absurd h
  recreation_kept old new LiteStaysControlled h = absurd h

  entry_kept : (old mid new : AgentRecord H P) (c : CandidateRecord) (place : ℕ) (error : IceError) → Enters old c place mid (Err error) new → new ≡ old
  entry_kept old mid new c place PairIdsExhausted h = h.1
  entry_kept old mid new c place OutOfMemory h = h.1
  entry_kept old mid new c place (BadCandidate text) h = absurd h
  entry_kept old mid new c place CredentialsTooLong h = absurd h
  entry_kept old mid new c place MtuTooSmall h = absurd h
  entry_kept old mid new c place PriorityTooHigh h = absurd h
  entry_kept old mid new c place LiteStaysControlled h = absurd h

  enrols_kept : (old new : AgentRecord H P) (c : CandidateRecord) (at : Option ℕ) (error : IceError) → EnrolsAt old c at (Err error) new → new ≡ old
  enrols_kept old new c None error h = entry_kept old (appended (as_own old c) old) new (as_own old c) (length old.local) error h
  enrols_kept old new c (Some place) error h = either (comes_again c (candidate_at old.local place)) h
      (λ _ k. entry_kept old (enabled_again place old) new (enabled (candidate_at old.local place)) place error k)
      (λ _ k. either (nat_lt (candidate_priority c) (candidate_priority (candidate_at old.local place))) k
      (λ _ n. absurd n)
      (λ _ n. entry_kept old (appended (as_own old c) (local_discarded place old)) new (as_own old c) (length old.local) error n))

  pub enrolment_kept : (answers : P → CandidateRecord → ℕ → ℕ → Type 0) (old new : AgentRecord H P) (c : CandidateRecord) (error : IceError)
      → AddsLocal answers old c (Err error) new → new ≡ old
  enrolment_kept answers old new c error h = either (is_too_high c) h
      (λ _ k. k.1)
      (λ _ k. either (is_unwanted old c) k
      (λ _ n. absurd n)
      (λ _ n. enrols_kept old new (preferred n.0 c) (position (is_same_place (preferred n.0 c)) old.local) error n.2))

  joining_kept : (old new : AgentRecord H P) (c : CandidateRecord) (error : IceError) → JoinsRemote old c (Err error) new → new ≡ old
  joining_kept old new c PairIdsExhausted h = h.1
  joining_kept old new c OutOfMemory h = h.1
  joining_kept old new c (BadCandidate text) h = absurd h
  joining_kept old new c CredentialsTooLong h = absurd h
  joining_kept old new c MtuTooSmall h = absurd h
  joining_kept old new c PriorityTooHigh h = absurd h
  joining_kept old new c LiteStaysControlled h = absurd h

  pub storing_kept : (old new : AgentRecord H P) (c : CandidateRecord) (error : IceError) → AddsRemote old c (Err error) new → new ≡ old
  storing_kept old new c error h = either (is_ignored old c) h (λ _ k. absurd k) (λ _ k. joining_kept old new (as_remote c) error k)

  -- a call that changes nothing selects no path
  loses-none : (a : AgentRecord H P) → loses_selected a a ≡ false
  loses-none a = by (updates_late a) (has_selected a) where
    by : (rule has : Bool) → (rule && has && not has) ≡ false
    by true true = refl
    by true false = refl
    by false has = refl

  stays_same : (old mid new : AgentRecord H P) (path : Option Path) → mid ≡ old → Reselects (loses_selected old mid) mid path new → (path ≡ None) × (new ≡ old)
  stays_same old mid new path same h =
      let none : loses_selected old mid ≡ false = ap (λ (a : AgentRecord H P). loses_selected old a) same ∙ loses-none old in
      let k = subst (λ b. Reselects b mid path new) none h in (k.0, k.1 ∙ same)

  module _ (mac : H → List ℕ → List ℕ → List ℕ) (answers : P → CandidateRecord → ℕ → ℕ → Type 0) (old new : AgentRecord H P) (s t : Stream) (e : Entry) where
    abbrev Kept : Type 0
    Kept = (new ≡ old) × (t ≡ s)

    silent : {A : Type 0} (a : Answer) → e ≡ quiet a → is_rejection a ≡ false → is_rejection e.answer ≡ true → A
    silent a is isnt r = no_rejection e a (ap (λ (x : Entry). x.answer) is) isnt r

    does : (Does : Result (Unit {0}) IceError → AgentRecord H P → Type 0) → ((error : IceError) → Does (Err error) new → new ≡ old)
        → MayDo Does s e new t → is_rejection e.answer ≡ true → Kept
    does Does kept (Ok done, is, h, same) r = silent Done is refl r
    does Does kept (Err error, is, h, same) r = (kept error h, same)

    -- a call that may select another path
    pub selects : {A : Type 0} (to_answer : A → Answer) (Does : Result A IceError → AgentRecord H P → Type 0) → ((x : A) → is_rejection (to_answer x) ≡ false)
        → ((mid : AgentRecord H P) (error : IceError) → Does (Err error) mid → mid ≡ old)
        → MaySelect (answer_by to_answer) Does old s e new t → is_rejection e.answer ≡ true → Kept × (e.emitted ≡ nothing_emitted)
    selects to_answer Does isnt kept (Ok x, emitted, is, h, same) r = no_rejection e (to_answer x) (ap (λ (y : Entry). y.answer) is) (isnt x) r
    selects to_answer Does isnt kept (Err error, emitted, is, (path, mid, h, again, out), same) r =
        let k = stays_same old mid new path (kept mid error h) again in
        ((k.1, same), ap (λ (y : Entry). y.emitted) is ∙ out ∙ ap selected_only k.0)

    pub selects_local : (c : CandidateRecord) → Step mac answers old s (AddLocalCandidate c) e new t
        → is_rejection e.answer ≡ true → Kept × (e.emitted ≡ nothing_emitted)
    selects_local c h r = selects added (AddsLocal answers old c) added-no (λ mid error k. enrolment_kept answers old mid c error k) h r

    pub selects_remote : (c : CandidateRecord) → Step mac answers old s (AddRemoteCandidate c) e new t
        → is_rejection e.answer ≡ true → Kept × (e.emitted ≡ nothing_emitted)
    selects_remote c h r = selects done (AddsRemote old c) (λ u. refl) (λ mid error k. storing_kept old mid c error k) h r

    pub selects_without : (c : CandidateRecord) → Step mac answers old s (InvalidateCandidate c) e new t
        → is_rejection e.answer ≡ true → Kept × (e.emitted ≡ nothing_emitted)
    selects_without c (found, emitted, is, h, same) r = no_rejection e (Flag found) (ap (λ (x : Entry). x.answer) is) refl r

    receives : (now : ℕ) (path : Path) (bytes : List ℕ) → Receives mac answers now old path bytes e new → is_rejection e.answer ≡ true → new ≡ old
    receives now path bytes (inl (fault, has, is, same)) r = same
    receives now path bytes (inr (m, reads, (Ok flag, emitted, is, h))) r = no_rejection e (Flag flag) (ap (λ (x : Entry). x.answer) is) refl r
    receives now path bytes (inr (m, reads, (Err error, emitted, is, h))) r = h.2

    retransmits : (b : Bool) (n : ℕ) → MatchBool b ((e ≡ quiet NotCalled) × (new ≡ old) × (t ≡ s)) (Becomes (with_retransmits n old) s e new t)
        → is_rejection e.answer ≡ true → Kept
    retransmits true n h r = silent NotCalled h.0 refl r
    retransmits false n h r = silent Done h.0 refl r

    pub kept : (call : Call P) → Step mac answers old s call e new t → is_rejection e.answer ≡ true → Kept
    kept (SetMtu target warn) h r = does (SetsMtu old target warn) (mtu_kept old new target warn) h r
    kept (SetControlTieBreaker tie) h r = silent Done h.0 refl r
    kept (SetMaxCandidatePairs n) h r = silent Done h.0 refl r
    kept (SetMaxDiscovered n) h r = silent Done h.0 refl r
    kept (SetMaxCandidates n) h r = silent Done h.0 refl r
    kept (SetIceLite lite) h r = silent Done h.0 refl r
    kept (SetRenomination on) h r = silent Done h.0 refl r
    kept (SetProfile profile) h r = silent Done h.0 refl r
    kept (SetConsent consent) h r = silent Done h.0 refl r
    kept (SetTimingAdvance by) h r = silent Done h.0 refl r
    kept (SetInitialStunRto rto) h r = silent Done h.0 refl r
    kept (SetMaxStunRto rto) h r = silent Done h.0 refl r
    kept (SetMaxStunRetransmits n) h r = retransmits (n == 0) n h r
    kept (SetLiteTimeout by) h r = silent Done h.0 refl r
    kept (SetLocalPreference object) h r = silent Done h.0 refl r
    kept (SetControlling controlling) h r = silent Done h.0 refl r
    kept (SetLocalCredentials creds) h r = does (SetsLocal old creds) (local_kept old new creds) h r
    kept (SetRemoteCredentials creds) h r = does (SetsRemote old creds) (remote_kept old new creds) h r
    kept (SkipPairIds n) h r = silent Done h.0 refl r
    kept (AddLocalCandidate c) h r = (selects_local c h r).0
    kept (AddRemoteCandidate c) h r = (selects_remote c h r).0
    kept (InvalidateCandidate c) h r = (selects_without c h r).0
    kept (RestartIce creds keep) h r = does (Restarts old creds keep) (restart_kept old new creds keep) h r
    kept RecreateCandidatePairs h r = does (Recreates old) (recreation_kept old new) h r
    kept (ReceivePacket now path bytes) h r = (receives now path bytes h.0 r, h.1)
    kept (HandleTimeout now) (Ok done, emitted, is, h) r = no_rejection e Done (ap (λ (x : Entry). x.answer) is) refl r
    kept (HandleTimeout now) (Err error, emitted, is, h) r = (h.2, h.3)
    kept PollTransmit h r = silent (Polled h.0) h.1 refl r
    kept PollTimeout h r = silent (NextTimeout h.0) h.1 refl r
    kept PollEvent h r = silent (Happened h.0) h.1 refl r

  pub rejection_keeps : (mac : H → List ℕ → List ℕ → List ℕ) (answers : P → CandidateRecord → ℕ → ℕ → Type 0) → RejectionKeeps mac answers
  rejection_keeps mac answers old new s t call e step r = kept mac answers old new s t e call step r

pub fresh_sound : (H P : Type 0) → FreshIsSound H P
fresh_sound H P provider creds tie_breaker = record {
  placed = λ p has. absurd has;
  rising = refl;
  below = refl;
  selected_paths = _;
  started = λ p c has keeps. absurd has;
  consented = λ p has. absurd has;
  checks = omega arith;
  queued = omega arith;
  based = λ c has. absurd has;
}
