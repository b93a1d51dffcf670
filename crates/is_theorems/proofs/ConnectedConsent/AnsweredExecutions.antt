-- In an execution of an agent that is never lite, each valid pair has a check that got a response.
use Rattle.is_theorems.proofs.Common.{[], ◌&&◌, ◌==◌, ◌∷◌, ◌≡◌, added, AddLocalCandidate, AddRemoteCandidate, AddsLocal, AddsRemote}
use Rattle.is_theorems.proofs.Common.{AgentRecord, Answer, answer_by, AreNeverLite, scheduled, Bool, Call, CandidateRecord, done, emptied}
use Rattle.is_theorems.proofs.Common.{Entry, Err, Execution, false, Flag, HandleTimeout, IceCreds, IceError, inl, inr, InvalidateCandidate}
use Rattle.is_theorems.proofs.Common.{Invalidates, InvalidatesAt, is_local_at, is_remote_at, is_valid, IsFresh, List, lite_set_by}
use Rattle.is_theorems.proofs.Common.{local_discarded, local_to_discard, loses_selected, map, MayDo, MaySelect, None, not, Ok, Option}
use Rattle.is_theorems.proofs.Common.{PollEvent, PollTimeout, PollTransmit, ReceivePacket, RecreateCandidatePairs, Recreates, refl}
use Rattle.is_theorems.proofs.Common.{remote_discarded, remote_to_discard, RestartIce, Restarts, Result, SetConsent, SetControlling}
use Rattle.is_theorems.proofs.Common.{SetControlTieBreaker, SetIceLite, SetInitialStunRto, SetLiteTimeout, SetLocalCredentials}
use Rattle.is_theorems.proofs.Common.{SetLocalPreference, SetMaxCandidatePairs, SetMaxCandidates, SetMaxDiscovered, SetMaxStunRetransmits, SetMaxStunRto}
use Rattle.is_theorems.proofs.Common.{SetMtu, SetProfile, SetRemoteCredentials, SetRenomination, SetsLocal, SetsMtu, SetsRemote}
use Rattle.is_theorems.proofs.Common.{SetTimingAdvance, SkipPairIds, Some, Step, Stream, subst, sym, true, ValidHaveConsented, ℕ}
use Rattle.is_theorems.proofs.CallEffects.AddedCandidates.{by_adding_local, by_adding_remote, by_waking}
use Rattle.is_theorems.proofs.CallEffects.FailedCallsAndNewAgents.{mtu_kept, local_kept, remote_kept, restart_kept, recreation_kept}
use Rattle.is_theorems.proofs.CallEffects.FailedCallsAndNewAgents.{enrolment_kept, storing_kept}
use Rattle.is_theorems.proofs.ConnectedConsent.AnsweredPairs.{AreAnswered, answered-filter, answered-map, forms-firm, IsFirm, made-firm}
use Rattle.is_theorems.proofs.ConnectedConsent.AnsweredPairs.{received-firm, reselects-firm, timed-firm, unless-answered}
use Rattle.is_theorems.proofs.RuleEffects.UnchangedSettings.{either}

module _ {H P : Type 0} (mac : H → List ℕ → List ℕ → List ℕ) (answers : P → CandidateRecord → ℕ → ℕ → Type 0) where
  -- ---- calls

  -- a candidate is added or invalidated
  discards : (old new : AgentRecord H P) (l r : Option ℕ) (found : Bool) → InvalidatesAt l r old found new → IsFirm old → IsFirm new
  discards old new (Some place) r found (is, made) f =
      made-firm (local_discarded place old) new made (f.0, answered-filter (λ p. not (is_local_at place p)) old.pairs f.1)
  discards old new None (Some place) found (is, made) f =
      made-firm (remote_discarded place old) new made (f.0, answered-filter (λ p. not (is_remote_at place p)) old.pairs f.1)
  discards old new None None found (is, made) f = made-firm old new made f

  invalidates : (old new : AgentRecord H P) (c : CandidateRecord) (found : Bool) → Invalidates old c found new → IsFirm old → IsFirm new
  invalidates old new c found h f = discards old new (local_to_discard c old) (remote_to_discard c old) found h f

  signals : (old new : AgentRecord H P) (c : CandidateRecord) (r : Result (Unit {0}) IceError) → AddsRemote old c r new → IsFirm old → IsFirm new
  signals old new c (Ok _) h f = by_adding_remote old new c h
      (λ made. made-firm old new made f)
      (λ formed. forms-firm _ new _ formed f)
      (λ k lt addr formed. forms-firm _ new _ formed f)
  signals old new c (Err error) h f = made-firm old new (storing_kept old new c error h) f

  adds-local : (old new : AgentRecord H P) (c : CandidateRecord) (r : Result (Option ℕ) IceError) → AddsLocal answers old c r new → IsFirm old → IsFirm new
  adds-local old new c (Ok place) h f = by_adding_local old new answers c place h
      (λ made. made-firm old new made f)
      (λ x based formed. forms-firm _ new _ formed f)
      (λ k lt formed. forms-firm _ new _ formed f)
      (λ x based k formed. forms-firm _ new _ formed (f.0, answered-filter (λ p. not (is_local_at k p)) old.pairs f.1))
  adds-local old new c (Err error) h f = made-firm old new (enrolment_kept answers old new c error h) f

  module _ (old new : AgentRecord H P) (s t : Stream) (e : Entry) (f : IsFirm old) where
    kept : new ≡ old → IsFirm new
    kept made = made-firm old new made f

    may : (Does : Result (Unit {0}) IceError → AgentRecord H P → Type 0) → (Does (Ok _) new → IsFirm new) → ((error : IceError) → Does (Err error) new → new ≡ old) → MayDo Does s e new t → IsFirm new
    may Does done failed (Ok _, is, h, drawn) = done h
    may Does done failed (Err error, is, h, drawn) = kept (failed error h)

    restarts : (creds : IceCreds) (keep : Bool) → MayDo (Restarts old creds keep) s e new t → IsFirm new
    restarts creds keep (Ok _, is, (fits, made), drawn) = subst (λ (a : AgentRecord H P). IsFirm a) (sym made) (f.0, λ p has. absurd has)
    restarts creds keep (Err error, is, h, drawn) = kept (restart_kept old new creds keep error h)

    recreates : MayDo (Recreates old) s e new t → IsFirm new
    recreates (Ok _, is, (enough, formed), drawn) = forms-firm (emptied old) new _ formed (f.0, λ p has. absurd has)
    recreates (Err error, is, h, drawn) = kept (recreation_kept old new error h)

    selects : {A : Type 0} (to_answer : A → Answer) (Does : A → AgentRecord H P → Type 0)
        → ((mid : AgentRecord H P) (r : A) → Does r mid → IsFirm mid) → MaySelect to_answer Does old s e new t → IsFirm new
    selects to_answer Does does (r, emitted, is, (path, mid, h, again, out), drawn) = reselects-firm (loses_selected old mid) mid new path again (does mid r h)

    asks : (at : ℕ) → AreAnswered (map (scheduled at old.timing) old.pairs)
    asks at = answered-map (scheduled at old.timing) old.pairs (λ p a. a) f.1

    pub steps : (call : Call P) → lite_set_by call false ≡ false → Step mac answers old s call e new t → IsFirm new
    steps (SetMtu target warn) full h = may (SetsMtu old target warn) (λ k. subst (λ (a : AgentRecord H P). IsFirm a) (sym k.1) f) (mtu_kept old new target warn) h
    steps (SetControlTieBreaker tie) full (is, made, drawn) = subst (λ (a : AgentRecord H P). IsFirm a) (sym made) f
    steps (SetMaxCandidatePairs k) full (is, made, drawn) = subst (λ (a : AgentRecord H P). IsFirm a) (sym made) f
    steps (SetMaxDiscovered limit) full (is, made, drawn) = subst (λ (a : AgentRecord H P). IsFirm a) (sym made) f
    steps (SetMaxCandidates limit) full (is, made, drawn) = subst (λ (a : AgentRecord H P). IsFirm a) (sym made) f
    steps (SetIceLite lite) full (is, made, drawn) = subst (λ (a : AgentRecord H P). IsFirm a) (sym made) (full, f.1)
    steps (SetRenomination on) full (is, made, drawn) = subst (λ (a : AgentRecord H P). IsFirm a) (sym made) f
    steps (SetProfile profile) full (is, made, drawn) = subst (λ (a : AgentRecord H P). IsFirm a) (sym made) (f.0, f.1)
    steps (SetConsent consent) full (is, made, drawn) = subst (λ (a : AgentRecord H P). IsFirm a) (sym made) (f.0, f.1)
    steps (SetTimingAdvance by) full (is, made, drawn) = subst (λ (a : AgentRecord H P). IsFirm a) (sym made) f
    steps (SetInitialStunRto rto) full (is, made, drawn) = subst (λ (a : AgentRecord H P). IsFirm a) (sym made)
        (f.0, unless-answered (old.timing.initial_rto.0 == rto && old.timing.max_rto.0 == old.timing.max_rto.0) old.pairs f.1)
    steps (SetMaxStunRto rto) full (is, made, drawn) = subst (λ (a : AgentRecord H P). IsFirm a) (sym made)
        (f.0, unless-answered (old.timing.initial_rto.0 == old.timing.initial_rto.0 && old.timing.max_rto.0 == rto) old.pairs f.1)
    steps (SetMaxStunRetransmits k) full h = either (k == 0) h (λ _ x. kept x.1) (λ _ x. subst (λ (a : AgentRecord H P). IsFirm a) (sym x.1) f)
    steps (SetLiteTimeout timeout) full (is, made, drawn) = subst (λ (a : AgentRecord H P). IsFirm a) (sym made) f
    steps (SetLocalPreference object) full (is, made, drawn) = subst (λ (a : AgentRecord H P). IsFirm a) (sym made) f
    steps (SetControlling controlling) full (is, made, drawn) = subst (λ (a : AgentRecord H P). IsFirm a) (sym made) f
    steps (SetLocalCredentials creds) full h = may (SetsLocal old creds) (λ k. subst (λ (a : AgentRecord H P). IsFirm a) (sym k.1) f) (local_kept old new creds) h
    steps (SetRemoteCredentials creds) full h = may (SetsRemote old creds) (λ k. subst (λ (a : AgentRecord H P). IsFirm a) (sym k.1) f) (remote_kept old new creds) h
    steps (SkipPairIds k) full (is, made, drawn) = subst (λ (a : AgentRecord H P). IsFirm a) (sym made) f
    steps (AddLocalCandidate c) full h = selects (answer_by added) (AddsLocal answers old c) (λ mid r k. adds-local old mid c r k f) h
    steps (AddRemoteCandidate c) full h = selects (answer_by done) (AddsRemote old c) (λ mid r k. signals old mid c r k f) h
    steps (InvalidateCandidate c) full h = selects Flag (Invalidates old c) (λ mid r k. invalidates old mid c r k f) h
    steps (RestartIce creds keep) full h = restarts creds keep h
    steps RecreateCandidatePairs full h = recreates h
    steps (ReceivePacket now via bytes) full (h, drawn) = received-firm mac answers now old new via bytes e h f
    steps (HandleTimeout now) full (r, emitted, is, h) = timed-firm mac now old new s t r emitted h f
    steps PollTransmit full (given, is, (polled, made), drawn) = subst (λ (a : AgentRecord H P). IsFirm a) (sym made) f
    steps PollTimeout full (deadline, is, h, drawn) = by_waking old new deadline h
        (λ made. kept made)
        (λ at made. subst (λ (a : AgentRecord H P). IsFirm a) (sym made) (f.0, asks at))
    steps PollEvent full (given, is, (polled, made), drawn) = subst (λ (a : AgentRecord H P). IsFirm a) (sym made) f

  -- ---- executions

  pub along : (xs : List (Call P × Entry)) (old new : AgentRecord H P) → AreNeverLite xs → Execution mac answers xs old new → IsFirm old → IsFirm new
  along [] old new full is f = made-firm old new is f
  along (x ∷ rest) old new full (mid, s, t, based, step, more) f =
      along rest mid new (λ y has. full y (inr has)) more (steps old mid s t x.1 f x.0 (search (full x (inl refl))) step)

  pub valid-have-consented : ValidHaveConsented mac answers
  valid-have-consented first last xs new full execution p has valid =
      let fresh : IsFresh first = search new in
      let never : AreNeverLite xs = search full in
      let is_valid_now : is_valid p ≡ true = search valid in
      let begins : IsFirm first = subst (λ (a : AgentRecord H P). IsFirm a) (sym fresh.2) (refl, λ q none. absurd none) in
      search ((along xs first last never execution begins).1 p has is_valid_now)
