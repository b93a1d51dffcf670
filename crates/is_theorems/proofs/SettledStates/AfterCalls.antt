-- Each call of a full agent with `Modern`: what it does to the state and to the selected pair.
use Rattle.is_theorems.proofs.Common.{◌&&◌, ◌==◌, ◌∙◌, ◌≡◌, added, AddLocalCandidate, AddRemoteCandidate, AddsLocal, AddsRemote}
use Rattle.is_theorems.proofs.Common.{AgentRecord, answer_by, ap, scheduled, Becomes, Bool, Call, CandidateRecord, controlling_set, done}
use Rattle.is_theorems.proofs.Common.{Emitted, emptied, Entry, Err, false, Flag, HandleTimeout, IceCreds, IceError, if◌then◌else◌, inl, inr}
use Rattle.is_theorems.proofs.Common.{InvalidateCandidate, Invalidates, is_connected, last_of, List, map, MayDo, New, nothing_emitted}
use Rattle.is_theorems.proofs.Common.{numbers_skipped, Ok, PollEvent, PollTimeout, PollTransmit, ReceivePacket, RecreateCandidatePairs}
use Rattle.is_theorems.proofs.Common.{Recreates, refl, RestartIce, Restarts, Result, same_state, SetConsent, SetControlling}
use Rattle.is_theorems.proofs.Common.{SetControlTieBreaker, SetIceLite, SetInitialStunRto, SetLiteTimeout, SetLocalCredentials}
use Rattle.is_theorems.proofs.Common.{SetLocalPreference, SetMaxCandidatePairs, SetMaxCandidates, SetMaxDiscovered, SetMaxStunRetransmits, SetMaxStunRto}
use Rattle.is_theorems.proofs.Common.{SetMtu, SetProfile, SetRemoteCredentials, SetRenomination, SetsLocal, SetsMtu, SetsRemote}
use Rattle.is_theorems.proofs.Common.{SetTimingAdvance, SkipPairIds, Some, Step, Stream, subst, sym, true, undue, with_consent}
use Rattle.is_theorems.proofs.Common.{with_lite_timeout, with_profile, with_retransmits, with_rtos, ℕ}
use Rattle.is_theorems.proofs.CallEffects.AddedCandidates.{by_waking}
use Rattle.is_theorems.proofs.CallEffects.FailedCallsAndNewAgents.{mtu_kept, local_kept, remote_kept, restart_kept, recreation_kept}
use Rattle.is_theorems.proofs.ConnectedConsent.ConnectedPairs.{HasNominated}
use Rattle.is_theorems.proofs.RuleEffects.UnchangedSettings.{either}
use Rattle.is_theorems.proofs.SettledStates.AfterCandidates.{adds-local, invalidates, selecting, signals}
use Rattle.is_theorems.proofs.SettledStates.AfterTimeouts.{received, timed}
use Rattle.is_theorems.proofs.SettledStates.LivePairs.{forms-back, map-back, no-live, unless-back}
use Rattle.is_theorems.proofs.SettledStates.Outcomes.{MayGoOn, Outcome, IsPlaceAtLimit, Stays, unasked-none}
use Rattle.is_theorems.proofs.SettledStates.SelectedPairs.{HasSelected, map-selected, Selects}

module _ {H P : Type 0} (mac : H → List ℕ → List ℕ → List ℕ) (answers : P → CandidateRecord → ℕ → ℕ → Type 0) where
  module _ (old new : AgentRecord H P) (s t : Stream) (e : Entry) where
    -- the state stays, and no path is selected
    sets : (mid : AgentRecord H P) → mid.state ≡ old.state → (HasNominated mid.pairs → HasNominated old.pairs) → (Selects old → Selects mid)
        → e.emitted ≡ nothing_emitted → new ≡ mid → Outcome old e.emitted new
    sets mid state back keeps nothing made = inl (subst (λ (a : AgentRecord H P). Stays old e.emitted a) (sym made) (record {
      state = state;
      unasked = unasked-none e.emitted (ap (λ (x : Emitted). x.issued) nothing);
      silent = λ _. ap (λ (x : Emitted). last_of x.selected_paths) nothing;
      back = λ _ live. inl (back live);
      keeps = λ _ was. keeps was;
    }))

    kept : e.emitted ≡ nothing_emitted → new ≡ old → Outcome old e.emitted new
    kept nothing made = sets old refl (λ live. live) (λ was. was) nothing made

    becomes : (mid : AgentRecord H P) → mid.state ≡ old.state → (HasNominated mid.pairs → HasNominated old.pairs) → (Selects old → Selects mid)
        → Becomes mid s e new t → Outcome old e.emitted new
    becomes mid state back keeps (is, made, drawn) = sets mid state back keeps (ap (λ (x : Entry). x.emitted) is) made

    may-do : (Does : Result (Unit {0}) IceError → AgentRecord H P → Type 0) → (e.emitted ≡ nothing_emitted → Does (Ok _) new → Outcome old e.emitted new)
        → ((error : IceError) → Does (Err error) new → new ≡ old) → MayDo Does s e new t → Outcome old e.emitted new
    may-do Does goes failed (Ok _, is, h, drawn) = goes (ap (λ (x : Entry). x.emitted) is) h
    may-do Does goes failed (Err error, is, h, drawn) = kept (ap (λ (x : Entry). x.emitted) is) (failed error h)

    restarts : (creds : IceCreds) (keep : Bool) → Restarts old creds keep (Ok _) new → Outcome old e.emitted new
    restarts creds keep (fits, made) = inr (subst (λ (a : AgentRecord H P). IsPlaceAtLimit old a) (sym made) (record {
      begun = refl;
      backed = λ connected. no-live connected;
      connects = λ _ live. absurd live.1;
      selects = λ _ live. absurd live.1;
    }))

    recreates : Recreates old (Ok _) new → Outcome old e.emitted new
    recreates (enough, formed) = inr (record {
      begun = ap (λ (a : AgentRecord H P). same_state a.state New) formed.2;
      backed = λ connected. no-live (sym (ap (λ (a : AgentRecord H P). is_connected a.state) formed.2) ∙ connected);
      connects = λ _ live. absurd (forms-back (emptied old) new _ formed live).1;
      selects = λ _ live. absurd (forms-back (emptied old) new _ formed live).1;
    })

    unless-selected : (b : Bool) → Selects old → HasSelected old.selected_pair (if b then old.pairs else map undue old.pairs)
    unless-selected true was = was
    unless-selected false was = map-selected old.selected_pair undue old.pairs (λ p. refl) was

    pub steps : (call : Call P) → old.lite ≡ false → MayGoOn old → Step mac answers old s call e new t → Outcome old e.emitted new
    steps (SetMtu target warn) full may h = may-do (SetsMtu old target warn)
        (λ nothing k. sets (record old { mtu = target; mtu_warn = warn }) refl (λ live. live) (λ was. was) nothing k.1) (mtu_kept old new target warn) h
    steps (SetControlTieBreaker tie) full may h = becomes (record old { tie_breaker = tie }) refl (λ live. live) (λ was. was) h
    steps (SetMaxCandidatePairs n) full may h = becomes (record old { max_pairs = n }) refl (λ live. live) (λ was. was) h
    steps (SetMaxDiscovered limit) full may h = becomes (record old { max_discovered = limit }) refl (λ live. live) (λ was. was) h
    steps (SetMaxCandidates limit) full may h = becomes (record old { max_candidates = limit }) refl (λ live. live) (λ was. was) h
    steps (SetIceLite lite) full may h = becomes (record old { lite = lite }) refl (λ live. live) (λ was. was) h
    steps (SetRenomination on) full may h = becomes (record old { renominates = on }) refl (λ live. live) (λ was. was) h
    steps (SetProfile profile) full may h = becomes (with_profile profile old) refl (λ live. live) (λ was. was) h
    steps (SetConsent consent) full may h = becomes (with_consent consent old) refl (λ live. live) (λ was. was) h
    steps (SetTimingAdvance by) full may h = becomes (record old { timing_advance = by }) refl (λ live. live) (λ was. was) h
    steps (SetInitialStunRto rto) full may h = becomes (with_rtos rto old.timing.max_rto.0 old) refl
        (unless-back (old.timing.initial_rto.0 == rto && old.timing.max_rto.0 == old.timing.max_rto.0) old.pairs)
        (unless-selected (old.timing.initial_rto.0 == rto && old.timing.max_rto.0 == old.timing.max_rto.0)) h
    steps (SetMaxStunRto rto) full may h = becomes (with_rtos old.timing.initial_rto.0 rto old) refl
        (unless-back (old.timing.initial_rto.0 == old.timing.initial_rto.0 && old.timing.max_rto.0 == rto) old.pairs)
        (unless-selected (old.timing.initial_rto.0 == old.timing.initial_rto.0 && old.timing.max_rto.0 == rto)) h
    steps (SetMaxStunRetransmits n) full may h = either (n == 0) h
        (λ _ k. kept (ap (λ (x : Entry). x.emitted) k.0) k.1)
        (λ _ k. becomes (with_retransmits n old) refl (λ live. live) (λ was. was) k)
    steps (SetLiteTimeout by) full may h = becomes (with_lite_timeout by old) refl (λ live. live) (λ was. was) h
    steps (SetLocalPreference object) full may h = becomes (record old { preference = Some object }) refl (λ live. live) (λ was. was) h
    steps (SetControlling controlling) full may h = becomes (controlling_set controlling old) refl (λ live. live) (λ was. was) h
    steps (SetLocalCredentials creds) full may h = may-do (SetsLocal old creds)
        (λ nothing k. sets (record old { local_creds = creds }) refl (λ live. live) (λ was. was) nothing k.1) (local_kept old new creds) h
    steps (SetRemoteCredentials creds) full may h = may-do (SetsRemote old creds)
        (λ nothing k. sets (record old { remote_creds = Some creds }) refl (λ live. live) (λ was. was) nothing k.1) (remote_kept old new creds) h
    steps (SkipPairIds n) full may h = becomes (numbers_skipped n old) refl (λ live. live) (λ was. was) h
    steps (AddLocalCandidate c) full may h = selecting old new s t e (answer_by added) (AddsLocal answers old c) (λ mid r k. adds-local answers old mid c r k) h
    steps (AddRemoteCandidate c) full may h = selecting old new s t e (answer_by done) (AddsRemote old c) (λ mid r k. signals old mid c r k) h
    steps (InvalidateCandidate c) full may h = selecting old new s t e Flag (Invalidates old c) (λ mid r k. invalidates old mid c r k) h
    steps (RestartIce creds keep) full may h = may-do (Restarts old creds keep) (λ _ k. restarts creds keep k) (restart_kept old new creds keep) h
    steps RecreateCandidatePairs full may h = may-do (Recreates old) (λ _ k. recreates k) (recreation_kept old new) h
    steps (ReceivePacket now via bytes) full may (h, drawn) = received mac answers now old new via bytes e full h
    steps (HandleTimeout now) full may (r, emitted, is, h) =
        subst (λ (x : Emitted). Outcome old x new) (sym (ap (λ (x : Entry). x.emitted) is)) (timed mac now old new s t r emitted full may h)
    steps PollTransmit full may (given, is, (polled, made), drawn) =
        sets (record old { packets = new.packets }) refl (λ live. live) (λ was. was) (ap (λ (x : Entry). x.emitted) is) made
    steps PollTimeout full may (deadline, is, h, drawn) = by_waking old new deadline h
        (λ made. kept (ap (λ (x : Entry). x.emitted) is) made)
        (λ at made. sets (record old { pairs = map (scheduled at old.timing) old.pairs }) refl
        (λ live. map-back (scheduled at old.timing) old.pairs (λ p _ is. is) live)
        (λ was. map-selected old.selected_pair (scheduled at old.timing) old.pairs (λ p. refl) was) (ap (λ (x : Entry). x.emitted) is) made)
    steps PollEvent full may (given, is, (polled, made), drawn) =
        sets (record old { events = new.events }) refl (λ live. live) (λ was. was) (ap (λ (x : Entry). x.emitted) is) made
