-- Events are appended, in the order in which they happen. What mutants/specifications changes is read by tactics.
use Rattle.is_stun.specs.declared.header.Class.TheVariants as class
use Rattle.is_theorems.proofs.Common.{formed_again}
use Rattle.is_theorems.proofs.Common.{[], ◌&&◌, ◌++◌, ◌==◌, ◌∙◌, ◌∷◌, ◌≡◌, Absent, AddLocalCandidate, AddRemoteCandidate, AddsLocal}
use Rattle.is_theorems.proofs.Common.{AddsRemote, AddsUnknownSender, AgentRecord, all_scheduled, ap, append-nil, append_assoc, appended}
use Rattle.is_theorems.proofs.Common.{as_remote, at_request, at_timeout, Barred, Becomes, Begins, Bool, Call, candidate_at, CandidateRecord}
use Rattle.is_theorems.proofs.Common.{Checking, ChecksTop, Class, Combination, Conflict, conflict_of, CountsAndServes, discovered_emitted}
use Rattle.is_theorems.proofs.Common.{Done, Drops, Emitted, enabled_again, Entry, Err, evaluated, events_kept, expired_gone, Extends, false}
use Rattle.is_theorems.proofs.Common.{FindsOrAddsPair, first_taken, formed, FormsAgain, FormsAll, Full, HandlesFailure, HandlesPacket}
use Rattle.is_theorems.proofs.Common.{HandlesSuccess, HandleTimeout, IceAgentEvent, IceConnectionState, IceConnectionStateChange, IceCreds}
use Rattle.is_theorems.proofs.Common.{IceError, IceRestart, if◌then◌else◌, in_turn, inl, inr, InvalidateCandidate, InvalidatesAt}
use Rattle.is_theorems.proofs.Common.{is_expired, is_for_other_peer, is_misled, is_modern_profile, is_passed_over, is_some, is_valid_at}
use Rattle.is_theorems.proofs.Common.{Issued, Known, length, List, list_any, local_discarded, local_place, local_to_discard, loses_selected}
use Rattle.is_theorems.proofs.Common.{MaintainsPairs, MatchBool, MatchOption, MayCheck, Message, Modern, New, nominated_emitted, Nominates}
use Rattle.is_theorems.proofs.Common.{NominatesWhere, None, NotCalled, nothing_emitted, numbers_skipped, Ok, Option, Original, pair_served}
use Rattle.is_theorems.proofs.Common.{PairRecord, Path, path_left, PollEvent, PollTimeout, PollTransmit, Profile, queued, QueuesTheorem}
use Rattle.is_theorems.proofs.Common.{quiet, ReceivePacket, Receives, RecordsAndResponds, RecreateCandidatePairs, refl, Rejected}
use Rattle.is_theorems.proofs.Common.{remote_to_discard, RemotePlace, RemovesExpired, Reports, request_at, request_counted, request_in}
use Rattle.is_theorems.proofs.Common.{RequestRecord, Reselects, ResolvesRoleConflict, ResolvesRoleConflictBy, restarted, RestartIce, Result}
use Rattle.is_theorems.proofs.Common.{same, same_state, selects_at_requests, Send487, Serves, ServesQueued, SetConsent, SetControlling}
use Rattle.is_theorems.proofs.Common.{SetControlTieBreaker, SetIceLite, SetInitialStunRto, SetLiteTimeout, SetLocalCredentials}
use Rattle.is_theorems.proofs.Common.{SetLocalPreference, SetMaxCandidatePairs, SetMaxCandidates, SetMaxDiscovered, SetMaxStunRetransmits, SetMaxStunRto}
use Rattle.is_theorems.proofs.Common.{SetMtu, SetProfile, SetRemoteCredentials, SetRenomination, SetTimingAdvance, state_updated, SkipPairIds}
use Rattle.is_theorems.proofs.Common.{Some, start_emitted, Step, Stream, subst, switched, SwitchRole, sym, Takes, timeout_begun, TimesOut}
use Rattle.is_theorems.proofs.Common.{triggered_time, true, Unknown, Vacant, with_pair, with_remote, with_retransmits, with_rtos}
use Rattle.is_theorems.proofs.Common.{with_selection, with_sender, with_sender_at, with_state, ℕ}
use Rattle.is_theorems.proofs.RuleEffects.Reselection.{by-reselecting}
use Rattle.is_theorems.proofs.RuleEffects.UnchangedSettings.{either}
use Rattle.is_theorems.proofs.CallEffects.FailedCallsAndNewAgents.{mtu_kept, local_kept, remote_kept, restart_kept, recreation_kept}
use Rattle.is_theorems.proofs.CallEffects.FailedCallsAndNewAgents.{enrolment_kept, storing_kept}
use Rattle.is_theorems.proofs.CallEffects.SettingsRoleAndQueues.{FrameEffect, framed}
use Rattle.is_theorems.proofs.CallEffects.AddedCandidates.{by_adding_local, by_adding_remote, by_waking}
use Rattle.is_theorems.proofs.RuleEffects.NotedErrors.{recoded, by_failure}

-- ---- lists

kept : {X : Type 0} (old new : List X) → new ≡ old → Extends old new
kept old new is = ([], is ∙ sym (append-nil old))

one_more : {X : Type 0} (skips : Bool) (old : List X) (x : X) → Extends old (if skips then old else old ++ x ∷ [])
one_more true old x = kept old old refl
one_more false old x = (x ∷ [], refl)

one_where : {X : Type 0} (adds : Bool) (old : List X) (x : X) → Extends old (if adds then old ++ x ∷ [] else old)
one_where true old x = (x ∷ [], refl)
one_where false old x = kept old old refl

twice : {X : Type 0} (a b c : List X) → Extends a b → Extends b c → Extends a c
twice a b c (more, is) (further, after) = (more ++ further, after ∙ (ap (λ xs. xs ++ further) is ∙ append_assoc a more further))

-- ---- pairs that are formed again

formed_again_grows : (same : Bool) (profile : Profile) (old new : List IceAgentEvent)
    → new ≡ (if same then events_kept (is_modern_profile profile) old else events_kept (is_modern_profile profile) old ++ IceConnectionStateChange Checking ∷ [])
    → FormsAgain profile Done old new
formed_again_grows true Modern old new is = inl (search is)
formed_again_grows false Modern old new is = inr (search is)
formed_again_grows true Original old new is = search (kept old new is)
formed_again_grows false Original old new is = (IceConnectionStateChange Checking ∷ [], search is)

formed_never : (profile : Profile) (error : IceError) (old new : List IceAgentEvent) → new ≡ old → FormsAgain profile (Rejected error) old new
formed_never Modern error old new is = search is
formed_never Original error old new is = search (kept old new is)

module _ {H P : Type 0} where
  -- events are appended
  abbrev Grows : AgentRecord H P → AgentRecord H P → Type 0
  Grows old new = Extends old.events new.events

  same_events : (old new : AgentRecord H P) → new.events ≡ old.events → Grows old new
  same_events old new is = kept old.events new.events is

  -- the abstract state is this one
  grown : (old needed new : AgentRecord H P) → new ≡ needed → Grows old needed → Grows old new
  grown old needed new made h = subst (λ (a : AgentRecord H P). Grows old a) (sym made) h

  stays : (old new : AgentRecord H P) → new ≡ old → Grows old new
  stays old new made = same_events old new (ap (λ (a : AgentRecord H P). a.events) made)

  both : (a b c : AgentRecord H P) → Grows a b → Grows b c → Grows a c
  both a b c f g = twice a.events b.events c.events f g

  -- ---- state, nomination

  state_grows : (state : IceConnectionState) (a : AgentRecord H P) → Grows a (with_state state a)
  state_grows state a = one_more (same_state a.state state) a.events _

  emitted_grows : (path : Option Path) (a : AgentRecord H P) → Grows a (nominated_emitted path a)
  emitted_grows None a = kept a.events a.events refl
  emitted_grows (Some path) a = (_, refl)

  nominates_grows : (old new : AgentRecord H P) (path : Option Path) → Nominates old path new → Grows old new
  nominates_grows old new path (chosen, names, made) = grown old (nominated_emitted path (with_selection chosen old)) new made (emitted_grows path (with_selection chosen old))

  reselects_grows : (loses : Bool) (old new : AgentRecord H P) (path : Option Path) → Reselects loses old path new → Grows old new
  reselects_grows loses old new path h = by-reselecting (λ (a : AgentRecord H P). Grows old a) loses old new path h (kept old.events old.events refl)
      (λ mid nominates. both old mid (evaluated _ mid) (nominates_grows old mid path nominates) (state_grows _ mid))

  where_grows : (evaluates : Bool) (old new : AgentRecord H P) (path : Option Path) → NominatesWhere evaluates old path new → Grows old new
  where_grows true old new path h = nominates_grows old new path h
  where_grows false old new path h = stays old new h.1

  forms_grows : (old new : AgentRecord H P) (all : List Combination) → FormsAll old all new → Grows old new
  forms_grows old new all (f, forms, made) = same_events old new (ap (λ (a : AgentRecord H P). a.events) made)

  -- ---- serving

  drops_grows : (s new : AgentRecord H P) (emitted : Emitted) → Drops s emitted new → Grows s new
  drops_grows s new emitted h = stays s new h.1

  module _ (mac : H → List ℕ → List ℕ → List ℕ) (q : RequestRecord) where
    pair_grows : (l r number : ℕ) (s new : AgentRecord H P) (emitted : Emitted) → RecordsAndResponds mac q l r number s emitted new → Grows s new
    pair_grows l r number s new emitted (path, mid, nominates, (put, is, made)) =
        let k : Grows s mid = where_grows (selects_at_requests s && is_valid_at number s.pairs) (pair_served q number s) mid path nominates in
        let at : AgentRecord H P = state_updated (is_some path) (triggered_time q s) mid in
        both s mid new k (both mid at new (state_grows _ mid) (same_events at new (ap (λ (a : AgentRecord H P). a.events) made)))

    takes_grows : (l r : ℕ) (number : Option ℕ) (s new : AgentRecord H P) (emitted : Emitted) → FindsOrAddsPair mac q l r number s emitted new → Grows s new
    takes_grows l r (Some number) s new emitted h = pair_grows l r number s new emitted h
    takes_grows l r None s new emitted h = either (candidate_at s.local l).discarded h (λ _ k. drops_grows s new emitted k)
        (λ _ k. pair_grows l r s.next_number (with_pair (formed s l r) s) new emitted k.1)

    joins_grows : (l : ℕ) (place : RemotePlace) (s new : AgentRecord H P) (emitted : Emitted) → AddsUnknownSender mac q l place s emitted new → Grows s new
    joins_grows l (Known r) s new emitted (number, between, h) = takes_grows l r number s new emitted h
    joins_grows l Barred s new emitted h = drops_grows s new emitted h
    joins_grows l Unknown s new emitted (number, between, h) = takes_grows l (length s.remote) number (with_sender q s) new emitted h
    joins_grows l (Vacant r) s new emitted (number, between, h) = takes_grows l r number (with_sender_at r q s) new emitted h
    joins_grows l Full s new emitted h = drops_grows s new emitted h

    admits_grows : (l : ℕ) (s new : AgentRecord H P) (emitted : Emitted) → CountsAndServes mac q l s emitted new → Grows s new
    admits_grows l s new emitted h = either (is_misled s.controlling q) h (λ _ k. drops_grows s new emitted k)
        (λ _ k. joins_grows l k.0 (request_counted s) new emitted k.2)

    resolves_grows : (conflict : Conflict) (l : ℕ) (s new : AgentRecord H P) (emitted : Emitted) → ResolvesRoleConflictBy mac conflict q l s emitted new → Grows s new
    resolves_grows Absent l s new emitted h = admits_grows l s new emitted h
    resolves_grows Send487 l s new emitted (put, is, made) = same_events s new (ap (λ (a : AgentRecord H P). a.events) made)
    resolves_grows SwitchRole l s new emitted h = admits_grows l (switched s) new emitted h

    here_grows : (place : Option ℕ) (s new : AgentRecord H P) (emitted : Emitted) → MatchOption place (Drops s emitted new) (λ l. ResolvesRoleConflict mac q l s emitted new) → Grows s new
    here_grows None s new emitted h = drops_grows s new emitted h
    here_grows (Some l) s new emitted h = resolves_grows (conflict_of s q) l s new emitted h

    serves_grows : (s new : AgentRecord H P) (emitted : Emitted) → Serves mac q s emitted new → Grows s new
    serves_grows s new emitted h = either (is_for_other_peer s q) (in_turn mac q s new emitted h) (λ _ k. drops_grows s new emitted k) (λ _ k. here_grows (local_place s.local q) s new emitted k)

    requested_grows : (peer : Option IceCreds) (s new : AgentRecord H P) (emitted : Emitted)
        → MatchOption peer ((emitted ≡ nothing_emitted) × (new ≡ queued q s)) (λ _. Serves mac q s emitted new) → Grows s new
    requested_grows None s new emitted (is, made) = same_events s new (ap (λ (a : AgentRecord H P). a.events) made)
    requested_grows (Some peer) s new emitted h = serves_grows s new emitted h

  -- ---- responses

  success_grows : (now : ℕ) (old new : AgentRecord H P) (via : Path) (m : Message) (emitted : Emitted) → HandlesSuccess now old via m emitted new → Grows old new
  success_grows now old new via m emitted (recorded, (place, p, after, at, keeps, takes, made), (path, mid, nominates, is, last)) =
      let a : Grows old recorded = same_events old recorded (ap (λ (a : AgentRecord H P). a.events) made) in
      let b : Grows (formed_again recorded) mid = nominates_grows (formed_again recorded) mid path nominates in
      let c : Grows mid new = grown mid (evaluated now mid) new last (state_grows _ mid) in
      both old mid new (both old (formed_again recorded) mid a b) c

  failure_grows : (old new : AgentRecord H P) (via : Path) (m : Message) (emitted : Emitted) → HandlesFailure old via m emitted new → Grows old new
  failure_grows old new via m emitted h =
      by_failure (λ _ a. Grows old a) old new via m emitted
      (λ code. drops_grows (recoded code old) (recoded code old) nothing_emitted (refl, refl))
      (λ code. drops_grows (switched (recoded code old)) (switched (recoded code old)) nothing_emitted (refl, refl)) h

  taken_grows : (mac : H → List ℕ → List ℕ → List ℕ) (c : Class) (now : ℕ) (old new : AgentRecord H P) (via : Path) (m : Message) (emitted : Emitted)
      → Takes mac c now old via m emitted new → Grows old new
  taken_grows mac class.Request now old new via m emitted h = requested_grows mac (request_in now via m) old.remote_creds old new emitted h
  taken_grows mac class.Success now old new via m emitted h = success_grows now old new via m emitted h
  taken_grows mac class.Failure now old new via m emitted h = failure_grows old new via m emitted h
  taken_grows mac class.Indication now old new via m emitted h = absurd h
  taken_grows mac class.Unknown now old new via m emitted h = absurd h

  -- ---- `handle_timeout` calls

  timeout_begun_grows : (now : ℕ) (a : AgentRecord H P) → Grows a (timeout_begun now a)
  timeout_begun_grows now a =
      let start : Grows a (start_emitted a) = one_where (same_state a.state New) a.events _ in
      both a (start_emitted a) (timeout_begun now a) start (state_grows _ (start_emitted a))

  removes_expired_grows : (now : ℕ) (old new : AgentRecord H P) (path : Option Path) → RemovesExpired now old path new → Grows old new
  removes_expired_grows now old new path h = either (list_any (is_expired now old) old.pairs) h
      (λ _ k. (
      let a : Grows old k.0 = nominates_grows (expired_gone now old) k.0 path k.1 in
      both old k.0 new a (grown k.0 (evaluated now k.0) new k.2 (state_grows _ k.0))))
      (λ _ k. grown old (state_updated true now old) new k.1 (state_grows _ old))

  check_grows : (mac : H → List ℕ → List ℕ → List ℕ) (now : ℕ) (remote : Option IceCreds) (old new : AgentRecord H P) (s t : Stream) (issued : Option Issued)
      → MayCheck mac now remote old s issued new t → Grows old new
  check_grows mac now None old new s t issued (is, made, drawn) = stays old new made
  check_grows mac now (Some remote) old new s t issued h = either old.lite h
      (λ _ k. same_events old new (ap (λ (a : AgentRecord H P). a.events) k.1))
      (λ _ k. next k.0 k.2) where
        next : (top : Option PairRecord) → ChecksTop mac now remote top (all_scheduled now old) s issued new t → Grows old new
        next None (is, made, drawn) = same_events old new (ap (λ (a : AgentRecord H P). a.events) made)
        next (Some p) (id, drawn, put, is, made) = same_events old new (ap (λ (a : AgentRecord H P). a.events) made)

  maintains_pairs_grow : (mac : H → List ℕ → List ℕ → List ℕ) (now : ℕ) (old new : AgentRecord H P) (s t : Stream) (emitted : Emitted)
      → MaintainsPairs mac now old s emitted new t → Grows old new
  maintains_pairs_grow mac now old new s t emitted (first, second, issued, named, kept, nominates, gives, check, is) =
      let a : Grows old named = nominates_grows (path_left now (at_timeout now old)) named first nominates in
      let b : Grows named kept = removes_expired_grows now named kept second gives in
      let c : Grows kept new = check_grows mac now kept.remote_creds kept new s t issued check in
      both old kept new (both old named kept a b) c

  timeout_grows : (mac : H → List ℕ → List ℕ → List ℕ) (now : ℕ) (old new : AgentRecord H P) (s t : Stream) (emitted : Emitted) (o : Option RequestRecord)
      → MatchOption o (MaintainsPairs mac now (timeout_begun now old) s emitted new t) (λ q. ServesQueued mac q (at_request now (timeout_begun now old)) s emitted new t) → Grows old new
  timeout_grows mac now old new s t emitted None h = both old (timeout_begun now old) new (timeout_begun_grows now old) (maintains_pairs_grow mac now (timeout_begun now old) new s t emitted h)
  timeout_grows mac now old new s t emitted (Some q) h =
      both old (timeout_begun now old) new (timeout_begun_grows now old) (serves_grows mac q (first_taken (at_request now (timeout_begun now old))) new emitted h.0)

  -- ---- candidates and restarts

  local_grows : (answers : P → CandidateRecord → ℕ → ℕ → Type 0) (old new : AgentRecord H P) (c : CandidateRecord) (place : Option ℕ)
      → AddsLocal answers old c (Ok place) new → Grows old new
  local_grows answers old new c place h = by_adding_local old new answers c place h
      (λ made. stays old new made)
      (λ x own f. forms_grows (appended x old) new _ f)
      (λ k lt f. forms_grows (enabled_again k old) new _ f)
      (λ x own k f. forms_grows (appended x (local_discarded k old)) new _ f)

  remote_grows : (old new : AgentRecord H P) (c : CandidateRecord) → AddsRemote old c (Ok _) new → Grows old new
  remote_grows old new c h = by_adding_remote old new c h
      (λ made. stays old new made)
      (λ f. forms_grows (with_remote (as_remote c) None old) new _ f)
      (λ k lt addr f. forms_grows (with_remote (as_remote c) (Some k) old) new _ f)

  invalidates_grows : (old new : AgentRecord H P) (l r : Option ℕ) (found : Bool) → InvalidatesAt l r old found new → Grows old new
  invalidates_grows old new (Some place) r found h = same_events old new (ap (λ (a : AgentRecord H P). a.events) h.1)
  invalidates_grows old new None (Some place) found h = same_events old new (ap (λ (a : AgentRecord H P). a.events) h.1)
  invalidates_grows old new None None found h = stays old new h.1

  begins : (creds : IceCreds) (keep : Bool) (old : AgentRecord H P) → Begins Done creds old.events (restarted creds keep old).events
  begins creds keep old = by (same_state old.state Checking) where
    by : (b : Bool) → Begins Done creds old.events (if b then IceRestart creds ∷ [] else IceRestart creds ∷ IceConnectionStateChange Checking ∷ [])
    by true = inl refl
    by false = inr refl

  source_grows : (c : Class) (emitted : Emitted) (via : Path) (a : AgentRecord H P) → Grows a (discovered_emitted c emitted via a)
  source_grows c emitted via a = one_more (is_passed_over c emitted via a) a.events _

  handles_grows : (mac : H → List ℕ → List ℕ → List ℕ) (now : ℕ) (old new : AgentRecord H P) (via : Path) (m : Message) (r : Result Bool IceError) (emitted : Emitted)
      → HandlesPacket mac now old via m r emitted new → Grows old new
  handles_grows mac now old new via m (Ok true) emitted (accepted, (mid, takes, made)) =
      both old mid new (taken_grows mac m.class now old mid via m emitted takes) (grown mid (discovered_emitted m.class emitted via mid) new made (source_grows m.class emitted via mid))
  handles_grows mac now old new via m (Ok false) emitted (unaccepted, is, made) = stays old new made
  handles_grows mac now old new via m (Err error) emitted (may, is, made) = stays old new made

  times_out_grows : (mac : H → List ℕ → List ℕ → List ℕ) (now : ℕ) (old new : AgentRecord H P) (s t : Stream) (r : Result (Unit {0}) IceError) (emitted : Emitted)
      → TimesOut mac now old s r emitted new t → Grows old new
  times_out_grows mac now old new s t (Ok _) emitted h = timeout_grows mac now old new s t emitted (request_at now old) h
  times_out_grows mac now old new s t (Err error) emitted (may, is, made, drawn) = stays old new made

  -- ---- each call

  module _ (mac : H → List ℕ → List ℕ → List ℕ) (answers : P → CandidateRecord → ℕ → ℕ → Type 0) (old new : AgentRecord H P) (s t : Stream) (e : Entry) where
    becomes : (needed : AgentRecord H P) → needed.events ≡ old.events → Becomes needed s e new t → Grows old new
    becomes needed same (is, made, drawn) = same_events old new (ap (λ (a : AgentRecord H P). a.events) made ∙ same)

    retransmits : (b : Bool) (n : ℕ) → MatchBool b ((e ≡ quiet NotCalled) × (new ≡ old) × (t ≡ s)) (Becomes (with_retransmits n old) s e new t) → Grows old new
    retransmits true n h = stays old new h.1
    retransmits false n h = becomes (with_retransmits n old) refl h

    receives : (now : ℕ) (via : Path) (bytes : List ℕ) → Receives mac answers now old via bytes e new → Grows old new
    receives now via bytes (inl (fault, has, is, made)) = stays old new made
    receives now via bytes (inr (m, reads, (r, emitted, is, h))) = handles_grows mac now old new via m r emitted h

    -- a path may be selected after it
    selects : (mid : AgentRecord H P) (path : Option Path) → Reselects (loses_selected old mid) mid path new → Grows old mid → Grows old new
    selects mid path h k = both old mid new k (reselects_grows (loses_selected old mid) mid new path h)

    reports : (call : Call P) → Step mac answers old s call e new t → Reports old.timing.profile call e old.events new.events
    reports (SetMtu target warn) (Ok _, is, h, drawn) = same_events old new (ap (λ (a : AgentRecord H P). a.events) h.1)
    reports (SetMtu target warn) (Err error, is, h, drawn) = stays old new (mtu_kept old new target warn error h)
    reports (SetControlTieBreaker tie) h = becomes _ refl h
    reports (SetMaxCandidatePairs n) h = becomes _ refl h
    reports (SetMaxDiscovered n) h = becomes _ refl h
    reports (SetMaxCandidates n) h = becomes _ refl h
    reports (SetIceLite lite) h = becomes _ refl h
    reports (SetRenomination on) h = becomes _ refl h
    reports (SetProfile profile) h = becomes _ refl h
    reports (SetConsent consent) h = becomes _ refl h
    reports (SetTimingAdvance by) h = becomes _ refl h
    reports (SetInitialStunRto rto) h = becomes (with_rtos rto old.timing.max_rto.0 old) refl h
    reports (SetMaxStunRto rto) h = becomes (with_rtos old.timing.initial_rto.0 rto old) refl h
    reports (SetMaxStunRetransmits n) h = retransmits (n == 0) n h
    reports (SetLiteTimeout by) h = becomes _ refl h
    reports (SetLocalPreference object) h = becomes _ refl h
    reports (SetControlling controlling) h = becomes _ refl h
    reports (SetLocalCredentials creds) (Ok _, is, h, drawn) = same_events old new (ap (λ (a : AgentRecord H P). a.events) h.1)
    reports (SetLocalCredentials creds) (Err error, is, h, drawn) = stays old new (local_kept old new creds error h)
    reports (SetRemoteCredentials creds) (Ok _, is, h, drawn) = same_events old new (ap (λ (a : AgentRecord H P). a.events) h.1)
    reports (SetRemoteCredentials creds) (Err error, is, h, drawn) = stays old new (remote_kept old new creds error h)
    reports (SkipPairIds n) h = becomes (numbers_skipped n old) refl h
    reports (AddLocalCandidate c) (Ok place, emitted, is, (path, mid, h, again, emits), drawn) = selects mid path again (local_grows answers old mid c place h)
    reports (AddLocalCandidate c) (Err error, emitted, is, (path, mid, h, again, emits), drawn) =
        selects mid path again (stays old mid (enrolment_kept answers old mid c error h))
    reports (AddRemoteCandidate c) (Ok _, emitted, is, (path, mid, h, again, emits), drawn) = selects mid path again (remote_grows old mid c h)
    reports (AddRemoteCandidate c) (Err error, emitted, is, (path, mid, h, again, emits), drawn) =
        selects mid path again (stays old mid (storing_kept old mid c error h))
    reports (InvalidateCandidate c) (found, emitted, is, (path, mid, h, again, emits), drawn) =
        selects mid path again (invalidates_grows old mid (local_to_discard c old) (remote_to_discard c old) found h)
    reports (RestartIce creds keep) (Ok _, is, h, drawn) =
        subst (λ (x : Entry). Begins x.answer creds old.events new.events) (sym is)
        (subst (λ (a : AgentRecord H P). Begins Done creds old.events a.events) (sym h.1) (begins creds keep old))
    reports (RestartIce creds keep) (Err error, is, h, drawn) =
        subst (λ (x : Entry). Begins x.answer creds old.events new.events) (sym is) (ap (λ (a : AgentRecord H P). a.events) (restart_kept old new creds keep error h))
    reports RecreateCandidatePairs (Ok _, is, h, drawn) =
        subst (λ (x : Entry). FormsAgain old.timing.profile x.answer old.events new.events) (sym is)
        (formed_again_grows (same_state old.state Checking) old.timing.profile old.events new.events (ap (λ (a : AgentRecord H P). a.events) h.1.2))
    reports RecreateCandidatePairs (Err error, is, h, drawn) =
        subst (λ (x : Entry). FormsAgain old.timing.profile x.answer old.events new.events) (sym is)
        (formed_never old.timing.profile error old.events new.events (ap (λ (a : AgentRecord H P). a.events) (recreation_kept old new error h)))
    reports (ReceivePacket now via bytes) (h, drawn) = receives now via bytes h
    reports (HandleTimeout now) (r, emitted, is, h) = times_out_grows mac now old new s t r emitted h
    reports PollTransmit (given, is, (polled, made), drawn) = same_events old new (ap (λ (a : AgentRecord H P). a.events) made)
    reports PollTimeout (deadline, is, h, drawn) = by_waking old new deadline h (λ made. stays old new made) (λ at made. same_events old new (ap (λ (a : AgentRecord H P). a.events) made))
    reports PollEvent (given, is, (polled, made), drawn) = (given, is, polled)

pub queues_theorem : {H P : Type 0} (mac : H → List ℕ → List ℕ → List ℕ) (answers : P → CandidateRecord → ℕ → ℕ → Type 0) → QueuesTheorem mac answers
queues_theorem mac answers old new s t call e step =
    let frame : FrameEffect old call e new = framed mac answers old new s t e call step in
    (frame.sends, reports mac answers old new s t e call step)
