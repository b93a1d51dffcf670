-- Each transition queues a `NominatedSend` only for a path that it selects. What mutants/specifications changes is read by tactics.
use Rattle.is_stun.specs.declared.header.Class.TheVariants as class
use Rattle.is_theorems.proofs.Common.{formed_again}
use Rattle.is_theorems.proofs.Common.{[], ◌&&◌, ◌++◌, ◌==◌, ◌∙◌, ◌∷◌, ◌≡◌, ◌⊎◌, Absent, AddLocalCandidate, AddRemoteCandidate}
use Rattle.is_theorems.proofs.Common.{AddsUnknownSender, AgentRecord, all_scheduled, Answer, ap, at_request, at_timeout, Barred, Becomes, Bool}
use Rattle.is_theorems.proofs.Common.{Call, candidate_at, CandidateRecord, Checking, ChecksTop, Class, cleared, Combination, Conflict}
use Rattle.is_theorems.proofs.Common.{conflict_of, CountsAndServes, discovered_emitted, DiscoveredRecv, Drops, Emitted, emptied, Entry, Err}
use Rattle.is_theorems.proofs.Common.{evaluated, events_kept, EventsAreSelected, expired_gone, false, FindsOrAddsPair, first_taken, formed}
use Rattle.is_theorems.proofs.Common.{FormsAll, Full, HandlesFailure, HandlesSuccess, HandleTimeout, Has, has_nominated, has_possible}
use Rattle.is_theorems.proofs.Common.{IceAgentEvent, IceConnectionState, IceConnectionStateChange, IceCreds, IceRestart, if◌then◌else◌}
use Rattle.is_theorems.proofs.Common.{in_turn, inl, inr, InvalidateCandidate, InvalidatesAt, is_expired, is_for_other_peer, is_misled}
use Rattle.is_theorems.proofs.Common.{is_modern, is_passed_over, is_selection, is_some, is_valid_at, IsPolled, Issued, Known, length, List}
use Rattle.is_theorems.proofs.Common.{list_any, local_place, local_to_discard, loses_selected, MaintainsPairs, MatchBool, MatchOption}
use Rattle.is_theorems.proofs.Common.{MayCheck, Message, New, next_state, nominated_emitted, NominatedSend, Nominates, NominatesWhere, None}
use Rattle.is_theorems.proofs.Common.{not, NotCalled, Ok, Option, pair_served, PairRecord, Path, path_left, PollEvent, PollTimeout}
use Rattle.is_theorems.proofs.Common.{PollTransmit, Queues, quiet, ReceivePacket, Receives, RecordsAndResponds, RecreateCandidatePairs}
use Rattle.is_theorems.proofs.Common.{refl, remote_to_discard, RemotePlace, RemovesExpired, request_at, request_counted, request_in}
use Rattle.is_theorems.proofs.Common.{RequestRecord, Reselects, ResolvesRoleConflict, ResolvesRoleConflictBy, restarted, RestartIce}
use Rattle.is_theorems.proofs.Common.{same_state, selected_in, selected_only, selecting, selects_at_requests, Send487, Serves, ServesQueued}
use Rattle.is_theorems.proofs.Common.{SetConsent, SetControlling, SetControlTieBreaker, SetIceLite, SetInitialStunRto, SetLiteTimeout}
use Rattle.is_theorems.proofs.Common.{SetLocalCredentials, SetLocalPreference, SetMaxCandidatePairs, SetMaxCandidates, SetMaxDiscovered}
use Rattle.is_theorems.proofs.Common.{SetMaxStunRetransmits, SetMaxStunRto, SetMtu, SetProfile, SetRemoteCredentials, SetRenomination}
use Rattle.is_theorems.proofs.Common.{SetTimingAdvance, state_updated, SkipPairIds, Some, start_emitted, started, state_at_start, updated_state}
use Rattle.is_theorems.proofs.Common.{Step, Stream, subst, switched, SwitchRole, sym, Takes, timeout_begun, triggered_time, true, Unknown}
use Rattle.is_theorems.proofs.Common.{unpaired, Vacant, with_pair, with_retransmits, with_selection, with_sender, with_sender_at}
use Rattle.is_theorems.proofs.Common.{with_state, ℕ}
use Rattle.is_theorems.proofs.CallEffects.AddedCandidates.{by_adding_local, by_adding_remote, by_waking}
use Rattle.is_theorems.proofs.CallEffects.FailedCallsAndNewAgents.{enrolment_kept, local_kept, mtu_kept, recreation_kept, remote_kept}
use Rattle.is_theorems.proofs.CallEffects.FailedCallsAndNewAgents.{restart_kept, storing_kept}
use Rattle.is_theorems.proofs.RuleEffects.EarlierAndNewPairs.{Has-filter}
use Rattle.is_theorems.proofs.RuleEffects.UnchangedSettings.{either}
use Rattle.is_theorems.proofs.RuleEffects.NotedErrors.{recoded, by_failure}

abbrev pub is_other : IceAgentEvent → Bool
is_other (NominatedSend proto source destination) = false
is_other _ = true

abbrev path_in : Path → IceAgentEvent → Path
path_in path (NominatedSend proto source destination) = record { proto = proto; source = source; destination = destination }
path_in path _ = path

pub as_path : (one path : Path) → selecting one ≡ selecting path → one ≡ path
as_path one path is = ap (λ e. path_in one e) is

first-in : (first second : Option Path) (path : Path) → first ≡ Some path → Has (selected_in first second) (Some path)
first-in (Some x) second path is = inl is
first-in None second path is = let wrong_ : None ≡ Some path = is in absurd (cc)

second-in : (first second : Option Path) (path : Path) → second ≡ Some path → Has (selected_in first second) (Some path)
second-in (Some x) second path is = inr (inl is)
second-in None second path is = inl is

pub no-such : {Z : Type 0} (path : Path) (e : IceAgentEvent) → is_other e ≡ true → e ≡ selecting path → Z
no-such path e other is = let f : is_other e ≡ false = ap is_other is in let wrong_ : true ≡ false = sym other ∙ f in absurd (cc)

pub has-last : (es : List IceAgentEvent) (e x : IceAgentEvent) → Has (es ++ e ∷ []) x → Has es x ⊎ (e ≡ x)
has-last [] e x (inl is) = inr is
has-last [] e x (inr none) = absurd none
has-last (y ∷ es) e x (inl is) = inl (inl is)
has-last (y ∷ es) e x (inr has) = elim (has-last es e x has) [ inl there ↦ inl (inr there) | inr is ↦ inr is ]

-- an event that is kept was there
kept_had : (modern : Bool) (es : List IceAgentEvent) (e : IceAgentEvent) → Has (events_kept modern es) e → Has es e
kept_had true es e has = Has-filter (λ (x : IceAgentEvent). not (is_selection x)) es e has
kept_had false es e has = has

module _ {H P : Type 0} (In : Path → Type 0) where
  abbrev pub Adds : AgentRecord H P → AgentRecord H P → Type 0
  Adds old new = (path : Path) → Has new.events (selecting path) → Has old.events (selecting path) ⊎ In path

  pub same : (old new : AgentRecord H P) → new.events ≡ old.events → Adds old new
  same old new is path has = inl (subst (λ (es : List IceAgentEvent). Has es (selecting path)) is has)

  pub kept : (old new : AgentRecord H P) → new ≡ old → Adds old new
  kept old new is = same old new (ap (λ (a : AgentRecord H P). a.events) is)

  as-made : (old needed new : AgentRecord H P) → new ≡ needed → Adds old needed → Adds old new
  as-made old needed new is h = subst (λ (a : AgentRecord H P). Adds old a) (sym is) h

  pub more : (a b c : AgentRecord H P) → Adds a b → Adds b c → Adds a c
  more a b c f g path has = elim (g path has) [ inl there ↦ f path there | inr now ↦ inr now ]

  -- another event is appended, or none
  other : (b : Bool) (a : AgentRecord H P) (e : IceAgentEvent) → is_other e ≡ true → Adds a (record a { events = if b then a.events else a.events ++ e ∷ [] })
  other true a e is path has = inl has
  other false a e is path has = elim (has-last a.events e (selecting path) has) [ inl there ↦ inl there | inr here ↦ no-such path e is here ]

  -- those that are kept when the pairs are cleared
  unpaired_adds : (a : AgentRecord H P) → Adds a (unpaired a)
  unpaired_adds a path has = inl (kept_had (is_modern a.timing) a.events (selecting path) has)

  -- ---- states and nomination

  pub state_adds : (state : IceConnectionState) (a : AgentRecord H P) → Adds a (with_state state a)
  state_adds state a path has = other (same_state a.state state) a (IceConnectionStateChange state) refl path has

  evaluated_adds : (now : ℕ) (a : AgentRecord H P) → Adds a (evaluated now a)
  evaluated_adds now a = state_adds (next_state a.state (has_nominated a) (has_possible now a) a.lite) a

  updated_adds : (changes : Bool) (now : ℕ) (a : AgentRecord H P) → Adds a (state_updated changes now a)
  updated_adds changes now a = state_adds (updated_state changes now a) a

  emitted_adds : (o : Option Path) (a : AgentRecord H P) → ((x : Path) → o ≡ Some x → In x) → Adds a (nominated_emitted o a)
  emitted_adds None a may path has = inl has
  emitted_adds (Some one) a may path has = elim (has-last a.events (selecting one) (selecting path) (search has)) [
    | inl there ↦ inl there
    | inr here ↦ inr (may path (ap (λ p. Some p) (as_path one path here)))
  ]

  pub nominates_adds : (old new : AgentRecord H P) (o : Option Path) → ((x : Path) → o ≡ Some x → In x) → Nominates old o new → Adds old new
  nominates_adds old new o may (chosen, names, made) = as-made old (nominated_emitted o (with_selection chosen old)) new made (emitted_adds o (with_selection chosen old) may)

  where_adds : (b : Bool) (old new : AgentRecord H P) (o : Option Path) → ((x : Path) → o ≡ Some x → In x) → NominatesWhere b old o new → Adds old new
  where_adds true old new o may h = nominates_adds old new o may h
  where_adds false old new o may h = kept old new h.1

  pub reselects_adds : (loses : Bool) (old new : AgentRecord H P) (o : Option Path) → ((x : Path) → o ≡ Some x → In x) → Reselects loses old o new → Adds old new
  reselects_adds loses old new o may h = either loses h
      (λ _ k. as-made old _ new k.2 (more old k.0 (evaluated _ k.0) (nominates_adds old k.0 o may k.1) (evaluated_adds _ k.0)))
      (λ _ k. kept old new k.1)

  removes_expired_adds : (now : ℕ) (old new : AgentRecord H P) (o : Option Path) → ((x : Path) → o ≡ Some x → In x) → RemovesExpired now old o new → Adds old new
  removes_expired_adds now old new o may h = either (list_any (is_expired now old) old.pairs) h
      (λ _ k. as-made old (evaluated now k.0) new k.2 (more old k.0 (evaluated now k.0) (nominates_adds (expired_gone now old) k.0 o may k.1) (evaluated_adds now k.0)))
      (λ _ k. as-made old (state_updated true now old) new k.1 (updated_adds true now old))

  -- ---- checks and timeouts

  check_adds : (mac : H → List ℕ → List ℕ → List ℕ) (now : ℕ) (remote : Option IceCreds) (old new : AgentRecord H P) (s t : Stream) (issued : Option Issued)
      → MayCheck mac now remote old s issued new t → Adds old new
  check_adds mac now None old new s t issued (is, made, drawn) = kept old new made
  check_adds mac now (Some remote) old new s t issued h = either old.lite h
      (λ _ k. same old new (ap (λ (a : AgentRecord H P). a.events) k.1))
      (λ _ k. next k.0 k.2) where
        next : (top : Option PairRecord) → ChecksTop mac now remote top (all_scheduled now old) s issued new t → Adds old new
        next None (is, made, drawn) = same old new (ap (λ (a : AgentRecord H P). a.events) made)
        next (Some p) (id, drawn, values, is, made) = same old new (ap (λ (a : AgentRecord H P). a.events) made)

  begun_adds : (now : ℕ) (a : AgentRecord H P) → Adds a (timeout_begun now a)
  begun_adds now a = more a (start_emitted a) (started now (start_emitted a)) start (state_adds (state_at_start now (start_emitted a)) (start_emitted a)) where
    start : Adds a (start_emitted a)
    start = by (same_state a.state New) where
      by : (b : Bool) (path : Path) → Has (if b then a.events ++ IceRestart a.local_creds ∷ [] else a.events) (selecting path) → Has a.events (selecting path) ⊎ In path
      by true path has = elim (has-last a.events (IceRestart a.local_creds) (selecting path) has) [ inl there ↦ inl there | inr here ↦ no-such path (IceRestart a.local_creds) refl here ]
      by false path has = inl has

  maintains_adds : (mac : H → List ℕ → List ℕ → List ℕ) (now : ℕ) (old new : AgentRecord H P) (s t : Stream) (emitted : Emitted)
      → ((path : Path) → Has emitted.selected_paths (Some path) → In path) → MaintainsPairs mac now old s emitted new t → Adds old new
  maintains_adds mac now old new s t emitted may (first, second, issued, named, kept_, nominating, giving, checking, is) =
      more old kept_ new
      (more old named kept_ (nominates_adds (path_left now (at_timeout now old)) named first (λ path o. may path (subst (λ (x : Emitted). Has x.selected_paths (Some path)) (sym is) (first-in first second path o))) nominating)
      (removes_expired_adds now named kept_ second (λ path o. may path (subst (λ (x : Emitted). Has x.selected_paths (Some path)) (sym is) (second-in first second path o))) giving))
      (check_adds mac now kept_.remote_creds kept_ new s t issued checking)

  -- ---- responses

  success_adds : (now : ℕ) (old new : AgentRecord H P) (via : Path) (m : Message) (emitted : Emitted)
      → ((path : Path) → Has emitted.selected_paths (Some path) → In path) → HandlesSuccess now old via m emitted new → Adds old new
  success_adds now old new via m emitted may (recorded, (i, p, after, found, keeps, took, made), (o, mid, nominates, is, done)) =
      as-made old (evaluated now mid) new done
      (more old mid (evaluated now mid)
      (more old (formed_again recorded) mid (same old (formed_again recorded) (ap (λ (a : AgentRecord H P). a.events) made))
      (nominates_adds (formed_again recorded) mid o (λ path x. may path (subst (λ (y : Emitted). Has y.selected_paths (Some path)) (sym is) (inl x))) nominates))
      (evaluated_adds now mid))

  failure_adds : (old new : AgentRecord H P) (via : Path) (m : Message) (emitted : Emitted) → HandlesFailure old via m emitted new → Adds old new
  failure_adds old new via m emitted h = by_failure (λ _ a. Adds old a) old new via m emitted (λ code. same old (recoded code old) refl) (λ code. same old (switched (recoded code old)) refl) h

  forms_adds : (old new : AgentRecord H P) (all : List Combination) → FormsAll old all new → Adds old new
  forms_adds old new all (f, forms, made) = same old new (ap (λ (a : AgentRecord H P). a.events) made)

  -- ---- requests

  module _ (mac : H → List ℕ → List ℕ → List ℕ) (q : RequestRecord) (emitted : Emitted) (may : (path : Path) → Has emitted.selected_paths (Some path) → In path) where
    pair : (l r number : ℕ) (s new : AgentRecord H P) → RecordsAndResponds mac q l r number s emitted new → Adds s new
    pair l r number s new (o, mid, nominates, (values, is, made)) =
        let at : AgentRecord H P = state_updated (is_some o) (triggered_time q s) mid in
        more s mid new
        (where_adds (selects_at_requests s && is_valid_at number s.pairs) (pair_served q number s) mid o
        (λ path x. may path (subst (λ (y : Emitted). Has y.selected_paths (Some path)) (sym is) (first-in o None path x))) nominates)
        (more mid at new (updated_adds (is_some o) (triggered_time q s) mid) (same at new (ap (λ (a : AgentRecord H P). a.events) made)))

    takes : (l r : ℕ) (number : Option ℕ) (s new : AgentRecord H P) → FindsOrAddsPair mac q l r number s emitted new → Adds s new
    takes l r (Some number) s new h = pair l r number s new h
    takes l r None s new h = either (candidate_at s.local l).discarded h
        (λ _ k. kept s new k.1)
        (λ _ k. pair l r s.next_number (with_pair (formed s l r) s) new k.1)

    joins : (l : ℕ) (place : RemotePlace) (s new : AgentRecord H P) → AddsUnknownSender mac q l place s emitted new → Adds s new
    joins l (Known r) s new (number, between, h) = takes l r number s new h
    joins l Barred s new h = kept s new h.1
    joins l Full s new h = kept s new h.1
    joins l Unknown s new (number, between, h) = takes l (length s.remote) number (with_sender q s) new h
    joins l (Vacant r) s new (number, between, h) = takes l r number (with_sender_at r q s) new h

    admitted : (l : ℕ) (s new : AgentRecord H P) → CountsAndServes mac q l s emitted new → Adds s new
    admitted l s new h = either (is_misled s.controlling q) h (λ _ k. kept s new k.1) (λ _ k. joins l k.0 (request_counted s) new k.2)

    resolves : (conflict : Conflict) (l : ℕ) (s new : AgentRecord H P) → ResolvesRoleConflictBy mac conflict q l s emitted new → Adds s new
    resolves Absent l s new h = admitted l s new h
    resolves Send487 l s new (values, is, made) = same s new (ap (λ (a : AgentRecord H P). a.events) made)
    resolves SwitchRole l s new h = admitted l (switched s) new h

    here : (place : Option ℕ) (s new : AgentRecord H P) → MatchOption place (Drops s emitted new) (λ l. ResolvesRoleConflict mac q l s emitted new) → Adds s new
    here None s new h = kept s new h.1
    here (Some l) s new h = resolves (conflict_of s q) l s new h

    serves_adds : (s new : AgentRecord H P) → Serves mac q s emitted new → Adds s new
    serves_adds s new h = either (is_for_other_peer s q) (in_turn mac q s new emitted h) (λ _ k. kept s new k.1) (λ _ k. here (local_place s.local q) s new k)

    requested_adds : (remote : Option IceCreds) (s new : AgentRecord H P) → MatchOption remote (Queues q s emitted new) (λ _. Serves mac q s emitted new) → Adds s new
    requested_adds None s new h = same s new (ap (λ (a : AgentRecord H P). a.events) h.1)
    requested_adds (Some peer) s new h = serves_adds s new h

  -- ---- calls

  module _ (mac : H → List ℕ → List ℕ → List ℕ) (answers : P → CandidateRecord → ℕ → ℕ → Type 0) where
    by-class : (c : Class) (now : ℕ) (old mid : AgentRecord H P) (via : Path) (m : Message) (emitted : Emitted)
        → ((path : Path) → Has emitted.selected_paths (Some path) → In path) → Takes mac c now old via m emitted mid → Adds old mid
    by-class class.Request now old mid via m emitted may h = requested_adds mac (request_in now via m) emitted may old.remote_creds old mid h
    by-class class.Success now old mid via m emitted may h = success_adds now old mid via m emitted may h
    by-class class.Failure now old mid via m emitted may h = failure_adds old mid via m emitted h
    by-class class.Indication now old mid via m emitted may h = absurd h
    by-class class.Unknown now old mid via m emitted may h = absurd h

    abbrev Mays : Entry → Type 0
    Mays e = (path : Path) → Has e.emitted.selected_paths (Some path) → In path

    as-emitted : (e : Entry) (answer : Answer) (emitted : Emitted) → e ≡ record { answer = answer; emitted = emitted } → Mays e
        → (path : Path) → Has emitted.selected_paths (Some path) → In path
    as-emitted e answer emitted is may path has = may path (subst (λ (x : Entry). Has x.emitted.selected_paths (Some path)) (sym is) has)

    pub receives : (now : ℕ) (old new : AgentRecord H P) (via : Path) (bytes : List ℕ) (e : Entry) → Mays e → Receives mac answers now old via bytes e new → Adds old new
    receives now old new via bytes e may (inl (fault, has_fault, is, made)) = kept old new made
    receives now old new via bytes e may (inr (m, reads, (Ok true, emitted, is, (accepted, (mid, takes_it, made))))) =
        more old mid new (by-class m.class now old mid via m emitted (as-emitted e _ emitted is may) takes_it)
        (as-made mid (discovered_emitted m.class emitted via mid) new made (other (is_passed_over m.class emitted via mid) mid (DiscoveredRecv via.proto via.source) refl))
    receives now old new via bytes e may (inr (m, reads, (Ok false, emitted, is, (no_one, nothing, made)))) = kept old new made
    receives now old new via bytes e may (inr (m, reads, (Err error, emitted, is, (allowed, nothing, made)))) = kept old new made

    pub times-out : (now : ℕ) (request : Option RequestRecord) (old new : AgentRecord H P) (s t : Stream) (emitted : Emitted)
        → ((path : Path) → Has emitted.selected_paths (Some path) → In path)
        → MatchOption request (MaintainsPairs mac now (timeout_begun now old) s emitted new t) (λ q. ServesQueued mac q (at_request now (timeout_begun now old)) s emitted new t) → Adds old new
    times-out now None old new s t emitted may h = more old (timeout_begun now old) new (begun_adds now old) (maintains_adds mac now (timeout_begun now old) new s t emitted may h)
    times-out now (Some q) old new s t emitted may h = more old (timeout_begun now old) new (begun_adds now old)
        (serves_adds mac q emitted may (first_taken (at_request now (timeout_begun now old))) new h.0)

    reselected : (old mid new : AgentRecord H P) (o : Option Path) (e : Entry) (answer : Answer) (emitted : Emitted) → e ≡ record { answer = answer; emitted = emitted }
        → emitted ≡ selected_only o → Mays e → Reselects (loses_selected old mid) mid o new → Adds old mid → Adds old new
    reselected old mid new o e answer emitted is only may again f =
        more old mid new f (reselects_adds (loses_selected old mid) mid new o
        (λ path x. as-emitted e answer emitted is may path (subst (λ (y : Emitted). Has y.selected_paths (Some path)) (sym only) (inl x))) again)

    invalidates : (old new : AgentRecord H P) (l r : Option ℕ) (found : Bool) → InvalidatesAt l r old found new → Adds old new
    invalidates old new (Some place) r found h = same old new (ap (λ (a : AgentRecord H P). a.events) h.1)
    invalidates old new None (Some place) found h = same old new (ap (λ (a : AgentRecord H P). a.events) h.1)
    invalidates old new None None found h = kept old new h.1

    retransmits : (b : Bool) (n : ℕ) (old new : AgentRecord H P) (s t : Stream) (e : Entry)
        → MatchBool b ((e ≡ quiet NotCalled) × (new ≡ old) × (t ≡ s)) (Becomes (with_retransmits n old) s e new t) → Adds old new
    retransmits true n old new s t e h = kept old new h.1
    retransmits false n old new s t e h = same old new (ap (λ (a : AgentRecord H P). a.events) h.1)

    polled : (given : Option IceAgentEvent) (old new : AgentRecord H P) → IsPolled old.events given new.events → Adds old new
    polled None old new (none, left) path has = absurd (subst (λ (es : List IceAgentEvent). Has es (selecting path)) left has)
    polled (Some x) old new is path has = inl (subst (λ (es : List IceAgentEvent). Has es (selecting path)) (sym is) (inr has))

    restarts : (creds : IceCreds) (keep : Bool) (old new : AgentRecord H P) → new ≡ restarted creds keep old → Adds old new
    restarts creds keep old new is path has =
        elim (state_adds Checking (record (cleared creds keep old) { events = (cleared creds keep old).events ++ IceRestart creds ∷ [] }) path
        (subst (λ (a : AgentRecord H P). Has a.events (selecting path)) is has)) [
          | inl (inl here) ↦ no-such path (IceRestart creds) refl here
          | inl (inr none) ↦ absurd none
          | inr now ↦ inr now
        ]

    pub steps : (old new : AgentRecord H P) (s t : Stream) (call : Call P) (e : Entry) → Mays e → Step mac answers old s call e new t → Adds old new
    steps old new s t (SetMtu target warn) e may (Ok _, reported, h, drawn) = same old new (ap (λ (a : AgentRecord H P). a.events) h.1)
    steps old new s t (SetMtu target warn) e may (Err error, reported, h, drawn) = kept old new (mtu_kept old new target warn error h)
    steps old new s t (SetControlTieBreaker tie) e may h = same old new (ap (λ (a : AgentRecord H P). a.events) h.1)
    steps old new s t (SetMaxCandidatePairs n) e may h = same old new (ap (λ (a : AgentRecord H P). a.events) h.1)
    steps old new s t (SetMaxDiscovered limit) e may h = same old new (ap (λ (a : AgentRecord H P). a.events) h.1)
    steps old new s t (SetMaxCandidates limit) e may h = same old new (ap (λ (a : AgentRecord H P). a.events) h.1)
    steps old new s t (SetIceLite lite) e may h = same old new (ap (λ (a : AgentRecord H P). a.events) h.1)
    steps old new s t (SetRenomination renominates) e may h = same old new (ap (λ (a : AgentRecord H P). a.events) h.1)
    steps old new s t (SetProfile profile) e may h = same old new (ap (λ (a : AgentRecord H P). a.events) h.1)
    steps old new s t (SetConsent consent) e may h = same old new (ap (λ (a : AgentRecord H P). a.events) h.1)
    steps old new s t (SetTimingAdvance by) e may h = same old new (ap (λ (a : AgentRecord H P). a.events) h.1)
    steps old new s t (SetInitialStunRto rto) e may h = same old new (ap (λ (a : AgentRecord H P). a.events) h.1)
    steps old new s t (SetMaxStunRto rto) e may h = same old new (ap (λ (a : AgentRecord H P). a.events) h.1)
    steps old new s t (SetMaxStunRetransmits n) e may h = retransmits (n == 0) n old new s t e h
    steps old new s t (SetLiteTimeout by) e may h = same old new (ap (λ (a : AgentRecord H P). a.events) h.1)
    steps old new s t (SetLocalPreference object) e may h = same old new (ap (λ (a : AgentRecord H P). a.events) h.1)
    steps old new s t (SetControlling controlling) e may h = same old new (ap (λ (a : AgentRecord H P). a.events) h.1)
    steps old new s t (SetLocalCredentials creds) e may (Ok _, reported, h, drawn) = same old new (ap (λ (a : AgentRecord H P). a.events) h.1)
    steps old new s t (SetLocalCredentials creds) e may (Err error, reported, h, drawn) = kept old new (local_kept old new creds error h)
    steps old new s t (SetRemoteCredentials creds) e may (Ok _, reported, h, drawn) = same old new (ap (λ (a : AgentRecord H P). a.events) h.1)
    steps old new s t (SetRemoteCredentials creds) e may (Err error, reported, h, drawn) = kept old new (remote_kept old new creds error h)
    steps old new s t (SkipPairIds n) e may h = same old new (ap (λ (a : AgentRecord H P). a.events) h.1)
    steps old new s t (AddLocalCandidate c) e may (Ok place, emitted, reported, (path, mid, h, again, is), drawn) =
        reselected old mid new path e _ emitted reported is may again (by_adding_local old mid answers c place h
        (λ made. kept old mid made) (λ x _ f. forms_adds _ mid _ f) (λ k _ f. forms_adds _ mid _ f) (λ x _ k f. forms_adds _ mid _ f))
    steps old new s t (AddLocalCandidate c) e may (Err error, emitted, reported, (path, mid, h, again, is), drawn) =
        reselected old mid new path e _ emitted reported is may again (kept old mid (enrolment_kept answers old mid c error h))
    steps old new s t (AddRemoteCandidate c) e may (Ok _, emitted, reported, (path, mid, h, again, is), drawn) =
        reselected old mid new path e _ emitted reported is may again (by_adding_remote old mid c h
        (λ made. kept old mid made) (λ f. forms_adds _ mid _ f) (λ k _ addr f. forms_adds _ mid _ f))
    steps old new s t (AddRemoteCandidate c) e may (Err error, emitted, reported, (path, mid, h, again, is), drawn) =
        reselected old mid new path e _ emitted reported is may again (kept old mid (storing_kept old mid c error h))
    steps old new s t (InvalidateCandidate c) e may (found, emitted, reported, (path, mid, h, again, is), drawn) =
        reselected old mid new path e _ emitted reported is may again (invalidates old mid (local_to_discard c old) (remote_to_discard c old) found h)
    steps old new s t (RestartIce creds keep) e may (Ok _, reported, h, drawn) = restarts creds keep old new h.1
    steps old new s t (RestartIce creds keep) e may (Err error, reported, h, drawn) = kept old new (restart_kept old new creds keep error h)
    steps old new s t RecreateCandidatePairs e may (Ok _, reported, (some, h), drawn) = more old (unpaired old) new (unpaired_adds old) (more (unpaired old) (emptied old) new (state_adds Checking (unpaired old)) (forms_adds (emptied old) new _ h))
    steps old new s t RecreateCandidatePairs e may (Err error, reported, h, drawn) = kept old new (recreation_kept old new error h)
    steps old new s t (ReceivePacket now via bytes) e may (h, drawn) = receives now old new via bytes e may h
    steps old new s t (HandleTimeout now) e may (Ok _, emitted, reported, h) = times-out now (request_at now old) old new s t emitted (as-emitted e _ emitted reported may) h
    steps old new s t (HandleTimeout now) e may (Err error, emitted, reported, (allowed, nothing, made, drawn)) = kept old new made
    steps old new s t PollTransmit e may (given, reported, (polls, made), drawn) = same old new (ap (λ (a : AgentRecord H P). a.events) made)
    steps old new s t PollTimeout e may (deadline, reported, h, drawn) = by_waking old new deadline h (λ made. kept old new made) (λ at made. same old new (ap (λ (a : AgentRecord H P). a.events) made))
    steps old new s t PollEvent e may (given, reported, (polls, made), drawn) = polled given old new polls

pub events-are-selected : {H P : Type 0} (mac : H → List ℕ → List ℕ → List ℕ) (answers : P → CandidateRecord → ℕ → ℕ → Type 0) → EventsAreSelected {H = H} {P = P} mac answers
events-are-selected mac answers old new s t call e step path has =
    let waits : Has new.events (selecting path) = search has in
    search (steps (λ p. Has e.emitted.selected_paths (Some p)) mac answers old new s t call e (λ p h. h) step path waits)
