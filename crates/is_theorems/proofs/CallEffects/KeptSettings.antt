-- Each transition leaves the settings, except that a setter sets its own. What mutants/specifications changes is read by tactics.
use Rattle.is_stun.specs.declared.header.Class.TheVariants as class
use Rattle.is_theorems.proofs.Common.{formed_again}
use Rattle.is_theorems.proofs.Common.{◌&&◌, ◌==◌, ◌∙◌, ◌≡◌, Absent, AddLocalCandidate, AddRemoteCandidate, AddsUnknownSender, AgentRecord}
use Rattle.is_theorems.proofs.Common.{all_scheduled, all_settings_of, ap, at_request, at_timeout, Barred, Becomes, Bool, candidate_at}
use Rattle.is_theorems.proofs.Common.{CandidateRecord, ChecksTop, Class, Combination, Conflict, conflict_of, CountsAndServes, Done, Drops}
use Rattle.is_theorems.proofs.Common.{Emitted, Entry, Err, expired_gone, false, FindsOrAddsPair, followed, formed, FormsAll, Full}
use Rattle.is_theorems.proofs.Common.{HandlesFailure, HandlesSuccess, HandleTimeout, IceCreds, IceError, if◌then◌else◌, in_turn, inl, inr}
use Rattle.is_theorems.proofs.Common.{InvalidateCandidate, InvalidatesAt, is_done, is_expired, is_for_other_peer, is_misled, is_valid_at}
use Rattle.is_theorems.proofs.Common.{Issued, Known, List, list_any, local_place, local_to_discard, loses_selected, MaintainsPairs}
use Rattle.is_theorems.proofs.Common.{MatchBool, MatchOption, MayCheck, Message, Nominates, None, NotCalled, Ok, Option, pair_served}
use Rattle.is_theorems.proofs.Common.{PairRecord, Path, path_left, PollEvent, PollTimeout, PollTransmit, Queues, quiet, ReceivePacket}
use Rattle.is_theorems.proofs.Common.{Receives, RecordsAndResponds, RecreateCandidatePairs, refl, Rejected, remains, remote_to_discard}
use Rattle.is_theorems.proofs.Common.{RemotePlace, RemovesExpired, request_at, request_counted, request_in, RequestRecord, Reselects}
use Rattle.is_theorems.proofs.Common.{ResolvesRoleConflict, ResolvesRoleConflictBy, RestartIce, selection_of, selects_at_requests, Send487}
use Rattle.is_theorems.proofs.Common.{Serves, ServesQueued, SetConsent, SetControlling, SetControlTieBreaker, SetIceLite, SetInitialStunRto}
use Rattle.is_theorems.proofs.Common.{SetLiteTimeout, SetLocalCredentials, SetLocalPreference, SetMaxCandidatePairs, SetMaxCandidates, SetMaxDiscovered}
use Rattle.is_theorems.proofs.Common.{SetMaxStunRetransmits, SetMaxStunRto, SetMtu, SetProfile, SetRemoteCredentials, SetRenomination}
use Rattle.is_theorems.proofs.Common.{SetTimingAdvance, settings_of, SettingsAreSet, SettingsRecord, SkipPairIds, Some, Stream, subst}
use Rattle.is_theorems.proofs.Common.{switched, SwitchRole, sym, Takes, timeout_begun, true, Unknown, Vacant, with_pair, with_retransmits}
use Rattle.is_theorems.proofs.Common.{with_sender, with_sender_at, ℕ}
use Rattle.is_theorems.proofs.CallEffects.AddedCandidates.{by_adding_local, by_adding_remote, by_waking}
use Rattle.is_theorems.proofs.RuleEffects.UnchangedSettings.{either}
use Rattle.is_theorems.proofs.RuleEffects.NominatedPairs.{SelectsPath, selects_path}
use Rattle.is_theorems.proofs.CallEffects.FailedCallsAndNewAgents.{mtu_kept, local_kept, remote_kept, restart_kept, recreation_kept}
use Rattle.is_theorems.proofs.CallEffects.FailedCallsAndNewAgents.{enrolment_kept, storing_kept}
use Rattle.is_theorems.proofs.RuleEffects.NotedErrors.{by_failure}

module _ {H P : Type 0} where
  abbrev Same : AgentRecord H P → AgentRecord H P → Type 0
  Same old new = all_settings_of new ≡ all_settings_of old

  made-of : (old new : AgentRecord H P) → new ≡ old → Same old new
  made-of old new made = ap (λ (a : AgentRecord H P). all_settings_of a) made

  -- ---- nomination

  nominates-same : (old new : AgentRecord H P) (path : Option Path) → Nominates old path new → Same old new
  nominates-same old new path h = from (selects_path old new path h) where
    from : SelectsPath old path new → Same old new
    from (None, greatest, (is, made)) = made-of old new made
    from (Some top, greatest, k) = either (remains (followed old) top (selection_of old)) k
        (λ _ l. made-of old new l.1)
        (λ _ l. made-of _ new l.1)

  expires-same : (now : ℕ) (old new : AgentRecord H P) (path : Option Path) → RemovesExpired now old path new → Same old new
  expires-same now old new path h = either (list_any (is_expired now old) old.pairs) h
      (λ _ k. made-of _ new k.2 ∙ nominates-same (expired_gone now old) k.0 path k.1)
      (λ _ k. made-of _ new k.1)

  pub reselects-same : (loses : Bool) (old new : AgentRecord H P) (path : Option Path) → Reselects loses old path new → Same old new
  reselects-same loses old new path h = either loses h
      (λ _ k. made-of _ new k.2 ∙ nominates-same old k.0 path k.1)
      (λ _ k. made-of old new k.1)

  -- ---- responses

  failure : (old new : AgentRecord H P) (via : Path) (m : Message) (emitted : Emitted) → HandlesFailure old via m emitted new → Same old new
  failure old new via m emitted h = by_failure (λ _ a. Same old a) old new via m emitted (λ code. refl) (λ code. refl) h

  success : (now : ℕ) (old new : AgentRecord H P) (via : Path) (m : Message) (emitted : Emitted) → HandlesSuccess now old via m emitted new → Same old new
  success now old new via m emitted (recorded, (place, p, after, at, keeps, answered, made), (named, mid, nominates, emitted_is, done)) =
      made-of _ new done ∙ (nominates-same (formed_again recorded) mid named nominates ∙ made-of _ recorded made)

  module _ (mac : H → List ℕ → List ℕ → List ℕ) where
    -- ---- requests

    module _ (q : RequestRecord) where
      pair : (l r number : ℕ) (s new : AgentRecord H P) (emitted : Emitted) → RecordsAndResponds mac q l r number s emitted new → Same s new
      pair l r number s new emitted (path, mid, nominates, (values, is, made)) =
          made-of _ new made ∙ either (selects_at_requests s && is_valid_at number s.pairs) nominates
          (λ _ k. nominates-same (pair_served q number s) mid path k)
          (λ _ k. made-of (pair_served q number s) mid k.1)

      takes : (l r : ℕ) (number : Option ℕ) (s new : AgentRecord H P) (emitted : Emitted) → FindsOrAddsPair mac q l r number s emitted new → Same s new
      takes l r (Some number) s new emitted h = pair l r number s new emitted h
      takes l r None s new emitted h = either (candidate_at s.local l).discarded h
          (λ _ k. made-of s new k.1)
          (λ _ k. pair l r s.next_number (with_pair (formed s l r) s) new emitted k.1)

      joins : (l : ℕ) (place : RemotePlace) (s new : AgentRecord H P) (emitted : Emitted) → AddsUnknownSender mac q l place s emitted new → Same s new
      joins l (Known r) s new emitted (number, between, h) = takes l r number s new emitted h
      joins l Barred s new emitted h = made-of s new h.1
      joins l Unknown s new emitted (number, between, h) = takes l _ number (with_sender q s) new emitted h
      joins l (Vacant r) s new emitted (number, between, h) = takes l r number (with_sender_at r q s) new emitted h
      joins l Full s new emitted h = made-of s new h.1

      admitted : (l : ℕ) (s new : AgentRecord H P) (emitted : Emitted) → CountsAndServes mac q l s emitted new → Same s new
      admitted l s new emitted h = either (is_misled s.controlling q) h
          (λ _ k. made-of s new k.1)
          (λ _ k. joins l k.0 (request_counted s) new emitted k.2)

      resolves : (conflict : Conflict) (l : ℕ) (s new : AgentRecord H P) (emitted : Emitted) → ResolvesRoleConflictBy mac conflict q l s emitted new → Same s new
      resolves Absent l s new emitted h = admitted l s new emitted h
      resolves Send487 l s new emitted (values, is, made) = made-of _ new made
      resolves SwitchRole l s new emitted h = admitted l (switched s) new emitted h

      here : (place : Option ℕ) (s new : AgentRecord H P) (emitted : Emitted) → MatchOption place (Drops s emitted new) (λ l. ResolvesRoleConflict mac q l s emitted new) → Same s new
      here None s new emitted h = made-of s new h.1
      here (Some l) s new emitted h = resolves (conflict_of s q) l s new emitted h

      serves : (s new : AgentRecord H P) (emitted : Emitted) → Serves mac q s emitted new → Same s new
      serves s new emitted h = either (is_for_other_peer s q) (in_turn mac q s new emitted h)
          (λ _ k. made-of s new k.1)
          (λ _ k. here (local_place s.local q) s new emitted k)

      requested : (remote : Option IceCreds) (s new : AgentRecord H P) (emitted : Emitted) → MatchOption remote (Queues q s emitted new) (λ _. Serves mac q s emitted new) → Same s new
      requested None s new emitted h = made-of _ new h.1
      requested (Some peer) s new emitted h = serves s new emitted h

    -- ---- packets

    by-class : (c : Class) (now : ℕ) (old mid : AgentRecord H P) (via : Path) (m : Message) (emitted : Emitted) → Takes mac c now old via m emitted mid → Same old mid
    by-class class.Request now old mid via m emitted h = requested (request_in now via m) old.remote_creds old mid emitted h
    by-class class.Success now old mid via m emitted h = success now old mid via m emitted h
    by-class class.Failure now old mid via m emitted h = failure old mid via m emitted h
    by-class class.Indication now old mid via m emitted h = absurd h
    by-class class.Unknown now old mid via m emitted h = absurd h

    pub receives : (answers : P → CandidateRecord → ℕ → ℕ → Type 0) (now : ℕ) (old new : AgentRecord H P) (via : Path) (bytes : List ℕ) (e : Entry) → Receives mac answers now old via bytes e new → Same old new
    receives answers now old new via bytes e (inl (fault, has_fault, is, made)) = made-of old new made
    receives answers now old new via bytes e (inr (m, reads, (Ok true, emitted, is, (accepted, (mid, takes_it, made))))) =
        made-of _ new made ∙ by-class m.class now old mid via m emitted takes_it
    receives answers now old new via bytes e (inr (m, reads, (Ok false, emitted, is, (no_one, nothing, made)))) = made-of old new made
    receives answers now old new via bytes e (inr (m, reads, (Err error, emitted, is, (may, nothing, made)))) = made-of old new made

    -- ---- the `handle_timeout` call

    tops : (now : ℕ) (peer : IceCreds) (next : Option PairRecord) (old new : AgentRecord H P) (s t : Stream) (issued : Option Issued) → ChecksTop mac now peer next old s issued new t → Same old new
    tops now peer None old new s t issued h = made-of old new h.1
    tops now peer (Some p) old new s t issued (id, drawn, values, is, made) = made-of _ new made

    checks : (now : ℕ) (remote : Option IceCreds) (old new : AgentRecord H P) (s t : Stream) (issued : Option Issued) → MayCheck mac now remote old s issued new t → Same old new
    checks now None old new s t issued h = made-of old new h.1
    checks now (Some peer) old new s t issued h = either old.lite h
        (λ _ k. made-of _ new k.1)
        (λ _ k. tops now peer k.0 (all_scheduled now old) new s t issued k.2)

    pub maintains : (now : ℕ) (old new : AgentRecord H P) (s t : Stream) (emitted : Emitted) → MaintainsPairs mac now old s emitted new t → Same (at_timeout now old) new
    maintains now old new s t emitted (first, second, issued, named, kept, nominating, giving, checking, is) =
        checks now kept.remote_creds kept new s t issued checking ∙ (expires-same now named kept second giving ∙ nominates-same (path_left now (at_timeout now old)) named first nominating)

    times-out : (now : ℕ) (request : Option RequestRecord) (old new : AgentRecord H P) (s t : Stream) (emitted : Emitted)
        → MatchOption request (MaintainsPairs mac now old s emitted new t) (λ q. ServesQueued mac q (at_request now old) s emitted new t) → Same old new
    times-out now None old new s t emitted h = (maintains now old new s t emitted h)
    times-out now (Some q) old new s t emitted h = (serves q _ new emitted h.0)

  -- ---- the other calls

  kept-of : (old new : AgentRecord H P) → new ≡ old → Same old new
  kept-of old new made = made-of old new made

  reselected : (old mid new : AgentRecord H P) (path : Option Path) → Reselects (loses_selected old mid) mid path new
      → Same old mid → Same old new
  reselected old mid new path again set = (reselects-same (loses_selected old mid) mid new path again) ∙ set

  forms : (mid new : AgentRecord H P) (all : List Combination) → FormsAll mid all new → Same mid new
  forms mid new all (f, each, made) = kept-of _ new made

  invalidates : (old new : AgentRecord H P) (l r : Option ℕ) (found : Bool) → InvalidatesAt l r old found new → Same old new
  invalidates old new (Some place) r found h = made-of _ new h.1
  invalidates old new None (Some place) found h = made-of _ new h.1
  invalidates old new None None found h = kept-of old new h.1

  -- a setter that may fail, and the limit of no retransmits, with which it is not called
  set-if : (set left : SettingsRecord P) (new : AgentRecord H P) (e : Entry) → e ≡ quiet Done → all_settings_of new ≡ set
      → all_settings_of new ≡ (if is_done e.answer then set else left)
  set-if set left new e is made = subst (λ (x : Entry). all_settings_of new ≡ (if is_done x.answer then set else left)) (sym is) made

  left-if : (set left : SettingsRecord P) (new : AgentRecord H P) (e : Entry) (error : IceError) → e ≡ quiet (Rejected error) → all_settings_of new ≡ left
      → all_settings_of new ≡ (if is_done e.answer then set else left)
  left-if set left new e error is made = subst (λ (x : Entry). all_settings_of new ≡ (if is_done x.answer then set else left)) (sym is) made

  retransmits : (b : Bool) (n : ℕ) (old new : AgentRecord H P) (s t : Stream) (e : Entry)
      → MatchBool b ((e ≡ quiet NotCalled) × (new ≡ old) × (t ≡ s)) (Becomes (with_retransmits n old) s e new t)
      → all_settings_of new ≡ (if is_done e.answer then record (all_settings_of old) { settings = record (settings_of old) { max_retransmits = n } } else all_settings_of old)
  retransmits true n old new s t e h =
      subst (λ (x : Entry). all_settings_of new ≡ (if is_done x.answer then record (all_settings_of old) { settings = record (settings_of old) { max_retransmits = n } } else all_settings_of old)) (sym h.0) (made-of old new h.1)
  retransmits false n old new s t e h = set-if (record (all_settings_of old) { settings = record (settings_of old) { max_retransmits = n } }) (all_settings_of old) new e h.0 (made-of _ new h.1)

  module _ (mac : H → List ℕ → List ℕ → List ℕ) (answers : P → CandidateRecord → ℕ → ℕ → Type 0) where
    pub settings-are-set : SettingsAreSet {H = H} {P = P} mac answers
    settings-are-set old new s t (SetMtu target warn) e (Ok _, reported, h, drawn) =
        search (set-if (record (all_settings_of old) { mtu = target; mtu_warn = warn }) (all_settings_of old) new e reported (made-of _ new h.1))
    settings-are-set old new s t (SetMtu target warn) e (Err error, reported, h, drawn) =
        search (left-if (record (all_settings_of old) { mtu = target; mtu_warn = warn }) (all_settings_of old) new e error reported (kept-of old new (mtu_kept old new target warn error h)))
    settings-are-set old new s t (SetControlTieBreaker tie) e h = search (made-of _ new h.1)
    settings-are-set old new s t (SetMaxCandidatePairs n) e h = search (made-of _ new h.1)
    settings-are-set old new s t (SetMaxDiscovered limit) e h = search (made-of _ new h.1)
    settings-are-set old new s t (SetMaxCandidates limit) e h = search (made-of _ new h.1)
    settings-are-set old new s t (SetIceLite lite) e h = search (made-of _ new h.1)
    settings-are-set old new s t (SetRenomination renominates) e h = search (made-of _ new h.1)
    settings-are-set old new s t (SetProfile profile) e h = search (made-of _ new h.1)
    settings-are-set old new s t (SetConsent consent) e h = search (made-of _ new h.1)
    settings-are-set old new s t (SetTimingAdvance by) e h = search (made-of _ new h.1)
    settings-are-set old new s t (SetInitialStunRto rto) e h = search (made-of _ new h.1)
    settings-are-set old new s t (SetMaxStunRto rto) e h = search (made-of _ new h.1)
    settings-are-set old new s t (SetMaxStunRetransmits n) e h = search (retransmits (n == 0) n old new s t e h)
    settings-are-set old new s t (SetLiteTimeout by) e h = search (made-of _ new h.1)
    settings-are-set old new s t (SetLocalPreference object) e h = search (made-of _ new h.1)
    settings-are-set old new s t (SetControlling controlling) e h = made-of _ new h.1
    settings-are-set old new s t (SetLocalCredentials creds) e (Ok _, reported, h, drawn) = made-of _ new h.1
    settings-are-set old new s t (SetLocalCredentials creds) e (Err error, reported, h, drawn) = kept-of old new (local_kept old new creds error h)
    settings-are-set old new s t (SetRemoteCredentials creds) e (Ok _, reported, h, drawn) = made-of _ new h.1
    settings-are-set old new s t (SetRemoteCredentials creds) e (Err error, reported, h, drawn) = kept-of old new (remote_kept old new creds error h)
    settings-are-set old new s t (SkipPairIds n) e h = made-of _ new h.1
    settings-are-set old new s t (AddLocalCandidate c) e (Ok place, emitted, reported, (path, mid, h, again, is), drawn) =
        reselected old mid new path again (by_adding_local old mid answers c place h
        (λ made. kept-of old mid made) (λ x _ f. forms _ mid _ f) (λ k _ f. forms _ mid _ f) (λ x _ k f. forms _ mid _ f))
    settings-are-set old new s t (AddLocalCandidate c) e (Err error, emitted, reported, (path, mid, h, again, is), drawn) =
        reselected old mid new path again (kept-of old mid (enrolment_kept answers old mid c error h))
    settings-are-set old new s t (AddRemoteCandidate c) e (Ok _, emitted, reported, (path, mid, h, again, is), drawn) =
        reselected old mid new path again (by_adding_remote old mid c h
        (λ made. kept-of old mid made) (λ f. forms _ mid _ f) (λ k _ addr f. forms _ mid _ f))
    settings-are-set old new s t (AddRemoteCandidate c) e (Err error, emitted, reported, (path, mid, h, again, is), drawn) =
        reselected old mid new path again (kept-of old mid (storing_kept old mid c error h))
    settings-are-set old new s t (InvalidateCandidate c) e (found, emitted, reported, (path, mid, h, again, is), drawn) =
        reselected old mid new path again (invalidates old mid (local_to_discard c old) (remote_to_discard c old) found h)
    settings-are-set old new s t (RestartIce creds keep) e (Ok _, reported, h, drawn) = made-of _ new h.1
    settings-are-set old new s t (RestartIce creds keep) e (Err error, reported, h, drawn) = kept-of old new (restart_kept old new creds keep error h)
    settings-are-set old new s t RecreateCandidatePairs e (Ok _, reported, (some, h), drawn) = forms _ new _ h
    settings-are-set old new s t RecreateCandidatePairs e (Err error, reported, h, drawn) = kept-of old new (recreation_kept old new error h)
    settings-are-set old new s t (ReceivePacket now via bytes) e (h, drawn) = (receives mac answers now old new via bytes e h)
    settings-are-set old new s t (HandleTimeout now) e (Ok _, emitted, reported, h) = times-out mac now (request_at now old) (timeout_begun now old) new s t emitted h
    settings-are-set old new s t (HandleTimeout now) e (Err error, emitted, reported, (may, nothing, made, drawn)) = kept-of old new made
    settings-are-set old new s t PollTransmit e (given, reported, (polled, made), drawn) = kept-of _ new made
    settings-are-set old new s t PollTimeout e (deadline, reported, h, drawn) = by_waking old new deadline h (λ made. kept-of old new made) (λ at made. kept-of _ new made)
    settings-are-set old new s t PollEvent e (given, reported, (polled, made), drawn) = kept-of _ new made
