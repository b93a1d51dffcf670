-- Each transition leaves the pacing interval, except that `set_timing_advance` sets it; and the time up to which checks are charged, except
-- for the charge of a check.
use Rattle.is_stun.specs.declared.header.Class.TheVariants as class
use Rattle.is_theorems.proofs.Common.{formed_again}
use Rattle.is_theorems.proofs.Common.{◌&&◌, ◌==◌, ◌∙◌, ◌≡◌, Absent, AddLocalCandidate, AddRemoteCandidate, AddsUnknownSender, AgentRecord}
use Rattle.is_theorems.proofs.Common.{all_scheduled, ap, at_request, at_timeout, Barred, Becomes, Bool, candidate_at, CandidateRecord, CHARGE}
use Rattle.is_theorems.proofs.Common.{charged_after, ChecksTop, Class, Combination, Conflict, conflict_of, CountsAndServes, Drops, Emitted}
use Rattle.is_theorems.proofs.Common.{Entry, Err, expired_gone, false, FindsOrAddsPair, followed, formed, FormsAll, Full, HandlesFailure}
use Rattle.is_theorems.proofs.Common.{HandlesSuccess, HandleTimeout, IceCreds, if◌then◌else◌, in_turn, inl, inr, InvalidateCandidate}
use Rattle.is_theorems.proofs.Common.{InvalidatesAt, is_expired, is_for_other_peer, is_misled, is_request, is_valid_at, Issued, issued_as}
use Rattle.is_theorems.proofs.Common.{Known, later, List, list_any, local_place, local_to_discard, loses_selected, MaintainsPairs}
use Rattle.is_theorems.proofs.Common.{MatchBool, MatchOption, max, MayCheck, Message, Nominates, None, NotCalled, Ok, Option, option_map_or}
use Rattle.is_theorems.proofs.Common.{pair_served, PairRecord, Path, path_left, path_of, PollEvent, PollTimeout, PollTransmit, Queues}
use Rattle.is_theorems.proofs.Common.{quiet, ReceivePacket, Receives, RecordsAndResponds, RecreateCandidatePairs, refl, remains}
use Rattle.is_theorems.proofs.Common.{remote_to_discard, RemotePlace, RemovesExpired, request_at, request_counted, request_in}
use Rattle.is_theorems.proofs.Common.{RequestRecord, Reselects, ResolvesRoleConflict, ResolvesRoleConflictBy, RestartIce, selection_of}
use Rattle.is_theorems.proofs.Common.{selects_at_requests, Send487, Serves, ServesQueued, SetConsent, SetControlling, SetControlTieBreaker}
use Rattle.is_theorems.proofs.Common.{SetIceLite, SetInitialStunRto, SetLiteTimeout, SetLocalCredentials, SetLocalPreference}
use Rattle.is_theorems.proofs.Common.{SetMaxCandidatePairs, SetMaxCandidates, SetMaxDiscovered, SetMaxStunRetransmits, SetMaxStunRto, SetMtu, SetProfile}
use Rattle.is_theorems.proofs.Common.{SetRemoteCredentials, SetRenomination, SetTimingAdvance, SkipPairIds, Some, Stream, StunTiming}
use Rattle.is_theorems.proofs.Common.{switched, SwitchRole, sym, Takes, timeout_begun, true, Unknown, Vacant, with_pair, with_retransmits}
use Rattle.is_theorems.proofs.Common.{with_sender, with_sender_at, ℕ}
use Rattle.is_theorems.proofs.CallEffects.AddedCandidates.{by_adding_local, by_adding_remote, by_waking}
use Rattle.is_theorems.proofs.RuleEffects.UnchangedSettings.{either}
use Rattle.is_theorems.proofs.RuleEffects.NominatedPairs.{SelectsPath, selects_path}
use Rattle.is_theorems.proofs.CallEffects.FailedCallsAndNewAgents.{mtu_kept, local_kept, remote_kept, restart_kept, recreation_kept}
use Rattle.is_theorems.proofs.CallEffects.FailedCallsAndNewAgents.{enrolment_kept, storing_kept}
use Rattle.is_theorems.specs.Pacing.{PacingIsSet}
use Rattle.is_theorems.proofs.RuleEffects.NotedErrors.{by_failure}

-- what the times of timeouts depend on, pairs aside
pub record Clock : Type 0 where
  pub lite : Bool
  pub timing : StunTiming
  pub last_time : Option ℕ

pub record Pace : Type 0 where
  pub timing_advance : ℕ
  pub clock : Clock
  pub charged_until : ℕ

abbrev is_check : Option Issued → Bool
is_check issued = option_map_or (λ (x : Issued). is_request x.class) issued false

-- with the charge of this check, if one is issued
abbrev paid : ℕ → Option Issued → Pace → Pace
paid now issued p = record p { charged_until = if is_check issued then later (max now p.charged_until) CHARGE else p.charged_until }

module _ {H P : Type 0} where
  abbrev pub clock_of : AgentRecord H P → Clock
  clock_of a = record { lite = a.lite; timing = a.timing; last_time = a.last_time }

  abbrev pub pace_of : AgentRecord H P → Pace
  pace_of a = record { timing_advance = a.timing_advance; clock = clock_of a; charged_until = a.charged_until }

  abbrev pub charged : ℕ → Option Issued → AgentRecord H P → AgentRecord H P
  charged now issued a = record a { charged_until = if is_check issued then charged_after now a else a.charged_until }

  abbrev Same : AgentRecord H P → AgentRecord H P → Type 0
  Same old new = pace_of new ≡ pace_of old

  made-of : (old new : AgentRecord H P) → new ≡ old → Same old new
  made-of old new made = ap (λ (a : AgentRecord H P). pace_of a) made

  -- ---- nomination

  pub nominates-same : (old new : AgentRecord H P) (path : Option Path) → Nominates old path new → Same old new
  nominates-same old new path h = from (selects_path old new path h) where
    from : SelectsPath old path new → Same old new
    from (None, greatest, (is, made)) = made-of old new made
    from (Some top, greatest, k) = either (remains (followed old) top (selection_of old)) k
        (λ _ l. made-of old new l.1)
        (λ _ l. made-of _ new l.1)

  pub expires-same : (now : ℕ) (old new : AgentRecord H P) (path : Option Path) → RemovesExpired now old path new → Same old new
  expires-same now old new path h = either (list_any (is_expired now old) old.pairs) h
      (λ _ k. made-of _ new k.2 ∙ nominates-same (expired_gone now old) k.0 path k.1)
      (λ _ k. made-of _ new k.1)

  pub reselects-same : (loses : Bool) (old new : AgentRecord H P) (path : Option Path) → Reselects loses old path new → Same old new
  reselects-same loses old new path h = either loses h
      (λ _ k. made-of _ new k.2 ∙ nominates-same old k.0 path k.1)
      (λ _ k. made-of old new k.1)

  -- ---- responses

  failure : (old new : AgentRecord H P) (via : Path) (m : Message) (emitted : Emitted) → HandlesFailure old via m emitted new → Same old new
  failure old new via m emitted h = by_failure (λ _ a. Same old a) old new via m emitted (λ code. refl) (λ code. refl) h

  success : (now : ℕ) (old new : AgentRecord H P) (via : Path) (m : Message) (emitted : Emitted) → HandlesSuccess now old via m emitted new → Same old new
  success now old new via m emitted (recorded, (place, p, after, at, keeps, answered, made), (named, mid, nominates, emitted_is, done)) =
      made-of _ new done ∙ (nominates-same (formed_again recorded) mid named nominates ∙ made-of _ recorded made)

  module _ (mac : H → List ℕ → List ℕ → List ℕ) where
    -- ---- requests

    module _ (q : RequestRecord) where
      pair : (l r number : ℕ) (s new : AgentRecord H P) (emitted : Emitted) → RecordsAndResponds mac q l r number s emitted new → Same s new
      pair l r number s new emitted (path, mid, nominates, (values, is, made)) =
          made-of _ new made ∙ either (selects_at_requests s && is_valid_at number s.pairs) nominates
          (λ _ k. nominates-same (pair_served q number s) mid path k)
          (λ _ k. made-of (pair_served q number s) mid k.1)

      takes : (l r : ℕ) (number : Option ℕ) (s new : AgentRecord H P) (emitted : Emitted) → FindsOrAddsPair mac q l r number s emitted new → Same s new
      takes l r (Some number) s new emitted h = pair l r number s new emitted h
      takes l r None s new emitted h = either (candidate_at s.local l).discarded h
          (λ _ k. made-of s new k.1)
          (λ _ k. pair l r s.next_number (with_pair (formed s l r) s) new emitted k.1)

      joins : (l : ℕ) (place : RemotePlace) (s new : AgentRecord H P) (emitted : Emitted) → AddsUnknownSender mac q l place s emitted new → Same s new
      joins l (Known r) s new emitted (number, between, h) = takes l r number s new emitted h
      joins l Barred s new emitted h = made-of s new h.1
      joins l Unknown s new emitted (number, between, h) = takes l _ number (with_sender q s) new emitted h
      joins l (Vacant r) s new emitted (number, between, h) = takes l r number (with_sender_at r q s) new emitted h
      joins l Full s new emitted h = made-of s new h.1

      admitted : (l : ℕ) (s new : AgentRecord H P) (emitted : Emitted) → CountsAndServes mac q l s emitted new → Same s new
      admitted l s new emitted h = either (is_misled s.controlling q) h
          (λ _ k. made-of s new k.1)
          (λ _ k. joins l k.0 (request_counted s) new emitted k.2)

      resolves : (conflict : Conflict) (l : ℕ) (s new : AgentRecord H P) (emitted : Emitted) → ResolvesRoleConflictBy mac conflict q l s emitted new → Same s new
      resolves Absent l s new emitted h = admitted l s new emitted h
      resolves Send487 l s new emitted (values, is, made) = made-of _ new made
      resolves SwitchRole l s new emitted h = admitted l (switched s) new emitted h

      here : (place : Option ℕ) (s new : AgentRecord H P) (emitted : Emitted) → MatchOption place (Drops s emitted new) (λ l. ResolvesRoleConflict mac q l s emitted new) → Same s new
      here None s new emitted h = made-of s new h.1
      here (Some l) s new emitted h = resolves (conflict_of s q) l s new emitted h

      pub serves : (s new : AgentRecord H P) (emitted : Emitted) → Serves mac q s emitted new → Same s new
      serves s new emitted h = either (is_for_other_peer s q) (in_turn mac q s new emitted h)
          (λ _ k. made-of s new k.1)
          (λ _ k. here (local_place s.local q) s new emitted k)

      requested : (remote : Option IceCreds) (s new : AgentRecord H P) (emitted : Emitted) → MatchOption remote (Queues q s emitted new) (λ _. Serves mac q s emitted new) → Same s new
      requested None s new emitted h = made-of _ new h.1
      requested (Some peer) s new emitted h = serves s new emitted h

    -- ---- packets

    by-class : (c : Class) (now : ℕ) (old mid : AgentRecord H P) (via : Path) (m : Message) (emitted : Emitted) → Takes mac c now old via m emitted mid → Same old mid
    by-class class.Request now old mid via m emitted h = requested (request_in now via m) old.remote_creds old mid emitted h
    by-class class.Success now old mid via m emitted h = success now old mid via m emitted h
    by-class class.Failure now old mid via m emitted h = failure old mid via m emitted h
    by-class class.Indication now old mid via m emitted h = absurd h
    by-class class.Unknown now old mid via m emitted h = absurd h

    pub receives : (answers : P → CandidateRecord → ℕ → ℕ → Type 0) (now : ℕ) (old new : AgentRecord H P) (via : Path) (bytes : List ℕ) (e : Entry) → Receives mac answers now old via bytes e new → Same old new
    receives answers now old new via bytes e (inl (fault, has_fault, is, made)) = made-of old new made
    receives answers now old new via bytes e (inr (m, reads, (Ok true, emitted, is, (accepted, (mid, takes_it, made))))) =
        made-of _ new made ∙ by-class m.class now old mid via m emitted takes_it
    receives answers now old new via bytes e (inr (m, reads, (Ok false, emitted, is, (no_one, nothing, made)))) = made-of old new made
    receives answers now old new via bytes e (inr (m, reads, (Err error, emitted, is, (may, nothing, made)))) = made-of old new made

    -- ---- the `handle_timeout` call

    issues : (now : ℕ) (given issued : Option Issued) (old : AgentRecord H P) → issued ≡ given → pace_of (charged now given old) ≡ pace_of (charged now issued old)
    issues now given issued old is = ap (λ o. pace_of (charged now o old)) (sym is)

    tops : (now : ℕ) (peer : IceCreds) (next : Option PairRecord) (old new : AgentRecord H P) (s t : Stream) (issued : Option Issued) → ChecksTop mac now peer next old s issued new t → Same (charged now issued old) new
    tops now peer None old new s t issued h = made-of old new h.1 ∙ issues now None issued old h.0
    tops now peer (Some p) old new s t issued (id, drawn, values, is, made) = made-of _ new made ∙ issues now (Some (issued_as (path_of old p) class.Request id)) issued old is

    checks : (now : ℕ) (remote : Option IceCreds) (old new : AgentRecord H P) (s t : Stream) (issued : Option Issued) → MayCheck mac now remote old s issued new t → Same (charged now issued old) new
    checks now None old new s t issued h = made-of old new h.1 ∙ issues now None issued old h.0
    checks now (Some peer) old new s t issued h = either old.lite h
        (λ _ k. made-of _ new k.1 ∙ issues now None issued old k.0)
        (λ _ k. tops now peer k.0 (all_scheduled now old) new s t issued k.2)

    pub maintains : (now : ℕ) (old new : AgentRecord H P) (s t : Stream) (emitted : Emitted) → MaintainsPairs mac now old s emitted new t → Same (charged now emitted.issued (at_timeout now old)) new
    maintains now old new s t emitted (first, second, issued, named, kept, nominating, giving, checking, is) =
        let stays = expires-same now named kept second giving ∙ nominates-same (path_left now (at_timeout now old)) named first nominating in
        checks now kept.remote_creds kept new s t issued checking ∙ (ap (λ p. paid now issued p) stays
        ∙ issues now issued emitted.issued (at_timeout now old) (ap (λ (x : Emitted). x.issued) is))

    times-out : (now : ℕ) (request : Option RequestRecord) (old new : AgentRecord H P) (s t : Stream) (emitted : Emitted)
        → MatchOption request (MaintainsPairs mac now old s emitted new t) (λ q. ServesQueued mac q (at_request now old) s emitted new t) → new.timing_advance ≡ old.timing_advance
    times-out now None old new s t emitted h = ap (λ (p : Pace). p.timing_advance) (maintains now old new s t emitted h)
    times-out now (Some q) old new s t emitted h = ap (λ (p : Pace). p.timing_advance) (serves q _ new emitted h.0)

  -- ---- the other calls

  paced-of : (old new : AgentRecord H P) → new ≡ old → new.timing_advance ≡ old.timing_advance
  paced-of old new made = ap (λ (a : AgentRecord H P). a.timing_advance) made

  reselected : (old mid new : AgentRecord H P) (path : Option Path) → Reselects (loses_selected old mid) mid path new
      → mid.timing_advance ≡ old.timing_advance → new.timing_advance ≡ old.timing_advance
  reselected old mid new path again set = ap (λ (p : Pace). p.timing_advance) (reselects-same (loses_selected old mid) mid new path again) ∙ set

  forms : (mid new : AgentRecord H P) (all : List Combination) → FormsAll mid all new → new.timing_advance ≡ mid.timing_advance
  forms mid new all (f, each, made) = paced-of _ new made

  invalidates : (old new : AgentRecord H P) (l r : Option ℕ) (found : Bool) → InvalidatesAt l r old found new → new.timing_advance ≡ old.timing_advance
  invalidates old new (Some place) r found h = paced-of _ new h.1
  invalidates old new None (Some place) found h = paced-of _ new h.1
  invalidates old new None None found h = paced-of old new h.1

  retransmits : (b : Bool) (n : ℕ) (old new : AgentRecord H P) (s t : Stream) (e : Entry)
      → MatchBool b ((e ≡ quiet NotCalled) × (new ≡ old) × (t ≡ s)) (Becomes (with_retransmits n old) s e new t) → new.timing_advance ≡ old.timing_advance
  retransmits true n old new s t e h = paced-of old new h.1
  retransmits false n old new s t e h = paced-of _ new h.1

  module _ (mac : H → List ℕ → List ℕ → List ℕ) (answers : P → CandidateRecord → ℕ → ℕ → Type 0) where
    pub pacing-is-set : PacingIsSet {H = H} {P = P} mac answers
    pacing-is-set old new s t (SetMtu target warn) e (Ok _, reported, h, drawn) = paced-of _ new h.1
    pacing-is-set old new s t (SetMtu target warn) e (Err error, reported, h, drawn) = paced-of old new (mtu_kept old new target warn error h)
    pacing-is-set old new s t (SetControlTieBreaker tie) e h = paced-of _ new h.1
    pacing-is-set old new s t (SetMaxCandidatePairs n) e h = paced-of _ new h.1
    pacing-is-set old new s t (SetMaxDiscovered limit) e h = paced-of _ new h.1
    pacing-is-set old new s t (SetMaxCandidates limit) e h = paced-of _ new h.1
    pacing-is-set old new s t (SetIceLite lite) e h = paced-of _ new h.1
    pacing-is-set old new s t (SetRenomination renominates) e h = paced-of _ new h.1
    pacing-is-set old new s t (SetProfile profile) e h = paced-of _ new h.1
    pacing-is-set old new s t (SetConsent consent) e h = paced-of _ new h.1
    pacing-is-set old new s t (SetTimingAdvance by) e h = paced-of _ new h.1
    pacing-is-set old new s t (SetInitialStunRto rto) e h = paced-of _ new h.1
    pacing-is-set old new s t (SetMaxStunRto rto) e h = paced-of _ new h.1
    pacing-is-set old new s t (SetMaxStunRetransmits n) e h = retransmits (n == 0) n old new s t e h
    pacing-is-set old new s t (SetLiteTimeout by) e h = paced-of _ new h.1
    pacing-is-set old new s t (SetLocalPreference object) e h = paced-of _ new h.1
    pacing-is-set old new s t (SetControlling controlling) e h = paced-of _ new h.1
    pacing-is-set old new s t (SetLocalCredentials creds) e (Ok _, reported, h, drawn) = paced-of _ new h.1
    pacing-is-set old new s t (SetLocalCredentials creds) e (Err error, reported, h, drawn) = paced-of old new (local_kept old new creds error h)
    pacing-is-set old new s t (SetRemoteCredentials creds) e (Ok _, reported, h, drawn) = paced-of _ new h.1
    pacing-is-set old new s t (SetRemoteCredentials creds) e (Err error, reported, h, drawn) = paced-of old new (remote_kept old new creds error h)
    pacing-is-set old new s t (SkipPairIds n) e h = paced-of _ new h.1
    pacing-is-set old new s t (AddLocalCandidate c) e (Ok place, emitted, reported, (path, mid, h, again, is), drawn) =
        reselected old mid new path again (by_adding_local old mid answers c place h
        (λ made. paced-of old mid made) (λ x _ f. forms _ mid _ f) (λ k _ f. forms _ mid _ f) (λ x _ k f. forms _ mid _ f))
    pacing-is-set old new s t (AddLocalCandidate c) e (Err error, emitted, reported, (path, mid, h, again, is), drawn) =
        reselected old mid new path again (paced-of old mid (enrolment_kept answers old mid c error h))
    pacing-is-set old new s t (AddRemoteCandidate c) e (Ok _, emitted, reported, (path, mid, h, again, is), drawn) =
        reselected old mid new path again (by_adding_remote old mid c h
        (λ made. paced-of old mid made) (λ f. forms _ mid _ f) (λ k _ addr f. forms _ mid _ f))
    pacing-is-set old new s t (AddRemoteCandidate c) e (Err error, emitted, reported, (path, mid, h, again, is), drawn) =
        reselected old mid new path again (paced-of old mid (storing_kept old mid c error h))
    pacing-is-set old new s t (InvalidateCandidate c) e (found, emitted, reported, (path, mid, h, again, is), drawn) =
        reselected old mid new path again (invalidates old mid (local_to_discard c old) (remote_to_discard c old) found h)
    pacing-is-set old new s t (RestartIce creds keep) e (Ok _, reported, h, drawn) = paced-of _ new h.1
    pacing-is-set old new s t (RestartIce creds keep) e (Err error, reported, h, drawn) = paced-of old new (restart_kept old new creds keep error h)
    pacing-is-set old new s t RecreateCandidatePairs e (Ok _, reported, (some, h), drawn) = forms _ new _ h
    pacing-is-set old new s t RecreateCandidatePairs e (Err error, reported, h, drawn) = paced-of old new (recreation_kept old new error h)
    pacing-is-set old new s t (ReceivePacket now via bytes) e (h, drawn) = ap (λ (p : Pace). p.timing_advance) (receives mac answers now old new via bytes e h)
    pacing-is-set old new s t (HandleTimeout now) e (Ok _, emitted, reported, h) = times-out mac now (request_at now old) (timeout_begun now old) new s t emitted h
    pacing-is-set old new s t (HandleTimeout now) e (Err error, emitted, reported, (may, nothing, made, drawn)) = paced-of old new made
    pacing-is-set old new s t PollTransmit e (given, reported, (polled, made), drawn) = paced-of _ new made
    pacing-is-set old new s t PollTimeout e (deadline, reported, h, drawn) = by_waking old new deadline h (λ made. paced-of old new made) (λ at made. paced-of _ new made)
    pacing-is-set old new s t PollEvent e (given, reported, (polled, made), drawn) = paced-of _ new made
