-- An agent without a valid pair selects no path, so no nomination becomes due. If none is to be sent at once, none will be until a
-- success response is accepted, in whichever role the agent is.
use Rattle.is_stun.specs.declared.header.Class.TheVariants as class
use Rattle.is_theorems.proofs.Common.{[], ◌&&◌, ◌++◌, ◌<◌, ◌||◌, ◌∙◌, ◌∷◌, ◌≡◌, ◌⊎◌, Absent, AcceptsSuccess, AddLocalCandidate}
use Rattle.is_theorems.proofs.Common.{AddRemoteCandidate, AddsUnknownSender, AgentRecord, all_scheduled, all_settings_of, Answer, ap}
use Rattle.is_theorems.proofs.Common.{AreInRound, arith, scheduled, at_request, at_timeout, Barred, Bool, Call, candidate_at, CandidateRecord}
use Rattle.is_theorems.proofs.Common.{ChecksTop, chosen-able, Class, Combination, Conflict, conflict_of, CountsAndServes, Drops, Emitted}
use Rattle.is_theorems.proofs.Common.{Entry, eqb-true, Err, evaluated, Execution, expired_gone, false, FindsOrAddsPair, first_taken}
use Rattle.is_theorems.proofs.Common.{followed, formed, FormsAll, found-in, Full, GivesBased, HandlesFailure, HandleTimeout, Has, IceCreds}
use Rattle.is_theorems.proofs.Common.{if◌then◌else◌, in_turn, inl, inr, is_done, is_expired, is_for_other_peer, is_in_round, is_misled}
use Rattle.is_theorems.proofs.Common.{is_modern, is_modern_profile, is_nominated, is_numbered, is_some, is_valid, is_valid_at, IsBelow}
use Rattle.is_theorems.proofs.Common.{IsGone, IsSound, Issued, Known, List, list_any, lite_set_by, local_place, loses_selected}
use Rattle.is_theorems.proofs.Common.{MaintainsPairs, MatchOption, MayCheck, Message, Nominates, nominates_at_once, NominatesWhere, None}
use Rattle.is_theorems.proofs.Common.{not, numbered-found, numbers, Ok, Option, pair_numbered, pair_selected, pair_served, PairRecord, Path}
use Rattle.is_theorems.proofs.Common.{path_between, path_of, PathEffect, PollEvent, PollTimeout, PollTransmit, Queues, ReceivePacket}
use Rattle.is_theorems.proofs.Common.{Receives, RecordsAndResponds, refl, RemotePlace, RemovesExpired, replied, request_at, request_counted}
use Rattle.is_theorems.proofs.Common.{request_in, RequestRecord, Reselects, ResolvesRoleConflict, ResolvesRoleConflictBy, rises, same}
use Rattle.is_theorems.proofs.Common.{selection_of, selects_at_requests, Send487, Serves, ServesQueued, SetControlling}
use Rattle.is_theorems.proofs.Common.{SetControlTieBreaker, SetIceLite, SetLocalCredentials, SetLocalPreference, SetMaxCandidatePairs}
use Rattle.is_theorems.proofs.Common.{SetMaxCandidates, SetMaxDiscovered, SetMaxStunRetransmits, SetMtu, SetProfile, SetRenomination, SetTimingAdvance}
use Rattle.is_theorems.proofs.Common.{settings_after, SettingsRecord, state_updated, Some, Step, Stream, subst, switched, switched_sides}
use Rattle.is_theorems.proofs.Common.{SwitchRole, sym, Takes, timeout_begun, triggered_time, true, Unknown, unwrap_or, Vacant, with_pair}
use Rattle.is_theorems.proofs.Common.{with_priority_in, with_sender, with_sender_at, ℕ}
use Rattle.is_theorems.proofs.CallEffects.AddedCandidates.{by_adding_local, by_adding_remote, by_waking}
use Rattle.is_theorems.proofs.CallEffects.ChangedCandidates.{adds_local_goes, adds_remote_goes}
use Rattle.is_theorems.proofs.CallEffects.FailedCallsAndNewAgents.{mtu_kept, local_kept, enrolment_kept, storing_kept}
use Rattle.is_theorems.proofs.CallEffects.KeptSettings.{settings-are-set}
use Rattle.is_theorems.proofs.CallEffects.PathAndTradeEffects.{path_theorem}
use Rattle.is_theorems.proofs.DuePairs.AfterPackets.{NoneValid, none-passes, and-false}
use Rattle.is_theorems.proofs.DuePairs.FirstDuePair.{NoneAtOnce}
use Rattle.is_theorems.proofs.PathSelection.NominationPoints.{All3, AllNumbers, fit_of}
use Rattle.is_theorems.proofs.RuleEffects.ChangedPairs.{Has-map, parts_of}
use Rattle.is_theorems.proofs.RuleEffects.EarlierAndNewPairs.{Has-filter, Has-push, Onward}
use Rattle.is_theorems.proofs.RuleEffects.NominatedPairs.{SelectsPath, selects_path}
use Rattle.is_theorems.proofs.RuleEffects.UnchangedSettings.{either}
use Rattle.is_theorems.proofs.RuleEffects.NotedErrors.{by_failure}
use Rattle.is_theorems.proofs.RuleEffects.PathsThatAreLeft.{none-valid-left}

no-case : {A : Type 0} → false ≡ true → A
no-case h = absurd (cc)

and-left : (a b : Bool) → a ≡ false → (a && b) ≡ true → ⊥
and-left true b h k = cc
and-left false b h k = cc

left-off : (a b : Bool) → a ≡ false → (a && b) ≡ false
left-off true b is = absurd (let no : true ≡ false = is in cc)
left-off false b is = refl

none-named : (n : ℕ) (ps : List PairRecord) → IsGone n ps → (o : Option PairRecord) → pair_numbered n ps ≡ o → is_some o ≡ false
none-named n ps gone None is = refl
none-named n ps gone (Some p) is = let k = found-in (is_numbered n) ps p is in absurd (gone p k.0 (eqb-true p.number n k.1))

-- of what `nominates_at_once` tests, one is false
one-off : (c f n d s : Bool) → c ≡ true → f ≡ true → (c && f && n && d && s) ≡ false → (n ≡ false) ⊎ ((d ≡ false) ⊎ (s ≡ false))
one-off true true false d s role full off = inl refl
one-off true true true false s role full off = inr (inl refl)
one-off true true true true s role full off = inr (inr off)
one-off true false n d s role full off = absurd (let no : false ≡ true = full in cc)
one-off false f n d s role full off = absurd (let no : false ≡ true = role in cc)

all-off : (c f n d s : Bool) → (n ≡ false) ⊎ ((d ≡ false) ⊎ (s ≡ false)) → (c && f && n && d && s) ≡ false
all-off false f n d s is = refl
all-off true false n d s is = refl
all-off true true false d s is = refl
all-off true true true false s is = refl
all-off true true true true false is = refl
all-off true true true true true (inl is) = is
all-off true true true true true (inr (inl is)) = is
all-off true true true true true (inr (inr is)) = is

pub lite_stays : {P : Type 0} (m : Bool) (c : Call P) (l : Bool) → is_in_round m c ≡ true → lite_set_by c l ≡ l
lite_stays m (SetIceLite lite) l is = no-case is
lite_stays m _ l is = refl

-- the calls of rounds leave the profile
profile-stays : {P : Type 0} (m : Bool) (c : Call P) (answer : Answer) (s : SettingsRecord P) → is_in_round m c ≡ true → (settings_after c answer s).settings.profile ≡ s.settings.profile
profile-stays m (SetProfile profile) answer s is = no-case is
profile-stays m (SetMaxStunRetransmits n) answer s is = no-case is
profile-stays m (SetMtu mtu warn) answer s is = by (is_done answer) where
  by : (b : Bool) → (if b then record s { mtu = mtu; mtu_warn = warn } else s).settings.profile ≡ s.settings.profile
  by true = refl
  by false = refl
profile-stays m _ answer s is = refl

-- renomination gets no numbers, if it is switched off, or by the profile `Original`
pub not-numbered : (m r : Bool) → not (m && r) ≡ true → (r && m) ≡ false
not-numbered true true is = no-case is
not-numbered true false is = refl
not-numbered false true is = refl
not-numbered false false is = refl

-- no path is answered
abbrev NeverMet : Path → Type 0
NeverMet path = ⊥

selected-none : (selected : Option ℕ) (ps : List PairRecord) → ((n : ℕ) → selected ≡ Some n → IsGone n ps) → is_some (pair_selected selected ps) ≡ false
selected-none None ps gone = refl
selected-none (Some n) ps gone = none-named n ps (gone n refl) (pair_numbered n ps) refl

gone-if : (selected : Option ℕ) (ps : List PairRecord) → rises ps ≡ true → is_some (pair_selected selected ps) ≡ false → (n : ℕ) → selected ≡ Some n → IsGone n ps
gone-if selected ps rising none n is p has names =
    let found : pair_numbered n ps ≡ Some p = subst (λ k. pair_numbered k ps ≡ Some p) names (numbered-found ps p rising has) in
    let some : is_some (pair_selected selected ps) ≡ true = subst (λ o. is_some (pair_selected o ps) ≡ true) (sym is) (ap is_some found) in
    let no : true ≡ false = sym some ∙ none in cc

module _ {H P : Type 0} where
  -- nominations have no numbers, or none is due, or the pair that was selected last is gone
  abbrev pub NoneIsDue : AgentRecord H P → Type 0
  NoneIsDue a = (numbers a ≡ false) ⊎ ((a.nomination_due ≡ false) ⊎ ((n : ℕ) → a.selected_pair ≡ Some n → IsGone n a.pairs))

  -- no pair is valid, and no nomination is to be sent at once
  pub record Quiet (a : AgentRecord H P) : Type 0 where
    pub full : a.lite ≡ false
    pub invalid : NoneValid a.pairs
    pub quiet : NoneIsDue a

  -- then none is sent at once
  pub none-is-due : (a : AgentRecord H P) → NoneIsDue a → nominates_at_once a ≡ false
  none-is-due a is = all-off a.controlling (not a.lite) (numbers a) a.nomination_due (is_some (pair_selected a.selected_pair a.pairs)) (elim is [
    | inl plain ↦ inl plain
    | inr (inl settled) ↦ inr (inl settled)
    | inr (inr gone) ↦ inr (inr (selected-none a.selected_pair a.pairs gone))
  ])

  -- and conversely, if the agent is controlling
  pub due-none : (a : AgentRecord H P) → IsSound a → a.controlling ≡ true → a.lite ≡ false → nominates_at_once a ≡ false → NoneIsDue a
  due-none a sound role full off =
      elim (one-off a.controlling (not a.lite) (numbers a) a.nomination_due (is_some (pair_selected a.selected_pair a.pairs)) role (ap not full) off) [
        | inl plain ↦ inl plain
        | inr (inl settled) ↦ inr (inl settled)
        | inr (inr none) ↦ inr (inr (gone-if a.selected_pair a.pairs sound.rising none))
      ]

  -- ---- from one state to the next

  -- no nomination becomes due, and the selected number stays
  abbrev pub Calmer : AgentRecord H P → AgentRecord H P → Type 0
  Calmer old new = (numbers old ≡ false → numbers new ≡ false) × (old.nomination_due ≡ false → new.nomination_due ≡ false) × (new.selected_pair ≡ old.selected_pair)

  pub calmer-as : (old needed new : AgentRecord H P) → Calmer old needed → new ≡ needed → Calmer old new
  calmer-as old needed new c made = subst (λ (a : AgentRecord H P). Calmer old a) (sym made) c

  pub calmer-same : (old new : AgentRecord H P) → new ≡ old → Calmer old new
  calmer-same old new made = calmer-as old old new (λ is. is, λ is. is, refl) made

  pub calmer-on : (x y z : AgentRecord H P) → Calmer x y → Calmer y z → Calmer x z
  calmer-on x y z a b = (λ is. b.0 (a.0 is), λ is. b.1 (a.1 is), b.2 ∙ a.2)

  -- each pair with the selected number was there before
  pub quiet-by : (old new : AgentRecord H P) → Calmer old new → ((n : ℕ) → old.selected_pair ≡ Some n → IsGone n old.pairs → IsGone n new.pairs) → NoneIsDue old → NoneIsDue new
  quiet-by old new c gone is = elim is [
    | inl plain ↦ inl (c.0 plain)
    | inr (inl settled) ↦ inr (inl (c.1 settled))
    | inr (inr none) ↦ inr (inr (λ n named. gone n (sym c.2 ∙ named) (none n (sym c.2 ∙ named))))
  ]

  -- ---- nomination

  pub nominates-nothing : (old new : AgentRecord H P) (path : Option Path) → NoneValid old.pairs → Nominates old path new → new ≡ old
  nominates-nothing old new path none h = from (selects_path old new path h) where
    from : SelectsPath old path new → new ≡ old
    from (None, greatest, (is, same)) = same
    from (Some top, chosen, k) =
        let able = chosen-able old.controlling (followed old) (selection_of old) top chosen in
        absurd (and-left (is_valid top) (old.controlling || is_nominated top) (none top able.0) able.1)

  pub expires-calmer : (now : ℕ) (old new : AgentRecord H P) (path : Option Path) → NoneValid old.pairs → RemovesExpired now old path new
      → Calmer old new × ((p : PairRecord) → Has new.pairs p → Has old.pairs p)
  expires-calmer now old new path none h = either (list_any (is_expired now old) old.pairs) h
      (λ _ k. (
      let kept : k.0 ≡ expired_gone now old = nominates-nothing (expired_gone now old) k.0 path (λ p has. none p (Has-filter (λ q. not (is_expired now old q)) old.pairs p has)) k.1 in
      subst (λ (a : AgentRecord H P). Calmer old a × ((p : PairRecord) → Has a.pairs p → Has old.pairs p)) (sym (k.2 ∙ ap (λ (a : AgentRecord H P). evaluated now a) kept))
      ((λ is. is, λ is. is, refl), λ p has. Has-filter (λ q. not (is_expired now old q)) old.pairs p has)))
      (λ _ k. subst (λ (a : AgentRecord H P). Calmer old a × ((p : PairRecord) → Has a.pairs p → Has old.pairs p)) (sym k.1) ((λ is. is, λ is. is, refl), λ p has. has))

  -- ---- a candidate is added, and then a path may be selected

  -- no pair becomes valid unless a path is answered
  none-onward : (old new : AgentRecord H P) → Onward AllNumbers NeverMet All3 (parts_of AllNumbers NeverMet All3 old) (parts_of AllNumbers NeverMet All3 new)
      → NoneValid old.pairs → NoneValid new.pairs
  none-onward old new o none p has = by (is_valid p) refl where
    by : (b : Bool) → is_valid p ≡ b → is_valid p ≡ false
    by false is = is
    by true is = elim (o.pairs p has) [
      | inl k ↦ elim (k.valid is) [ inl was ↦ no-case (sym (none k.was k.there) ∙ was) | inr never ↦ absurd never ]
      | inr k ↦ elim (k.valid is) [ inl (q, there, valid, on) ↦ no-case (sym (none q there) ∙ valid) | inr never ↦ absurd never ]
    ]

  reselected : (old mid new : AgentRecord H P) (path : Option Path) → Reselects (loses_selected old mid) mid path new → NoneValid mid.pairs → Calmer old mid
      → Calmer old new
  reselected old mid new path again none c = calmer-on old mid new c (either (loses_selected old mid) again
      (λ _ k. (
      let kept : k.0 ≡ mid = nominates-nothing mid k.0 path none k.1 in
      calmer-as mid _ new (λ is. is, λ is. is, refl) (k.2 ∙ ap (λ (a : AgentRecord H P). evaluated (unwrap_or mid.last_time 0) a) kept)))
      (λ _ k. calmer-same mid new k.1))

  reselected-same : (old mid new : AgentRecord H P) (path : Option Path) → Reselects (loses_selected old mid) mid path new → NoneValid old.pairs → mid ≡ old
      → Calmer old new
  reselected-same old mid new path again none same =
      reselected old mid new path again (subst (λ (a : AgentRecord H P). NoneValid a.pairs) (sym same) none) (calmer-same old mid same)

  module _ (mac : H → List ℕ → List ℕ → List ℕ) where
    -- ---- requests

    module _ (q : RequestRecord) where
      pair : (l r number : ℕ) (s new : AgentRecord H P) (emitted : Emitted) → NoneValid s.pairs → RecordsAndResponds mac q l r number s emitted new → Calmer s new
      pair l r number s new emitted none (path, mid, nominates, (values, is, made)) =
          let k : (path ≡ None) × (mid ≡ pair_served q number s) =
          subst (λ b. NominatesWhere b (pair_served q number s) path mid) (and-false (selects_at_requests s) (is_valid_at number s.pairs) (none-passes number s.pairs none)) nominates in
          calmer-as s _ new (λ is. is, λ is. is, refl) (
          made ∙ ap (λ (a : AgentRecord H P). replied mac q (path_between s l r) (state_updated (is_some path) (triggered_time q s) a)) k.1)

      takes : (l r : ℕ) (number : Option ℕ) (s new : AgentRecord H P) (emitted : Emitted) → NoneValid s.pairs → FindsOrAddsPair mac q l r number s emitted new → Calmer s new
      takes l r (Some number) s new emitted none h = pair l r number s new emitted none h
      takes l r None s new emitted none h = either (candidate_at s.local l).discarded h
          (λ _ k. calmer-same s new k.1)
          (λ _ k. (let c = pair l r s.next_number (with_pair (formed s l r) s) new emitted pushed k.1 in (c.0, c.1, c.2))) where
            pushed : NoneValid (s.pairs ++ formed s l r ∷ [])
            pushed p has = elim (Has-push s.pairs (formed s l r) p has) [
              | inl was ↦ none p was
              | inr is ↦ ap (λ (x : PairRecord). is_valid x) (sym is)
            ]

      joins : (l : ℕ) (place : RemotePlace) (s new : AgentRecord H P) (emitted : Emitted) → NoneValid s.pairs → AddsUnknownSender mac q l place s emitted new → Calmer s new
      joins l (Known r) s new emitted none (number, between, h) = takes l r number s new emitted none h
      joins l Barred s new emitted none h = calmer-same s new h.1
      joins l Unknown s new emitted none (number, between, h) = (let c = takes l _ number (with_sender q s) new emitted none h in (c.0, c.1, c.2))
      joins l (Vacant r) s new emitted none (number, between, h) = (let c = takes l r number (with_sender_at r q s) new emitted none h in (c.0, c.1, c.2))
      joins l Full s new emitted none h = calmer-same s new h.1

      admitted : (l : ℕ) (s new : AgentRecord H P) (emitted : Emitted) → NoneValid s.pairs → CountsAndServes mac q l s emitted new → Calmer s new
      admitted l s new emitted none h = either (is_misled s.controlling q) h
          (λ _ k. calmer-same s new k.1)
          (λ _ k. (let c = joins l k.0 (request_counted s) new emitted none k.2 in (c.0, c.1, c.2)))

      resolves : (conflict : Conflict) (l : ℕ) (s new : AgentRecord H P) (emitted : Emitted) → NoneValid s.pairs → ResolvesRoleConflictBy mac conflict q l s emitted new → Calmer s new
      resolves Absent l s new emitted none h = admitted l s new emitted none h
      resolves Send487 l s new emitted none (values, is, made) = calmer-as s _ new (λ is. is, λ is. is, refl) made
      resolves SwitchRole l s new emitted none h =
          let c = admitted l (switched s) new emitted
          (λ p has. (let o = Has-map (with_priority_in (switched_sides s)) s.pairs p has in ap (λ (x : PairRecord). is_valid x) (sym o.2) ∙ none o.0 o.1)) h in
          (c.0, c.1, c.2)

      here : (place : Option ℕ) (s new : AgentRecord H P) (emitted : Emitted) → NoneValid s.pairs → MatchOption place (Drops s emitted new) (λ l. ResolvesRoleConflict mac q l s emitted new) → Calmer s new
      here None s new emitted none h = calmer-same s new h.1
      here (Some l) s new emitted none h = resolves (conflict_of s q) l s new emitted none h

      serves : (s new : AgentRecord H P) (emitted : Emitted) → NoneValid s.pairs → Serves mac q s emitted new → Calmer s new
      serves s new emitted none h = either (is_for_other_peer s q) (in_turn mac q s new emitted h)
          (λ _ k. calmer-same s new k.1)
          (λ _ k. here (local_place s.local q) s new emitted none k)

      requested : (remote : Option IceCreds) (s new : AgentRecord H P) (emitted : Emitted) → NoneValid s.pairs → MatchOption remote (Queues q s emitted new) (λ _. Serves mac q s emitted new) → Calmer s new
      requested None s new emitted none h = calmer-as s _ new (λ is. is, λ is. is, refl) h.1
      requested (Some peer) s new emitted none h = serves s new emitted none h

    -- ---- packets

    failure : (old new : AgentRecord H P) (via : Path) (m : Message) (emitted : Emitted) → HandlesFailure old via m emitted new → Calmer old new
    failure old new via m emitted h = by_failure (λ _ a. Calmer old a) old new via m emitted (λ code. (λ is. is, λ is. is, refl)) (λ code. (λ is. is, λ is. is, refl)) h

    by-class : (c : Class) (now : ℕ) (old mid : AgentRecord H P) (via : Path) (m : Message) (emitted : Emitted) → NoneValid old.pairs → Takes mac c now old via m emitted mid
        → (c ≡ class.Success) ⊎ Calmer old mid
    by-class class.Request now old mid via m emitted none h = inr (requested (request_in now via m) old.remote_creds old mid emitted none h)
    by-class class.Success now old mid via m emitted none h = inl refl
    by-class class.Failure now old mid via m emitted none h = inr (failure old mid via m emitted h)
    by-class class.Indication now old mid via m emitted none h = absurd h
    by-class class.Unknown now old mid via m emitted none h = absurd h

    receives : (answers : P → CandidateRecord → ℕ → ℕ → Type 0) (now : ℕ) (old new : AgentRecord H P) (via : Path) (bytes : List ℕ) (e : Entry) → NoneValid old.pairs
        → Receives mac answers now old via bytes e new → AcceptsSuccess {P = P} (ReceivePacket now via bytes) e ⊎ Calmer old new
    receives answers now old new via bytes e none (inl (fault, has_fault, is, made)) = inr (calmer-same old new made)
    receives answers now old new via bytes e none (inr (m, reads, (Ok true, emitted, is, (accepted, (mid, takes_it, made))))) =
        elim (by-class m.class now old mid via m emitted none takes_it) [
          | inl success ↦ inl (now, via, m, (refl, refl, reads, ap (λ (x : Entry). x.answer) is), success)
          | inr c ↦ inr (calmer-as old _ new (c.0, c.1, c.2) made)
        ]
    receives answers now old new via bytes e none (inr (m, reads, (Ok false, emitted, is, (no_one, nothing, made)))) = inr (calmer-same old new made)
    receives answers now old new via bytes e none (inr (m, reads, (Err error, emitted, is, (may, nothing, made)))) = inr (calmer-same old new made)

    -- ---- the `handle_timeout` call

    tops : (now : ℕ) (peer : IceCreds) (next : Option PairRecord) (old new : AgentRecord H P) (s t : Stream) (issued : Option Issued) → ChecksTop mac now peer next old s issued new t → Calmer old new
    tops now peer None old new s t issued h = calmer-same old new h.1
    tops now peer (Some p) old new s t issued (id, drawn, values, is, made) = calmer-as old _ new (λ is. is, λ is. left-off old.nomination_due _ is, refl) made

    checks : (now : ℕ) (remote : Option IceCreds) (old new : AgentRecord H P) (s t : Stream) (issued : Option Issued) → MayCheck mac now remote old s issued new t → Calmer old new
    checks now None old new s t issued h = calmer-same old new h.1
    checks now (Some peer) old new s t issued h = either old.lite h
        (λ _ k. calmer-as old _ new (λ is. is, λ is. is, refl) k.1)
        (λ _ k. (let c = tops now peer k.0 (all_scheduled now old) new s t issued k.2 in (c.0, c.1, c.2)))

    maintains : (now : ℕ) (old new : AgentRecord H P) (s t : Stream) (emitted : Emitted) → NoneValid old.pairs → MaintainsPairs mac now old s emitted new t → Calmer old new
    maintains now old new s t emitted none (first, second, issued, named, kept, nominating, giving, checking, is) =
        let one : named ≡ at_timeout now old = nominates-nothing (at_timeout now old) named first none
        (subst (λ (a : AgentRecord H P). Nominates a first named) (none-valid-left now (at_timeout now old) none) nominating) in
        let two = expires-calmer now (at_timeout now old) kept second none (subst (λ (a : AgentRecord H P). RemovesExpired now a second kept) one giving) in
        let three = checks now kept.remote_creds kept new s t issued checking in
        calmer-on old kept new (two.0.0, two.0.1, two.0.2) three

    -- at the check of the call no nomination is to be sent at once
    pub none-at-check : (now : ℕ) (old : AgentRecord H P) → NoneValid old.pairs → NoneIsDue old → NoneAtOnce now old
    none-at-check now old none quiet first second named kept nominating giving =
        let one : named ≡ at_timeout now old = nominates-nothing (at_timeout now old) named first none
        (subst (λ (a : AgentRecord H P). Nominates a first named) (none-valid-left now (at_timeout now old) none) nominating) in
        let two = expires-calmer now (at_timeout now old) kept second none (subst (λ (a : AgentRecord H P). RemovesExpired now a second kept) one giving) in
        none-is-due (all_scheduled now kept) (quiet-by old (all_scheduled now kept) (two.0.0, two.0.1, two.0.2)
        (λ n named gone p has. (let o = Has-map (scheduled now kept.timing) kept.pairs p has in λ same. gone o.0 (two.1 o.0 o.1) (ap (λ (x : PairRecord). x.number) o.2 ∙ same))) quiet)

    times-out : (now : ℕ) (request : Option RequestRecord) (old new : AgentRecord H P) (s t : Stream) (emitted : Emitted) → NoneValid old.pairs
        → MatchOption request (MaintainsPairs mac now old s emitted new t) (λ q. ServesQueued mac q (at_request now old) s emitted new t) → Calmer old new
    times-out now None old new s t emitted none h = maintains now old new s t emitted none h
    times-out now (Some q) old new s t emitted none h = (let c = serves q (first_taken (at_request now old)) new emitted none h.0 in (c.0, c.1, c.2))

    -- ---- the calls of rounds

    forms : (mid new : AgentRecord H P) (all : List Combination) → FormsAll mid all new → Calmer mid new
    forms mid new all (f, each, made) = calmer-as mid _ new (λ is. is, λ is. is, refl) made

    module _ (answers : P → CandidateRecord → ℕ → ℕ → Type 0) where
      pub calls-calmer : (call : Call P) (e : Entry) (old new : AgentRecord H P) (s t : Stream) → is_in_round (is_modern old.timing) call ≡ true → IsSound old → NoneValid old.pairs
          → Step mac answers old s call e new t → AcceptsSuccess call e ⊎ Calmer old new
      calls-calmer (ReceivePacket at via bytes) e old new s t is sound none (h, drawn) = receives answers at old new via bytes e none h
      calls-calmer PollTransmit e old new s t is sound none (given, reported, (polled, made), drawn) = inr (calmer-as old _ new (λ is. is, λ is. is, refl) made)
      calls-calmer PollTimeout e old new s t is sound none (deadline, reported, h, drawn) = inr (by_waking old new deadline h (λ made. calmer-same old new made) (λ at made. calmer-as old _ new (λ is. is, λ is. is, refl) made))
      calls-calmer PollEvent e old new s t is sound none (given, reported, (polled, made), drawn) = inr (calmer-as old _ new (λ is. is, λ is. is, refl) made)
      calls-calmer (AddLocalCandidate c) e old new s t is sound none (Ok place, emitted, reported, (path, mid, h, again, emits), drawn) =
          let none_mid = none-onward old mid (adds_local_goes AllNumbers NeverMet All3 answers old mid c place (fit_of old sound) h) none in
          inr (reselected old mid new path again none_mid (by_adding_local old mid answers c place h
          (λ made. calmer-same old mid made)
          (λ x _ f. (let k = forms _ mid _ f in (k.0, k.1, k.2))) (λ i _ f. (let k = forms _ mid _ f in (k.0, k.1, k.2)))
          (λ x _ i f. (let k = forms _ mid _ f in (k.0, k.1, k.2)))))
      calls-calmer (AddLocalCandidate c) e old new s t is sound none (Err error, emitted, reported, (path, mid, h, again, emits), drawn) =
          inr (reselected-same old mid new path again none (enrolment_kept answers old mid c error h))
      calls-calmer (AddRemoteCandidate c) e old new s t is sound none (Ok _, emitted, reported, (path, mid, h, again, emits), drawn) =
          let none_mid = none-onward old mid (adds_remote_goes AllNumbers NeverMet All3 old mid c (fit_of old sound) h) none in
          inr (reselected old mid new path again none_mid (by_adding_remote old mid c h
          (λ made. calmer-same old mid made) (λ f. (let k = forms _ mid _ f in (k.0, k.1, k.2))) (λ i _ addr f. (let k = forms _ mid _ f in (k.0, k.1, k.2)))))
      calls-calmer (AddRemoteCandidate c) e old new s t is sound none (Err error, emitted, reported, (path, mid, h, again, emits), drawn) =
          inr (reselected-same old mid new path again none (storing_kept old mid c error h))
      calls-calmer (SetMtu target warn) e old new s t is sound none (Ok _, reported, h, drawn) = inr (calmer-as old _ new (λ is. is, λ is. is, refl) h.1)
      calls-calmer (SetMtu target warn) e old new s t is sound none (Err error, reported, h, drawn) = inr (calmer-same old new (mtu_kept old new target warn error h))
      calls-calmer (SetLocalCredentials creds) e old new s t is sound none (Ok _, reported, h, drawn) = inr (calmer-as old _ new (λ is. is, λ is. is, refl) h.1)
      calls-calmer (SetLocalCredentials creds) e old new s t is sound none (Err error, reported, h, drawn) = inr (calmer-same old new (local_kept old new creds error h))
      calls-calmer (SetControlTieBreaker tie) e old new s t is sound none h = inr (calmer-as old _ new (λ is. is, λ is. is, refl) h.1)
      calls-calmer (SetMaxCandidatePairs k) e old new s t is sound none h = inr (calmer-as old _ new (λ is. is, λ is. is, refl) h.1)
      calls-calmer (SetMaxDiscovered limit) e old new s t is sound none h = inr (calmer-as old _ new (λ is. is, λ is. is, refl) h.1)
      calls-calmer (SetMaxCandidates limit) e old new s t is sound none h = inr (calmer-as old _ new (λ is. is, λ is. is, refl) h.1)
      calls-calmer (SetRenomination on) e old new s t is sound none h = inr (calmer-as old _ new (λ none. not-numbered (is_modern old.timing) on (search is), λ is. is, refl) h.1)
      calls-calmer (SetTimingAdvance by) e old new s t is sound none h = inr (calmer-as old _ new (λ is. is, λ is. is, refl) h.1)
      calls-calmer (SetLocalPreference object) e old new s t is sound none h = inr (calmer-as old _ new (λ is. is, λ is. is, refl) h.1)
      calls-calmer (SetControlling controlling) e old new s t is sound none h = inr (calmer-as old _ new (λ is. is, λ is. is, refl) h.1)
      calls-calmer _ e old new s t is sound none step = no-case is

      pub timeouts-calmer : (now : ℕ) (e : Entry) (old new : AgentRecord H P) (s t : Stream) → NoneValid old.pairs → Step mac answers old s (HandleTimeout now) e new t → Calmer old new
      timeouts-calmer now e old new s t none (Ok _, emitted, reported, h) = (let c = times-out now (request_at now old) (timeout_begun now old) new s t emitted none h in (c.0, c.1, c.2))
      timeouts-calmer now e old new s t none (Err error, emitted, reported, (may, nothing, made, drawn)) = calmer-same old new made

      -- ---- the invariant

      some-or-none : (ps : List PairRecord) → ((p : PairRecord) × Has ps p × (is_valid p ≡ true)) ⊎ NoneValid ps
      some-or-none [] = inr (λ p has. absurd has)
      some-or-none (p ∷ ps) = by (is_valid p) refl (some-or-none ps) where
        by : (b : Bool) → is_valid p ≡ b → ((q : PairRecord) × Has ps q × (is_valid q ≡ true)) ⊎ NoneValid ps → ((q : PairRecord) × Has (p ∷ ps) q × (is_valid q ≡ true)) ⊎ NoneValid (p ∷ ps)
        by true is rest = inl (p, inl refl, is)
        by false is (inl (q, has, valid)) = inl (q, inr has, valid)
        by false is (inr none) = inr (λ q has. elim has [ inl same ↦ ap (λ (x : PairRecord). is_valid x) (sym same) ∙ is | inr there ↦ none q there ])

      still-gone : (old new : AgentRecord H P) (call : Call P) (e : Entry) → IsSound old → PathEffect mac old call e new → (n : ℕ) → old.selected_pair ≡ Some n → IsGone n old.pairs → IsGone n new.pairs
      still-gone old new call e sound f n named gone p has = elim (f.numbers p has) [
        | inl (q, there, number, path, valid, nominated) ↦ (let apart = gone q there in λ is. apart (number ∙ is))
        | inr (above, below) ↦
            (let least : n < old.next_number = subst (λ o. IsBelow old.next_number o) named sound.selected_paths in
            λ is. (let no : ⊥ = omega (arith, above, least, is) in no))
      ]

      quiet-after : (call : Call P) (e : Entry) (old new : AgentRecord H P) → IsSound old → PathEffect mac old call e new → new.lite ≡ false → Calmer old new → Quiet old → AcceptsSuccess call e ⊎ Quiet new
      quiet-after call e old new sound f full calmer q = elim (some-or-none new.pairs) [
        | inl (p, has, valid) ↦ elim (f.valid q.full (path_of new p) (p, has, valid, refl)) [
          | inl (o, there, was, on) ↦ absurd (let no : false ≡ true = sym (q.invalid o there) ∙ was in cc)
          | inr a ↦ inl (a.0, a.1, a.2, a.5, a.6)
        ]
        | inr none ↦ inr (record { full = full; invalid = none; quiet = quiet-by old new calmer (still-gone old new call e sound f) q.quiet })
      ]

      -- a success response is accepted, or no pair is valid, and no nomination is to be sent at once
      pub quiet-call : (call : Call P) (e : Entry) (old new : AgentRecord H P) (s t : Stream) → is_in_round (is_modern old.timing) call ≡ true → IsSound old → GivesBased call → Quiet old → Step mac answers old s call e new t
          → AcceptsSuccess call e ⊎ Quiet new
      quiet-call call e old new s t is sound given q step =
          let f = (path_theorem mac answers old new s t call e sound given step).0 in
          elim (calls-calmer call e old new s t is sound q.invalid step) [
            | inl success ↦ inl success
            | inr calmer ↦ quiet-after call e old new sound f (f.lite ∙ (lite_stays (is_modern old.timing) call old.lite is ∙ q.full)) calmer q
          ]

      pub quiet-timeout : (now : ℕ) (e : Entry) (old new : AgentRecord H P) (s t : Stream) → IsSound old → Quiet old → Step mac answers old s (HandleTimeout now) e new t → Quiet new
      quiet-timeout now e old new s t sound q step =
          let f = (path_theorem mac answers old new s t (HandleTimeout now) e sound tt step).0 in
          elim (quiet-after (HandleTimeout now) e old new sound f (f.lite ∙ q.full) (timeouts-calmer now e old new s t q.invalid step) q) [
            | inl (at, via, m, none, success) ↦ absurd none
            | inr after ↦ after
          ]

-- ---- the profile stays in rounds

module _ {H P : Type 0} (mac : H → List ℕ → List ℕ → List ℕ) (answers : P → CandidateRecord → ℕ → ℕ → Type 0) where
  modern-as : (old new : AgentRecord H P) → (all_settings_of new).settings.profile ≡ (all_settings_of old).settings.profile → is_modern new.timing ≡ is_modern old.timing
  modern-as old new is = ap (λ p. is_modern_profile p) is

  pub modern-stays : (m : Bool) (call : Call P) (e : Entry) (old new : AgentRecord H P) (s t : Stream) → is_in_round m call ≡ true → Step mac answers old s call e new t → is_modern new.timing ≡ is_modern old.timing
  modern-stays m call e old new s t is step =
      modern-as old new (ap (λ (x : SettingsRecord P). x.settings.profile) (settings-are-set mac answers old new s t call e step) ∙ profile-stays m call e.answer (all_settings_of old) is)

  pub modern-stays-timeout : (now : ℕ) (e : Entry) (old new : AgentRecord H P) (s t : Stream) → Step mac answers old s (HandleTimeout now) e new t → is_modern new.timing ≡ is_modern old.timing
  modern-stays-timeout now e old new s t step =
      modern-as old new (ap (λ (x : SettingsRecord P). x.settings.profile) (settings-are-set mac answers old new s t (HandleTimeout now) e step))

  pub modern-execution : (m : Bool) (xs : List (Call P × Entry)) (old new : AgentRecord H P) → AreInRound m xs → Execution mac answers xs old new → is_modern new.timing ≡ is_modern old.timing
  modern-execution m [] old new fits is = ap (λ (a : AgentRecord H P). is_modern a.timing) is
  modern-execution m (x ∷ rest) old new fits (mid, s, t, given, step, more) =
      modern-execution m rest mid new (λ y has. fits y (inr has)) more ∙ modern-stays m x.0 x.1 old mid s t (fits x (inl refl)) step

-- a call that fits a round by its profile fits it as the agent is
pub as-is : {P : Type 0} (m b : Bool) (call : Call P) → b ≡ m → is_in_round m call ≡ true → is_in_round b call ≡ true
as-is m b call is fits = subst (λ c. is_in_round c call ≡ true) (sym is) fits
