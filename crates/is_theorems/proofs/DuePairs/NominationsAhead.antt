-- A nomination becomes due only in a call that selects a path, and only if it is due it is sent at once. Then none is due.
use Rattle.is_stun.specs.declared.header.Class.TheVariants as class
use Rattle.is_theorems.proofs.Common.{formed_again}
use Rattle.is_theorems.proofs.Common.{[], ◌&&◌, ◌+◌, ◌==◌, ◌∙◌, ◌∷◌, ◌≡◌, ◌≤◌, ◌⊎◌, Absent, AddLocalCandidate, AddRemoteCandidate}
use Rattle.is_theorems.proofs.Common.{AddsUnknownSender, AgentRecord, all_scheduled, Answer, ap, arith, at_request, at_timeout, Barred, Bool}
use Rattle.is_theorems.proofs.Common.{Call, candidate_at, CandidateRecord, ChecksTop, Class, Combination, Conflict, conflict_of}
use Rattle.is_theorems.proofs.Common.{CountsAndServes, Drops, Emitted, Entry, eq-eqb, eqb-true, Err, expired_gone, false, FindsOrAddsPair}
use Rattle.is_theorems.proofs.Common.{first_taken, followed, formed, FormsAll, found-in, Full, HandlesFailure, HandlesSuccess}
use Rattle.is_theorems.proofs.Common.{HandleTimeout, IceCreds, if◌then◌else◌, in_turn, inl, inr, is_expired, is_for_other_peer, is_in_round}
use Rattle.is_theorems.proofs.Common.{is_misled, is_modern, is_numbered, is_selected_number, is_some, is_valid_at, IsNextInTurn}
use Rattle.is_theorems.proofs.Common.{IsNextToCheck, Issued, Known, last_of, List, list_any, local_place, loses_selected, MaintainsPairs}
use Rattle.is_theorems.proofs.Common.{MatchBool, MatchOption, MayCheck, Message, Nominates, nominates_at_once, None, not, numbers, Ok}
use Rattle.is_theorems.proofs.Common.{one_if, Option, option_map_or, pair_selected, pair_served, PairRecord, Path, path_between, path_left}
use Rattle.is_theorems.proofs.Common.{PollEvent, PollTimeout, PollTransmit, Queues, ReceivePacket, Receives, RecordsAndResponds, refl}
use Rattle.is_theorems.proofs.Common.{remains, RemotePlace, RemovesExpired, replied, request_at, request_counted, request_in, RequestRecord}
use Rattle.is_theorems.proofs.Common.{Reselects, ResolvesRoleConflict, ResolvesRoleConflictBy, selected_in, selected_only, selection_of}
use Rattle.is_theorems.proofs.Common.{selects, selects_at_requests, Send487, Serves, ServesQueued, SetControlling, SetControlTieBreaker}
use Rattle.is_theorems.proofs.Common.{SetLocalCredentials, SetLocalPreference, SetMaxCandidatePairs, SetMaxCandidates, SetMaxDiscovered, SetMtu}
use Rattle.is_theorems.proofs.Common.{SetRenomination, SetTimingAdvance, state_updated, Some, Step, Stream, subst, switched, SwitchRole, sym}
use Rattle.is_theorems.proofs.Common.{Takes, timeout_begun, triggered_time, true, Unknown, Vacant, with_pair, with_sender, with_sender_at, ℕ}
use Rattle.is_theorems.proofs.BasicLemmas.PairsInTurn.{none-to-send}
use Rattle.is_theorems.proofs.CallEffects.AddedCandidates.{by_adding_local, by_adding_remote, by_waking}
use Rattle.is_theorems.proofs.CallEffects.FailedCallsAndNewAgents.{mtu_kept, local_kept, enrolment_kept, storing_kept}
use Rattle.is_theorems.proofs.DuePairs.AfterNominationAndRemoval.{Base, expires-thins, names-thins, thins-on}
use Rattle.is_theorems.proofs.DuePairs.ChecksAhead.{one-at-most}
use Rattle.is_theorems.proofs.DuePairs.FirstDuePair.{next-check}
use Rattle.is_theorems.proofs.DuePairs.NoNominationDue.{not-numbered}
use Rattle.is_theorems.proofs.ExecutionLogs.LogSegments.{no-case}
use Rattle.is_theorems.proofs.RuleEffects.HastenedPairs.{due_next}
use Rattle.is_theorems.proofs.RuleEffects.NominatedPairs.{SelectsPath, selects_path}
use Rattle.is_theorems.proofs.RuleEffects.UnchangedSettings.{either}
use Rattle.is_theorems.proofs.RuleEffects.NotedErrors.{by_failure}

-- ---- which paths a call selects

abbrev pub selected : Emitted → Bool
selected emitted = is_some (last_of emitted.selected_paths)

selects-first : (first second : Option Path) → is_some first ≡ true → is_some (last_of (selected_in first second)) ≡ true
selects-first None second some = no-case some
selects-first (Some path) None some = refl
selects-first (Some path) (Some other) some = refl

selects-second : (first second : Option Path) → is_some second ≡ true → is_some (last_of (selected_in first second)) ≡ true
selects-second first None some = no-case some
selects-second None (Some path) some = refl
selects-second (Some other) (Some path) some = refl

selects-only : (path : Option Path) → is_some path ≡ true → is_some (last_of (path ∷ None ∷ [])) ≡ true
selects-only None some = no-case some
selects-only (Some path) some = refl

left-off : (a b : Bool) → a ≡ false → (a && b) ≡ false
left-off true b is = no-case (sym is)
left-off false b is = refl

not-both : (a b : Bool) → b ≡ true → (a && not b) ≡ false
not-both a false is = no-case is
not-both true true is = refl
not-both false true is = refl

third-fact : (a b c d e : Bool) → (a && b && c && d && e) ≡ true → c ≡ true
third-fact true true true d e h = refl
third-fact true true false d e h = no-case h
third-fact true false c d e h = no-case h
third-fact false b c d e h = no-case h

fourth-fact : (a b c d e : Bool) → (a && b && c && d && e) ≡ true → d ≡ true
fourth-fact true true true true e h = refl
fourth-fact true true true false e h = no-case h
fourth-fact true true false d e h = no-case h
fourth-fact true false c d e h = no-case h
fourth-fact false b c d e h = no-case h

-- the pair that was selected last has the selected number
selected-named : (o : Option ℕ) (ps : List PairRecord) (q : PairRecord) → Some q ≡ pair_selected o ps → option_map_or (λ n. n == q.number) o false ≡ true
selected-named None ps q is = absurd (let no : Some q ≡ None = is in cc)
selected-named (Some n) ps q is = let k = found-in (is_numbered n) ps q (sym is) in eq-eqb n q.number (sym (eqb-true q.number n k.1))

module _ {H P : Type 0} where
  -- nominations get no numbers, and none becomes due unless a path is selected
  abbrev pub Dues : Bool → AgentRecord H P → AgentRecord H P → Type 0
  Dues selected_now old new = (numbers old ≡ false → numbers new ≡ false) × (old.nomination_due ≡ false → (new.nomination_due ≡ false) ⊎ (selected_now ≡ true))

  dues-as : (b : Bool) (old needed new : AgentRecord H P) → Dues b old needed → new ≡ needed → Dues b old new
  dues-as b old needed new d made = subst (λ (a : AgentRecord H P). Dues b old a) (sym made) d

  dues-same : (b : Bool) (old new : AgentRecord H P) → new ≡ old → Dues b old new
  dues-same b old new made = dues-as b old old new (λ is. is, λ is. inl is) made

  dues-on : (b c d : Bool) (x y z : AgentRecord H P) → Dues b x y → Dues c y z → (b ≡ true → d ≡ true) → (c ≡ true → d ≡ true) → Dues d x z
  dues-on b c d x y z one two one_of two_of = (
    λ is. two.0 (one.0 is),
    λ is. elim (one.1 is) [
      | inl still ↦ elim (two.1 still) [ inl after ↦ inl after | inr some ↦ inr (two_of some) ]
      | inr some ↦ inr (one_of some)
    ],
  )

  -- ---- nomination

  nominates-dues : (old new : AgentRecord H P) (path : Option Path) → Nominates old path new → Dues (is_some path) old new
  nominates-dues old new path h = from (selects_path old new path h) where
    from : SelectsPath old path new → Dues (is_some path) old new
    from (None, greatest, (is, made)) = dues-same (is_some path) old new made
    from (Some top, greatest, k) = either (remains (followed old) top (selection_of old)) k
        (λ _ l. dues-same (is_some path) old new l.1)
        (λ _ l. dues-as (is_some path) old _ new (λ is. is, λ is. inr (ap is_some l.0)) l.1)

  removes-dues : (now : ℕ) (old new : AgentRecord H P) (path : Option Path) → RemovesExpired now old path new → Dues (is_some path) old new
  removes-dues now old new path h = either (list_any (is_expired now old) old.pairs) h
      (λ _ k. (let d = nominates-dues (expired_gone now old) k.0 path k.1 in dues-as (is_some path) old _ new (d.0, d.1) k.2))
      (λ _ k. dues-as (is_some path) old _ new (λ is. is, λ is. inl is) k.1)

  reselects-dues : (loses : Bool) (old new : AgentRecord H P) (path : Option Path) → Reselects loses old path new → Dues (is_some path) old new
  reselects-dues loses old new path h = either loses h
      (λ _ k. (let d = nominates-dues old k.0 path k.1 in dues-as (is_some path) old _ new (d.0, d.1) k.2))
      (λ _ k. dues-same (is_some path) old new k.1)

  -- a candidate is added, and then a path may be selected
  reselected : (e : Entry) (answer : Answer) (emitted : Emitted) (path : Option Path) (old mid new : AgentRecord H P)
      → e ≡ record { answer = answer; emitted = emitted } → emitted ≡ selected_only path → Reselects (loses_selected old mid) mid path new → Dues (selects e) old mid → Dues (selects e) old new
  reselected e answer emitted path old mid new reported is again d =
      dues-on (selects e) (is_some path) (selects e) old mid new d (reselects-dues (loses_selected old mid) mid new path again) (λ some. some)
      (λ some. ap (λ (x : Entry). selects x) reported ∙ (ap (λ (x : Emitted). selected x) is ∙ selects-only path some))

  -- ---- responses

  success : (now : ℕ) (old new : AgentRecord H P) (via : Path) (m : Message) (emitted : Emitted) → HandlesSuccess now old via m emitted new → Dues (selected emitted) old new
  success now old new via m emitted (recorded, (place, p, after, at, keeps, answered, made), (named, mid, nominates, emitted_is, done)) =
      let d = nominates-dues (formed_again recorded) mid named nominates in (
        λ plain. ap (λ (a : AgentRecord H P). numbers a) done ∙ d.0 (ap (λ (a : AgentRecord H P). numbers a) made ∙ plain),
        λ off. elim (d.1 (ap (λ (a : AgentRecord H P). a.nomination_due) made ∙ off)) [
          | inl still ↦ inl (ap (λ (a : AgentRecord H P). a.nomination_due) done ∙ still)
          | inr some ↦ inr (ap (λ (x : Emitted). selected x) emitted_is ∙ selects-only named some)
        ],
      )

  failure : (old new : AgentRecord H P) (via : Path) (m : Message) (emitted : Emitted) → HandlesFailure old via m emitted new → Dues (selected emitted) old new
  failure old new via m emitted h =
      by_failure (λ _ a. Dues (selected emitted) old a) old new via m emitted (λ code. (λ is. is, λ is. inl is)) (λ code. (λ is. is, λ is. inl is)) h

  module _ (mac : H → List ℕ → List ℕ → List ℕ) where
    -- ---- requests

    module _ (q : RequestRecord) where
      pair : (l r number : ℕ) (s new : AgentRecord H P) (emitted : Emitted) → RecordsAndResponds mac q l r number s emitted new → Dues (selected emitted) s new
      pair l r number s new emitted (path, mid, nominates, (values, is, made)) = either (selects_at_requests s && is_valid_at number s.pairs) nominates
          (λ _ k. (let d = nominates-dues (pair_served q number s) mid path k in
          dues-as (selected emitted) s _ new (
            d.0,
            λ off. elim (d.1 off) [
              | inl still ↦ inl still
              | inr some ↦ inr (ap (λ (x : Emitted). selected x) is ∙ selects-first path None some)
            ],
          ) made))
          (λ _ k. dues-as (selected emitted) s _ new (λ is. is, λ is. inl is) (
          made ∙ ap (λ (a : AgentRecord H P). replied mac q (path_between s l r) (state_updated (is_some path) (triggered_time q s) a)) k.1))

      takes : (l r : ℕ) (number : Option ℕ) (s new : AgentRecord H P) (emitted : Emitted) → FindsOrAddsPair mac q l r number s emitted new → Dues (selected emitted) s new
      takes l r (Some number) s new emitted h = pair l r number s new emitted h
      takes l r None s new emitted h = either (candidate_at s.local l).discarded h
          (λ _ k. dues-same (selected emitted) s new k.1)
          (λ _ k. (let d = pair l r s.next_number (with_pair (formed s l r) s) new emitted k.1 in (d.0, d.1)))

      joins : (l : ℕ) (place : RemotePlace) (s new : AgentRecord H P) (emitted : Emitted) → AddsUnknownSender mac q l place s emitted new → Dues (selected emitted) s new
      joins l (Known r) s new emitted (number, between, h) = takes l r number s new emitted h
      joins l Barred s new emitted h = dues-same (selected emitted) s new h.1
      joins l Unknown s new emitted (number, between, h) = (let d = takes l _ number (with_sender q s) new emitted h in (d.0, d.1))
      joins l (Vacant r) s new emitted (number, between, h) = (let d = takes l r number (with_sender_at r q s) new emitted h in (d.0, d.1))
      joins l Full s new emitted h = dues-same (selected emitted) s new h.1

      admitted : (l : ℕ) (s new : AgentRecord H P) (emitted : Emitted) → CountsAndServes mac q l s emitted new → Dues (selected emitted) s new
      admitted l s new emitted h = either (is_misled s.controlling q) h
          (λ _ k. dues-same (selected emitted) s new k.1)
          (λ _ k. (let d = joins l k.0 (request_counted s) new emitted k.2 in (d.0, d.1)))

      resolves : (conflict : Conflict) (l : ℕ) (s new : AgentRecord H P) (emitted : Emitted) → ResolvesRoleConflictBy mac conflict q l s emitted new → Dues (selected emitted) s new
      resolves Absent l s new emitted h = admitted l s new emitted h
      resolves Send487 l s new emitted (values, is, made) = dues-as (selected emitted) s _ new (λ is. is, λ is. inl is) made
      resolves SwitchRole l s new emitted h = (let d = admitted l (switched s) new emitted h in (d.0, d.1))

      here : (place : Option ℕ) (s new : AgentRecord H P) (emitted : Emitted) → MatchOption place (Drops s emitted new) (λ l. ResolvesRoleConflict mac q l s emitted new) → Dues (selected emitted) s new
      here None s new emitted h = dues-same (selected emitted) s new h.1
      here (Some l) s new emitted h = resolves (conflict_of s q) l s new emitted h

      serves : (s new : AgentRecord H P) (emitted : Emitted) → Serves mac q s emitted new → Dues (selected emitted) s new
      serves s new emitted h = either (is_for_other_peer s q) (in_turn mac q s new emitted h)
          (λ _ k. dues-same (selected emitted) s new k.1)
          (λ _ k. here (local_place s.local q) s new emitted k)

      requested : (remote : Option IceCreds) (s new : AgentRecord H P) (emitted : Emitted) → MatchOption remote (Queues q s emitted new) (λ _. Serves mac q s emitted new) → Dues (selected emitted) s new
      requested None s new emitted h = dues-as (selected emitted) s _ new (λ is. is, λ is. inl is) h.1
      requested (Some peer) s new emitted h = serves s new emitted h

    -- ---- packets

    by-class : (c : Class) (now : ℕ) (old mid : AgentRecord H P) (via : Path) (m : Message) (emitted : Emitted) → Takes mac c now old via m emitted mid → Dues (selected emitted) old mid
    by-class class.Request now old mid via m emitted h = requested (request_in now via m) old.remote_creds old mid emitted h
    by-class class.Success now old mid via m emitted h = success now old mid via m emitted h
    by-class class.Failure now old mid via m emitted h = failure old mid via m emitted h
    by-class class.Indication now old mid via m emitted h = absurd h
    by-class class.Unknown now old mid via m emitted h = absurd h

    receives : (answers : P → CandidateRecord → ℕ → ℕ → Type 0) (now : ℕ) (old new : AgentRecord H P) (via : Path) (bytes : List ℕ) (e : Entry) → Receives mac answers now old via bytes e new
        → Dues (selects e) old new
    receives answers now old new via bytes e (inl (fault, has_fault, is, made)) = dues-same (selects e) old new made
    receives answers now old new via bytes e (inr (m, reads, (Ok true, emitted, is, (accepted, (mid, takes_it, made))))) =
        let d = by-class m.class now old mid via m emitted takes_it in
        dues-as (selects e) old _ new (
          d.0,
          λ off. elim (d.1 off) [
            | inl still ↦ inl still
            | inr some ↦ inr (ap (λ (x : Entry). selects x) is ∙ some)
          ],
        ) made
    receives answers now old new via bytes e (inr (m, reads, (Ok false, emitted, is, (no_one, nothing, made)))) = dues-same (selects e) old new made
    receives answers now old new via bytes e (inr (m, reads, (Err error, emitted, is, (may, nothing, made)))) = dues-same (selects e) old new made

    -- ---- the `handle_timeout` call

    tops : (b : Bool) (now : ℕ) (peer : IceCreds) (next : Option PairRecord) (old new : AgentRecord H P) (s t : Stream) (issued : Option Issued) → ChecksTop mac now peer next old s issued new t → Dues b old new
    tops b now peer None old new s t issued h = dues-same b old new h.1
    tops b now peer (Some p) old new s t issued (id, drawn, values, is, made) = dues-as b old _ new (λ is. is, λ is. inl (left-off old.nomination_due _ is)) made

    checks : (b : Bool) (now : ℕ) (remote : Option IceCreds) (old new : AgentRecord H P) (s t : Stream) (issued : Option Issued) → MayCheck mac now remote old s issued new t → Dues b old new
    checks b now None old new s t issued h = dues-same b old new h.1
    checks b now (Some peer) old new s t issued h = either old.lite h
        (λ _ k. dues-as b old _ new (λ is. is, λ is. inl is) k.1)
        (λ _ k. (let d = tops b now peer k.0 (all_scheduled now old) new s t issued k.2 in (d.0, d.1)))

    -- up to the check
    nominated-dues : (now : ℕ) (old named kept : AgentRecord H P) (first second : Option Path) (issued : Option Issued) (emitted : Emitted) → Nominates (path_left now (at_timeout now old)) first named
        → RemovesExpired now named second kept → is_some (last_of emitted.selected_paths) ≡ is_some (last_of (selected_in first second)) → Dues (selected emitted) old kept
    nominated-dues now old named kept first second issued emitted nominating giving is =
        let one = nominates-dues (path_left now (at_timeout now old)) named first nominating in
        dues-on (is_some first) (is_some second) (selected emitted) old named kept (one.0, one.1) (removes-dues now named kept second giving)
        (λ some. is ∙ selects-first first second some) (λ some. is ∙ selects-second first second some)

    maintains : (now : ℕ) (old new : AgentRecord H P) (s t : Stream) (emitted : Emitted) → MaintainsPairs mac now old s emitted new t → Dues (selected emitted) old new
    maintains now old new s t emitted (first, second, issued, named, kept, nominating, giving, checking, is) =
        dues-on (selected emitted) (selected emitted) (selected emitted) old kept new
        (nominated-dues now old named kept first second issued emitted nominating giving (ap (λ (x : Emitted). selected x) is))
        (checks (selected emitted) now kept.remote_creds kept new s t issued checking) (λ some. some) (λ some. some)

    times-out : (now : ℕ) (request : Option RequestRecord) (old new : AgentRecord H P) (s t : Stream) (emitted : Emitted)
        → MatchOption request (MaintainsPairs mac now old s emitted new t) (λ q. ServesQueued mac q (at_request now old) s emitted new t) → Dues (selected emitted) old new
    times-out now None old new s t emitted h = maintains now old new s t emitted h
    times-out now (Some q) old new s t emitted h = (let d = serves q (first_taken (at_request now old)) new emitted h.0 in (d.0, d.1))

    -- a check at once ends the nomination that was due, or became due in the call
    pub at-once-ends : (now : ℕ) (old new : AgentRecord H P) (s t : Stream) (emitted : Emitted) → is_some old.remote_creds ≡ true → old.lite ≡ false
        → (h : MaintainsPairs mac now old s emitted new t) → nominates_at_once (all_scheduled now h.4) ≡ true
        → (new.nomination_due ≡ false) × (numbers old ≡ true) × ((old.nomination_due ≡ true) ⊎ (selected emitted ≡ true))
    at-once-ends now old new s t emitted known full (first, second, issued, named, kept, nominating, giving, checking, is) due =
        let c = thins-on (due_next now) (at_timeout now old) named kept (names-thins now (at_timeout now old) named first nominating) (expires-thins (due_next now) now named kept second giving) in
        let k = next-check mac now kept.remote_creds kept new s t issued (ap (λ (x : Base). is_some x.remote_creds) c.0 ∙ known) (ap (λ (x : Base). x.lite) c.0 ∙ full) checking in
        (ends k.0 k.1 k.2 k.3, numbered (numbers old) refl, was (old.nomination_due) refl) where
          d : Dues (selected emitted) old kept
          d = nominated-dues now old named kept first second issued emitted nominating giving (ap (λ (x : Emitted). selected x) is)

          with_numbers : numbers kept ≡ true
          with_numbers = third-fact kept.controlling (not kept.lite) (numbers kept) kept.nomination_due _ due

          still_due : kept.nomination_due ≡ true
          still_due = fourth-fact kept.controlling (not kept.lite) (numbers kept) kept.nomination_due _ due

          numbered : (b : Bool) → numbers old ≡ b → numbers old ≡ true
          numbered true is_so = is_so
          numbered false is_so = no-case (sym (d.0 is_so) ∙ with_numbers)

          was : (b : Bool) → old.nomination_due ≡ b → (old.nomination_due ≡ true) ⊎ (selected emitted ≡ true)
          was true is_so = inl is_so
          was false is_so = elim (d.1 is_so) [
            | inl still ↦ no-case (sym still ∙ still_due)
            | inr some ↦ inr some
          ]

          ends : (peer : IceCreds) (next : Option PairRecord) → IsNextToCheck now (all_scheduled now kept) next → ChecksTop mac now peer next (all_scheduled now kept) s issued new t → new.nomination_due ≡ false
          ends peer None chosen h = absurd (none-to-send now (all_scheduled now kept) chosen due)
          ends peer (Some q) chosen (id, drawn, values, out, made) =
              let names : Some q ≡ pair_selected kept.selected_pair (all_scheduled now kept).pairs =
              subst (λ b. MatchBool b (Some q ≡ pair_selected kept.selected_pair (all_scheduled now kept).pairs) (IsNextInTurn now (all_scheduled now kept) (Some q))) due chosen in
              ap (λ (a : AgentRecord H P). a.nomination_due) made
              ∙ not-both kept.nomination_due (is_selected_number (all_scheduled now kept) q.number) (selected-named kept.selected_pair (all_scheduled now kept).pairs q names)

    -- ---- the calls of rounds

    forms : (b : Bool) (mid new : AgentRecord H P) (all : List Combination) → FormsAll mid all new → Dues b mid new
    forms b mid new all (f, each, made) = dues-as b mid _ new (λ is. is, λ is. inl is) made

    module _ (answers : P → CandidateRecord → ℕ → ℕ → Type 0) where
      pub calls-due : (call : Call P) (e : Entry) (old new : AgentRecord H P) (s t : Stream) → is_in_round (is_modern old.timing) call ≡ true → Step mac answers old s call e new t → Dues (selects e) old new
      calls-due (ReceivePacket at via bytes) e old new s t is (h, drawn) = receives answers at old new via bytes e h
      calls-due PollTransmit e old new s t is (given, reported, (polled, made), drawn) = dues-as (selects e) old _ new (λ is. is, λ is. inl is) made
      calls-due PollTimeout e old new s t is (deadline, reported, h, drawn) =
          by_waking old new deadline h (λ made. dues-same (selects e) old new made) (λ at made. dues-as (selects e) old _ new (λ is. is, λ is. inl is) made)
      calls-due PollEvent e old new s t is (given, reported, (polled, made), drawn) = dues-as (selects e) old _ new (λ is. is, λ is. inl is) made
      calls-due (AddLocalCandidate c) e old new s t is (Ok place, emitted, reported, (path, mid, h, again, out), drawn) =
          reselected e _ emitted path old mid new reported out again (by_adding_local old mid answers c place h
          (λ made. dues-same (selects e) old mid made)
          (λ x _ f. (let d = forms (selects e) _ mid _ f in (d.0, d.1))) (λ i _ f. (let d = forms (selects e) _ mid _ f in (d.0, d.1)))
          (λ x _ i f. (let d = forms (selects e) _ mid _ f in (d.0, d.1))))
      calls-due (AddLocalCandidate c) e old new s t is (Err error, emitted, reported, (path, mid, h, again, out), drawn) =
          reselected e _ emitted path old mid new reported out again (dues-same (selects e) old mid (enrolment_kept answers old mid c error h))
      calls-due (AddRemoteCandidate c) e old new s t is (Ok _, emitted, reported, (path, mid, h, again, out), drawn) =
          reselected e _ emitted path old mid new reported out again (by_adding_remote old mid c h (λ made. dues-same (selects e) old mid made)
          (λ f. (let d = forms (selects e) _ mid _ f in (d.0, d.1))) (λ i _ addr f. (let d = forms (selects e) _ mid _ f in (d.0, d.1))))
      calls-due (AddRemoteCandidate c) e old new s t is (Err error, emitted, reported, (path, mid, h, again, out), drawn) =
          reselected e _ emitted path old mid new reported out again (dues-same (selects e) old mid (storing_kept old mid c error h))
      calls-due (SetMtu target warn) e old new s t is (Ok _, reported, h, drawn) = dues-as (selects e) old _ new (λ is. is, λ is. inl is) h.1
      calls-due (SetMtu target warn) e old new s t is (Err error, reported, h, drawn) = dues-same (selects e) old new (mtu_kept old new target warn error h)
      calls-due (SetLocalCredentials creds) e old new s t is (Ok _, reported, h, drawn) = dues-as (selects e) old _ new (λ is. is, λ is. inl is) h.1
      calls-due (SetLocalCredentials creds) e old new s t is (Err error, reported, h, drawn) = dues-same (selects e) old new (local_kept old new creds error h)
      calls-due (SetControlTieBreaker tie) e old new s t is h = dues-as (selects e) old _ new (λ is. is, λ is. inl is) h.1
      calls-due (SetMaxCandidatePairs k) e old new s t is h = dues-as (selects e) old _ new (λ is. is, λ is. inl is) h.1
      calls-due (SetMaxDiscovered limit) e old new s t is h = dues-as (selects e) old _ new (λ is. is, λ is. inl is) h.1
      calls-due (SetMaxCandidates limit) e old new s t is h = dues-as (selects e) old _ new (λ is. is, λ is. inl is) h.1
      calls-due (SetRenomination on) e old new s t is h = dues-as (selects e) old _ new (λ none. not-numbered (is_modern old.timing) on (search is), λ is. inl is) h.1
      calls-due (SetTimingAdvance by) e old new s t is h = dues-as (selects e) old _ new (λ is. is, λ is. inl is) h.1
      calls-due (SetLocalPreference object) e old new s t is h = dues-as (selects e) old _ new (λ is. is, λ is. inl is) h.1
      calls-due (SetControlling controlling) e old new s t is h = dues-as (selects e) old _ new (λ is. is, λ is. inl is) h.1
      calls-due _ e old new s t is step = no-case is

      pub timeouts-due : (now : ℕ) (e : Entry) (old new : AgentRecord H P) (s t : Stream) → Step mac answers old s (HandleTimeout now) e new t → Dues (selects e) old new
      timeouts-due now e old new s t (Ok _, emitted, reported, h) =
          let d = times-out now (request_at now old) (timeout_begun now old) new s t emitted h in (
            d.0,
            λ off. elim (d.1 off) [
              | inl still ↦ inl still
              | inr some ↦ inr (ap (λ (x : Entry). selects x) reported ∙ some)
            ],
          )
      timeouts-due now e old new s t (Err error, emitted, reported, (may, nothing, made, drawn)) = dues-same (selects e) old new made

-- ---- how many are to be sent

-- as numbers: of an agent whose nominations have numbers or not, with one due or not
owed-more : (c was now due_was due_now selected_now : Bool) → (was ≡ false → now ≡ false) → (due_was ≡ false → (due_now ≡ false) ⊎ (selected_now ≡ true))
    → (if c && now then one_if due_now else 0) ≤ (if c && was then one_if due_was else 0) + (if c then one_if selected_now else 0)
owed-more false was now due_was due_now selected_now plain due = omega arith
owed-more true was false due_was due_now selected_now plain due = omega arith
owed-more true false true due_was due_now selected_now plain due = no-case (sym (plain refl))
owed-more true true true true due_now selected_now plain due = let one = one-at-most due_now in omega (arith, one)
owed-more true true true false false selected_now plain due = omega arith
owed-more true true true false true true plain due = omega arith
owed-more true true true false true false plain due = elim (due refl) [ inl on ↦ no-case (sym on) | inr off ↦ no-case off ]

one-of : (a b : Bool) → (a ≡ true) ⊎ (b ≡ true) → 0 + 1 ≤ one_if a + one_if b
one-of true b why = omega arith
one-of false true why = omega arith
one-of false false (inl off) = no-case off
one-of false false (inr off) = no-case off

owed-less : (c was now due_was due_now selected_now : Bool) → c ≡ true → was ≡ true → due_now ≡ false → (due_was ≡ true) ⊎ (selected_now ≡ true)
    → (if c && now then one_if due_now else 0) + 1 ≤ (if c && was then one_if due_was else 0) + (if c then one_if selected_now else 0)
owed-less false was now due_was due_now selected_now counts numbered none why = no-case counts
owed-less true false now due_was due_now selected_now counts numbered none why = no-case numbered
owed-less true true now due_was true selected_now counts numbered none why = no-case (sym none)
owed-less true true true due_was false selected_now counts numbered none why = one-of due_was selected_now why
owed-less true true false due_was false selected_now counts numbered none why = one-of due_was selected_now why

-- at most one is due, and each call that selects a path makes one due: they are counted if `c` says so
abbrev pub to_send : {H P : Type 0} → Bool → AgentRecord H P → ℕ
to_send c a = if c && numbers a then one_if a.nomination_due else 0

abbrev pub to_select : Bool → Entry → ℕ
to_select c e = if c then one_if (selects e) else 0

pub sends-more : {H P : Type 0} (c : Bool) (e : Entry) (old new : AgentRecord H P) → Dues (selects e) old new → to_send c new ≤ to_send c old + to_select c e
sends-more c e old new d = owed-more c (numbers old) (numbers new) old.nomination_due new.nomination_due (selects e) d.0 d.1

pub sends-less : {H P : Type 0} (c : Bool) (e : Entry) (old new : AgentRecord H P) → c ≡ true → numbers old ≡ true → new.nomination_due ≡ false → (old.nomination_due ≡ true) ⊎ (selects e ≡ true)
    → to_send c new + 1 ≤ to_send c old + to_select c e
sends-less c e old new counts numbered none why = owed-less c (numbers old) (numbers new) old.nomination_due new.nomination_due (selects e) counts numbered none why
