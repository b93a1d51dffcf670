-- Nominations with numbers: the path with the greatest number is selected, and stays so. Each transition leaves the selected pair, or
-- ends with the best one selected.
use Rattle.is_stun.specs.declared.header.Class.TheVariants as class
use Rattle.is_theorems.specs.Numbered.{IsGreatest}
use Rattle.is_theorems.proofs.Common.{[], ◌&&◌, ◌++◌, ◌+◌, ◌<◌, ◌==◌, ◌||◌, ◌∙◌, ◌∷◌, ◌≡◌, ◌≤◌, ◌⊎◌, Absent, added, AddLocalCandidate}
use Rattle.is_theorems.proofs.Common.{AddRemoteCandidate, AddsLocal, AddsRemote, AddsUnknownSender, after_request, AgentRecord, Answer}
use Rattle.is_theorems.proofs.Common.{answer_by, ap, arith, at_request, Barred, Bool, Call, candidate_at, CandidateRecord, Class, clears_at}
use Rattle.is_theorems.proofs.Common.{Combination, Conflict, conflict_of, CountsAndServes, Done, done, Drops, eligible_numbered, Emitted}
use Rattle.is_theorems.proofs.Common.{Entry, eq-eqb, eqb-true, Err, false, FindsOrAddsPair, first_numbered, first_taken, Flag, followed}
use Rattle.is_theorems.proofs.Common.{followed_by_number, formed, FormsAll, Full, GoesByNumbers, GreatestAreKept, GreatestAreLast}
use Rattle.is_theorems.proofs.Common.{GreatestAreSelected, GreatestStay, HandlesFailure, HandleTimeout, Has, IceCreds, IceError}
use Rattle.is_theorems.proofs.Common.{if_eligible, if◌then◌else◌, in_turn, inl, inr, InvalidateCandidate, Invalidates, InvalidatesAt}
use Rattle.is_theorems.proofs.Common.{is_eligible, is_for_other_peer, is_misled, is_modern, is_nominated, is_valid, is_valid_at}
use Rattle.is_theorems.proofs.Common.{IsNumberedByPeer, IsSenderPlace, IsSound, IsTopSelected, Known, last_of, last_selected, LeadsByNumber}
use Rattle.is_theorems.proofs.Common.{LeadsWith, length, length-append, List, local_place, local_to_discard, Logged, loses_selected}
use Rattle.is_theorems.proofs.Common.{MaintainsPairs, MatchOption, max, Message, None, not, nothing_emitted, number_of, numbered-able}
use Rattle.is_theorems.proofs.Common.{numbered-found, numbers, Ok, Option, option_and_then, option_map, option_or, pair_served, PairRecord}
use Rattle.is_theorems.proofs.Common.{Path, path_of, queued, ReceivePacket, Receives, RecordsAndResponds, refl, remote_to_discard}
use Rattle.is_theorems.proofs.Common.{RemotePlace, request_at, request_counted, request_in, RequestRecord, Reselects, ResolvesRoleConflict}
use Rattle.is_theorems.proofs.Common.{ResolvesRoleConflictBy, Result, Run, RunsOn, same, selected_in, selected_only, selects_at_requests}
use Rattle.is_theorems.proofs.Common.{Send487, sender_candidate, Serves, ServesQueued, Some, StaysAhead, StaysGreatest, Step, Stream, subst}
use Rattle.is_theorems.proofs.Common.{switched, SwitchRole, sym, Takes, timeout_begun, TimesOut, true, Unknown, Vacant, with_pair}
use Rattle.is_theorems.proofs.Common.{with_sender, with_sender_at, ℕ}
use Rattle.is_theorems.proofs.BasicLemmas.EqualAddresses.{both}
use Rattle.is_theorems.proofs.BasicLemmas.VacantIndices.{known-in, vacant-at, length-put}
use Rattle.is_theorems.proofs.CallEffects.AddedCandidates.{by_adding_local, by_adding_remote}
use Rattle.is_theorems.proofs.CallEffects.CallsThatEmitNothing.{is_calm, is_of_candidate, silent}
use Rattle.is_theorems.proofs.CallEffects.ChangedCandidates.{adds_local_goes, adds_remote_goes, invalidates_goes}
use Rattle.is_theorems.proofs.CallEffects.FailedCallsAndNewAgents.{enrolment_kept, storing_kept}
use Rattle.is_theorems.proofs.CallEffects.PairsAndSelectedPaths.{Asks, Met, Sent, paired}
use Rattle.is_theorems.proofs.CallEffects.PathAndTradeEffects.{path_theorem}
use Rattle.is_theorems.proofs.CallEffects.ServedRequests.{known_at, reached, remote_joins, remote_puts, request_changes, switches}
use Rattle.is_theorems.proofs.ExecutionLogs.LogSegments.{run-on}
use Rattle.is_theorems.proofs.ExecutionLogs.LogTheorems.{holds, runs_sound}
use Rattle.is_theorems.proofs.PathSelection.FirstNumbered.{first-in, first-most, first-there}
use Rattle.is_theorems.proofs.PathSelection.GreatestEligiblePair.{nominates_top}
use Rattle.is_theorems.proofs.PathSelection.NominationPoints.{All1, All3, AllNumbers, FitOf, fit_of, maintains_pairs_top, success_top}
use Rattle.is_theorems.proofs.PathSelection.NominatedByPeerPerAgent.{execution_on}
use Rattle.is_theorems.proofs.StoredPairs.TransactionsOverPackets.{sound-execution}
use Rattle.is_theorems.proofs.RenominatedPaths.LastNominatedPerAgent.{names, new-sound}
use Rattle.is_theorems.proofs.RenominatedPaths.OnePathAtBothAgents.{followed-selected, numbered-is, selects-followed}
use Rattle.is_theorems.proofs.RuleEffects.ChangedPairs.{eligible_valid, one_changed, parts_of}
use Rattle.is_theorems.proofs.RuleEffects.EarlierAndNewPairs.{numbered_before, path_in, pushed}
use Rattle.is_theorems.proofs.RuleEffects.UnchangedSettings.{either}
use Rattle.is_theorems.proofs.RuleEffects.NotedErrors.{by_failure}

-- a number equals itself
differ : (x y : ℕ) → (x == y) ≡ false → x ≡ y → ⊥
differ x y apart same = let no : true ≡ false = sym (eq-eqb x y same) ∙ apart in cc

true-false : {A : Type 0} → true ≡ false → A
true-false h = absurd (cc)

at-least : (n a b : ℕ) → 1 < n → n ≤ a → max 1 a ≤ max 1 b → n ≤ b
at-least n a b many one two = omega (arith, many, one, two)

module _ {H P : Type 0} where
  -- ---- the pair that is followed

  -- an agent that goes by numbers follows the first pair in their order
  follows-first : (a : AgentRecord H P) → GoesByNumbers a → followed a ≡ followed_by_number a
  follows-first a goes =
      let set : a.renominates ≡ true = (both a.renominates (is_modern a.timing) goes.numbers).0 in
      let controlled : a.controlling ≡ false = search goes.controlled in let seen : a.numbers_seen ≡ true = search goes.seen in
      ap (λ b. if b && not a.controlling then (if numbers a && a.numbers_seen then followed_by_number a else a.last_nominated) else None) set
      ∙ (ap (λ c. if not c then (if numbers a && a.numbers_seen then followed_by_number a else a.last_nominated) else None) controlled
      ∙ (ap (λ b. if b && a.numbers_seen then followed_by_number a else a.last_nominated) goes.numbers
      ∙ ap (λ b. if b then followed_by_number a else a.last_nominated) seen))

  -- that is the one with the greatest number
  pub follows-greatest : (a : AgentRecord H P) (number n : ℕ) (path : Path) → GoesByNumbers a → IsGreatest a number n path → followed a ≡ Some number
  follows-greatest a number n path goes most = follows-first a goes ∙ by (first_numbered a.controlling a.selected_pair a.pairs) refl where
    able : Has a.pairs most.pair × (is_eligible a.controlling most.pair ≡ true)
    able = numbered-able a.controlling a.pairs number most.pair most.eligible

    by : (o : Option PairRecord) → first_numbered a.controlling a.selected_pair a.pairs ≡ o → option_map (λ (p : PairRecord). p.number) o ≡ Some number
    by None is = absurd (first-there a.controlling a.selected_pair a.pairs is most.pair able.0 able.1)
    by (Some q) is = numbered (q.number == number) refl where
      there : Has a.pairs q × (is_eligible a.controlling q ≡ true)
      there = first-in a.controlling a.selected_pair a.pairs q is

      nominated : is_nominated q ≡ true
      nominated = (both (is_valid q) (is_nominated q) (subst (λ c. (is_valid q && (c || is_nominated q)) ≡ true) goes.controlled there.1)).1

      numbered : (b : Bool) → (q.number == number) ≡ b → Some q.number ≡ Some number
      numbered true same = ap Some (eqb-true q.number number same)
      numbered false apart =
          let le : number_of most.pair ≤ number_of q = first-most a.controlling a.selected_pair a.pairs q is most.pair able.0 able.1 in
          let by = most.by in let less = most.others q there.0 (λ same. differ q.number number apart same) nominated in
          absurd (let no : ⊥ = omega (arith, by, le, less) in no)

  module _ (mac : H → List ℕ → List ℕ → List ℕ) (answers : P → CandidateRecord → ℕ → ℕ → Type 0) where
    pub greatest-selected : GreatestAreSelected mac answers
    greatest-selected first s log fresh before mid after x at evaluates goes number n path most =
        let k = followed-selected mac answers first s log fresh before mid after x at evaluates number most.pair (follows-greatest after number n path goes most) most.eligible in
        (k.0, k.1 ∙ ap Some most.on)

  -- ---- each transition

  -- the selected pair stays and no path is selected, or the best pair is selected
  abbrev IsPlaceAtLimit : AgentRecord H P → Emitted → AgentRecord H P → Type 0
  IsPlaceAtLimit old emitted new = ((new.selected_pair ≡ old.selected_pair) × (last_of emitted.selected_paths ≡ None)) ⊎ IsTopSelected new

  settles-same : (old new : AgentRecord H P) (emitted : Emitted) → emitted ≡ nothing_emitted → new ≡ old → IsPlaceAtLimit old emitted new
  settles-same old new emitted nothing made = inl (ap (λ (a : AgentRecord H P). a.selected_pair) made, ap (λ (x : Emitted). last_of x.selected_paths) nothing)

  module _ (mac : H → List ℕ → List ℕ → List ℕ) (q : RequestRecord) where
    records-settles : (l r number : ℕ) (s new : AgentRecord H P) (emitted : Emitted) → FitOf s → RecordsAndResponds mac q l r number s emitted new → IsPlaceAtLimit s emitted new
    records-settles l r number s new emitted fit (path, mid, nominating, (values, is, made)) =
        let rising = (one_changed AllNumbers All1 All3 (parts_of AllNumbers All1 All3 s) number (after_request q s) fit
        (λ p has_p same. request_changes AllNumbers All1 All3 (path_in (parts_of AllNumbers All1 All3 s) p) q s p (λ _. tt) (λ _ _ _ _. tt))).fit.rising in
        either (selects_at_requests s && is_valid_at number s.pairs) nominating
        (λ _ k. inr (subst (λ (a : AgentRecord H P). IsTopSelected a) (sym made) (nominates_top (pair_served q number s) mid path rising k)))
        (λ _ k. inl (ap (λ (a : AgentRecord H P). a.selected_pair) made ∙ ap (λ (a : AgentRecord H P). a.selected_pair) k.1, ap (λ (x : Emitted). last_of x.selected_paths) is ∙ ap (λ (o : Option Path). last_of (selected_in o None)) k.0))

    takes-settles : (l r : ℕ) (number : Option ℕ) (s new : AgentRecord H P) (emitted : Emitted) → l < length s.local → r < length s.remote → FitOf s
        → FindsOrAddsPair mac q l r number s emitted new → IsPlaceAtLimit s emitted new
    takes-settles l r (Some number) s new emitted in_local in_remote fit h = records-settles l r number s new emitted fit h
    takes-settles l r None s new emitted in_local in_remote fit h = either (candidate_at s.local l).discarded h
        (λ _ k. settles-same s new emitted k.0 k.1)
        (λ _ k. (
        let x = parts_of AllNumbers All1 All3 s in
        let p : PairRecord = formed s l r in
        let joins = pushed AllNumbers All1 All3 x x.pairs p fit (λ _ has. has) fit.rising refl (in_local, in_remote) refl (λ (is : false ≡ true). cc) (λ _. inr tt) (λ _. inr tt) (λ _ _ _. inr tt) in
        records-settles l r s.next_number (with_pair p s) new emitted joins.fit k.1))

    joins-settles : (l : ℕ) (place : RemotePlace) (s new : AgentRecord H P) (emitted : Emitted) → l < length s.local → FitOf s
        → IsSenderPlace s q place → AddsUnknownSender mac q l place s emitted new → IsPlaceAtLimit s emitted new
    joins-settles l (Known r) s new emitted in_local fit remote (number, between, h) =
        let k = known_at s.remote q r (known-in s.max_discovered s.remote s.pairs q r remote) in
        takes-settles l r number s new emitted in_local k.0 fit h
    joins-settles l Barred s new emitted in_local fit remote h = settles-same s new emitted h.0 h.1
    joins-settles l Full s new emitted in_local fit remote h = settles-same s new emitted h.0 h.1
    joins-settles l (Vacant r) s new emitted in_local fit remote (number, between, h) =
        let c : CandidateRecord = sender_candidate s q in
        let v = vacant-at s.max_discovered s.remote s.pairs q r remote in
        let joins = remote_puts AllNumbers All1 All3 (parts_of AllNumbers All1 All3 s) r c fit v.1 in
        takes-settles l r number (with_sender_at r q s) new emitted in_local (subst (λ n. r < n) (sym (length-put s.remote r c)) v.0) joins.fit h
    joins-settles l Unknown s new emitted in_local fit remote (number, between, h) =
        let c : CandidateRecord = sender_candidate s q in
        let r : ℕ = length s.remote in
        let longer : length (s.remote ++ c ∷ []) ≡ r + 1 = length-append s.remote (c ∷ []) in
        let joins = remote_joins AllNumbers All1 All3 (parts_of AllNumbers All1 All3 s) c fit in
        takes-settles l r number (with_sender q s) new emitted in_local (omega (arith, longer)) joins.fit h

    admits-settles : (l : ℕ) (s new : AgentRecord H P) (emitted : Emitted) → l < length s.local → FitOf s → CountsAndServes mac q l s emitted new → IsPlaceAtLimit s emitted new
    admits-settles l s new emitted in_local fit h = either (is_misled s.controlling q) h
        (λ _ k. settles-same s new emitted k.0 k.1)
        (λ _ k. joins-settles l k.0 (request_counted s) new emitted in_local fit k.1 k.2)

    resolves-settles : (conflict : Conflict) (l : ℕ) (s new : AgentRecord H P) (emitted : Emitted) → l < length s.local → FitOf s
        → ResolvesRoleConflictBy mac conflict q l s emitted new → IsPlaceAtLimit s emitted new
    resolves-settles Absent l s new emitted in_local fit h = admits-settles l s new emitted in_local fit h
    resolves-settles Send487 l s new emitted in_local fit (values, is, made) =
        inl (ap (λ (a : AgentRecord H P). a.selected_pair) made, ap (λ (x : Emitted). last_of x.selected_paths) is)
    resolves-settles SwitchRole l s new emitted in_local fit h = admits-settles l (switched s) new emitted in_local (switches AllNumbers All1 All3 s fit).fit h

    here-settles : (place : Option ℕ) (s new : AgentRecord H P) (emitted : Emitted) → local_place s.local q ≡ place → ((l : ℕ) → local_place s.local q ≡ Some l → l < length s.local)
        → FitOf s → MatchOption place (Drops s emitted new) (λ l. ResolvesRoleConflict mac q l s emitted new) → IsPlaceAtLimit s emitted new
    here-settles None s new emitted is within fit h = settles-same s new emitted h.0 h.1
    here-settles (Some l) s new emitted is within fit h = resolves-settles (conflict_of s q) l s new emitted (within l is) fit h

    serves-settles : (s new : AgentRecord H P) (emitted : Emitted) → ((l : ℕ) → local_place s.local q ≡ Some l → l < length s.local) → FitOf s
        → Serves mac q s emitted new → IsPlaceAtLimit s emitted new
    serves-settles s new emitted within fit h = either (is_for_other_peer s q) (in_turn mac q s new emitted h)
        (λ _ k. settles-same s new emitted k.0 k.1)
        (λ _ k. here-settles (local_place s.local q) s new emitted refl within fit k)

  module _ (mac : H → List ℕ → List ℕ → List ℕ) (answers : P → CandidateRecord → ℕ → ℕ → Type 0) (old new : AgentRecord H P) (s t : Stream) (e : Entry) (sound : IsSound old) where
    within : (q : RequestRecord) (l : ℕ) → local_place old.local q ≡ Some l → l < length old.local
    within q l is = (reached old.local q l sound.based is).0

    fit : FitOf old
    fit = fit_of old sound

    request-settles : (peer : Option IceCreds) (q : RequestRecord) (mid : AgentRecord H P) (emitted : Emitted)
        → MatchOption peer ((emitted ≡ nothing_emitted) × (mid ≡ queued q old)) (λ _. Serves mac q old emitted mid) → IsPlaceAtLimit old emitted mid
    request-settles None q mid emitted (is, made) = inl (ap (λ (a : AgentRecord H P). a.selected_pair) made, ap (λ (x : Emitted). last_of x.selected_paths) is)
    request-settles (Some peer) q mid emitted h = serves-settles mac q old mid emitted (within q) fit h

    failed-settles : (mid : AgentRecord H P) (via : Path) (m : Message) (emitted : Emitted) → HandlesFailure old via m emitted mid → IsPlaceAtLimit old emitted mid
    failed-settles mid via m emitted h = by_failure (λ e a. IsPlaceAtLimit old e a) old mid via m emitted (λ code. inl (refl, refl)) (λ code. inl (refl, refl)) h

    taken-settles : (c : Class) (now : ℕ) (mid : AgentRecord H P) (via : Path) (m : Message) (emitted : Emitted) → Takes mac c now old via m emitted mid → IsPlaceAtLimit old emitted mid
    taken-settles class.Request now mid via m emitted h = request-settles old.remote_creds (request_in now via m) mid emitted h
    taken-settles class.Success now mid via m emitted h = inr (success_top now old mid via m emitted fit h)
    taken-settles class.Failure now mid via m emitted h = failed-settles mid via m emitted h
    taken-settles class.Indication now mid via m emitted h = absurd h
    taken-settles class.Unknown now mid via m emitted h = absurd h

    -- by what the entry emits
    by-entry : (answer : Answer) (emitted : Emitted) → e ≡ record { answer = answer; emitted = emitted } → IsPlaceAtLimit old emitted new → IsPlaceAtLimit old e.emitted new
    by-entry answer emitted is k = subst (λ (x : Emitted). IsPlaceAtLimit old x new) (sym (ap (λ (x : Entry). x.emitted) is)) k

    packet-settles : (now : ℕ) (via : Path) (bytes : List ℕ) → Receives mac answers now old via bytes e new → IsPlaceAtLimit old e.emitted new
    packet-settles now via bytes (inl (fault, has, is, made)) = settles-same old new e.emitted (ap (λ (x : Entry). x.emitted) is) made
    packet-settles now via bytes (inr (m, reads, (Ok false, emitted, is, (unaccepted, nothing, made)))) = settles-same old new e.emitted (ap (λ (x : Entry). x.emitted) is ∙ nothing) made
    packet-settles now via bytes (inr (m, reads, (Err error, emitted, is, (may, nothing, made)))) = settles-same old new e.emitted (ap (λ (x : Entry). x.emitted) is ∙ nothing) made
    packet-settles now via bytes (inr (m, reads, (Ok true, emitted, is, (accepted, (mid, takes, made))))) =
        by-entry (Flag true) emitted is
        (subst (λ (a : AgentRecord H P). IsPlaceAtLimit old emitted a) (sym made) (elim (taken-settles m.class now mid via m emitted takes) [ inl kept ↦ inl kept | inr top ↦ inr top ]))

    timeout-by : (now : ℕ) (emitted : Emitted) (o : Option RequestRecord)
        → MatchOption o (MaintainsPairs mac now (timeout_begun now old) s emitted new t) (λ q. ServesQueued mac q (at_request now (timeout_begun now old)) s emitted new t) → IsPlaceAtLimit old emitted new
    timeout-by now emitted None h = inr (maintains_pairs_top mac now (timeout_begun now old) new s t emitted fit h)
    timeout-by now emitted (Some q) (h, drawn) = serves-settles mac q (first_taken (at_request now (timeout_begun now old))) new emitted (within q) fit h

    timeout-settles : (now : ℕ) (r : Result (Unit {0}) IceError) (emitted : Emitted) → TimesOut mac now old s r emitted new t → IsPlaceAtLimit old emitted new
    timeout-settles now (Ok _) emitted h = timeout-by now emitted (request_at now old) h
    timeout-settles now (Err error) emitted (may, nothing, made, drawn) = settles-same old new emitted nothing made

    calm-settles : (call : Call P) → is_calm call ≡ true → is_of_candidate call ≡ false → Step mac answers old s call e new t → IsPlaceAtLimit old e.emitted new
    calm-settles call is other h =
        let k = silent mac answers old new s t e call is other h in inl (k.selected_paths, ap (λ (x : Emitted). last_of x.selected_paths) k.emitted)

    -- ---- candidates

    -- the pairs still rise, and the selected pair stays
    abbrev Leaves : AgentRecord H P → Type 0
    Leaves mid = FitOf mid × (mid.selected_pair ≡ old.selected_pair)

    leaves-same : (mid : AgentRecord H P) → mid ≡ old → Leaves mid
    leaves-same mid made = (subst (λ (a : AgentRecord H P). FitOf a) (sym made) fit, ap (λ (a : AgentRecord H P). a.selected_pair) made)

    forms-selected : (a mid : AgentRecord H P) (all : List Combination) → FormsAll a all mid → mid.selected_pair ≡ a.selected_pair
    forms-selected a mid all (f, forms, made) = ap (λ (x : AgentRecord H P). x.selected_pair) made

    adds-local : (c : CandidateRecord) (r : Result (Option ℕ) IceError) (mid : AgentRecord H P) → AddsLocal answers old c r mid → Leaves mid
    adds-local c (Ok place) mid h = (
      (adds_local_goes AllNumbers All1 All3 answers old mid c place fit h).fit,
      by_adding_local old mid answers c place h
          (λ made. ap (λ (a : AgentRecord H P). a.selected_pair) made)
          (λ x based f. forms-selected _ mid _ f) (λ k lt f. forms-selected _ mid _ f) (λ x based k f. forms-selected _ mid _ f),
    )
    adds-local c (Err error) mid h = leaves-same mid (enrolment_kept answers old mid c error h)

    adds-remote : (c : CandidateRecord) (r : Result (Unit {0}) IceError) (mid : AgentRecord H P) → AddsRemote old c r mid → Leaves mid
    adds-remote c (Ok _) mid h = (
      (adds_remote_goes AllNumbers All1 All3 old mid c fit h).fit,
      by_adding_remote old mid c h
          (λ made. ap (λ (a : AgentRecord H P). a.selected_pair) made)
          (λ f. forms-selected _ mid _ f) (λ k lt addr f. forms-selected _ mid _ f),
    )
    adds-remote c (Err error) mid h = leaves-same mid (storing_kept old mid c error h)

    discards : (l r : Option ℕ) (found : Bool) (mid : AgentRecord H P) → InvalidatesAt l r old found mid → Leaves mid
    discards l r found mid h = ((invalidates_goes AllNumbers All1 All3 old mid l r found fit h).fit, by l r h) where
      by : (l r : Option ℕ) → InvalidatesAt l r old found mid → mid.selected_pair ≡ old.selected_pair
      by (Some place) r h = ap (λ (a : AgentRecord H P). a.selected_pair) h.1
      by None (Some place) h = ap (λ (a : AgentRecord H P). a.selected_pair) h.1
      by None None h = ap (λ (a : AgentRecord H P). a.selected_pair) h.1

    invalidates : (c : CandidateRecord) (found : Bool) (mid : AgentRecord H P) → Invalidates old c found mid → Leaves mid
    invalidates c found mid h = discards (local_to_discard c old) (remote_to_discard c old) found mid h

    selects-settles : (loses : Bool) (mid : AgentRecord H P) (path : Option Path) → Leaves mid → Reselects loses mid path new
        → IsPlaceAtLimit old (selected_only path) new
    selects-settles true mid path leaves (named, nominating, made) =
        inr (subst (λ (a : AgentRecord H P). IsTopSelected a) (sym made) (nominates_top mid named path leaves.0.rising nominating))
    selects-settles false mid path leaves (none, made) =
        inl (ap (λ (a : AgentRecord H P). a.selected_pair) made ∙ leaves.1, none)

    -- a candidate is added or invalidated
    candidate-settles : (answer : Answer) (emitted : Emitted) → e ≡ record { answer = answer; emitted = emitted } → (path : Option Path) (mid : AgentRecord H P)
        → Leaves mid → Reselects (loses_selected old mid) mid path new → emitted ≡ selected_only path → IsPlaceAtLimit old e.emitted new
    candidate-settles answer emitted is path mid leaves again emits =
        by-entry answer emitted is (subst (λ (x : Emitted). IsPlaceAtLimit old x new) (sym emits) (selects-settles (loses_selected old mid) mid path leaves again))

    pub settles : (call : Call P) → Step mac answers old s call e new t → IsPlaceAtLimit old e.emitted new
    settles (AddLocalCandidate c) (r, emitted, is, (path, mid, h, again, emits), drawn) =
        candidate-settles (answer_by added r) emitted is path mid (adds-local c r mid h) again emits
    settles (AddRemoteCandidate c) (r, emitted, is, (path, mid, h, again, emits), drawn) =
        candidate-settles (answer_by done r) emitted is path mid (adds-remote c r mid h) again emits
    settles (InvalidateCandidate c) (r, emitted, is, (path, mid, h, again, emits), drawn) =
        candidate-settles (Flag r) emitted is path mid (invalidates c r mid h) again emits
    settles (ReceivePacket now via bytes) h = packet-settles now via bytes h.0
    settles (HandleTimeout now) (r, emitted, is, h) = by-entry (answer_by done r) emitted is (timeout-settles now r emitted h)
    settles call h = calm-settles call refl refl h

  -- ---- executions

  module _ (mac : H → List ℕ → List ℕ → List ℕ) (answers : P → CandidateRecord → ℕ → ℕ → Type 0) where
    pub greatest-kept : GreatestAreKept mac answers
    greatest-kept first s log before part start last number path fresh found selected stays =
        let all = kept part last found.following found.run stays in
        let run : Run mac answers first s (part ++ before) last found.following = run-on mac answers first start last s found.at found.following before part found.led found.run in
        (all, on-path part last found.following run all (greatest part last found.following found.run stays)) where
          greatest : (xs : List (Logged P)) (a : AgentRecord H P) (v : Stream) (run : RunsOn mac answers before start found.at xs a v)
              → StaysGreatest mac answers before start found.at xs a v run number path → LeadsByNumber a number path
          greatest [] a v run stays = stays
          greatest (x ∷ xs) a v run stays = stays.0

          kept : (xs : List (Logged P)) (a : AgentRecord H P) (v : Stream) (run : RunsOn mac answers before start found.at xs a v)
              → StaysGreatest mac answers before start found.at xs a v run number path → a.selected_pair ≡ Some number
          kept [] a v (is, drawn) stays = ap (λ (y : AgentRecord H P). y.selected_pair) is ∙ search selected
          kept (x ∷ xs) a v (mid, w, run, numbered, given, step) ((goes, most), stays) =
              let was : mid.selected_pair ≡ Some number = kept xs mid w run stays in
              let here : Run mac answers first s (xs ++ before) mid w = run-on mac answers first start mid s found.at w before xs found.led run in
              let fit : IsSound mid = runs_sound mac answers (path_theorem mac answers) first mid s w (xs ++ before) fresh here in
              elim (settles mac answers mid a w v x.entry fit x.call step) [
                | inl (same, none) ↦ same ∙ was
                | inr top ↦ selects-followed mac answers a number most.1.pair (follows-greatest a number most.0 path goes most.1) most.1.eligible top
              ]

          on-path : (xs : List (Logged P)) (a : AgentRecord H P) (v : Stream) → Run mac answers first s (xs ++ before) a v → a.selected_pair ≡ Some number → LeadsByNumber a number path
              → last_selected (xs ++ before) ≡ Some path
          on-path xs a v run is (goes, (n, most)) =
              let able = numbered-is a.controlling a.pairs number most.pair most.eligible in
              ((holds mac answers (path_theorem mac answers) first s fresh (xs ++ before) a v run).named most.pair able.0 (is ∙ ap Some (sym able.1))).2 ∙ ap Some most.on

    -- ---- by what the requests say

    -- The pairs with such a number are on one path, after each call that brings none on another path.
    abbrev AreOn : AgentRecord H P → ℕ → Path → Type 0
    AreOn a n path = (q : PairRecord) → Has a.pairs q → n ≤ q.greatest_number → path_of a q ≡ path

    stay-on : (old new : AgentRecord H P) (s t : Stream) (call : Call P) (e : Entry) (n : ℕ) (path : Path) → IsSound old → 0 < n
        → old.lite ≡ false → old.controlling ≡ false → new.controlling ≡ false → Step mac answers old s call e new t
        → ((other : Path) → IsNumberedByPeer old call e other n → other ≡ path) → AreOn old n path → AreOn new n path
    stay-on old new s t call e n path sound pos plain before following step requests were q has le =
        let asks : Path → ℕ → Type 0 = Asks mac answers old new s t e call in
        let met : Path → Type 0 = Met mac answers old new s t e call in
        let sent : Path → List ℕ → Bool → Type 0 = Sent mac answers old new s t e in
        elim (numbered_before asks met sent (parts_of asks met sent old) (parts_of asks met sent new) (paired mac answers old new s t e call sound step).0
        (path_of new q) n pos (q, has, le, refl)) [
          | inl (p, there, few, on) ↦ sym on ∙ were p there few
          | inr asked ↦ by asked
        ] where
          by : Asks mac answers old new s t e call (path_of new q) n → path_of new q ≡ path
          by (inl asked) = requests (path_of new q) asked
          by (inr (inl lite)) = true-false (sym lite ∙ plain)
          by (inr (inr (inl role))) = true-false (sym role ∙ before)
          by (inr (inr (inr role))) = true-false (sym role ∙ following)

    -- the best pair has such a number, so it is on the path
    top-on : (a : AgentRecord H P) (n : ℕ) (path : Path) → IsSound a → 1 < n → AreOn a n path → LeadsWith a n path → IsTopSelected a
        → (q : PairRecord) × Has a.pairs q × (a.selected_pair ≡ Some q.number) × (path_of a q ≡ path)
    top-on a n path sound many are_on leads top = by (first_numbered a.controlling a.selected_pair a.pairs) refl where
      by : (o : Option PairRecord) → first_numbered a.controlling a.selected_pair a.pairs ≡ o
          → (q : PairRecord) × Has a.pairs q × (a.selected_pair ≡ Some q.number) × (path_of a q ≡ path)
      by None is = absurd (first-there a.controlling a.selected_pair a.pairs is leads.pair leads.among leads.eligible)
      by (Some q) is =
          let there : Has a.pairs q × (is_eligible a.controlling q ≡ true) = first-in a.controlling a.selected_pair a.pairs q is in
          let le : number_of leads.pair ≤ number_of q = first-most a.controlling a.selected_pair a.pairs q is leads.pair leads.among leads.eligible in
          let follows : followed a ≡ Some q.number = follows-first a leads.goes ∙ ap (λ (o : Option PairRecord). option_map (λ (p : PairRecord). p.number) o) is in
          let able : eligible_numbered a.controlling a.pairs q.number ≡ Some q =
          ap (λ (o : Option PairRecord). option_and_then (if_eligible a.controlling) o) (numbered-found a.pairs q sound.rising there.0) ∙ ap (λ b. if b then Some q else None) there.1 in
          (q, there.0, selects-followed mac answers a q.number q follows able top, are_on q there.0 (at-least n leads.pair.greatest_number q.greatest_number many leads.by le))

    pub greatest-stay : GreatestStay mac answers
    greatest-stay first s log before part start last n path fresh found many alone was stays =
        let several : 1 < n = search many in
        (along several part last found.following found.run stays).1 where
          leads-in : (xs : List (Logged P)) (a : AgentRecord H P) (v : Stream) (run : RunsOn mac answers before start found.at xs a v)
              → StaysAhead mac answers before start found.at xs a v run n path → LeadsWith a n path
          leads-in [] a v run stays = stays
          leads-in (x ∷ xs) a v run stays = stays.0

          along : 1 < n → (xs : List (Logged P)) (a : AgentRecord H P) (v : Stream) (run : RunsOn mac answers before start found.at xs a v)
              → StaysAhead mac answers before start found.at xs a v run n path → AreOn a n path × (last_selected (xs ++ before) ≡ Some path)
          along several [] a v (is, drawn) leads = (subst (λ (y : AgentRecord H P). AreOn y n path) (sym is) (search alone), search was)
          along several (x ∷ xs) a v (mid, w, run, numbered, given, step) (leads, requests, stays) =
              let near : LeadsWith mid n path = leads-in xs mid w run stays in
              let k : AreOn mid n path × (last_selected (xs ++ before) ≡ Some path) = along several xs mid w run stays in
              let here : Run mac answers first s (xs ++ before) mid w = run-on mac answers first start mid s found.at w before xs found.led run in
              let whole : Run mac answers first s (x ∷ (xs ++ before)) a v =
              run-on mac answers first start a s found.at v before (x ∷ xs) found.led (mid, w, run, numbered, given, step) in
              let fit : IsSound mid = runs_sound mac answers (path_theorem mac answers) first mid s w (xs ++ before) fresh here in
              let sound : IsSound a = runs_sound mac answers (path_theorem mac answers) first a s v (x ∷ (xs ++ before)) fresh whole in
              let now_on : AreOn a n path =
              stay-on mid a w v x.call x.entry n path fit (omega (arith, several)) near.plain near.goes.controlled leads.goes.controlled step (search requests) k.0 in
              let law = (path_theorem mac answers mid a w v x.call x.entry fit given step).0 in (
                now_on,
                elim (settles mac answers mid a w v x.entry fit x.call step) [
                  | inl (same, none) ↦ keeps x xs none (uncleared x (λ is. (law.cleared_pairs is leads.pair leads.among).1) (eligible_valid a.controlling leads.pair leads.eligible)) k.1
                  | inr top ↦ named x xs a v whole (top-on a n path sound several now_on leads top)
                ],
              ) where
                keeps : (x : Logged P) (xs : List (Logged P)) → last_of x.entry.emitted.selected_paths ≡ None → clears_at x ≡ false
                    → last_selected (xs ++ before) ≡ Some path → last_selected (x ∷ (xs ++ before)) ≡ Some path
                keeps x xs none uncleared was =
                    ap (λ o. option_or o (if clears_at x then None else last_selected (xs ++ before))) none
                    ∙ (ap (λ b. if b then None else last_selected (xs ++ before)) uncleared ∙ was)

                uncleared : {valid : Bool} (x : Logged P) → (clears_at x ≡ true → valid ≡ false) → valid ≡ true → clears_at x ≡ false
                uncleared {valid} x gone is = by (clears_at x) refl where
                  by : (b : Bool) → clears_at x ≡ b → clears_at x ≡ false
                  by true clear = true-false (sym is ∙ gone clear)
                  by false clear = clear

                named : (x : Logged P) (xs : List (Logged P)) (a : AgentRecord H P) (v : Stream) → Run mac answers first s (x ∷ (xs ++ before)) a v
                    → (q : PairRecord) × Has a.pairs q × (a.selected_pair ≡ Some q.number) × (path_of a q ≡ path) → last_selected (x ∷ (xs ++ before)) ≡ Some path
                named x xs a v whole (q, has, is, on) =
                    ((holds mac answers (path_theorem mac answers) first s fresh (x ∷ (xs ++ before)) a v whole).named q has is).2 ∙ ap Some on

    pub greatest-last : GreatestAreLast mac answers
    greatest-last first near last before s t now timeout number path new led step done none (goes, (n, most)) =
        let fit : IsSound near = sound-execution mac answers before first near (new-sound mac answers first new) led in
        let law = path_theorem mac answers near last s t (HandleTimeout now) timeout fit tt step in
        let well : timeout.answer ≡ Done = search done in let idle : request_at now near ≡ None = search none in
        let selected = selects-followed mac answers last number most.pair (follows-greatest last number n path goes most) most.eligible (law.0.points (well, idle)) in
        let able = numbered-is last.controlling last.pairs number most.pair most.eligible in
        let whole = execution_on mac answers before ((HandleTimeout now, timeout) ∷ []) first near last led (last, s, t, tt, step, refl) in
        (names mac answers (before ++ (HandleTimeout now, timeout) ∷ []) first last new whole most.pair able.0 (selected ∙ ap Some (sym able.1))).2 ∙ ap Some most.on
