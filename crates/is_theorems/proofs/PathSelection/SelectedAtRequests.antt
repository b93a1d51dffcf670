-- With selection at once: nomination is evaluated when a request is served on a valid pair. The preconditions that
-- mutants/specifications changes are read by tactics.
use Rattle.is_stun.specs.declared.header.Class.TheVariants as class
use Rattle.is_theorems.proofs.Common.{[], ◌&&◌, ◌++◌, ◌+◌, ◌<◌, ◌∙◌, ◌∷◌, ◌≡◌, ◌≤◌, Absent, AddsUnknownSender, after_request, AgentRecord}
use Rattle.is_theorems.proofs.Common.{answer_by, ap, arith, at_request, Barred, below-each, Bool, Call, candidate_at, CandidateRecord}
use Rattle.is_theorems.proofs.Common.{change_at, Conflict, conflict_of, CountsAndServes, Done, done, Drops, Emitted, Entry, eq-eqb, Err}
use Rattle.is_theorems.proofs.Common.{false, FindsOrAddsPair, first_taken, Flag, formed, Full, HandleTimeout, Has, IceCreds, IceError}
use Rattle.is_theorems.proofs.Common.{if◌then◌else◌, in_turn, inl, inr, is_eligible, is_for_other_peer, is_misled, is_modern, is_valid}
use Rattle.is_theorems.proofs.Common.{is_valid_at, IsAskedOn, IsFresh, IsPairBetween, IsSenderPlace, IsServing, IsSound, Issued, issued_as}
use Rattle.is_theorems.proofs.Common.{IsTopPath, IsTopSelected, Known, last_selected, length, length-append, List, local_place, Logged}
use Rattle.is_theorems.proofs.Common.{MaintainsPairs, MatchOption, Message, NominatesWhere, NominationsSelectAtOnce, None, nothing_emitted}
use Rattle.is_theorems.proofs.Common.{Ok, Option, pair_served, PairRecord, passes_at, Path, path_between, path_of, PathEffect, Point}
use Rattle.is_theorems.proofs.Common.{queued, ReceivePacket, RecordsAndResponds, refl, Rejected, RemotePlace, request_at, request_counted}
use Rattle.is_theorems.proofs.Common.{request_in, RequestRecord, RequestsSelect, ResolvesRoleConflict, ResolvesRoleConflictBy, Result}
use Rattle.is_theorems.proofs.Common.{rising-each, run_to, selects_at_requests, Send487, sender_candidate, Serves, ServesQueued, Some, Step}
use Rattle.is_theorems.proofs.Common.{Stream, subst, switched, switched_sides, SwitchRole, sym, Takes, timeout_begun, TimesOut, true}
use Rattle.is_theorems.proofs.Common.{Unknown, Unparsed, Vacant, WereValidOn, with_pair, with_priority_in, with_sender, with_sender_at, ℕ}
use Rattle.is_theorems.proofs.BasicLemmas.MembersOfLists.{has-front}
use Rattle.is_theorems.proofs.BasicLemmas.UsernamesAndFirstMatches.{any_has}
use Rattle.is_theorems.proofs.BasicLemmas.VacantIndices.{known-in, vacant-at, length-put}
use Rattle.is_theorems.proofs.CallEffects.PathAndTradeEffects.{path_theorem}
use Rattle.is_theorems.proofs.CallEffects.ServedRequests.{Has-last, Has-mapped, is_at_places, known_at, reached, remote_joins, remote_puts}
use Rattle.is_theorems.proofs.CallEffects.ServedRequests.{request_at_places, request_changes, switches}
use Rattle.is_theorems.proofs.ExecutionLogs.LogTheorems.{holds}
use Rattle.is_theorems.proofs.PathSelection.GreatestEligiblePair.{nominates_top}
use Rattle.is_theorems.proofs.PathSelection.NominatedByPeer.{nominated-on}
use Rattle.is_theorems.proofs.PathSelection.NominationPoints.{All1, All3, AllNumbers, FitOf, fit_of, Still, nominates_still, stays_still}
use Rattle.is_theorems.proofs.PathSelection.SelectedAfterResponse.{nominated-eligible}
use Rattle.is_theorems.proofs.PathSelection.SelectedPairIsNominated.{names-best}
use Rattle.is_theorems.proofs.RuleEffects.ChangedPairs.{Changed, one_changed, parts_of}
use Rattle.is_theorems.proofs.RuleEffects.EarlierAndNewPairs.{Parts, path_in, pushed}
use Rattle.is_theorems.proofs.RuleEffects.SelectedPaths.{one_pair, some_is, none_is}
use Rattle.is_theorems.proofs.RuleEffects.UnchangedSettings.{either}

-- a pair of this number is valid
abbrev HasValid : ℕ → List PairRecord → Type 0
HasValid number pairs = (r : PairRecord) × Has pairs r × (r.number ≡ number) × (is_valid r ≡ true)

valid_at : (number : ℕ) (pairs : List PairRecord) → HasValid number pairs → is_valid_at number pairs ≡ true
valid_at number pairs (r, has, same, valid) =
    any_has (passes_at number is_valid) pairs r has (ap (λ b. b && is_valid r) (eq-eqb r.number number same) ∙ valid)

module _ {H P : Type 0} where
  where_still : (b : Bool) (old new : AgentRecord H P) (path : Option Path) (p : PairRecord) → Has old.pairs p → NominatesWhere b old path new → Still p old new
  where_still true old new path p has h = nominates_still old new path p has h
  where_still false old new path p has (is, same) = stays_still p old new has same

  -- a state while the request is served: the pairs that were valid before it are
  record WhileServing (old s : AgentRecord H P) : Type 0 where
    pub fit : FitOf s
    pub at_once : is_modern s.timing ≡ true
    pub keeps : (q : PairRecord) → Has old.pairs q → is_valid q ≡ true → HasValid q.number s.pairs

  module _ (mac : H → List ℕ → List ℕ → List ℕ) (q : RequestRecord) (old : AgentRecord H P) (issued : Issued) (success : issued.class ≡ class.Success) where
    -- the success response makes the agent select
    abbrev Selects : Emitted → AgentRecord H P → Type 0
    Selects emitted new = emitted.issued ≡ Some issued → WereValidOn old new issued.path → IsTopSelected new

    drops_top : (s new : AgentRecord H P) (emitted : Emitted) → Drops s emitted new → Selects emitted new
    drops_top s new emitted (is, same) out valid = none_is issued (sym (ap (λ (x : Emitted). x.issued) is) ∙ out)

    records_top : (l r number : ℕ) (s new : AgentRecord H P) (emitted : Emitted) → WhileServing old s
        → ((p : PairRecord) × Has s.pairs p × (p.local ≡ l) × (p.remote ≡ r) × (p.number ≡ number))
        → RecordsAndResponds mac q l r number s emitted new → Selects emitted new
    records_top l r number s new emitted state (p, has, at_l, at_r, numbers) (path, mid, nominating, (values, is, made)) out were =
        let x : Parts = parts_of AllNumbers All1 All3 s in
        let y : AgentRecord H P = pair_served q number s in
        let b : Bool = selects_at_requests s && is_valid_at number s.pairs in
        let changes : (p : PairRecord) → Changed AllNumbers All1 All3 (path_in x p) p (after_request q s p) =
        λ p. request_changes AllNumbers All1 All3 (path_in x p) q s p (λ _. tt) (λ _ _ _ _. tt) in
        let rising = (one_changed AllNumbers All1 All3 x number (after_request q s) state.fit (λ p has_p same. changes p)).fit.rising in
        let v : PairRecord = after_request q s p in
        let g : PairRecord → PairRecord = change_at number (after_request q s) in
        let is_served : g p ≡ v = ap (λ b. if b then v else p) (eq-eqb p.number number numbers) in
        let in_y : Has y.pairs v = subst (λ (o : PairRecord). Has y.pairs o) is_served (Has-mapped g s.pairs p has) in
        let still = where_still b y mid path v in_y nominating in
        let kept = request_at_places q s p in
        let on : path_of mid still.now ≡ path_between s l r =
        still.path ∙ ap (λ k. path_between s k v.remote) (kept.0 ∙ at_l) ∙ ap (λ k. path_between s l k) (kept.1 ∙ at_r) in
        let issued_is : issued_as (path_between s l r) class.Success q.id ≡ issued =
        some_is (issued_as (path_between s l r) class.Success q.id) issued (sym (ap (λ (x : Emitted). x.issued) is) ∙ out) in
        let was = subst (λ (a : AgentRecord H P). WereValidOn old a issued.path) made were still.now still.there (on ∙ ap (λ (i : Issued). i.path) issued_is) in
        let its : was.0.number ≡ number = was.2 ∙ still.number ∙ (changes p).number ∙ numbers in
        let valid : is_valid was.0 ≡ true = search was.3 in
        let there : HasValid number s.pairs = subst (λ n. HasValid n s.pairs) its (state.keeps was.0 was.1 valid) in
        let evaluates : b ≡ true =
        ap (λ o. (if o then true else s.controlling) && is_valid_at number s.pairs) state.at_once ∙ valid_at number s.pairs there in
        let top : IsTopSelected mid = nominates_top y mid path rising (subst (λ b. NominatesWhere b y path mid) evaluates nominating) in
        subst (λ (a : AgentRecord H P). IsTopSelected a) (sym made) top

    takes_top : (l r : ℕ) (number : Option ℕ) (s new : AgentRecord H P) (emitted : Emitted) → l < length s.local → r < length s.remote → WhileServing old s
        → IsPairBetween s.pairs l r number → FindsOrAddsPair mac q l r number s emitted new → Selects emitted new
    takes_top l r (Some number) s new emitted in_local in_remote state (p, has, between, is) h =
        let place = is_at_places l r p between in
        records_top l r number s new emitted state (p, has, place.0, place.1, is) h
    takes_top l r None s new emitted in_local in_remote state none h = either (candidate_at s.local l).discarded h
        (λ _ k. drops_top s new emitted k)
        (λ _ k. (
        let x : Parts = parts_of AllNumbers All1 All3 s in
        let p : PairRecord = formed s l r in
        let joins = pushed AllNumbers All1 All3 x x.pairs p state.fit (λ _ has. has) state.fit.rising refl (in_local, in_remote) refl (λ (is : false ≡ true). cc) (λ _. inr tt) (λ _. inr tt) (λ _ _ _. inr tt) in
        records_top l r s.next_number (with_pair p s) new emitted (record {
          fit = joins.fit;
          at_once = state.at_once;
          keeps = λ o has valid. (let w = state.keeps o has valid in (w.0, has-front s.pairs p w.0 w.1, w.2, w.3));
        }) (p, Has-last s.pairs p, refl, refl, refl) k.1))

    joins_top : (l : ℕ) (place : RemotePlace) (s new : AgentRecord H P) (emitted : Emitted) → l < length s.local → WhileServing old s
        → IsSenderPlace s q place → AddsUnknownSender mac q l place s emitted new → Selects emitted new
    joins_top l (Known r) s new emitted in_local state remote (number, between, h) =
        let k = known_at s.remote q r (known-in s.max_discovered s.remote s.pairs q r remote) in
        takes_top l r number s new emitted in_local k.0 state between h
    joins_top l Barred s new emitted in_local state remote h = drops_top s new emitted h
    joins_top l Full s new emitted in_local state remote h = drops_top s new emitted h
    joins_top l (Vacant r) s new emitted in_local state remote (number, between, h) =
        let c : CandidateRecord = sender_candidate s q in
        let v = vacant-at s.max_discovered s.remote s.pairs q r remote in
        let joins = remote_puts AllNumbers All1 All3 (parts_of AllNumbers All1 All3 s) r c state.fit v.1 in
        takes_top l r number (with_sender_at r q s) new emitted in_local (subst (λ n. r < n) (sym (length-put s.remote r c)) v.0)
        (record { fit = joins.fit; at_once = state.at_once; keeps = state.keeps }) between h
    joins_top l Unknown s new emitted in_local state remote (number, between, h) =
        let c : CandidateRecord = sender_candidate s q in
        let r : ℕ = length s.remote in
        let longer : length (s.remote ++ c ∷ []) ≡ r + 1 = length-append s.remote (c ∷ []) in
        let joins = remote_joins AllNumbers All1 All3 (parts_of AllNumbers All1 All3 s) c state.fit in
        takes_top l r number (with_sender q s) new emitted in_local (omega (arith, longer))
        (record { fit = joins.fit; at_once = state.at_once; keeps = state.keeps }) between h

    admits_top : (l : ℕ) (s new : AgentRecord H P) (emitted : Emitted) → l < length s.local → WhileServing old s → CountsAndServes mac q l s emitted new
        → Selects emitted new
    admits_top l s new emitted in_local state h = either (is_misled s.controlling q) h
        (λ _ k. drops_top s new emitted k)
        (λ _ k. joins_top l k.0 (request_counted s) new emitted in_local (record { fit = state.fit; at_once = state.at_once; keeps = state.keeps }) k.1 k.2)

    resolves_top : (conflict : Conflict) (l : ℕ) (s new : AgentRecord H P) (emitted : Emitted) → l < length s.local → WhileServing old s
        → ResolvesRoleConflictBy mac conflict q l s emitted new → Selects emitted new
    resolves_top Absent l s new emitted in_local state h out were = admits_top l s new emitted in_local state h out were
    resolves_top Send487 l s new emitted in_local state (values, is, made) out were =
        absurd (let no : class.Failure ≡ class.Success = ap (λ (i : Issued). i.class) (some_is _ issued (sym (ap (λ (x : Emitted). x.issued) is) ∙ out)) ∙ success in cc)
    resolves_top SwitchRole l s new emitted in_local state h out were = admits_top l (switched s) new emitted in_local (record {
      fit = (switches AllNumbers All1 All3 s state.fit).fit;
      at_once = state.at_once;
      keeps = λ o has valid. (
          let w = state.keeps o has valid in
          (with_priority_in (switched_sides s) w.0, Has-mapped (with_priority_in (switched_sides s)) s.pairs w.0 w.1, w.2, w.3));
    }) h out were

    here_top : (place : Option ℕ) (s new : AgentRecord H P) (emitted : Emitted) → local_place s.local q ≡ place → ((l : ℕ) → local_place s.local q ≡ Some l → l < length s.local)
        → WhileServing old s → MatchOption place (Drops s emitted new) (λ l. ResolvesRoleConflict mac q l s emitted new) → Selects emitted new
    here_top None s new emitted is within state h = drops_top s new emitted h
    here_top (Some l) s new emitted is within state h = resolves_top (conflict_of s q) l s new emitted (within l is) state h

    serves_top : (s new : AgentRecord H P) (emitted : Emitted) → ((l : ℕ) → local_place s.local q ≡ Some l → l < length s.local) → WhileServing old s
        → Serves mac q s emitted new → Selects emitted new
    serves_top s new emitted within state h = either (is_for_other_peer s q) (in_turn mac q s new emitted h)
        (λ _ k. drops_top s new emitted k)
        (λ _ k. here_top (local_place s.local q) s new emitted refl within state k)

  module _ (mac : H → List ℕ → List ℕ → List ℕ) (answers : P → CandidateRecord → ℕ → ℕ → Type 0) (old new : AgentRecord H P) (s t : Stream) (e : Entry) (sound : IsSound old)
      (issued : Issued) (success : issued.class ≡ class.Success) (at_once : is_modern old.timing ≡ true) where
    within : (q : RequestRecord) (l : ℕ) → local_place old.local q ≡ Some l → l < length old.local
    within q l is = (reached old.local q l sound.based is).0

    at_first : WhileServing old old
    at_first = record { fit = fit_of old sound; at_once = at_once; keeps = λ q has valid. (q, has, refl, valid) }

    abbrev SelectsNow : Type 0
    SelectsNow = e.emitted.issued ≡ Some issued → WereValidOn old new issued.path → IsTopSelected new

    request_top : (peer : Option IceCreds) (q : RequestRecord) (mid : AgentRecord H P) (emitted : Emitted)
        → MatchOption peer ((emitted ≡ nothing_emitted) × (mid ≡ queued q old)) (λ _. Serves mac q old emitted mid) → Selects mac q old issued success emitted mid
    request_top None q mid emitted (is, same) out were = none_is issued (sym (ap (λ (x : Emitted). x.issued) is) ∙ out)
    request_top (Some peer) q mid emitted h out were =
        serves_top mac q old issued success old mid emitted (within q) at_first h out were

    packet_top : (now : ℕ) (via : Path) (bytes : List ℕ) → Step mac answers old s (ReceivePacket now via bytes) e new t
        → (q : RequestRecord) → IsServing {H = H} {P = P} old (ReceivePacket now via bytes) e q → SelectsNow
    packet_top now via bytes (inl (fault, has, is, made), drawn) q (at, by, m, (at_is, by_is, reads, flag), request, known, q_is) out were =
        absurd (let no : Unparsed fault ≡ Flag true = sym (ap (λ (x : Entry). x.answer) is) ∙ flag in cc)
    packet_top now via bytes (inr (n, reads_n, (Ok false, emitted, is, h)), drawn) q (at, by, m, (at_is, by_is, reads, flag), request, known, q_is) out were =
        absurd (let no : Flag false ≡ Flag true = sym (ap (λ (x : Entry). x.answer) is) ∙ flag in cc)
    packet_top now via bytes (inr (n, reads_n, (Err error, emitted, is, h)), drawn) q (at, by, m, (at_is, by_is, reads, flag), request, known, q_is) out were =
        absurd (let no : Rejected error ≡ Flag true = sym (ap (λ (x : Entry). x.answer) is) ∙ flag in cc)
    packet_top now via bytes (inr (n, reads_n, (Ok true, emitted, is, (accepted, (mid, takes, made)))), drawn) q (at, by, m, (at_is, by_is, reads, flag), request, known, q_is) out were =
        let same : n ≡ m = reads_n.spelled ∙ sym reads.spelled in
        let k = subst (λ c. Takes mac c now old via m emitted mid) request
        (subst (λ (x : Message). Takes mac x.class now old via x emitted mid) same takes) in
        let top : IsTopSelected mid = request_top old.remote_creds (request_in now via m) mid emitted k (sym (ap (λ (x : Entry). x.emitted.issued) is) ∙ out)
        (subst (λ (a : AgentRecord H P). WereValidOn old a issued.path) made were) in
        subst (λ (a : AgentRecord H P). IsTopSelected a) (sym made) top

    early_top : (now : ℕ) (emitted : Emitted) (o : Option RequestRecord) (q : RequestRecord) → request_at now old ≡ o → request_at now old ≡ Some q
        → MatchOption o (MaintainsPairs mac now (timeout_begun now old) s emitted new t) (λ q. ServesQueued mac q (at_request now (timeout_begun now old)) s emitted new t)
        → Selects mac q old issued success emitted new
    early_top now emitted None q is some h = none_is q (sym is ∙ some)
    early_top now emitted (Some r) q is some h =
        serves_top mac r old issued success (first_taken (at_request now (timeout_begun now old))) new emitted (within r)
        (record { fit = at_first.fit; at_once = at_first.at_once; keeps = at_first.keeps }) h.0

    timeout_top : (now : ℕ) (r : Result (Unit {0}) IceError) (emitted : Emitted) → e ≡ record { answer = answer_by done r; emitted = emitted } → TimesOut mac now old s r emitted new t
        → (q : RequestRecord) → (request_at now old ≡ Some q) × (e.answer ≡ Done) → SelectsNow
    timeout_top now (Ok u) emitted is h q (some, flag) out were =
        early_top now emitted (request_at now old) q refl some h (sym (ap (λ (x : Entry). x.emitted.issued) is) ∙ out) were
    timeout_top now (Err error) emitted is h q (some, flag) out were =
        absurd (let no : Rejected error ≡ Done = sym (ap (λ (x : Entry). x.answer) is) ∙ flag in cc)

    -- a request that is served
    pub served_top : (call : Call P) → Step mac answers old s call e new t → (q : RequestRecord) → IsServing old call e q → SelectsNow
    served_top (ReceivePacket now via bytes) h q serving = packet_top now via bytes h q serving
    served_top (HandleTimeout now) (r, emitted, is, h) q serving = timeout_top now r emitted is h q serving
    served_top call h q serving = absurd serving.3

  module _ (mac : H → List ℕ → List ℕ → List ℕ) (answers : P → CandidateRecord → ℕ → ℕ → Type 0) where
    -- a pair that was valid is
    stays_valid : (old new : AgentRecord H P) (call : Call P) (e : Entry) → PathEffect mac old call e new → IsSound old → (p q : PairRecord) → Has new.pairs p → Has old.pairs q
        → q.number ≡ p.number → is_valid q ≡ true → is_valid p ≡ true
    stays_valid old new call e f sound p q has was same valid = elim (f.numbers p has) [
      | inl k ↦
          (let is : q ≡ k.0 = one_pair old.pairs q k.0 (rising-each old.pairs sound.rising) was k.1 (same ∙ sym k.2) in
          k.4 (subst (λ (x : PairRecord). is_valid x ≡ true) is valid))
      | inr n ↦
          (let lt : q.number < old.next_number = below-each old.next_number old.pairs sound.below q was in
          let le : old.next_number ≤ p.number = n.0 in
          absurd (let no : ⊥ = omega (arith, lt, le, same) in no))
    ]

    module _ (first : AgentRecord H P) (s : Stream) (fresh : IsFresh first) (log before : List (Logged P)) (mid after : AgentRecord H P) (x : Logged P)
        (point : Point mac answers first s log before mid x after) where
      sound_mid : IsSound mid
      sound_mid = (holds mac answers (path_theorem mac answers) first s fresh before mid point.at point.led).sound

      effect : PathEffect mac mid x.call x.entry after
      effect = (path_theorem mac answers mid after point.at point.following x.call x.entry sound_mid point.given point.step).0

      selects : (issued : Issued) → x.entry.emitted.issued ≡ Some issued → issued.class ≡ class.Success → is_modern mid.timing ≡ true
          → WereValidOn mid after issued.path → (p : PairRecord) → Has after.pairs p → is_eligible after.controlling p ≡ true → IsTopPath mac answers (x ∷ before) after
      selects issued out success at_once were p has able =
          let k = effect.replied issued out success in
          let top = served_top mac answers mid after point.at point.following x.entry sound_mid issued success at_once x.call point.step k.0 k.1 out were in
          let named = (holds mac answers (path_theorem mac answers) first s fresh (x ∷ before) after point.following (run_to mac answers first s log before mid x after point)).named in
          names-best after (last_selected (x ∷ before)) p has able named top

      selects_nominated : (path : Path) → IsAskedOn mid x after path → is_modern mid.timing ≡ true → WereValidOn mid after path → IsTopPath mac answers (x ∷ before) after
      selects_nominated path asked at_once were =
          let k = nominated-on mac answers mid after x path effect asked in
          let was = were k.0 k.1 k.3 in
          let valid : is_valid was.0 ≡ true = search was.3 in
          let able = nominated-eligible after.controlling k.0 (stays_valid mid after x.call x.entry effect sound_mid k.0 was.0 k.1 was.1 was.2 valid) k.2 in
          selects (issued_as path class.Success asked.1) asked.4 refl at_once were k.0 k.1 able

    pub requests_select : RequestsSelect {H = H} mac answers
    requests_select first s log fresh before mid after x point issued out success rule were p has is =
        let at_once : is_modern mid.timing ≡ true = search rule in
        selects first s fresh log before mid after x point issued out success at_once were p has is

    pub nominations_select_at_once : NominationsSelectAtOnce {H = H} mac answers
    nominations_select_at_once first s log fresh before mid after x point path asked rule were =
        let at_once : is_modern mid.timing ≡ true = search rule in
        selects_nominated first s fresh log before mid after x point path asked at_once were
