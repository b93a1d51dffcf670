-- A request on another path leaves the times from which consent on this one is counted.
use Rattle.is_theorems.proofs.Common.{◌&&◌, ◌<◌, ◌∙◌, ◌≡◌, ◌≢◌, Absent, AddsUnknownSender, after_request, AgentRecord, ap, arith, as_taken}
use Rattle.is_theorems.proofs.Common.{Barred, base_of, Bool, candidate_at, CandidateRecord, change_at, Conflict, conflict_of}
use Rattle.is_theorems.proofs.Common.{CountsAndServes, Drops, Emitted, false, FindsOrAddsPair, formed, Full, Has, IceCreds, if◌then◌else◌}
use Rattle.is_theorems.proofs.Common.{in_turn, inl, inr, is_for_other_peer, is_misled, is_numbered, is_valid_at, IsBased, IsPairBetween}
use Rattle.is_theorems.proofs.Common.{IsSenderPlace, Known, length, List, local_place, MatchOption, None, numbers, Option, pair_served}
use Rattle.is_theorems.proofs.Common.{PairRecord, Path, path_between, Queues, RecordsAndResponds, refl, RemotePlace, request_counted}
use Rattle.is_theorems.proofs.Common.{RequestRecord, ResolvesRoleConflict, ResolvesRoleConflictBy, reversed, selects_at_requests, Send487}
use Rattle.is_theorems.proofs.Common.{sender_candidate, Serves, Some, subst, switched, switched_sides, SwitchRole, sym, true, Unknown}
use Rattle.is_theorems.proofs.Common.{Vacant, with_pair, with_priority_in, with_sender, with_sender_at, ℕ}
use Rattle.is_theorems.proofs.BasicLemmas.CandidatesByIndex.{at-end}
use Rattle.is_theorems.proofs.BasicLemmas.VacantIndices.{known-in, put-here, vacant-at}
use Rattle.is_theorems.proofs.CallEffects.ChecksAndResponses.{numbered}
use Rattle.is_theorems.proofs.CallEffects.ServedRequests.{is_at_places, known_at, reached, remote_joins, remote_puts, request_at_places}
use Rattle.is_theorems.proofs.CallEffects.ServedRequests.{switches}
use Rattle.is_theorems.proofs.ConnectedConsent.SilentPairs.{IsOver, made-over, moved-over, over-as, over-new, PairsOver, parts, where-over}
use Rattle.is_theorems.proofs.DuePairs.AfterNominationAndRemoval.{Kept}
use Rattle.is_theorems.proofs.EarlierChecks.ChangedPairs.{served-mild}
use Rattle.is_theorems.proofs.PathSelection.NominationPoints.{All1, All3, AllNumbers}
use Rattle.is_theorems.proofs.RuleEffects.ChangedPairs.{Has-map}
use Rattle.is_theorems.proofs.RuleEffects.EarlierAndNewPairs.{Fit, Has-push}
use Rattle.is_theorems.proofs.RuleEffects.SelectedPaths.{one_pair}
use Rattle.is_theorems.proofs.RuleEffects.TriggeredPairs.{by_trigger, triggered_by}
use Rattle.is_theorems.proofs.RuleEffects.UnchangedSettings.{either}

no-less : {A : Type 0} (m n : ℕ) → m < n → m ≡ n → A
no-less m n lt same = let differ : m ≢ n = omega (arith, lt) in absurd (differ same)

module _ {H P : Type 0} (mac : H → List ℕ → List ℕ → List ℕ) (strict : Bool) (sent heard : ℕ) (path : Path) (q : RequestRecord) (apart : strict ≡ false → reversed q.path ≡ path → ⊥) where
  abbrev Over : AgentRecord H P → Type 0
  Over a = PairsOver strict sent heard path a

  abbrev FitIn : AgentRecord H P → Type 0
  FitIn a = Fit (parts strict sent heard path a)

  abbrev IsHere : AgentRecord H P → ℕ → Type 0
  IsHere s l = (base_of (candidate_at s.local l) ≡ q.path.destination) × ((candidate_at s.local l).proto ≡ q.path.proto)

  made-of : (old new : AgentRecord H P) → new ≡ old → Over old → Over new
  made-of old new made o = made-over strict sent heard path old new made o

  -- the pair that records the request is on its path
  pair : (l r number : ℕ) (s new : AgentRecord H P) (emitted : Emitted) → path_between s l r ≡ reversed q.path
      → ((p : PairRecord) → Has s.pairs p → p.number ≡ number → (p.local ≡ l) × (p.remote ≡ r)) → RecordsAndResponds mac q l r number s emitted new → Over s → Over new
  pair l r number s new emitted via at (named, mid, nominates, (values, is, made)) o =
      subst (λ (a : AgentRecord H P). Over a) (sym made)
      (where-over strict sent heard path (selects_at_requests s && is_valid_at number s.pairs) (pair_served q number s) mid named nominates recorded) where
        consented : (p : PairRecord) → (after_request q s p).consented ≡ p.consented
        consented p =
            ap (λ (k : Kept). k.1) (served-mild s.controlling s.lite (as_taken (numbers s) q) (triggered_by q s p)).kept
            ∙ by_trigger (λ (x : PairRecord). x.consented ≡ p.consented) q s p (λ due. refl)

        one : (w p : PairRecord) (b : Bool) → Has s.pairs w → is_numbered number w ≡ b → (if b then after_request q s w else w) ≡ p
            → path_between s p.local p.remote ≡ path → IsOver strict sent heard path p
        one w p false has is same on = subst (λ (x : PairRecord). IsOver strict sent heard path x) same
            (o w has (ap (λ (x : PairRecord). path_between s x.local x.remote) same ∙ on))
        one w p true has is same on =
            let kept = request_at_places q s w in
            let place = at w has (numbered number w is) in
            let own : path_between s w.local w.remote ≡ path =
            sym (ap (λ l. path_between s l (after_request q s w).remote) kept.0 ∙ ap (λ r. path_between s w.local r) kept.1)
            ∙ (ap (λ (x : PairRecord). path_between s x.local x.remote) same ∙ on) in
            let back : reversed q.path ≡ path =
            sym via ∙ (sym (ap (λ l. path_between s l w.remote) place.0 ∙ ap (λ r. path_between s l r) place.1) ∙ own) in
            let over = o w has own in
            subst (λ (x : PairRecord). IsOver strict sent heard path x) same (record {
              answered = λ time then_is. over.answered time (sym (consented w) ∙ then_is);
              asked = λ loose time then_is. absurd (apart loose back);
            })

        recorded : Over (pair_served q number s)
        recorded p has on =
            let k = Has-map (change_at number (after_request q s)) s.pairs p has in one k.0 p (is_numbered number k.0) k.1 refl k.2 on

  takes : (l r : ℕ) (number : Option ℕ) (s new : AgentRecord H P) (emitted : Emitted) → FitIn s → path_between s l r ≡ reversed q.path → IsPairBetween s.pairs l r number
      → FindsOrAddsPair mac q l r number s emitted new → Over s → Over new
  takes l r (Some number) s new emitted fit via (p, has, between, is) h o =
      let place = is_at_places l r p between in
      pair l r number s new emitted via
      (λ k there same. subst (λ (z : PairRecord). (z.local ≡ l) × (z.remote ≡ r)) (one_pair s.pairs p k fit.rising has there (is ∙ sym same)) place) h o
  takes l r None s new emitted fit via none h o = either (candidate_at s.local l).discarded h
      (λ _ k. made-of s new k.1 o)
      (λ _ k. pair l r s.next_number (with_pair (formed s l r) s) new emitted via
      (λ p has same. elim (Has-push s.pairs (formed s l r) p has) [
        | inl was ↦ no-less p.number s.next_number (fit.below p was) same
        | inr now ↦ subst (λ (z : PairRecord). (z.local ≡ l) × (z.remote ≡ r)) now (refl, refl)
      ]) k.1
      (λ p has on. elim (Has-push s.pairs (formed s l r) p has) [
        | inl was ↦ o p was on
        | inr now ↦ subst (λ (z : PairRecord). IsOver strict sent heard path z) now (over-new strict sent heard path (formed s l r) refl refl)
      ]))

  via-back : (s : AgentRecord H P) (l r : ℕ) → IsHere s l → (candidate_at s.remote r).addr ≡ q.path.source → path_between s l r ≡ reversed q.path
  via-back s l r (base, proto) source = rw (base, proto, source) refl

  joins-at : (l : ℕ) (place : RemotePlace) (s new : AgentRecord H P) (emitted : Emitted) → FitIn s → IsHere s l → IsSenderPlace s q place
      → AddsUnknownSender mac q l place s emitted new → Over s → Over new
  joins-at l (Known r) s new emitted fit here remote (number, between, h) o =
      let k = known_at s.remote q r (known-in s.max_discovered s.remote s.pairs q r remote) in
      takes l r number s new emitted fit (via-back s l r here k.1) between h o
  joins-at l Barred s new emitted fit here remote h o = made-of s new h.1 o
  joins-at l Full s new emitted fit here remote h o = made-of s new h.1 o
  joins-at l Unknown s new emitted fit here remote (number, between, h) o =
      let y : AgentRecord H P = with_sender q s in
      let joins = remote_joins AllNumbers All1 All3 (parts strict sent heard path s) (sender_candidate s q) fit in
      let at : (candidate_at y.remote (length s.remote)).addr ≡ q.path.source = ap (λ (z : CandidateRecord). z.addr) (at-end s.remote (sender_candidate s q)) in
      takes l (length s.remote) number y new emitted joins.fit (via-back y l (length s.remote) here at) between h
      (moved-over strict sent heard path (parts strict sent heard path s) (parts strict sent heard path y) fit joins (λ p has. has) o)
  joins-at l (Vacant r) s new emitted fit here remote (number, between, h) o =
      let y : AgentRecord H P = with_sender_at r q s in
      let v = vacant-at s.max_discovered s.remote s.pairs q r remote in
      let joins = remote_puts AllNumbers All1 All3 (parts strict sent heard path s) r (sender_candidate s q) fit v.1 in
      let at : (candidate_at y.remote r).addr ≡ q.path.source = ap (λ (z : CandidateRecord). z.addr) (put-here s.remote r (sender_candidate s q) v.0) in
      takes l r number y new emitted joins.fit (via-back y l r here at) between h
      (moved-over strict sent heard path (parts strict sent heard path s) (parts strict sent heard path y) fit joins (λ p has. has) o)

  admitted : (l : ℕ) (s new : AgentRecord H P) (emitted : Emitted) → FitIn s → IsHere s l → CountsAndServes mac q l s emitted new → Over s → Over new
  admitted l s new emitted fit here h o = either (is_misled s.controlling q) h
      (λ _ k. made-of s new k.1 o)
      (λ _ k. joins-at l k.0 (request_counted s) new emitted fit here k.1 k.2 o)

  pub switched-over : (s : AgentRecord H P) → Over s → Over (switched s)
  switched-over s o p has on =
      let k = Has-map (with_priority_in (switched_sides s)) s.pairs p has in
      subst (λ (x : PairRecord). IsOver strict sent heard path x) k.2
      (over-as strict sent heard path k.0 (with_priority_in (switched_sides s) k.0) refl refl
      (o k.0 k.1 (ap (λ (x : PairRecord). path_between s x.local x.remote) k.2 ∙ on)))

  resolves-by : (conflict : Conflict) (l : ℕ) (s new : AgentRecord H P) (emitted : Emitted) → FitIn s → IsHere s l → ResolvesRoleConflictBy mac conflict q l s emitted new → Over s → Over new
  resolves-by Absent l s new emitted fit here h o = admitted l s new emitted fit here h o
  resolves-by Send487 l s new emitted fit here (values, is, made) o = subst (λ (a : AgentRecord H P). Over a) (sym made) o
  resolves-by SwitchRole l s new emitted fit here h o =
      admitted l (switched s) new emitted (switches AllNumbers All1 All3 s fit).fit here h (switched-over s o)

  finds : (place : Option ℕ) (s new : AgentRecord H P) (emitted : Emitted) → local_place s.local q ≡ place → ((c : CandidateRecord) → Has s.local c → IsBased c) → FitIn s
      → MatchOption place (Drops s emitted new) (λ l. ResolvesRoleConflict mac q l s emitted new) → Over s → Over new
  finds None s new emitted is based fit h o = made-of s new h.1 o
  finds (Some l) s new emitted is based fit h o = resolves-by (conflict_of s q) l s new emitted fit (reached s.local q l based is).1 h o

  serves : (s new : AgentRecord H P) (emitted : Emitted) → ((c : CandidateRecord) → Has s.local c → IsBased c) → FitIn s → Serves mac q s emitted new → Over s → Over new
  serves s new emitted based fit h o = either (is_for_other_peer s q) (in_turn mac q s new emitted h)
      (λ _ k. made-of s new k.1 o)
      (λ _ k. finds (local_place s.local q) s new emitted refl based fit k o)

  pub requested-over : (remote : Option IceCreds) (s new : AgentRecord H P) (emitted : Emitted) → ((c : CandidateRecord) → Has s.local c → IsBased c) → FitIn s
      → MatchOption remote (Queues q s emitted new) (λ _. Serves mac q s emitted new) → Over s → Over new
  requested-over None s new emitted based fit h o = subst (λ (a : AgentRecord H P). Over a) (sym h.1) o
  requested-over (Some peer) s new emitted based fit h o = serves s new emitted based fit h o
