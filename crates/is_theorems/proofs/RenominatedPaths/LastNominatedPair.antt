-- Which pair an agent records as the one that its peer nominated last: that of the request with USE-CANDIDATE that was served last.
use Rattle.is_stun.specs.declared.header.Class.TheVariants as class
use Rattle.is_theorems.proofs.Common.{formed_again}
use Rattle.is_theorems.proofs.Common.{[], ◌&&◌, ◌++◌, ◌==◌, ◌∙◌, ◌∷◌, ◌≡◌, ◌⊎◌, Absent, AddsUnknownSender, after_request, AgentRecord}
use Rattle.is_theorems.proofs.Common.{all_scheduled, answer_by, ap, as_taken, at_request, at_timeout, Barred, base_of, Bool, Call, candidate_at}
use Rattle.is_theorems.proofs.Common.{CandidateRecord, change_at, change_pair, ChecksTop, Class, Conflict, conflict_of, CountsAndServes}
use Rattle.is_theorems.proofs.Common.{discovered_emitted, Done, done, Drops, Emitted, Entry, eq-eqb, eqb-true, Err, expired_gone, false}
use Rattle.is_theorems.proofs.Common.{FindsOrAddsPair, first_taken, Flag, formed, Full, HandlesFailure, HandlesSuccess, HandleTimeout, Has}
use Rattle.is_theorems.proofs.Common.{IceCreds, IceError, if◌then◌else◌, in_turn, inl, inr, is_expired, is_for_other_peer, is_misled}
use Rattle.is_theorems.proofs.Common.{is_nominated, is_some, is_valid_at, IsAskedOn, IsBased, IsPairBetween, IsSenderPlace, IsServing}
use Rattle.is_theorems.proofs.Common.{IsSound, Issued, issued_as, Known, length, List, list_any, local_place, Logged, MaintainsPairs}
use Rattle.is_theorems.proofs.Common.{MatchOption, MayCheck, Message, nominated_by_peer, nominated_emitted, nominated_last, Nominates}
use Rattle.is_theorems.proofs.Common.{nominates, NominatesWhere, None, not, nothing_emitted, numbers, Ok, Option, pair_served, PairRecord}
use Rattle.is_theorems.proofs.Common.{Path, path_between, path_left, path_of, queued, Reads, ReceivePacket, Receives, RecordsAndResponds}
use Rattle.is_theorems.proofs.Common.{refl, RemotePlace, RemovesExpired, replied, request_at, request_counted, request_in, RequestRecord}
use Rattle.is_theorems.proofs.Common.{ResolvesRoleConflict, ResolvesRoleConflictBy, Result, reversed, selects_at_requests, Send487}
use Rattle.is_theorems.proofs.Common.{sender_candidate, served, Serves, ServesQueued, state_updated, slice_set, Some, Step, Stream, subst}
use Rattle.is_theorems.proofs.Common.{switched, SwitchRole, sym, Takes, timeout_begun, TimesOut, triggered_time, true, Unknown, Vacant}
use Rattle.is_theorems.proofs.Common.{validated, validated_by_peer, with_pair, with_request, with_selection, with_sender, with_sender_at, ℕ}
use Rattle.is_theorems.proofs.BasicLemmas.EqualAddresses.{both}
use Rattle.is_theorems.proofs.PathSelection.NominatedByPeer.{uses-too}
use Rattle.is_theorems.proofs.CallEffects.CallsThatEmitNothing.{is_calm, calm}
use Rattle.is_theorems.proofs.RuleEffects.UnchangedSettings.{Frame, either, where_frame}
use Rattle.is_theorems.proofs.RuleEffects.ChangedPairs.{self_kept}
use Rattle.is_theorems.proofs.CallEffects.ServedRequests.{reached, known_at, served_nominated, HasNominated, where_nominated, Has-last}
use Rattle.is_theorems.proofs.CallEffects.ServedRequests.{Has-mapped}
use Rattle.is_theorems.proofs.RuleEffects.SelectedPaths.{some_is}
use Rattle.is_theorems.proofs.BasicLemmas.VacantIndices.{known-in, vacant-at, put-here}
use Rattle.is_theorems.proofs.BasicLemmas.CandidatesByIndex.{at-end}
use Rattle.is_theorems.proofs.RuleEffects.TriggeredPairs.{triggered_by, by_trigger}
use Rattle.is_theorems.proofs.BasicLemmas.ServedPairs.{numbered-by}
use Rattle.is_theorems.proofs.RuleEffects.NotedErrors.{by_failure}

-- a request leaves the number and the indices of its pair
pub record SamePlace (p q : PairRecord) : Type 0 where
  pub number : q.number ≡ p.number
  pub local : q.local ≡ p.local
  pub remote : q.remote ≡ p.remote

served-same : (c l : Bool) (q : RequestRecord) (p : PairRecord) → SamePlace p (served c l q p)
served-same c l q p =
    let w : PairRecord = with_request q.time p in
    let v : PairRecord = validated_by_peer c l w in
    let a = self_kept (not c && q.use_candidate && not (is_nominated v)) l v in
    let b = valid-same (l && not c) w in
    numbered-by (λ x. SamePlace p x) c q.nomination (nominated_by_peer c l q v)
    (record { number = a.number ∙ b.number; local = a.local ∙ b.local; remote = a.remote ∙ b.remote })
    (λ n. record { number = a.number ∙ b.number; local = a.local ∙ b.local; remote = a.remote ∙ b.remote }) where
      valid-same : (b : Bool) (p : PairRecord) → SamePlace p (if b then validated p else p)
      valid-same true p = record { number = refl; local = refl; remote = refl }
      valid-same false p = record { number = refl; local = refl; remote = refl }

request-same : {H P : Type 0} (q : RequestRecord) (s : AgentRecord H P) (p : PairRecord) → SamePlace p (after_request q s p)
request-same q s p =
    let k = served-same s.controlling s.lite (as_taken (numbers s) q) (triggered_by q s p) in
    let t = by_trigger (λ (x : PairRecord). SamePlace p x) q s p (λ due. record { number = refl; local = refl; remote = refl }) in
    record { number = k.number ∙ t.number; local = k.local ∙ t.local; remote = k.remote ∙ t.remote }

true-false : {A : Type 0} → true ≡ false → A
true-false h = absurd (cc)

none-some : {A X : Type 0} (x : X) → None ≡ Some x → A
none-some x h = absurd (cc)

-- no success response is issued
abbrev NoSuccess : Emitted → Type 0
NoSuccess emitted = (path : Path) (id : List ℕ) → emitted.issued ≡ Some (issued_as path class.Success id) → ⊥

module _ {H P : Type 0} where
  -- a nominated pair on the path has the recorded number
  abbrev pub IsRecordedOn : AgentRecord H P → Path → Type 0
  IsRecordedOn a path = (p : PairRecord) × Has a.pairs p × (a.last_nominated ≡ Some p.number) × (path_of a p ≡ path) × (is_nominated p ≡ true)

  -- ---- what does not change the record

  nominates-last : (old new : AgentRecord H P) (path : Option Path) → Nominates old path new → new.last_nominated ≡ old.last_nominated
  nominates-last old new path (chosen, names, made) = ap (λ (a : AgentRecord H P). a.last_nominated) made ∙ emitted-last path (with_selection chosen old) where
    emitted-last : (path : Option Path) (a : AgentRecord H P) → (nominated_emitted path a).last_nominated ≡ a.last_nominated
    emitted-last None a = refl
    emitted-last (Some path) a = refl

  where-last : (b : Bool) (old new : AgentRecord H P) (path : Option Path) → NominatesWhere b old path new → new.last_nominated ≡ old.last_nominated
  where-last true old new path h = nominates-last old new path h
  where-last false old new path h = ap (λ (a : AgentRecord H P). a.last_nominated) h.1

  expires-last : (now : ℕ) (old new : AgentRecord H P) (path : Option Path) → RemovesExpired now old path new → new.last_nominated ≡ old.last_nominated
  expires-last now old new path h = either (list_any (is_expired now old) old.pairs) h
      (λ _ k. ap (λ (a : AgentRecord H P). a.last_nominated) k.2 ∙ nominates-last (expired_gone now old) k.0 path k.1)
      (λ _ k. ap (λ (a : AgentRecord H P). a.last_nominated) k.1)

  check-last : (mac : H → List ℕ → List ℕ → List ℕ) (now : ℕ) (remote : Option IceCreds) (old new : AgentRecord H P) (s t : Stream) (issued : Option Issued)
      → MayCheck mac now remote old s issued new t → new.last_nominated ≡ old.last_nominated
  check-last mac now None old new s t issued (is, made, drawn) = ap (λ (a : AgentRecord H P). a.last_nominated) made
  check-last mac now (Some remote) old new s t issued h = either old.lite h
      (λ _ k. ap (λ (a : AgentRecord H P). a.last_nominated) k.1)
      (λ _ k. next k.0 k.2) where
        next : (top : Option PairRecord) → ChecksTop mac now remote top (all_scheduled now old) s issued new t → new.last_nominated ≡ old.last_nominated
        next None (is, made, drawn) = ap (λ (a : AgentRecord H P). a.last_nominated) made
        next (Some p) (id, drawn, values, is, made) = ap (λ (a : AgentRecord H P). a.last_nominated) made

  maintains-last : (mac : H → List ℕ → List ℕ → List ℕ) (now : ℕ) (old new : AgentRecord H P) (s t : Stream) (emitted : Emitted) → MaintainsPairs mac now old s emitted new t
      → new.last_nominated ≡ old.last_nominated
  maintains-last mac now old new s t emitted (first, second, issued, named, kept, nominating, giving, checking, is) =
      check-last mac now kept.remote_creds kept new s t issued checking
      ∙ (expires-last now named kept second giving ∙ nominates-last (path_left now (at_timeout now old)) named first nominating)

  success-last : (now : ℕ) (old new : AgentRecord H P) (via : Path) (m : Message) (emitted : Emitted) → HandlesSuccess now old via m emitted new → new.last_nominated ≡ old.last_nominated
  success-last now old new via m emitted (recorded, (place, p, after, found, on, takes, made), (path, named, nominating, is, concluded)) =
      ap (λ (a : AgentRecord H P). a.last_nominated) concluded ∙ nominates-last (formed_again recorded) named path nominating ∙ ap (λ (a : AgentRecord H P). a.last_nominated) made

  failure-last : (old new : AgentRecord H P) (via : Path) (m : Message) (emitted : Emitted) → HandlesFailure old via m emitted new → new.last_nominated ≡ old.last_nominated
  failure-last old new via m emitted h = by_failure (λ _ a. a.last_nominated ≡ old.last_nominated) old new via m emitted (λ code. refl) (λ code. refl) h

  -- ---- serving

  module _ (mac : H → List ℕ → List ℕ → List ℕ) (q : RequestRecord) where
    -- The record stays, and if the request nominates, no success response is issued. Or it is the pair that is served.
    abbrev Notes : AgentRecord H P → Emitted → AgentRecord H P → Type 0
    Notes s emitted new =
        ((new.last_nominated ≡ s.last_nominated) × (nominates s q ≡ true → new.controlling ≡ false → NoSuccess emitted))
        ⊎ ((nominates s q ≡ true) × (new.controlling ≡ false) × IsRecordedOn new (reversed q.path)
        × (emitted.issued ≡ Some (issued_as (reversed q.path) class.Success q.id)))

    dropped : (s new : AgentRecord H P) (emitted : Emitted) → Drops s emitted new → Notes s emitted new
    dropped s new emitted (is, kept) =
        inl (ap (λ (a : AgentRecord H P). a.last_nominated) kept, λ _ _ path id out. none-some (issued_as path class.Success id) (sym (ap (λ (t : Emitted). t.issued) is) ∙ out))

    -- the pair of this number, between these candidates
    abbrev IsThere : AgentRecord H P → ℕ → ℕ → ℕ → Type 0
    IsThere s l r number = (p : PairRecord) × Has s.pairs p × (p.number ≡ number) × (p.local ≡ l) × (p.remote ≡ r)

    module _ (l r number : ℕ) (s new : AgentRecord H P) (emitted : Emitted) (via : path_between s l r ≡ reversed q.path) (there : IsThere s l r number)
        (path : Option Path) (mid : AgentRecord H P)
        (nominating : NominatesWhere (selects_at_requests s && is_valid_at number s.pairs) (pair_served q number s) path mid)
        (out : emitted.issued ≡ Some (issued_as (path_between s l r) class.Success q.id))
        (made : new ≡ replied mac q (path_between s l r) (state_updated (is_some path) (triggered_time q s) mid)) where
      record-is : new.last_nominated ≡ nominated_last s.controlling (as_taken (numbers s) q) number s.last_nominated
      record-is = ap (λ (a : AgentRecord H P). a.last_nominated) made ∙ where-last (selects_at_requests s && is_valid_at number s.pairs) (pair_served q number s) mid path nominating

      role-is : new.controlling ≡ s.controlling
      role-is = ap (λ (a : AgentRecord H P). a.controlling) made
          ∙ ap (λ (f : Frame H). f.controlling) (where_frame (selects_at_requests s && is_valid_at number s.pairs) (pair_served q number s) mid path nominating).0

      abbrev after : PairRecord
      after = after_request q s there.0

      after-has : Has (change_pair number (after_request q s) s.pairs) after
      after-has = subst (λ (z : PairRecord). Has (change_pair number (after_request q s) s.pairs) z)
          (ap (λ b. if b then after else there.0) (eq-eqb there.0.number number there.2))
          (Has-mapped (change_at number (after_request q s)) s.pairs there.0 there.1)

      after-path : path_between s after.local after.remote ≡ reversed q.path
      after-path =
          let k = request-same q s there.0 in
          ap (λ n. path_between s n after.remote) (k.local ∙ there.3) ∙ ap (λ n. path_between s l n) (k.remote ∙ there.4) ∙ via

      -- the pair may be selected by the request
      named : s.controlling ≡ false → nominates s q ≡ true → HasNominated mid number (reversed q.path)
      named role uses = where_nominated (selects_at_requests s && is_valid_at number s.pairs) (pair_served q number s) mid path number (reversed q.path) nominating (
        after,
        after-has,
        (request-same q s there.0).number ∙ there.2,
        served_nominated s.controlling s.lite (as_taken (numbers s) q) (triggered_by q s there.0) role uses,
        after-path,
      )

      recorded : s.controlling ≡ false → nominates s q ≡ true → IsRecordedOn new (reversed q.path)
      recorded role uses =
          let k = named role uses in
          let is : new.last_nominated ≡ Some k.0.number =
          record-is ∙ (ap (λ c. if not c && (as_taken (numbers s) q).use_candidate then Some number else s.last_nominated) role
          ∙ (ap (λ u. if u then Some number else s.last_nominated) uses ∙ ap Some (sym k.2))) in (
            k.0,
            subst (λ (a : AgentRecord H P). Has a.pairs k.0) (sym made) k.1,
            is,
            subst (λ (a : AgentRecord H P). path_of a k.0 ≡ reversed q.path) (sym made) k.4,
            k.3,
          )

      noted : (c u : Bool) → s.controlling ≡ c → nominates s q ≡ u → Notes s emitted new
      noted true u role uses = inl (
        record-is ∙ ap (λ c. if not c && (as_taken (numbers s) q).use_candidate then Some number else s.last_nominated) role,
        λ _ controlled. true-false (sym (role-is ∙ role) ∙ controlled),
      )
      noted false false role uses = inl (
        record-is ∙ (ap (λ c. if not c && (as_taken (numbers s) q).use_candidate then Some number else s.last_nominated) role ∙ ap (λ u. if u then Some number else s.last_nominated) uses),
        λ asks _. true-false (sym asks ∙ uses),
      )
      noted false true role uses = inr (
        uses,
        role-is ∙ role,
        recorded role uses,
        out ∙ ap (λ w. Some (issued_as w class.Success q.id)) via,
      )

    pair : (l r number : ℕ) (s new : AgentRecord H P) (emitted : Emitted) → path_between s l r ≡ reversed q.path → IsThere s l r number
        → RecordsAndResponds mac q l r number s emitted new → Notes s emitted new
    pair l r number s new emitted via there (path, mid, nominating, (values, is, made)) =
        noted l r number s new emitted via there path mid nominating (ap (λ (x : Emitted). x.issued) is) made s.controlling (nominates s q) refl refl

    takes : (l r : ℕ) (number : Option ℕ) (s new : AgentRecord H P) (emitted : Emitted) → path_between s l r ≡ reversed q.path → IsPairBetween s.pairs l r number
        → FindsOrAddsPair mac q l r number s emitted new → Notes s emitted new
    takes l r (Some number) s new emitted via (p, has, between, is) h =
        let k = both (p.local == l) (p.remote == r) between in
        pair l r number s new emitted via (p, has, is, eqb-true p.local l k.0, eqb-true p.remote r k.1) h
    takes l r None s new emitted via none h = either (candidate_at s.local l).discarded h (λ _ k. dropped s new emitted k)
        (λ _ k. pair l r s.next_number (with_pair (formed s l r) s) new emitted via (formed s l r, Has-last s.pairs (formed s l r), refl, refl, refl) k.1)

    -- the local candidate receives at the request's destination
    abbrev IsHere : AgentRecord H P → ℕ → Type 0
    IsHere s l = (base_of (candidate_at s.local l) ≡ q.path.destination) × ((candidate_at s.local l).proto ≡ q.path.proto)

    via-back : (s : AgentRecord H P) (l r : ℕ) → IsHere s l → (candidate_at s.remote r).addr ≡ q.path.source → path_between s l r ≡ reversed q.path
    via-back s l r (base, proto) source = rw (base, proto, source) refl

    joins : (l : ℕ) (place : RemotePlace) (s new : AgentRecord H P) (emitted : Emitted) → IsHere s l → IsSenderPlace s q place → AddsUnknownSender mac q l place s emitted new
        → Notes s emitted new
    joins l (Known r) s new emitted here remote (number, between, h) =
        takes l r number s new emitted (via-back s l r here (known_at s.remote q r (known-in s.max_discovered s.remote s.pairs q r remote)).1) between h
    joins l Barred s new emitted here remote h = dropped s new emitted h
    joins l Full s new emitted here remote h = dropped s new emitted h
    joins l Unknown s new emitted here remote (number, between, h) =
        let at : (candidate_at (s.remote ++ sender_candidate s q ∷ []) (length s.remote)).addr ≡ q.path.source =
        ap (λ (z : CandidateRecord). z.addr) (at-end s.remote (sender_candidate s q)) in
        takes l (length s.remote) number (with_sender q s) new emitted (via-back (with_sender q s) l (length s.remote) here at) between h
    joins l (Vacant r) s new emitted here remote (number, between, h) =
        let at : (candidate_at (slice_set s.remote r (sender_candidate s q)) r).addr ≡ q.path.source =
        ap (λ (z : CandidateRecord). z.addr) (put-here s.remote r (sender_candidate s q) (vacant-at s.max_discovered s.remote s.pairs q r remote).0) in
        takes l r number (with_sender_at r q s) new emitted (via-back (with_sender_at r q s) l r here at) between h

    admits : (l : ℕ) (s new : AgentRecord H P) (emitted : Emitted) → IsHere s l → CountsAndServes mac q l s emitted new → Notes s emitted new
    admits l s new emitted here h = either (is_misled s.controlling q) h (λ _ k. dropped s new emitted k)
        (λ _ k. joins l k.0 (request_counted s) new emitted here k.1 k.2)

    resolves : (conflict : Conflict) (l : ℕ) (s new : AgentRecord H P) (emitted : Emitted) → IsHere s l → ResolvesRoleConflictBy mac conflict q l s emitted new → Notes s emitted new
    resolves Absent l s new emitted here h = admits l s new emitted here h
    resolves Send487 l s new emitted here (values, is, made) = inl (ap (λ (a : AgentRecord H P). a.last_nominated) made, λ _ _ path id out. failed path id (sym (ap (λ (x : Emitted). x.issued) is) ∙ out)) where
      failed : (path : Path) (id : List ℕ) → Some (issued_as (reversed q.path) class.Failure q.id) ≡ Some (issued_as path class.Success id) → ⊥
      failed path id h = let no : class.Failure ≡ class.Success = ap (λ (i : Issued). i.class) (some_is _ _ h) in cc
    resolves SwitchRole l s new emitted here h = admits l (switched s) new emitted here h

    here-at : (place : Option ℕ) (s new : AgentRecord H P) (emitted : Emitted) → local_place s.local q ≡ place → ((c : CandidateRecord) → Has s.local c → IsBased c)
        → MatchOption place (Drops s emitted new) (λ l. ResolvesRoleConflict mac q l s emitted new) → Notes s emitted new
    here-at None s new emitted is based h = dropped s new emitted h
    here-at (Some l) s new emitted is based h = resolves (conflict_of s q) l s new emitted (reached s.local q l based is).1 h

    serves : (s new : AgentRecord H P) (emitted : Emitted) → ((c : CandidateRecord) → Has s.local c → IsBased c) → Serves mac q s emitted new → Notes s emitted new
    serves s new emitted based h = either (is_for_other_peer s q) (in_turn mac q s new emitted h) (λ _ k. dropped s new emitted k) (λ _ k. here-at (local_place s.local q) s new emitted refl based k)

  -- ---- a transition

  -- The record stays and the peer nominates no path, or a pair on the path is recorded that the peer nominates.
  abbrev pub Records : AgentRecord H P → Logged P → AgentRecord H P → Type 0
  Records old x new =
      ((new.last_nominated ≡ old.last_nominated) × ((path : Path) → IsAskedOn old x new path → ⊥))
      ⊎ ((path : Path) × IsRecordedOn new path × ((other : Path) → IsAskedOn old x new other → other ≡ path) × IsAskedOn old x new path)

  no-serving : (old : AgentRecord H P) (call : Call P) (e : Entry) (q : RequestRecord) → is_calm call ≡ true → IsServing old call e q → ⊥
  no-serving old (ReceivePacket now path bytes) e q is serving = true-false (sym is)
  no-serving old (HandleTimeout now) e q is serving = true-false (sym is)
  no-serving old _ e q is serving = serving.3

  module _ (mac : H → List ℕ → List ℕ → List ℕ) (answers : P → CandidateRecord → ℕ → ℕ → Type 0) (old new : AgentRecord H P) (s t : Stream) (x : Logged P) (sound : IsSound old) where
    -- nothing is issued
    silent : new.last_nominated ≡ old.last_nominated → x.entry.emitted.issued ≡ None → Records old x new
    silent last none = inl (last, λ path k. none-some (issued_as path class.Success k.1) (sym none ∙ k.4))

    by-serving : (q : RequestRecord) (a b : AgentRecord H P) (emitted : Emitted) → IsServing old x.call x.entry q → x.entry.emitted ≡ emitted
        → numbers a ≡ numbers old → a.last_nominated ≡ old.last_nominated → new ≡ b → Notes mac q a emitted b → Records old x new
    by-serving q a b emitted serving is counts last made (inl (kept, none)) = inl (
      ap (λ (y : AgentRecord H P). y.last_nominated) made ∙ kept ∙ last,
      λ path k. none (ap (λ n. (as_taken n q).use_candidate) counts ∙ uses-too old x.call x.entry k.0 q k.2 serving k.3) (sym (ap (λ (y : AgentRecord H P). y.controlling) made) ∙ k.5) path k.1
          (sym (ap (λ (y : Emitted). y.issued) is) ∙ k.4),
    )
    by-serving q a b emitted serving is counts last made (inr (uses, controlled, on, out)) = inr (
      reversed q.path,
      subst (λ (y : AgentRecord H P). IsRecordedOn y (reversed q.path)) (sym made) on,
      λ other k. ap (λ (i : Issued). i.path) (some_is _ _ (sym k.4 ∙ (ap (λ (y : Emitted). y.issued) is ∙ out))),
      (q, q.id, serving, sym (ap (λ n. (as_taken n q).use_candidate) counts) ∙ uses, ap (λ (y : Emitted). y.issued) is ∙ out, ap (λ (y : AgentRecord H P). y.controlling) made ∙ controlled),
    )

    -- ---- packets and timeouts

    module _ (now : ℕ) (via : Path) (bytes : List ℕ) (comes : x.call ≡ ReceivePacket now via bytes) (m : Message) (mid : AgentRecord H P) (emitted : Emitted)
        (e_is : x.entry ≡ record { answer = Flag true; emitted = emitted }) (reads : Reads bytes m) (made : new ≡ discovered_emitted m.class emitted via mid) where
      emitted-is : x.entry.emitted ≡ emitted
      emitted-is = ap (λ (y : Entry). y.emitted) e_is

      last-by : mid.last_nominated ≡ old.last_nominated → new.last_nominated ≡ old.last_nominated
      last-by k = ap (λ (a : AgentRecord H P). a.last_nominated) made ∙ k

      serving-now : (peer : IceCreds) → old.remote_creds ≡ Some peer → m.class ≡ class.Request → IsServing old x.call x.entry (request_in now via m)
      serving-now peer known is =
          subst (λ (c : Call P). IsServing old c x.entry (request_in now via m)) (sym comes)
          (now, via, m, (refl, refl, reads, ap (λ (y : Entry). y.answer) e_is), is, ap is_some known, refl)

      request : (peer : Option IceCreds) → old.remote_creds ≡ peer → m.class ≡ class.Request
          → MatchOption peer ((emitted ≡ nothing_emitted) × (mid ≡ queued (request_in now via m) old)) (λ peer. Serves mac (request_in now via m) old emitted mid) → Records old x new
      request None none is (nothing, same_is) =
          silent (last-by (ap (λ (a : AgentRecord H P). a.last_nominated) same_is)) (ap (λ (y : Emitted). y.issued) (emitted-is ∙ nothing))
      request (Some peer) known is h =
          by-serving (request_in now via m) old (discovered_emitted m.class emitted via mid) emitted (serving-now peer known is) emitted-is refl refl made
          (serves mac (request_in now via m) old mid emitted sound.based h)

      failure-silent : HandlesFailure old via m emitted mid → emitted.issued ≡ None
      failure-silent h = by_failure (λ e _. e.issued ≡ None) old mid via m emitted (λ code. refl) (λ code. refl) h

      success-silent : HandlesSuccess now old via m emitted mid → emitted.issued ≡ None
      success-silent (recorded, records_it, (path, named, nominating, is, concluded)) = ap (λ (y : Emitted). y.issued) is

      taken : (c : Class) → m.class ≡ c → Takes mac c now old via m emitted mid → Records old x new
      taken class.Request is h = request old.remote_creds refl is h
      taken class.Success is h = silent (last-by (success-last now old mid via m emitted h)) (ap (λ (y : Emitted). y.issued) emitted-is ∙ success-silent h)
      taken class.Failure is h = silent (last-by (failure-last old mid via m emitted h)) (ap (λ (y : Emitted). y.issued) emitted-is ∙ failure-silent h)
      taken class.Indication is h = absurd h
      taken class.Unknown is h = absurd h

    receives : (now : ℕ) (via : Path) (bytes : List ℕ) → x.call ≡ ReceivePacket now via bytes → Receives mac answers now old via bytes x.entry new → Records old x new
    receives now via bytes comes (inl (fault, has, is, made)) =
        silent (ap (λ (a : AgentRecord H P). a.last_nominated) made) (ap (λ (y : Entry). y.emitted.issued) is)
    receives now via bytes comes (inr (m, reads, (Ok false, emitted, is, (unaccepted, nothing, made)))) =
        silent (ap (λ (a : AgentRecord H P). a.last_nominated) made) (ap (λ (y : Entry). y.emitted.issued) is ∙ ap (λ (y : Emitted). y.issued) nothing)
    receives now via bytes comes (inr (m, reads, (Ok true, emitted, is, (accepted, (mid, takes, made))))) =
        taken now via bytes comes m mid emitted is reads made m.class refl takes
    receives now via bytes comes (inr (m, reads, (Err error, emitted, is, (may, nothing, made)))) =
        silent (ap (λ (a : AgentRecord H P). a.last_nominated) made) (ap (λ (y : Entry). y.emitted.issued) is ∙ ap (λ (y : Emitted). y.issued) nothing)

    -- a `handle_timeout` call that serves no early request issues no response
    no-response : (now : ℕ) → x.call ≡ HandleTimeout now → request_at now old ≡ None → new.last_nominated ≡ old.last_nominated → Records old x new
    no-response now comes none last = inl (
      last,
      λ path k. (let serving : IsServing old (HandleTimeout now) x.entry k.0 = subst (λ (c : Call P). IsServing old c x.entry k.0) comes k.2 in
          none-some k.0 (sym none ∙ serving.0)),
    )

    timeout-by : (now : ℕ) → x.call ≡ HandleTimeout now → (emitted : Emitted) (o : Option RequestRecord) → request_at now old ≡ o → x.entry ≡ record { answer = Done; emitted = emitted }
        → MatchOption o (MaintainsPairs mac now (timeout_begun now old) s emitted new t) (λ q. ServesQueued mac q (at_request now (timeout_begun now old)) s emitted new t) → Records old x new
    timeout-by now comes emitted None is e_is h = no-response now comes is (maintains-last mac now (timeout_begun now old) new s t emitted h)
    timeout-by now comes emitted (Some q) is e_is (h, drawn) =
        by-serving q (first_taken (at_request now (timeout_begun now old))) new emitted
        (subst (λ (c : Call P). IsServing old c x.entry q) (sym comes) (is, ap (λ (y : Entry). y.answer) e_is)) (ap (λ (y : Entry). y.emitted) e_is) refl refl refl
        (serves mac q (first_taken (at_request now (timeout_begun now old))) new emitted sound.based h)

    timeout : (now : ℕ) → x.call ≡ HandleTimeout now → (r : Result (Unit {0}) IceError) (emitted : Emitted) → x.entry ≡ record { answer = answer_by done r; emitted = emitted }
        → TimesOut mac now old s r emitted new t → Records old x new
    timeout now comes (Ok _) emitted is h = timeout-by now comes emitted (request_at now old) refl is h
    timeout now comes (Err error) emitted is (may, nothing, made, drawn) =
        silent (ap (λ (a : AgentRecord H P). a.last_nominated) made) (ap (λ (y : Entry). y.emitted.issued) is ∙ ap (λ (y : Emitted). y.issued) nothing)

    -- ---- each call

    calmly : (call : Call P) → x.call ≡ call → is_calm call ≡ true → Step mac answers old s call x.entry new t → Records old x new
    calmly call comes is h =
        let k = calm mac answers old new s t x.entry call is h in
        inl (k.last, λ path a. no-serving old call x.entry a.0 is (subst (λ (c : Call P). IsServing old c x.entry a.0) comes a.2))

    pub records-by : (call : Call P) → x.call ≡ call → Step mac answers old s call x.entry new t → Records old x new
    records-by (ReceivePacket now via bytes) comes h = receives now via bytes comes h.0
    records-by (HandleTimeout now) comes (r, emitted, is, h) = timeout now comes r emitted is h
    records-by call comes h = calmly call comes refl h
