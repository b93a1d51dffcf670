-- Packets and polls leave each pending transaction of a pair, on its path.
use Rattle.is_stun.specs.declared.header.Class.TheVariants as class
use Rattle.is_theorems.proofs.Common.{each-way, forgotten, formed_again}
use Rattle.is_theorems.proofs.Common.{[], ◌&&◌, ◌++◌, ◌+◌, ◌<◌, ◌||◌, ◌∙◌, ◌∷◌, ◌≡◌, ◌⊎◌, Absent, AddsUnknownSender, after_request}
use Rattle.is_theorems.proofs.Common.{AgentRecord, answered_at, ap, AreBetween, arith, as_taken, scheduled, Barred, base_of, Bool, Call}
use Rattle.is_theorems.proofs.Common.{candidate_at, CandidateRecord, change_at, ChecksStay, Class, Conflict, conflict_of, CountsAndServes}
use Rattle.is_theorems.proofs.Common.{discovered_emitted, Drops, Emitted, Entry, Err, Execution, false, FindsOrAddsPair, followed, formed}
use Rattle.is_theorems.proofs.Common.{Full, HandlesFailure, HandlesPacket, HandlesSuccess, Has, has_id, IceCreds, IceError, if◌then◌else◌}
use Rattle.is_theorems.proofs.Common.{in_turn, inl, inr, is_between, is_for_other_peer, is_kept, is_left_out, is_misled, is_nominated}
use Rattle.is_theorems.proofs.Common.{is_numbered, is_reverse, is_some, is_valid_at, IsPlaced, IsSenderPlace, IsSound, keeps_check}
use Rattle.is_theorems.proofs.Common.{keeps_check_on, Known, length, length-append, List, list_any, local_place, local_with, map}
use Rattle.is_theorems.proofs.Common.{mapped_added, mapped_candidate, MatchOption, Message, NextTimeoutFrom, nominated, nominated_by_peer}
use Rattle.is_theorems.proofs.Common.{nominated_by_self, Nominates, NominatesWhere, None, not, numbers, Ok, Option, pair_served, PairRecord}
use Rattle.is_theorems.proofs.Common.{Path, path_between, path_of, PollEvent, PollTimeout, PollTransmit, Queues, ReceivePacket, Records}
use Rattle.is_theorems.proofs.Common.{RecordsAndResponds, refl, remains, RemotePlace, replied, request_counted, request_in, RequestRecord}
use Rattle.is_theorems.proofs.Common.{ResolvesRoleConflict, ResolvesRoleConflictBy, Result, same, selection_of, selects_at_requests}
use Rattle.is_theorems.proofs.Common.{Send487, sender_candidate, served, Serves, state_updated, slice_get, slice_set, SocketAddr, Some, Step}
use Rattle.is_theorems.proofs.Common.{Stream, subst, suc, success_counted, switched, switched_sides, SwitchRole, sym, Takes, TakesAnswer}
use Rattle.is_theorems.proofs.Common.{triggered_time, true, Unknown, Vacant, validated, validated_by_peer, with_pair, with_priority_in}
use Rattle.is_theorems.proofs.Common.{with_request, with_sender, with_sender_at, zero, ℕ}
use Rattle.is_theorems.proofs.BasicLemmas.EqualAddresses.{both}
use Rattle.is_theorems.proofs.DuePairs.AfterPackets.{Grown}
use Rattle.is_theorems.proofs.CallEffects.PathAndTradeEffects.{path_theorem}
use Rattle.is_theorems.proofs.CallEffects.AddedCandidates.{by_deadline}
use Rattle.is_theorems.proofs.RuleEffects.UnchangedSettings.{either}
use Rattle.is_theorems.proofs.ExecutionLogs.LogSegments.{no-case}
use Rattle.is_theorems.proofs.RuleEffects.ChangedPairs.{self_kept}
use Rattle.is_theorems.proofs.BasicLemmas.UsernamesAndFirstMatches.{any_has}
use Rattle.is_theorems.proofs.RuleEffects.NominatedPairs.{selected_paths, SelectsPath, selects_path}
use Rattle.is_theorems.proofs.CallEffects.ServedRequests.{Has-mapped}
use Rattle.is_theorems.proofs.RuleEffects.SelectedPaths.{some_is}
use Rattle.is_theorems.proofs.BasicLemmas.VacantIndices.{KeepsRemote, keeps-remote-put, vacant-at}
use Rattle.is_theorems.proofs.BasicLemmas.CandidatesByIndex.{at-append}
use Rattle.is_theorems.proofs.RuleEffects.TriggeredPairs.{triggered_by, by_trigger}
use Rattle.is_theorems.proofs.BasicLemmas.ServedPairs.{numbered-by}
use Rattle.is_theorems.proofs.RuleEffects.NotedErrors.{coded, recoded, by_failure}

-- ---- lists

-- an element that passes is in the list
any_at : {X : Type 0} (test : X → Bool) (xs : List X) → list_any test xs ≡ true → (x : X) × Has xs x × (test x ≡ true)
any_at test [] h = absurd (cc)
any_at {X = X} test (y ∷ xs) h = by (test y) refl (any_at test xs) where
  by : (b : Bool) → test y ≡ b → (list_any test xs ≡ true → (x : X) × Has xs x × (test x ≡ true)) → (x : X) × Has (y ∷ xs) x × (test x ≡ true)
  by true is rest = (y, inl refl, is)
  by false is rest = let k = rest (subst (λ b. (b || list_any test xs) ≡ true) is h) in (k.0, inr k.1, k.2)

-- another element that passes as it did
any_set : {X : Type 0} (test : X → Bool) (xs : List X) (i : ℕ) (y z : X) → slice_get xs i ≡ Some z → test y ≡ test z → list_any test (slice_set xs i y) ≡ list_any test xs
any_set test [] i y z at same = cc
any_set test (x ∷ xs) zero y z at same = let is : x ≡ z = some_is x z at in ap (λ b. b || list_any test xs) (same ∙ ap test (sym is))
any_set test (x ∷ xs) (suc i) y z at same = ap (λ b. test x || b) (any_set test xs i y z at same)

-- an element of the list is still in it, or was the one at the index
has_set : {X : Type 0} (xs : List X) (i : ℕ) (y z x : X) → slice_get xs i ≡ Some z → Has xs x → Has (slice_set xs i y) x ⊎ ((x ≡ z) × Has (slice_set xs i y) y)
has_set [] i y z x at h = absurd h
has_set (w ∷ xs) zero y z x at (inl e) = inr (sym e ∙ some_is w z at, inl refl)
has_set (w ∷ xs) zero y z x at (inr h) = inl (inr h)
has_set (w ∷ xs) (suc i) y z x at (inl e) = inl (inl e)
has_set (w ∷ xs) (suc i) y z x at (inr h) = elim (has_set xs i y z x at h) [ inl k ↦ inl (inr k) | inr k ↦ inr (k.0, inr k.1) ]

has_front : {X : Type 0} (xs : List X) (x y : X) → Has xs y → Has (xs ++ x ∷ []) y
has_front [] x y h = absurd h
has_front (z ∷ zs) x y (inl e) = inl e
has_front (z ∷ zs) x y (inr h) = inr (has_front zs x y h)

grown_at : (old new : List CandidateRecord) (r : ℕ) → Grown old new → r < length old → (candidate_at new r ≡ candidate_at old r) × (r < length new)
grown_at old new r (inl e) lt = (ap (λ cs. candidate_at cs r) e, subst (λ cs. r < length cs) (sym e) lt)
grown_at old new r (inr (c, e)) lt = (
  ap (λ cs. candidate_at cs r) e ∙ at-append old (c ∷ []) r lt,
  subst (λ cs. r < length cs) (sym e) (let long : length (old ++ c ∷ []) ≡ length old + length (c ∷ []) = length-append old (c ∷ []) in omega (arith, long, lt)),
)

-- ---- one pair

-- with the same indices and the same checks by their ids
record Alike (p q : PairRecord) : Type 0 where
  pub local : q.local ≡ p.local
  pub remote : q.remote ≡ p.remote
  pub checks : (id : List ℕ) → is_kept id q.checks ≡ is_kept id p.checks

alike_same : (p : PairRecord) → Alike p p
alike_same p = record { local = refl; remote = refl; checks = λ id. refl }

alike_on : (p q r : PairRecord) → Alike p q → Alike q r → Alike p r
alike_on p q r a b = record { local = b.local ∙ a.local; remote = b.remote ∙ a.remote; checks = λ id. b.checks id ∙ a.checks id }

self_alike : (b l : Bool) (p : PairRecord) → Alike p (if b then nominated l p else p)
self_alike b l p = let k = self_kept b l p in record { local = k.local; remote = k.remote; checks = λ id. ap (λ cs. is_kept id cs) k.checks }

validated_alike : (b : Bool) (p : PairRecord) → Alike p (if b then validated p else p)
validated_alike true p = record { local = refl; remote = refl; checks = λ id. refl }
validated_alike false p = alike_same p

served_alike : (c l : Bool) (q : RequestRecord) (p : PairRecord) → Alike p (served c l q p)
served_alike c l q p =
    let w : PairRecord = with_request q.time p in
    let v : PairRecord = validated_by_peer c l w in
    let first : Alike p w = record { local = refl; remote = refl; checks = λ id. refl } in
    let asked : PairRecord = nominated_by_peer c l q v in
    let all : Alike p asked =
    alike_on p w asked first (alike_on w v asked (validated_alike (l && not c) w) (self_alike (not c && q.use_candidate && not (is_nominated v)) l v)) in
    numbered-by (λ x. Alike p x) c q.nomination asked all (λ n. record { local = all.local; remote = all.remote; checks = all.checks })

request_alike : {H P : Type 0} (q : RequestRecord) (s : AgentRecord H P) (p : PairRecord) → Alike p (after_request q s p)
request_alike q s p =
    alike_on p (triggered_by q s p) (after_request q s p)
    (by_trigger (λ (x : PairRecord). Alike p x) q s p (λ due. record { local = refl; remote = refl; checks = λ id. refl }))
    (served_alike s.controlling s.lite (as_taken (numbers s) q) (triggered_by q s p))

at_alike : (n : ℕ) (f : PairRecord → PairRecord) (p : PairRecord) → Alike p (f p) → Alike p (change_at n f p)
at_alike n f p a = by (is_numbered n p) where
  by : (b : Bool) → Alike p (if b then f p else p)
  by true = a
  by false = alike_same p

answer_alike : (p q : PairRecord) (now : ℕ) (id : List ℕ) → TakesAnswer p now id q → Alike p q
answer_alike p q now id (place, c, (at, own), is) = subst (λ (x : PairRecord). Alike p x) (sym is) (record {
  local = refl;
  remote = refl;
  checks = λ i. any_set (has_id i) p.checks place (answered_at now c) c at refl;
})

same_pairs : (ps : List PairRecord) (p : PairRecord) → Has ps p → (q : PairRecord) × Has ps q × Alike p q
same_pairs ps p has = (p, has, alike_same p)

mapped_pairs : (f : PairRecord → PairRecord) (ps : List PairRecord) → ((p : PairRecord) → Alike p (f p)) → (p : PairRecord) → Has ps p → (q : PairRecord) × Has (map f ps) q × Alike p q
mapped_pairs f ps alike p has = (f p, Has-mapped f ps p has, alike p)

module _ {H P : Type 0} where
  -- ---- the agent

  -- the pair stays on its path, with its checks
  record Persists (old new : AgentRecord H P) (p : PairRecord) : Type 0 where
    pub pair : PairRecord
    pub there : Has new.pairs pair
    pub placed : IsPlaced new.local new.remote pair
    pub local : candidate_at new.local pair.local ≡ candidate_at old.local p.local
    pub remote : candidate_at new.remote pair.remote ≡ candidate_at old.remote p.remote
    pub checks : (id : List ℕ) → is_kept id pair.checks ≡ is_kept id p.checks

  abbrev Stays : AgentRecord H P → AgentRecord H P → Type 0
  Stays old new = (p : PairRecord) → Has old.pairs p → IsPlaced old.local old.remote p → Persists old new p

  stays_on : (a b c : AgentRecord H P) → Stays a b → Stays b c → Stays a c
  stays_on a b c h k p has at =
      let x = h p has at in
      let y = k x.pair x.there x.placed in
      record {
        pair = y.pair;
        there = y.there;
        placed = y.placed;
        local = y.local ∙ x.local;
        remote = y.remote ∙ x.remote;
        checks = λ id. y.checks id ∙ x.checks id;
      }

  -- the candidates of pairs stay, and each pair has one that is alike
  stays_at : (old new : AgentRecord H P) → Grown old.local new.local → KeepsRemote old.pairs old.remote new.remote
      → ((p : PairRecord) → Has old.pairs p → (q : PairRecord) × Has new.pairs q × Alike p q) → Stays old new
  stays_at old new local remote pairs p has (left, right) =
      let k = pairs p has in
      let l = grown_at old.local new.local p.local local left in
      let r = remote p has right in
      record {
        pair = k.0;
        there = k.1;
        placed = (subst (λ i. i < length new.local) (sym k.2.local) l.1, subst (λ i. i < length new.remote) (sym k.2.remote) r.1);
        local = ap (λ i. candidate_at new.local i) k.2.local ∙ l.0;
        remote = ap (λ i. candidate_at new.remote i) k.2.remote ∙ r.0;
        checks = k.2.checks;
      }

  -- candidates are appended
  stays_by : (old new : AgentRecord H P) → Grown old.local new.local → Grown old.remote new.remote
      → ((p : PairRecord) → Has old.pairs p → (q : PairRecord) × Has new.pairs q × Alike p q) → Stays old new
  stays_by old new local remote pairs = stays_at old new local (λ p has lt. grown_at old.remote new.remote p.remote remote lt) pairs

  stays_same : (old new : AgentRecord H P) → new ≡ old → Stays old new
  stays_same old new is = subst (λ (a : AgentRecord H P). Stays old a) (sym is) (stays_by old old (inl refl) (inl refl) (same_pairs old.pairs))

  -- nomination marks a pair
  nominates : (old new : AgentRecord H P) (path : Option Path) → Nominates old path new → Stays old new
  nominates old new path h = by (selects_path old new path h) where
    top : (p : PairRecord) → Stays old (selected_paths p old)
    top p = stays_by old (selected_paths p old) (inl refl) (inl refl)
        (mapped_pairs (change_at p.number (nominated_by_self old.controlling old.lite)) old.pairs
        (λ q. at_alike p.number (nominated_by_self old.controlling old.lite) q (self_alike (not (is_nominated q) && (old.controlling || old.lite)) old.lite q)))

    by : SelectsPath old path new → Stays old new
    by (None, greatest, (none, is)) = stays_same old new is
    by (Some p, greatest, k) = either (remains (followed old) p (selection_of old)) k
        (λ _ l. stays_same old new l.1)
        (λ _ l. subst (λ (a : AgentRecord H P). Stays old a) (sym l.1) (top p))

  nominates_where : (b : Bool) (old new : AgentRecord H P) (path : Option Path) → NominatesWhere b old path new → Stays old new
  nominates_where b old new path h = either b h (λ _ k. nominates old new path k) (λ _ k. stays_same old new k.1)

  -- the role switches, and the priorities with it
  switches : (s : AgentRecord H P) → Stays s (switched s)
  switches s = stays_by s (switched s) (inl refl) (inl refl)
      (mapped_pairs (with_priority_in (switched_sides s)) s.pairs (λ p. record { local = refl; remote = refl; checks = λ id. refl }))

  module _ (mac : H → List ℕ → List ℕ → List ℕ) where
    -- ---- a request

    module _ (q : RequestRecord) where
      at_pair : (l r number : ℕ) (s new : AgentRecord H P) (emitted : Emitted) → RecordsAndResponds mac q l r number s emitted new → Stays s new
      at_pair l r number s new emitted (path, mid, nominates, (values, is, made)) =
          stays_on s (pair_served q number s) new
          (stays_by s (pair_served q number s) (inl refl) (inl refl)
          (mapped_pairs (change_at number (after_request q s)) s.pairs (λ p. at_alike number (after_request q s) p (request_alike q s p))))
          (stays_on (pair_served q number s) mid new (nominates_where (selects_at_requests s && is_valid_at number s.pairs) (pair_served q number s) mid path nominates)
          (subst (λ (a : AgentRecord H P). Stays mid a) (sym made) (stays_by mid (replied mac q (path_between s l r) (state_updated (is_some path) (triggered_time q s) mid)) (inl refl) (inl refl) (same_pairs mid.pairs))))

      takes_at : (l r : ℕ) (number : Option ℕ) (s new : AgentRecord H P) (emitted : Emitted) → FindsOrAddsPair mac q l r number s emitted new → Stays s new
      takes_at l r (Some number) s new emitted h = at_pair l r number s new emitted h
      takes_at l r None s new emitted h = either (candidate_at s.local l).discarded h
          (λ _ k. stays_same s new k.1)
          (λ _ k. stays_on s (with_pair (formed s l r) s) new
          (stays_by s (with_pair (formed s l r) s) (inl refl) (inl refl) (λ p has. (p, has_front s.pairs (formed s l r) p has, alike_same p)))
          (at_pair l r s.next_number (with_pair (formed s l r) s) new emitted k.1))

      joins_at : (l : ℕ) (place : RemotePlace) (s new : AgentRecord H P) (emitted : Emitted) → IsSenderPlace s q place → AddsUnknownSender mac q l place s emitted new → Stays s new
      joins_at l (Known r) s new emitted is (number, between, h) = takes_at l r number s new emitted h
      joins_at l Barred s new emitted is h = stays_same s new h.1
      joins_at l (Vacant r) s new emitted is (number, between, h) =
          let v = vacant-at s.max_discovered s.remote s.pairs q r is in
          stays_on s (with_sender_at r q s) new
          (stays_at s (with_sender_at r q s) (inl refl) (keeps-remote-put s.pairs s.remote (slice_set s.remote r (sender_candidate s q)) r (sender_candidate s q) v.1 refl) (same_pairs s.pairs))
          (takes_at l r number (with_sender_at r q s) new emitted h)
      joins_at l Full s new emitted is h = stays_same s new h.1
      joins_at l Unknown s new emitted is (number, between, h) =
          stays_on s (with_sender q s) new (stays_by s (with_sender q s) (inl refl) (inr (_, refl)) (same_pairs s.pairs))
          (takes_at l (length s.remote) number (with_sender q s) new emitted h)

      admitted : (l : ℕ) (s new : AgentRecord H P) (emitted : Emitted) → CountsAndServes mac q l s emitted new → Stays s new
      admitted l s new emitted h = either (is_misled s.controlling q) h
          (λ _ k. stays_same s new k.1)
          (λ _ k. stays_on s (request_counted s) new (stays_by s (request_counted s) (inl refl) (inl refl) (same_pairs s.pairs))
          (joins_at l k.0 (request_counted s) new emitted k.1 k.2))

      resolves_by : (conflict : Conflict) (l : ℕ) (s new : AgentRecord H P) (emitted : Emitted) → ResolvesRoleConflictBy mac conflict q l s emitted new → Stays s new
      resolves_by Absent l s new emitted h = admitted l s new emitted h
      resolves_by Send487 l s new emitted (values, is, made) =
          subst (λ (a : AgentRecord H P). Stays s a) (sym made) (stays_by s _ (inl refl) (inl refl) (same_pairs s.pairs))
      resolves_by SwitchRole l s new emitted h = stays_on s (switched s) new (switches s) (admitted l (switched s) new emitted h)

      here : (place : Option ℕ) (s new : AgentRecord H P) (emitted : Emitted) → MatchOption place (Drops s emitted new) (λ l. ResolvesRoleConflict mac q l s emitted new) → Stays s new
      here None s new emitted h = stays_same s new h.1
      here (Some l) s new emitted h = resolves_by (conflict_of s q) l s new emitted h

      requested : (remote : Option IceCreds) (s new : AgentRecord H P) (emitted : Emitted)
          → MatchOption remote (Queues q s emitted new) (λ _. Serves mac q s emitted new) → Stays s new
      requested None s new emitted h = subst (λ (a : AgentRecord H P). Stays s a) (sym h.1) (stays_by s _ (inl refl) (inl refl) (same_pairs s.pairs))
      requested (Some peer) s new emitted h = either (is_for_other_peer s q) (in_turn mac q s new emitted h)
          (λ _ k. stays_same s new k.1)
          (λ _ k. here (local_place s.local q) s new emitted k)

    -- ---- a response

    new_mapped_candidate : (s : AgentRecord H P) (p : PairRecord) (mapped : Option SocketAddr) → Grown s.local (local_with p mapped s)
    new_mapped_candidate s p None = inl refl
    new_mapped_candidate s p (Some mapped) = by (is_left_out s.max_discovered s.local mapped) where
      by : (b : Bool) → Grown s.local (if b then s.local else s.local ++ mapped_candidate s p mapped ∷ [])
      by true = inl refl
      by false = inr (mapped_candidate s p mapped, refl)

    records : (now : ℕ) (old new : AgentRecord H P) (via : Path) (m : Message) → Records now old via m new → Stays old new
    records now old new via m (place, p, after, at, keeps, takes, made) =
        subst (λ (a : AgentRecord H P). Stays old a) (sym made)
        (stays_by old (record (mapped_added p m.attributes.xor_mapped_address (success_counted old)) { pairs = slice_set old.pairs place after })
        (new_mapped_candidate (success_counted old) p m.attributes.xor_mapped_address) (inl refl) unchanged_step) where
          unchanged_step : (q : PairRecord) → Has old.pairs q → (r : PairRecord) × Has (slice_set old.pairs place after) r × Alike q r
          unchanged_step q has = elim (has_set old.pairs place after p q at has) [
            | inl still ↦ (q, still, alike_same q)
            | inr (own, put) ↦ (after, put, subst (λ (x : PairRecord). Alike x after) (sym own) (answer_alike p after now m.id takes))
          ]

    again : (s : AgentRecord H P) → Stays s (formed_again s)
    again s = each-way (λ a. Stays s a) s (stays_by s (forgotten s) (inl refl) (inl refl) (same_pairs s.pairs))
        (λ i j may. stays_by s (with_pair (formed s i j) (forgotten s)) (inl refl) (inl refl) (λ p has. (p, has_front s.pairs (formed s i j) p has, alike_same p)))

    succeeds : (now : ℕ) (old new : AgentRecord H P) (via : Path) (m : Message) (emitted : Emitted) → HandlesSuccess now old via m emitted new → Stays old new
    succeeds now old new via m emitted (recorded, recording, (path, mid, nominating, is, made)) =
        stays_on old recorded new (records now old recorded via m recording)
        (stays_on recorded (formed_again recorded) new (again recorded)
        (stays_on (formed_again recorded) mid new (nominates (formed_again recorded) mid path nominating)
        (subst (λ (a : AgentRecord H P). Stays mid a) (sym made) (stays_by mid _ (inl refl) (inl refl) (same_pairs mid.pairs)))))

    fails : (s new : AgentRecord H P) (via : Path) (m : Message) (emitted : Emitted) → HandlesFailure s via m emitted new → Stays s new
    fails s new via m emitted h =
        by_failure (λ _ a. Stays s a) s new via m emitted notes
        (λ code. stays_on s (recoded code s) (switched (recoded code s)) (notes code) (switches (recoded code s))) h where
          notes : (code : PairRecord → Option ℕ) → Stays s (recoded code s)
          notes code = stays_by s (recoded code s) (inl refl) (inl refl)
              (mapped_pairs (coded code) s.pairs (λ p. record { local = refl; remote = refl; checks = λ id. refl }))

    by_class : (c : Class) (now : ℕ) (old mid : AgentRecord H P) (via : Path) (m : Message) (emitted : Emitted) → Takes mac c now old via m emitted mid → Stays old mid
    by_class class.Request now old mid via m emitted h = requested (request_in now via m) old.remote_creds old mid emitted h
    by_class class.Success now old mid via m emitted h = succeeds now old mid via m emitted h
    by_class class.Failure now old mid via m emitted h = fails old mid via m emitted h
    by_class class.Indication now old mid via m emitted h = absurd h
    by_class class.Unknown now old mid via m emitted h = absurd h

    handled : (now : ℕ) (old new : AgentRecord H P) (via : Path) (m : Message) (r : Result Bool IceError) (emitted : Emitted) → HandlesPacket mac now old via m r emitted new → Stays old new
    handled now old new via m (Ok false) emitted (rejected, is, made) = stays_same old new made
    handled now old new via m (Ok true) emitted (accepted, (mid, takes, made)) =
        stays_on old mid new (by_class m.class now old mid via m emitted takes)
        (subst (λ (a : AgentRecord H P). Stays mid a) (sym made) (stays_by mid (discovered_emitted m.class emitted via mid) (inl refl) (inl refl) (same_pairs mid.pairs)))
    handled now old new via m (Err error) emitted (may, is, made) = stays_same old new made

    -- ---- polls

    timeouts : (o deadline : Option ℕ) (old new : AgentRecord H P) → NextTimeoutFrom o old deadline new → Stays old new
    timeouts None deadline old new h = stays_same old new h.1
    timeouts (Some last) None old new h = absurd h
    timeouts (Some last) (Some at) old new h = by_deadline old new last at h
        (λ made. stays_same old new made)
        (λ made. subst (λ (a : AgentRecord H P). Stays old a) (sym made) (stays_by old _ (inl refl) (inl refl)
        (mapped_pairs (scheduled last old.timing) old.pairs (λ p. record { local = refl; remote = refl; checks = λ id. refl }))))

    module _ (answers : P → CandidateRecord → ℕ → ℕ → Type 0) where
      one : (call : Call P) (e : Entry) (old new : AgentRecord H P) (s t : Stream) → is_between call ≡ true → Step mac answers old s call e new t → Stays old new
      one (ReceivePacket now via bytes) e old new s t is (inl (fault, has, shown, made), drawn) = stays_same old new made
      one (ReceivePacket now via bytes) e old new s t is (inr (m, reads, (r, emitted, shown, handles)), drawn) = handled now old new via m r emitted handles
      one PollTransmit e old new s t is (given, emitted, (polled, made), drawn) =
          subst (λ (a : AgentRecord H P). Stays old a) (sym made) (stays_by old _ (inl refl) (inl refl) (same_pairs old.pairs))
      one PollTimeout e old new s t is (deadline, emitted, timed_out, drawn) = timeouts old.last_time deadline old new timed_out
      one PollEvent e old new s t is (given, emitted, (polled, made), drawn) =
          subst (λ (a : AgentRecord H P). Stays old a) (sym made) (stays_by old _ (inl refl) (inl refl) (same_pairs old.pairs))
      one _ e old new s t is step = no-case is

      pub sound-execution : (xs : List (Call P × Entry)) (old new : AgentRecord H P) → IsSound old → Execution mac answers xs old new → IsSound new
      sound-execution [] old new sound is = subst (λ (a : AgentRecord H P). IsSound a) (sym is) sound
      sound-execution (x ∷ rest) old new sound (mid, s, t, based, step, more) =
          sound-execution rest mid new (path_theorem mac answers old mid s t x.0 x.1 sound based step).1 more

      all : (xs : List (Call P × Entry)) (old new : AgentRecord H P) → AreBetween xs → Execution mac answers xs old new → Stays old new
      all [] old new fits is = stays_same old new is
      all (x ∷ rest) old new fits (mid, s, t, based, step, more) =
          stays_on old mid new (one x.0 x.1 old mid s t (fits x (inl refl)) step) (all rest mid new (λ y has. fits y (inr has)) more)

      same_path : (old new : AgentRecord H P) (p : PairRecord) → (x : Persists old new p) → path_of new x.pair ≡ path_of old p
      same_path old new p x =
          ap (λ (c : CandidateRecord). record { proto = c.proto; source = base_of c; destination = (candidate_at new.remote x.pair.remote).addr }) x.local
          ∙ ap (λ (c : CandidateRecord). record { proto = (candidate_at old.local p.local).proto; source = base_of (candidate_at old.local p.local); destination = c.addr }) x.remote

      pub checks-stay : ChecksStay mac answers
      checks-stay old new xs via id sound fits goes kept =
          let k = any_at (keeps_check_on old via id) old.pairs kept in
          let p = k.0 in
          let here = both (keeps_check id p) (is_reverse via (path_of old p)) k.2 in
          let x = all xs old new fits goes p k.1 (sound.placed p k.1) in
          any_has (keeps_check_on new via id) new.pairs x.pair x.there
          (ap (λ b. b && is_reverse via (path_of new x.pair)) (x.checks id ∙ here.0) ∙ (ap (λ w. is_reverse via w) (same_path old new p x) ∙ here.1))
