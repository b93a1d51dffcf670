-- Each step leaves each pair its pending transactions, except for steps that remove pairs. A check that is sent is appended
-- to them.
use Rattle.is_pair.specs.Due as due
use Rattle.is_stun.specs.declared.header.Class.TheVariants as class
use Rattle.is_theorems.proofs.Common.{each-way, formed_again}
use Rattle.is_theorems.proofs.Common.{[], ◌&&◌, ◌++◌, ◌-◌, ◌||◌, ◌∙◌, ◌∷◌, ◌≡◌, ◌⊎◌, Absent, AddsUnknownSender, after_request, AgentRecord}
use Rattle.is_theorems.proofs.Common.{all_scheduled, answered_at, ap, as_sent, as_taken, at_timeout, Barred, Bool, candidate_at, change_at}
use Rattle.is_theorems.proofs.Common.{change_pair, Check, check_of, check_sent, ChecksTop, Class, Conflict, conflict_of, CountsAndServes}
use Rattle.is_theorems.proofs.Common.{drop, drop-map, Drops, Emitted, eqb-true, evaluated, expired_gone, false, FindsOrAddsPair, followed}
use Rattle.is_theorems.proofs.Common.{formed, Full, gives_way, HandlesFailure, HandlesSuccess, Has, hastened, heard, heard_at, IceCreds}
use Rattle.is_theorems.proofs.Common.{if◌then◌else◌, in_turn, inl, inr, is_expired, is_for_other_peer, is_misled, is_nominated, is_numbered}
use Rattle.is_theorems.proofs.Common.{is_valid_at, IsNextToCheck, Issued, issued_as, Known, last_checks, length, length-map, List, list_any}
use Rattle.is_theorems.proofs.Common.{local_place, MaintainsPairs, map, map-append, MatchOption, MayCheck, Message, nominated}
use Rattle.is_theorems.proofs.Common.{nominated_by_peer, nominated_by_self, Nominates, nominates_at_once, None, not, numbers, Option}
use Rattle.is_theorems.proofs.Common.{pair_served, PairRecord, Path, path_left, path_of, Queues, RecordsAndResponds, refl, remains}
use Rattle.is_theorems.proofs.Common.{RemotePlace, RemovesExpired, renominated, request_counted, request_in, RequestRecord, Reselects}
use Rattle.is_theorems.proofs.Common.{ResolvesRoleConflict, ResolvesRoleConflictBy, same, selection_of, selects_at_requests, Send487}
use Rattle.is_theorems.proofs.Common.{sent_of, served, Serves, slice_get, slice_set, Some, Stream, StunTiming, subst, suc, switched}
use Rattle.is_theorems.proofs.Common.{switched_sides, SwitchRole, sym, Takes, TakesAnswer, true, Unknown, Vacant, validated}
use Rattle.is_theorems.proofs.Common.{validated_by_peer, with_pair, with_priority_in, with_request, with_sender, with_sender_at, zero, ℕ}
use Rattle.is_theorems.proofs.RuleEffects.UnchangedSettings.{either}
use Rattle.is_theorems.proofs.RuleEffects.NominatedPairs.{SelectsPath, selects_path, expired_nominated}
use Rattle.is_theorems.proofs.BasicLemmas.PairsInTurn.{next-has, sent-number, sent-pairs, sent_at}
use Rattle.is_theorems.proofs.CallEffects.ServedRequests.{Has-mapped}
use Rattle.is_theorems.proofs.RuleEffects.SelectedPaths.{some_is}
use Rattle.is_theorems.proofs.DuePairs.AfterNominationAndRemoval.{Base, base_of as agent_base, Has-kept, names-thins, expires-thins}
use Rattle.is_theorems.proofs.StoredPairs.StoredChecks.{number_same}
use Rattle.is_theorems.proofs.RuleEffects.Reselection.{by-reselecting}
use Rattle.is_theorems.proofs.RuleEffects.TriggeredPairs.{triggered_by, by_trigger}
use Rattle.is_theorems.proofs.BasicLemmas.ServedPairs.{numbered-by}
use Rattle.is_theorems.proofs.RuleEffects.NotedErrors.{coded, recoded, by_failure}
use Rattle.is_theorems.proofs.RuleEffects.HastenedPairs.{by-hastened, hastened-expires, left-has, Hastens}

-- ---- lists

-- o and q are one pair, with the same checks, answered or not
abbrev pub Same : PairRecord → PairRecord → Type 0
Same o q = (q.number ≡ o.number) × (sent_of q ≡ sent_of o)

same-on : (o p q : PairRecord) → Same o p → Same p q → Same o q
same-on o p q a b = (b.0 ∙ a.0, b.1 ∙ a.1)

-- the pair is there
abbrev pub Persists : PairRecord → List PairRecord → Type 0
Persists o ps = (q : PairRecord) × Has ps q × Same o q

-- each of them does
abbrev pub Keeps : List PairRecord → List PairRecord → Type 0
Keeps xs ys = (p : PairRecord) → Has xs p → Persists p ys

pub keeps-self : (xs : List PairRecord) → Keeps xs xs
keeps-self xs p has = (p, has, (refl, refl))

keeps-on : (xs ys zs : List PairRecord) → Keeps xs ys → Keeps ys zs → Keeps xs zs
keeps-on xs ys zs a b p has = let k = a p has in let l = b k.0 k.1 in (l.0, l.1, same-on p k.0 l.0 k.2 l.2)

pub keeps-map : (f : PairRecord → PairRecord) (xs : List PairRecord) → ((p : PairRecord) → Same p (f p)) → Keeps xs (map f xs)
keeps-map f xs kept p has = (f p, Has-mapped f xs p has, kept p)

Has-front : (xs ys : List PairRecord) (x : PairRecord) → Has xs x → Has (xs ++ ys) x
Has-front [] ys x has = absurd has
Has-front (y ∷ xs) ys x (inl e) = inl e
Has-front (y ∷ xs) ys x (inr has) = inr (Has-front xs ys x has)

keeps-push : (xs ys : List PairRecord) → Keeps xs (xs ++ ys)
keeps-push xs ys p has = (p, Has-front xs ys p has, (refl, refl))

keeps-set : (xs : List PairRecord) (i : ℕ) (p after : PairRecord) → slice_get xs i ≡ Some p → Same p after → Keeps xs (slice_set xs i after)
keeps-set [] i p after at same q has = absurd has
keeps-set (x ∷ xs) zero p after at same q (inl e) = (after, inl refl, subst (λ (y : PairRecord). Same y after) (sym (some_is x p at) ∙ e) same)
keeps-set (x ∷ xs) zero p after at same q (inr has) = (q, inr has, (refl, refl))
keeps-set (x ∷ xs) (suc i) p after at same q (inl e) = (q, inl e, (refl, refl))
keeps-set (x ∷ xs) (suc i) p after at same q (inr has) = let k = keeps-set xs i p after at same q has in (k.0, inr k.1, k.2)

-- a response leaves what was sent
sent-set : (now : ℕ) (xs : List Check) (i : ℕ) (c : Check) → slice_get xs i ≡ Some c → map as_sent (slice_set xs i (answered_at now c)) ≡ map as_sent xs
sent-set now [] i c at = cc
sent-set now (x ∷ xs) zero c at = ap (λ (y : Check). as_sent y ∷ map as_sent xs) (sym (some_is x c at))
sent-set now (x ∷ xs) (suc i) c at = ap (λ ys. as_sent x ∷ ys) (sent-set now xs i c at)

answer-same : (p q : PairRecord) (now : ℕ) (id : List ℕ) → TakesAnswer p now id q → Same p q
answer-same p q now id (place, c, (at, own), is) = subst (λ (x : PairRecord). Same p x) (sym is) (refl, sent-set now p.checks place c at)

-- ---- pairs

if-same : (b : Bool) (x y : PairRecord) → Same y x → Same y (if b then x else y)
if-same true x y kept = kept
if-same false x y kept = (refl, refl)

nominated-same : (lite : Bool) (p : PairRecord) → Same p (nominated lite p)
nominated-same true p = (refl, refl)
nominated-same false p = (refl, refl)

served-same : (c l : Bool) (q : RequestRecord) (p : PairRecord) → Same p (served c l q p)
served-same c l q p =
    let w : PairRecord = with_request q.time p in
    let v : PairRecord = validated_by_peer c l w in
    let first : Same p w = (refl, refl) in
    let second : Same w v = if-same (l && not c) (validated w) w (refl, refl) in
    let named : PairRecord = nominated_by_peer c l q v in
    let third : Same v named = if-same (not c && q.use_candidate && not (is_nominated v)) (nominated l v) v (nominated-same l v) in
    let all : Same p named = same-on p w named first (same-on w v named second third) in
    numbered-by (λ x. Same p x) c q.nomination named all (λ n. all)

request-same : {H P : Type 0} (q : RequestRecord) (s : AgentRecord H P) (p : PairRecord) → Same p (after_request q s p)
request-same q s p =
    same-on p (triggered_by q s p) (after_request q s p) (by_trigger (λ (x : PairRecord). Same p x) q s p (λ due. (refl, refl)))
    (served-same s.controlling s.lite (as_taken (numbers s) q) (triggered_by q s p))

heard-same : (now : ℕ) (at : Option ℕ) (p : PairRecord) → Same p (heard_at now at p)
heard-same now None p = (refl, refl)
heard-same now (Some at) p = (refl, refl)

self-same : (c l : Bool) (n : ℕ) (p : PairRecord) → Same p (change_at n (nominated_by_self c l) p)
self-same c l n p =
    if-same (is_numbered n p) (nominated_by_self c l p) p
    (if-same (not (is_nominated p) && (c || l)) (nominated l p) p (nominated-same l p))

self-due : (c l : Bool) (n : ℕ) (p : PairRecord) (lite : Bool) (now : ℕ) (t : StunTiming)
    → due.is_pair_expired lite now t (change_at n (nominated_by_self c l) p) ≡ due.is_pair_expired lite now t p
self-due c l n p lite now t = apart (is_numbered n p) (not (is_nominated p) && (c || l)) l where
  apart : (a b l : Bool) → due.is_pair_expired lite now t (if a then (if b then nominated l p else p) else p) ≡ due.is_pair_expired lite now t p
  apart true true l = expired_nominated lite l now t p
  apart true false l = refl
  apart false b l = refl

hastened-same : (test : PairRecord → Bool) (now : ℕ) (p : PairRecord) → Same p (hastened test now p)
hastened-same test now p = by-hastened (λ x. Same p x) test now p (λ at. (refl, refl)) (refl, refl)

-- the last checks, as they were sent
pub sent-last : (kept : ℕ) (p : PairRecord) (c : Check) → as_sent c ≡ c → map as_sent (last_checks kept (p.checks ++ c ∷ [])) ≡ last_checks kept (sent_of p ++ c ∷ [])
sent-last kept p c own =
    let xs = p.checks ++ c ∷ [] in
    let all : map as_sent xs ≡ sent_of p ++ c ∷ [] = map-append as_sent p.checks (c ∷ []) ∙ ap (λ (y : Check). sent_of p ++ y ∷ []) own in
    sym (drop-map as_sent (length xs - kept) xs)
    ∙ (ap (λ n. drop (n - kept) (map as_sent xs)) (sym (length-map xs as_sent)) ∙ ap (λ ys. last_checks kept ys) all)

or-true : (b : Bool) → (b || true) ≡ true
or-true true = refl
or-true false = refl

module _ {H P : Type 0} where
  abbrev pub Keep : AgentRecord H P → AgentRecord H P → Type 0
  Keep old new = Keeps old.pairs new.pairs

  pub keep-same : (old new : AgentRecord H P) → new ≡ old → Keep old new
  keep-same old new made = subst (λ (a : AgentRecord H P). Keeps old.pairs a.pairs) (sym made) (keeps-self old.pairs)

  -- as this abstract state stores them
  pub keep-as : (old needed new : AgentRecord H P) → Keep old needed → new ≡ needed → Keep old new
  keep-as old needed new h made = subst (λ (a : AgentRecord H P). Keeps old.pairs a.pairs) (sym made) h

  -- ---- nomination, and removed pairs

  -- the pair is there, and `is_expired` has the same value for it
  abbrev Left : ℕ → AgentRecord H P → PairRecord → AgentRecord H P → Type 0
  Left now old p new =
      (q : PairRecord) × Has new.pairs q × Same p q × (due.is_pair_expired old.lite now old.timing q ≡ due.is_pair_expired old.lite now old.timing p)

  nominates-leaves : (now : ℕ) (old new : AgentRecord H P) (path : Option Path) → Nominates old path new → (p : PairRecord) → Has old.pairs p → Left now old p new
  nominates-leaves now old new path h p has = from (selects_path old new path h) where
    as-it-was : new ≡ old → Left now old p new
    as-it-was made = subst (λ (a : AgentRecord H P). Left now old p a) (sym made) (p, has, (refl, refl), refl)

    from : SelectsPath old path new → Left now old p new
    from (None, greatest, (is, made)) = as-it-was made
    from (Some top, greatest, k) = either (remains (followed old) top (selection_of old)) k
        (λ _ l. as-it-was l.1)
        (λ _ l. subst (λ (a : AgentRecord H P). Left now old p a) (sym l.1) (
          change_at top.number (nominated_by_self old.controlling old.lite) p,
          Has-mapped (change_at top.number (nominated_by_self old.controlling old.lite)) old.pairs p has,
          self-same old.controlling old.lite top.number p,
          self-due old.controlling old.lite top.number p old.lite now old.timing,
        ))

  keep-nominates : (old new : AgentRecord H P) (path : Option Path) → Nominates old path new → Keep old new
  keep-nominates old new path h p has = let k = nominates-leaves 0 old new path h p has in (k.0, k.1, k.2)

  pub keep-reselects : (loses : Bool) (old new : AgentRecord H P) (path : Option Path) → Reselects loses old path new → Keep old new
  keep-reselects loses old new path h =
      by-reselecting (λ (a : AgentRecord H P). Keeps old.pairs a.pairs) loses old new path h (keeps-self old.pairs)
      (λ mid nominates. keep-nominates old mid path nominates)

  expires-leaves : (now : ℕ) (old new : AgentRecord H P) (path : Option Path) → RemovesExpired now old path new → (p : PairRecord) → Has old.pairs p
      → Persists p new.pairs ⊎ (is_expired now old p ≡ true)
  expires-leaves now old new path h p has = either (list_any (is_expired now old) old.pairs) h
      (λ _ k. by (is_expired now old p) refl k)
      (λ _ k. inl (subst (λ (a : AgentRecord H P). Persists p a.pairs) (sym k.1) (keep-same old old refl p has))) where
        by : (b : Bool) → is_expired now old p ≡ b → (mid : AgentRecord H P) × Nominates (expired_gone now old) path mid × (new ≡ evaluated now mid)
            → Persists p new.pairs ⊎ (is_expired now old p ≡ true)
        by true is k = inr is
        by false is (mid, nominates, made) =
            let k = keep-nominates (expired_gone now old) mid path nominates p (Has-kept (λ q. not (is_expired now old q)) old.pairs p has (ap not is)) in
            inl (subst (λ (a : AgentRecord H P). Persists p a.pairs) (sym made) k)

  module _ (mac : H → List ℕ → List ℕ → List ℕ) where
    -- ---- `handle_timeout` calls

    -- the pair with the number stores one more check, which is sent on the path of that pair
    abbrev pub Sends : ℕ → PairRecord → Option Issued → AgentRecord H P → Type 0
    Sends kept p issued new =
        (q : PairRecord) × Has new.pairs q × (q.number ≡ p.number)
        × ((c : Check) × (sent_of q ≡ last_checks kept (sent_of p ++ c ∷ []))
        × ((r : PairRecord) × Has new.pairs r × (r.number ≡ p.number) × (issued ≡ Some (issued_as (path_of new r) class.Request c.id))))

    -- a check that was sent by a pair was sent by the pair that it was before
    sends-on : (m n : ℕ) (p q : PairRecord) (issued out : Option Issued) (new : AgentRecord H P) → Same p q → m ≡ n → out ≡ issued → Sends m q issued new → Sends n p out new
    sends-on m n p q issued out new same limit emitted (x, has, number, (c, sent, (r, there, one, is))) = (
      x,
      has,
      number ∙ same.0,
      (
        c,
        sent ∙ (ap (λ cs. last_checks m (cs ++ c ∷ [])) same.1 ∙ ap (λ k. last_checks k (sent_of p ++ c ∷ [])) limit),
        (r, there, one ∙ same.0, emitted ∙ is),
      ),
    )

    checks : (now : ℕ) (remote : Option IceCreds) (old new : AgentRecord H P) (s t : Stream) (issued : Option Issued) → MayCheck mac now remote old s issued new t
        → (p : PairRecord) → Has old.pairs p → Persists p new.pairs ⊎ Sends old.timing.max_retransmits p issued new
    checks now None old new s t issued (is, made, drawn) p has = inl (keep-same old new made p has)
    checks now (Some peer) old new s t issued h p has = either old.lite h
        (λ _ k. inl (keep-as old _ new (keeps-map (heard now) old.pairs (λ q. heard-same now q.last_request q)) k.1 p has))
        (λ _ k. next k.0 k.1 k.2) where
          all : AgentRecord H P
          all = all_scheduled now old

          first : PairRecord
          first = due.scheduled now old.timing p

          there : Has all.pairs first
          there = Has-mapped (due.scheduled now old.timing) old.pairs p has

          next : (top : Option PairRecord) → IsNextToCheck now all top → ChecksTop mac now peer top all s issued new t
              → Persists p new.pairs ⊎ Sends old.timing.max_retransmits p issued new
          next None chosen (is, made, drawn) = inl (subst (λ (a : AgentRecord H P). Persists p a.pairs) (sym made) (first, there, (refl, refl)))
          next (Some top) chosen (id, drawn, put, is, made) = subst (λ (a : AgentRecord H P). Persists p a.pairs ⊎ Sends old.timing.max_retransmits p issued a) (sym made)
              (by (is_numbered top.number first) refl) where
                begins : Bool
                begins = nominates_at_once all

                change : PairRecord → PairRecord
                change x = sent_at begins now old.timing old.controlling id x

                sent : AgentRecord H P
                sent = check_sent mac now peer top id all

                begun : PairRecord → Check
                begun x = check_of now old.controlling id (if begins then renominated x else x)

                in-sent : (x y : PairRecord) → Has all.pairs x → change_at top.number change x ≡ y → Has sent.pairs y
                in-sent x y has same =
                    subst (λ ps. Has ps y) (sym (sent-pairs begins top.number now old.timing old.controlling id all.pairs))
                    (subst (λ (z : PairRecord). Has (change_pair top.number change all.pairs) z) same (Has-mapped (change_at top.number change) all.pairs x has))

                stores : (b : Bool) (x : PairRecord) → sent_of (sent_at b now old.timing old.controlling id x)
                    ≡ last_checks old.timing.max_retransmits (sent_of x ++ check_of now old.controlling id (if b then renominated x else x) ∷ [])
                stores true x = sent-last old.timing.max_retransmits (renominated x) (check_of now old.controlling id (renominated x)) refl
                stores false x = sent-last old.timing.max_retransmits x (check_of now old.controlling id x) refl

                sent-path : (b : Bool) (x : PairRecord) → path_of all x ≡ path_of sent (sent_at b now old.timing old.controlling id x)
                sent-path true x = refl
                sent-path false x = refl

                by : (b : Bool) → is_numbered top.number first ≡ b → Persists p sent.pairs ⊎ Sends old.timing.max_retransmits p issued sent
                by false apart = inl (first, in-sent first first there (ap (λ b. if b then change first else first) apart), (refl, refl))
                by true here = inr (
                  change first,
                  in-sent first (change first) there (ap (λ b. if b then change first else first) here),
                  sent-number begins now old.timing old.controlling id first,
                  (
                    begun first,
                    stores begins first,
                    (
                      change top,
                      in-sent top (change top) (next-has now all top chosen) (ap (λ b. if b then change top else top) (number_same top.number)),
                      sent-number begins now old.timing old.controlling id top ∙ sym (eqb-true first.number top.number here),
                      is ∙ ap (λ w. Some (issued_as w class.Request id)) (sent-path begins top),
                    ),
                  ),
                )

    pub maintains_pairs : (now : ℕ) (old new : AgentRecord H P) (s t : Stream) (emitted : Emitted) → MaintainsPairs mac now old s emitted new t → (p : PairRecord) → Has old.pairs p
        → Persists p new.pairs ⊎ (Sends old.timing.max_retransmits p emitted.issued new ⊎ ((is_expired now old p || gives_way now old p) ≡ true))
    maintains_pairs now old new s t emitted (first, second, issued, named, kept, nominating, giving, checking, is) p has = by (gives_way now old p) refl where
      base : agent_base named ≡ agent_base (at_timeout now old)
      base = (names-thins now (at_timeout now old) named first nominating).0

      timing : kept.timing ≡ old.timing
      timing = ap (λ (b : Base). b.timing) (expires-thins 0 now named kept second giving).0 ∙ ap (λ (b : Base). b.timing) base

      by : (b : Bool) → gives_way now old p ≡ b → Persists p new.pairs ⊎ (Sends old.timing.max_retransmits p emitted.issued new ⊎ ((is_expired now old p || b) ≡ true))
      by true is_so = inr (inr (or-true (is_expired now old p)))
      by false is_so =
          let q : PairRecord = hastened (Hastens now old) now p in
          let n = nominates-leaves now (path_left now (at_timeout now old)) named first nominating q (left-has now (at_timeout now old) p has is_so) in
          let through : Same p n.0 = same-on p q n.0 (hastened-same (Hastens now old) now p) n.2 in
          elim (expires-leaves now named kept second giving n.0 n.1) [
            | inl k ↦
                elim (checks now kept.remote_creds kept new s t issued checking k.0 k.1) [
                  | inl l ↦ inl (l.0, l.1, same-on p k.0 l.0 (same-on p n.0 k.0 through k.2) l.2)
                  | inr l ↦ inr (inl (sends-on kept.timing.max_retransmits old.timing.max_retransmits p k.0 issued emitted.issued new (same-on p n.0 k.0 through k.2) (ap (λ (x : StunTiming). x.max_retransmits) timing) (ap (λ (x : Emitted). x.issued) is) l))
                ]
            | inr gone ↦
                inr (inr (ap (λ e. e || false) (sym (hastened-expires (Hastens now old) now p old.lite old.timing) ∙ sym n.3 ∙ (sym (ap (λ (b : Base). due.is_pair_expired b.lite now b.timing n.0) base) ∙ gone))))
          ]

    -- ---- requests

    module _ (q : RequestRecord) where
      pair : (l r number : ℕ) (s new : AgentRecord H P) (emitted : Emitted) → RecordsAndResponds mac q l r number s emitted new → Keep s new
      pair l r number s new emitted (path, mid, nominates, (values, is, made)) =
          keep-as s _ new
          (keeps-on s.pairs (pair_served q number s).pairs mid.pairs
          (keeps-map (change_at number (after_request q s)) s.pairs
          (λ p. if-same (is_numbered number p) (after_request q s p) p (request-same q s p)))
          (either (selects_at_requests s && is_valid_at number s.pairs) nominates
          (λ _ k. keep-nominates (pair_served q number s) mid path k)
          (λ _ k. keep-same (pair_served q number s) mid k.1))) made

      takes : (l r : ℕ) (number : Option ℕ) (s new : AgentRecord H P) (emitted : Emitted) → FindsOrAddsPair mac q l r number s emitted new → Keep s new
      takes l r (Some number) s new emitted h = pair l r number s new emitted h
      takes l r None s new emitted h = either (candidate_at s.local l).discarded h
          (λ _ k. keep-same s new k.1)
          (λ _ k. keeps-on s.pairs (s.pairs ++ formed s l r ∷ []) new.pairs (keeps-push s.pairs (formed s l r ∷ []))
          (pair l r s.next_number (with_pair (formed s l r) s) new emitted k.1))

      joins : (l : ℕ) (place : RemotePlace) (s new : AgentRecord H P) (emitted : Emitted) → AddsUnknownSender mac q l place s emitted new → Keep s new
      joins l (Known r) s new emitted (number, between, h) = takes l r number s new emitted h
      joins l Barred s new emitted h = keep-same s new h.1
      joins l Unknown s new emitted (number, between, h) = takes l _ number (with_sender q s) new emitted h
      joins l (Vacant r) s new emitted (number, between, h) = takes l r number (with_sender_at r q s) new emitted h
      joins l Full s new emitted h = keep-same s new h.1

      admitted : (l : ℕ) (s new : AgentRecord H P) (emitted : Emitted) → CountsAndServes mac q l s emitted new → Keep s new
      admitted l s new emitted h = either (is_misled s.controlling q) h
          (λ _ k. keep-same s new k.1)
          (λ _ k. joins l k.0 (request_counted s) new emitted k.2)

      keep-switched : (s : AgentRecord H P) → Keep s (switched s)
      keep-switched s = keeps-map (with_priority_in (switched_sides s)) s.pairs (λ p. (refl, refl))

      resolves : (conflict : Conflict) (l : ℕ) (s new : AgentRecord H P) (emitted : Emitted) → ResolvesRoleConflictBy mac conflict q l s emitted new → Keep s new
      resolves Absent l s new emitted h = admitted l s new emitted h
      resolves Send487 l s new emitted (values, is, made) = keep-as s _ new (keeps-self s.pairs) made
      resolves SwitchRole l s new emitted h = keeps-on s.pairs (switched s).pairs new.pairs (keep-switched s) (admitted l (switched s) new emitted h)

      here : (place : Option ℕ) (s new : AgentRecord H P) (emitted : Emitted) → MatchOption place (Drops s emitted new) (λ l. ResolvesRoleConflict mac q l s emitted new) → Keep s new
      here None s new emitted h = keep-same s new h.1
      here (Some l) s new emitted h = resolves (conflict_of s q) l s new emitted h

      pub keep-serves : (s new : AgentRecord H P) (emitted : Emitted) → Serves mac q s emitted new → Keep s new
      keep-serves s new emitted h = either (is_for_other_peer s q) (in_turn mac q s new emitted h)
          (λ _ k. keep-same s new k.1)
          (λ _ k. here (local_place s.local q) s new emitted k)

      requested : (remote : Option IceCreds) (s new : AgentRecord H P) (emitted : Emitted) → MatchOption remote (Queues q s emitted new) (λ _. Serves mac q s emitted new) → Keep s new
      requested None s new emitted h = keep-as s _ new (keeps-self s.pairs) h.1
      requested (Some peer) s new emitted h = keep-serves s new emitted h

    -- ---- responses

    again : (s : AgentRecord H P) → Keep s (formed_again s)
    again s = each-way (λ a. Keep s a) s (keeps-self s.pairs) (λ i j may. keeps-push s.pairs (formed s i j ∷ []))

    success : (now : ℕ) (old new : AgentRecord H P) (via : Path) (m : Message) (emitted : Emitted) → HandlesSuccess now old via m emitted new → Keep old new
    success now old new via m emitted (recorded, (place, p, after, at, keeps, (k, c, is_at, is), made), (path, mid, nominates, emitted_is, done)) =
        keep-as old (evaluated now mid) new
        (keeps-on old.pairs (formed_again recorded).pairs mid.pairs
        (keeps-on old.pairs recorded.pairs (formed_again recorded).pairs
        (keep-as old _ recorded (keeps-set old.pairs place p after at (answer-same p after now m.id (k, c, is_at, is))) made)
        (again recorded))
        (keep-nominates (formed_again recorded) mid path nominates)) done

    failure : (old new : AgentRecord H P) (via : Path) (m : Message) (emitted : Emitted) → HandlesFailure old via m emitted new → Keep old new
    failure old new via m emitted h =
        by_failure (λ _ a. Keep old a) old new via m emitted notes
        (λ code. keeps-on old.pairs (recoded code old).pairs (switched (recoded code old)).pairs (notes code)
        (keeps-map (with_priority_in (switched_sides old)) (recoded code old).pairs (λ p. (refl, refl)))) h where
          notes : (code : PairRecord → Option ℕ) → Keep old (recoded code old)
          notes code = keeps-map (coded code) old.pairs (λ p. (refl, refl))

    -- ---- packets

    pub by-class : (c : Class) (now : ℕ) (old mid : AgentRecord H P) (via : Path) (m : Message) (emitted : Emitted) → Takes mac c now old via m emitted mid → Keep old mid
    by-class class.Request now old mid via m emitted h = requested (request_in now via m) old.remote_creds old mid emitted h
    by-class class.Success now old mid via m emitted h = success now old mid via m emitted h
    by-class class.Failure now old mid via m emitted h = failure old mid via m emitted h
    by-class class.Indication now old mid via m emitted h = absurd h
    by-class class.Unknown now old mid via m emitted h = absurd h
