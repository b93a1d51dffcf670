-- Each step leaves each pair its number, and whether a request came to it, except for steps that remove pairs.
use Rattle.is_pair.specs.Due as due
use Rattle.is_stun.specs.declared.header.Class.TheVariants as class
use Rattle.is_theorems.proofs.Common.{each-way, formed_again}
use Rattle.is_theorems.proofs.Common.{[], ◌&&◌, ◌++◌, ◌||◌, ◌∙◌, ◌∷◌, ◌≡◌, ◌⊎◌, Absent, AddsUnknownSender, after_request, AgentRecord}
use Rattle.is_theorems.proofs.Common.{all_scheduled, ap, arith, as_taken, at_timeout, Barred, Bool, candidate_at, change_at, change_pair}
use Rattle.is_theorems.proofs.Common.{ChecksTop, Class, Conflict, conflict_of, counted, CountsAndServes, Drops, Emitted, evaluated}
use Rattle.is_theorems.proofs.Common.{expired_gone, false, FindsOrAddsPair, followed, formed, Full, gives_way, HandlesFailure}
use Rattle.is_theorems.proofs.Common.{HandlesSuccess, Has, hastened, heard, heard_at, IceCreds, if◌then◌else◌, in_turn, inl, inr}
use Rattle.is_theorems.proofs.Common.{is_expired, is_for_other_peer, is_misled, is_nominated, is_numbered, is_valid_at, Issued, Known, List}
use Rattle.is_theorems.proofs.Common.{list_any, local_place, MaintainsPairs, map, MatchOption, MayCheck, Message, nat_lt, nat_tests}
use Rattle.is_theorems.proofs.Common.{nominated, nominated_by_peer, nominated_by_self, Nominates, nominates_at_once, None, not, numbers}
use Rattle.is_theorems.proofs.Common.{Option, pair_served, PairRecord, Path, path_left, Queues, RecordsAndResponds, refl, remains}
use Rattle.is_theorems.proofs.Common.{RemotePlace, RemovesExpired, request_counted, request_in, RequestRecord, Reselects}
use Rattle.is_theorems.proofs.Common.{ResolvesRoleConflict, ResolvesRoleConflictBy, selection_of, selects_at_requests, Send487, served}
use Rattle.is_theorems.proofs.Common.{Serves, state_updated, slice_get, slice_set, Some, Stream, StunTiming, subst, suc, switched, switched_sides}
use Rattle.is_theorems.proofs.Common.{SwitchRole, sym, Takes, true, Unknown, Vacant, validated, validated_by_peer, with_pair}
use Rattle.is_theorems.proofs.Common.{with_priority_in, with_request, with_sender, with_sender_at, zero, ℕ}
use Rattle.is_theorems.proofs.RuleEffects.UnchangedSettings.{either}
use Rattle.is_theorems.proofs.RuleEffects.NominatedPairs.{SelectsPath, selects_path, expired_nominated}
use Rattle.is_theorems.proofs.CallEffects.ServedRequests.{Has-mapped}
use Rattle.is_theorems.proofs.RuleEffects.SelectedPaths.{some_is}
use Rattle.is_theorems.proofs.DuePairs.AfterNominationAndRemoval.{Base, base_of as agent_base, Has-kept, names-thins}
use Rattle.is_theorems.proofs.RuleEffects.Reselection.{by-reselecting}
use Rattle.is_theorems.proofs.RuleEffects.TriggeredPairs.{triggered_by, by_trigger}
use Rattle.is_theorems.proofs.BasicLemmas.PairsInTurn.{by-begins, sent-pairs, sent_at}
use Rattle.is_theorems.proofs.BasicLemmas.ServedPairs.{numbered-by}
use Rattle.is_theorems.proofs.RuleEffects.NotedErrors.{coded, recoded, by_failure}
use Rattle.is_theorems.proofs.RuleEffects.HastenedPairs.{by-hastened, hastened-expires, left-has, Hastens}

-- ---- lists

-- a request came to the pair
abbrev pub is_asked : PairRecord → Bool
is_asked p = nat_lt 0 p.requests

-- a pair with the number exists; a request came to it, if `asks` says so
abbrev pub Persists : ℕ → Bool → List PairRecord → Type 0
Persists n asks ps = (q : PairRecord) × Has ps q × (q.number ≡ n) × (asks ≡ true → is_asked q ≡ true)

-- each number stays
abbrev pub Keeps : List PairRecord → List PairRecord → Type 0
Keeps xs ys = (n : ℕ) (asks : Bool) → Persists n asks xs → Persists n asks ys

-- q is the pair p, and its requests are not forgotten
abbrev pub Follows : PairRecord → PairRecord → Type 0
Follows p q = (q.number ≡ p.number) × (is_asked p ≡ true → is_asked q ≡ true)

follows-same : (p : PairRecord) → Follows p p
follows-same p = (refl, λ is. is)

follows-on : (x y z : PairRecord) → Follows x y → Follows y z → Follows x z
follows-on x y z a b = (b.0 ∙ a.0, λ is. b.1 (a.1 is))

keeps-on : (xs ys zs : List PairRecord) → Keeps xs ys → Keeps ys zs → Keeps xs zs
keeps-on xs ys zs a b n asks h = b n asks (a n asks h)

pub keeps-map : (f : PairRecord → PairRecord) (xs : List PairRecord) → ((p : PairRecord) → Follows p (f p)) → Keeps xs (map f xs)
keeps-map f xs kept n asks (q, has, is, asked) = (f q, Has-mapped f xs q has, (kept q).0 ∙ is, λ on. (kept q).1 (asked on))

Has-front : (xs ys : List PairRecord) (x : PairRecord) → Has xs x → Has (xs ++ ys) x
Has-front [] ys x has = absurd has
Has-front (y ∷ xs) ys x (inl e) = inl e
Has-front (y ∷ xs) ys x (inr has) = inr (Has-front xs ys x has)

keeps-push : (xs ys : List PairRecord) → Keeps xs (xs ++ ys)
keeps-push xs ys n asks (q, has, is, asked) = (q, Has-front xs ys q has, is, asked)

keeps-set : (xs : List PairRecord) (i : ℕ) (p after : PairRecord) → slice_get xs i ≡ Some p → Follows p after → Keeps xs (slice_set xs i after)
keeps-set [] i p after at kept n asks (q, has, is, asked) = absurd has
keeps-set (x ∷ xs) zero p after at kept n asks (q, inl e, is, asked) =
    let one : q ≡ p = sym e ∙ some_is x p at in
    (after, inl refl, kept.0 ∙ (ap (λ (y : PairRecord). y.number) (sym one) ∙ is), λ on. kept.1 (subst (λ (y : PairRecord). is_asked y ≡ true) one (asked on)))
keeps-set (x ∷ xs) zero p after at kept n asks (q, inr has, is, asked) = (q, inr has, is, asked)
keeps-set (x ∷ xs) (suc i) p after at kept n asks (q, inl e, is, asked) = (q, inl e, is, asked)
keeps-set (x ∷ xs) (suc i) p after at kept n asks (q, inr has, is, asked) =
    let k = keeps-set xs i p after at kept n asks (q, has, is, asked) in (k.0, inr k.1, k.2, k.3)

-- ---- numbers

if-follows : (b : Bool) (p x y : PairRecord) → Follows p x → Follows p y → Follows p (if b then x else y)
if-follows true p x y on off = on
if-follows false p x y on off = off

nominated-follows : (lite : Bool) (p q : PairRecord) → Follows p q → Follows p (nominated lite q)
nominated-follows true p q k = k
nominated-follows false p q k = k

-- a request counts
counts : (n : ℕ) → nat_lt 0 (counted n) ≡ true
counts n = grind (arith, nat_tests)

served-follows : (c l : Bool) (q : RequestRecord) (p : PairRecord) → ((served c l q p).number ≡ p.number) × (is_asked (served c l q p) ≡ true)
served-follows c l q p = let k = by in (k.0, k.1 (counts p.requests)) where
  w : PairRecord
  w = with_request q.time p

  v : PairRecord
  v = validated_by_peer c l w

  by : Follows w (served c l q p)
  by =
      let valid : Follows w v = if-follows (l && not c) w (validated w) w (refl, λ is. is) (follows-same w) in
      numbered-by (λ x. Follows w x) c q.nomination (nominated_by_peer c l q v)
      (if-follows (not c && q.use_candidate && not (is_nominated v)) w (nominated l v) v (nominated-follows l w v valid) valid) (λ n. (if-follows (not c && q.use_candidate && not (is_nominated v)) w (nominated l v) v (nominated-follows l w v valid) valid))

pub request-follows : {H P : Type 0} (q : RequestRecord) (s : AgentRecord H P) (p : PairRecord) → ((after_request q s p).number ≡ p.number) × (is_asked (after_request q s p) ≡ true)
request-follows q s p =
    let k = served-follows s.controlling s.lite (as_taken (numbers s) q) (triggered_by q s p) in
    (k.0 ∙ by_trigger (λ (x : PairRecord). x.number ≡ p.number) q s p (λ due. refl), k.1)

pub request-number : {H P : Type 0} (q : RequestRecord) (s : AgentRecord H P) (p : PairRecord) → (after_request q s p).number ≡ p.number
request-number q s p = (request-follows q s p).0

heard-follows : (now : ℕ) (at : Option ℕ) (p : PairRecord) → Follows p (heard_at now at p)
heard-follows now None p = (refl, λ is. counts p.requests)
heard-follows now (Some at) p = follows-same p

sent-follows : (begins : Bool) (now : ℕ) (t : StunTiming) (c : Bool) (id : List ℕ) (p : PairRecord) → Follows p (sent_at begins now t c id p)
sent-follows begins now t c id p = by-begins begins (λ x. Follows p x) now t c id p (refl, λ is. is) (refl, λ is. is)

-- nomination does not change whether the pair is to be removed
self-kept : (c l : Bool) (n : ℕ) (p : PairRecord) (lite : Bool) (now : ℕ) (t : StunTiming)
    → Follows p (change_at n (nominated_by_self c l) p) × (due.is_pair_expired lite now t (change_at n (nominated_by_self c l) p) ≡ due.is_pair_expired lite now t p)
self-kept c l n p lite now t = apart (is_numbered n p) (not (is_nominated p) && (c || l)) l where
  apart : (a b l : Bool) → Follows p (if a then (if b then nominated l p else p) else p)
      × (due.is_pair_expired lite now t (if a then (if b then nominated l p else p) else p) ≡ due.is_pair_expired lite now t p)
  apart true true l = (nominated-follows l p p (follows-same p), expired_nominated lite l now t p)
  apart true false l = (follows-same p, refl)
  apart false b l = (follows-same p, refl)

hastened-follows : (test : PairRecord → Bool) (now : ℕ) (p : PairRecord) → Follows p (hastened test now p)
hastened-follows test now p = by-hastened (λ x. Follows p x) test now p (λ at. follows-same p) (follows-same p)

or-true : (b : Bool) → (b || true) ≡ true
or-true true = refl
or-true false = refl

module _ {H P : Type 0} where
  abbrev pub Keep : AgentRecord H P → AgentRecord H P → Type 0
  Keep old new = Keeps old.pairs new.pairs

  pub keep-same : (old new : AgentRecord H P) → new ≡ old → Keep old new
  keep-same old new made = subst (λ (a : AgentRecord H P). Keeps old.pairs a.pairs) (sym made) (λ n asks h. h)

  -- as this abstract state stores them
  pub keep-as : (old needed new : AgentRecord H P) → Keep old needed → new ≡ needed → Keep old new
  keep-as old needed new h made = subst (λ (a : AgentRecord H P). Keeps old.pairs a.pairs) (sym made) h

  -- ---- nomination, and removed pairs

  -- the pair is there, and `is_expired` has the same value for it
  abbrev Left : ℕ → AgentRecord H P → PairRecord → AgentRecord H P → Type 0
  Left now old p new =
      (q : PairRecord) × Has new.pairs q × Follows p q × (due.is_pair_expired old.lite now old.timing q ≡ due.is_pair_expired old.lite now old.timing p)

  nominates-leaves : (now : ℕ) (old new : AgentRecord H P) (path : Option Path) → Nominates old path new → (p : PairRecord) → Has old.pairs p → Left now old p new
  nominates-leaves now old new path h p has = from (selects_path old new path h) where
    as-it-was : new ≡ old → Left now old p new
    as-it-was made = subst (λ (a : AgentRecord H P). Left now old p a) (sym made) (p, has, follows-same p, refl)

    from : SelectsPath old path new → Left now old p new
    from (None, greatest, (is, made)) = as-it-was made
    from (Some top, greatest, k) = either (remains (followed old) top (selection_of old)) k
        (λ _ l. as-it-was l.1)
        (λ _ l. (
        let s = self-kept old.controlling old.lite top.number p old.lite now old.timing in
        subst (λ (a : AgentRecord H P). Left now old p a) (sym l.1)
        (change_at top.number (nominated_by_self old.controlling old.lite) p, Has-mapped (change_at top.number (nominated_by_self old.controlling old.lite)) old.pairs p has, s.0, s.1)))

  keep-nominates : (old new : AgentRecord H P) (path : Option Path) → Nominates old path new → Keep old new
  keep-nominates old new path h n asks (p, has, is, asked) = let k = nominates-leaves 0 old new path h p has in (k.0, k.1, k.2.0 ∙ is, λ on. k.2.1 (asked on))

  pub keep-reselects : (loses : Bool) (old new : AgentRecord H P) (path : Option Path) → Reselects loses old path new → Keep old new
  keep-reselects loses old new path h =
      by-reselecting (λ (a : AgentRecord H P). Keeps old.pairs a.pairs) loses old new path h (λ n asks k. k) (λ mid nominates. keep-nominates old mid path nominates)

  expires-leaves : (now : ℕ) (old new : AgentRecord H P) (path : Option Path) → RemovesExpired now old path new → (p : PairRecord) → Has old.pairs p
      → Persists p.number (is_asked p) new.pairs ⊎ (is_expired now old p ≡ true)
  expires-leaves now old new path h p has = either (list_any (is_expired now old) old.pairs) h
      (λ _ k. by (is_expired now old p) refl k)
      (λ _ k. inl (keep-as old (state_updated true now old) new (λ n asks x. x) k.1 p.number (is_asked p) (p, has, refl, λ on. on))) where
        by : (b : Bool) → is_expired now old p ≡ b → (mid : AgentRecord H P) × Nominates (expired_gone now old) path mid × (new ≡ evaluated now mid)
            → Persists p.number (is_asked p) new.pairs ⊎ (is_expired now old p ≡ true)
        by true is k = inr is
        by false is (mid, nominates, made) =
            inl (keep-as mid (evaluated now mid) new (λ n asks x. x) made p.number (is_asked p)
            (keep-nominates (expired_gone now old) mid path nominates p.number (is_asked p)
            (p, Has-kept (λ q. not (is_expired now old q)) old.pairs p has (ap not is), refl, λ on. on)))

  module _ (mac : H → List ℕ → List ℕ → List ℕ) where
    -- ---- `handle_timeout` calls

    keep-check : (now : ℕ) (remote : Option IceCreds) (old new : AgentRecord H P) (s t : Stream) (issued : Option Issued) → MayCheck mac now remote old s issued new t → Keep old new
    keep-check now None old new s t issued (is, made, drawn) = keep-same old new made
    keep-check now (Some peer) old new s t issued h = either old.lite h
        (λ _ k. keep-as old _ new (keeps-map (heard now) old.pairs (λ p. heard-follows now p.last_request p)) k.1)
        (λ _ k. next k.0 k.2) where
          all : Keep old (all_scheduled now old)
          all = keeps-map (due.scheduled now old.timing) old.pairs (λ p. (refl, λ is. is))

          next : (top : Option PairRecord) → ChecksTop mac now peer top (all_scheduled now old) s issued new t → Keep old new
          next None (is, made, drawn) = keep-as old (all_scheduled now old) new all made
          next (Some p) (id, drawn, values, is, made) =
              let begins : Bool = nominates_at_once (all_scheduled now old) in
              let change : PairRecord → PairRecord = sent_at begins now old.timing old.controlling id in
              keep-as old _ new
              (subst (λ ps. Keeps old.pairs ps) (sym (sent-pairs begins p.number now old.timing old.controlling id (all_scheduled now old).pairs))
              (keeps-on old.pairs (all_scheduled now old).pairs (change_pair p.number change (all_scheduled now old).pairs) all
              (keeps-map (change_at p.number change) (all_scheduled now old).pairs
              (λ q. if-follows (is_numbered p.number q) q (change q) q (sent-follows begins now old.timing old.controlling id q) (follows-same q))))) made

    pub maintains_pairs-leaves : (now : ℕ) (old new : AgentRecord H P) (s t : Stream) (emitted : Emitted) → MaintainsPairs mac now old s emitted new t → (p : PairRecord) → Has old.pairs p
        → Persists p.number (is_asked p) new.pairs ⊎ ((is_expired now old p || gives_way now old p) ≡ true)
    maintains_pairs-leaves now old new s t emitted (first, second, issued, named, kept, nominating, giving, checking, is) p has = by (gives_way now old p) refl where
      moved : (ps : List PairRecord) (o : PairRecord) → Follows p o → Persists o.number (is_asked o) ps → Persists p.number (is_asked p) ps
      moved ps o f (r, there, number, asked) = (r, there, number ∙ f.0, λ on. asked (f.1 on))

      base : agent_base named ≡ agent_base (at_timeout now old)
      base = (names-thins now (at_timeout now old) named first nominating).0

      by : (b : Bool) → gives_way now old p ≡ b → Persists p.number (is_asked p) new.pairs ⊎ ((is_expired now old p || b) ≡ true)
      by true is_so = inr (or-true (is_expired now old p))
      by false is_so =
          let q : PairRecord = hastened (Hastens now old) now p in
          let n = nominates-leaves now (path_left now (at_timeout now old)) named first nominating q (left-has now (at_timeout now old) p has is_so) in
          elim (expires-leaves now named kept second giving n.0 n.1) [
            | inl k ↦ inl (keep-check now kept.remote_creds kept new s t issued checking p.number (is_asked p) (moved kept.pairs n.0 (follows-on p q n.0 (hastened-follows (Hastens now old) now p) n.2) k))
            | inr gone ↦
                inr (ap (λ e. e || false) (sym (hastened-expires (Hastens now old) now p old.lite old.timing) ∙ sym n.3 ∙ (sym (ap (λ (b : Base). due.is_pair_expired b.lite now b.timing n.0) base) ∙ gone)))
          ]

    -- ---- requests

    module _ (q : RequestRecord) where
      pair : (l r number : ℕ) (s new : AgentRecord H P) (emitted : Emitted) → RecordsAndResponds mac q l r number s emitted new → Keep s new
      pair l r number s new emitted (path, mid, nominates, (values, is, made)) =
          keep-as s _ new
          (keeps-on s.pairs (pair_served q number s).pairs mid.pairs
          (keeps-map (change_at number (after_request q s)) s.pairs
          (λ p. if-follows (is_numbered number p) p (after_request q s p) p ((request-follows q s p).0, λ is. (request-follows q s p).1) (follows-same p)))
          (either (selects_at_requests s && is_valid_at number s.pairs) nominates
          (λ _ k. keep-nominates (pair_served q number s) mid path k)
          (λ _ k. keep-same (pair_served q number s) mid k.1))) made

      takes : (l r : ℕ) (number : Option ℕ) (s new : AgentRecord H P) (emitted : Emitted) → FindsOrAddsPair mac q l r number s emitted new → Keep s new
      takes l r (Some number) s new emitted h = pair l r number s new emitted h
      takes l r None s new emitted h = either (candidate_at s.local l).discarded h
          (λ _ k. keep-same s new k.1)
          (λ _ k. keeps-on s.pairs (s.pairs ++ formed s l r ∷ []) new.pairs (keeps-push s.pairs (formed s l r ∷ []))
          (pair l r s.next_number (with_pair (formed s l r) s) new emitted k.1))

      joins : (l : ℕ) (place : RemotePlace) (s new : AgentRecord H P) (emitted : Emitted) → AddsUnknownSender mac q l place s emitted new → Keep s new
      joins l (Known r) s new emitted (number, between, h) = takes l r number s new emitted h
      joins l Barred s new emitted h = keep-same s new h.1
      joins l Unknown s new emitted (number, between, h) = takes l _ number (with_sender q s) new emitted h
      joins l (Vacant r) s new emitted (number, between, h) = takes l r number (with_sender_at r q s) new emitted h
      joins l Full s new emitted h = keep-same s new h.1

      admitted : (l : ℕ) (s new : AgentRecord H P) (emitted : Emitted) → CountsAndServes mac q l s emitted new → Keep s new
      admitted l s new emitted h = either (is_misled s.controlling q) h
          (λ _ k. keep-same s new k.1)
          (λ _ k. joins l k.0 (request_counted s) new emitted k.2)

      keep-switched : (s : AgentRecord H P) → Keep s (switched s)
      keep-switched s = keeps-map (with_priority_in (switched_sides s)) s.pairs (λ p. (refl, λ is. is))

      resolves : (conflict : Conflict) (l : ℕ) (s new : AgentRecord H P) (emitted : Emitted) → ResolvesRoleConflictBy mac conflict q l s emitted new → Keep s new
      resolves Absent l s new emitted h = admitted l s new emitted h
      resolves Send487 l s new emitted (values, is, made) = keep-as s _ new (λ n asks x. x) made
      resolves SwitchRole l s new emitted h = keeps-on s.pairs (switched s).pairs new.pairs (keep-switched s) (admitted l (switched s) new emitted h)

      here : (place : Option ℕ) (s new : AgentRecord H P) (emitted : Emitted) → MatchOption place (Drops s emitted new) (λ l. ResolvesRoleConflict mac q l s emitted new) → Keep s new
      here None s new emitted h = keep-same s new h.1
      here (Some l) s new emitted h = resolves (conflict_of s q) l s new emitted h

      pub keep-serves : (s new : AgentRecord H P) (emitted : Emitted) → Serves mac q s emitted new → Keep s new
      keep-serves s new emitted h = either (is_for_other_peer s q) (in_turn mac q s new emitted h)
          (λ _ k. keep-same s new k.1)
          (λ _ k. here (local_place s.local q) s new emitted k)

      requested : (remote : Option IceCreds) (s new : AgentRecord H P) (emitted : Emitted) → MatchOption remote (Queues q s emitted new) (λ _. Serves mac q s emitted new) → Keep s new
      requested None s new emitted h = keep-as s _ new (λ n asks x. x) h.1
      requested (Some peer) s new emitted h = keep-serves s new emitted h

    -- ---- responses

    again : (s : AgentRecord H P) → Keep s (formed_again s)
    again s = each-way (λ a. Keep s a) s (λ n asks x. x) (λ i j may. keeps-push s.pairs (formed s i j ∷ []))

    success : (now : ℕ) (old new : AgentRecord H P) (via : Path) (m : Message) (emitted : Emitted) → HandlesSuccess now old via m emitted new → Keep old new
    success now old new via m emitted (recorded, (place, p, after, at, keeps, (k, c, is_at, is), made), (path, mid, nominates, emitted_is, done)) =
        keep-as old (evaluated now mid) new
        (keeps-on old.pairs (formed_again recorded).pairs mid.pairs
        (keeps-on old.pairs recorded.pairs (formed_again recorded).pairs
        (keep-as old _ recorded (keeps-set old.pairs place p after at (ap (λ (x : PairRecord). x.number) is, λ on. subst (λ (x : PairRecord). is_asked x ≡ true) (sym is) on)) made)
        (again recorded))
        (keep-nominates (formed_again recorded) mid path nominates)) done

    failure : (old new : AgentRecord H P) (via : Path) (m : Message) (emitted : Emitted) → HandlesFailure old via m emitted new → Keep old new
    failure old new via m emitted h =
        by_failure (λ _ a. Keep old a) old new via m emitted notes
        (λ code. keeps-on old.pairs (recoded code old).pairs (switched (recoded code old)).pairs (notes code)
        (keeps-map (with_priority_in (switched_sides old)) (recoded code old).pairs (λ p. (refl, λ is. is)))) h where
          notes : (code : PairRecord → Option ℕ) → Keep old (recoded code old)
          notes code = keeps-map (coded code) old.pairs (λ p. (refl, λ is. is))

    -- ---- packets

    pub by-class : (c : Class) (now : ℕ) (old mid : AgentRecord H P) (via : Path) (m : Message) (emitted : Emitted) → Takes mac c now old via m emitted mid → Keep old mid
    by-class class.Request now old mid via m emitted h = requested (request_in now via m) old.remote_creds old mid emitted h
    by-class class.Success now old mid via m emitted h = success now old mid via m emitted h
    by-class class.Failure now old mid via m emitted h = failure old mid via m emitted h
    by-class class.Indication now old mid via m emitted h = absurd h
    by-class class.Unknown now old mid via m emitted h = absurd h
