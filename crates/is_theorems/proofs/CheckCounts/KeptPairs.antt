-- What holds of each pair, and of valid ones in any case: the rules keep it, except that checks are sent and due times are fixed.
use Rattle.is_stun.specs.declared.header.Class.TheVariants as class
use Rattle.is_theorems.proofs.Common.{each-way, formed_again}
use Rattle.is_theorems.proofs.Common.{[], ◌&&◌, ◌++◌, ◌+◌, ◌<◌, ◌||◌, ◌∙◌, ◌∷◌, ◌≡◌, ◌≤◌, ◌⊎◌, Absent, AddsUnknownSender, after_request}
use Rattle.is_theorems.proofs.Common.{AgentRecord, AllBelow, ap, AreRising, arith, as_taken, Barred, Bool, candidate_at, CandidateRecord}
use Rattle.is_theorems.proofs.Common.{change_at, change_pair, CheckState, chosen-able, Class, Combination, combined_priority, Conflict}
use Rattle.is_theorems.proofs.Common.{conflict_of, counted, CountsAndServes, discovered_emitted, Drops, Each, Emitted, Entry, eqb-true, Err}
use Rattle.is_theorems.proofs.Common.{evaluated, expired_gone, false, filter, FindsOrAddsPair, followed, Formed, formed, FormsAll, Full}
use Rattle.is_theorems.proofs.Common.{HandlesFailure, HandlesPacket, HandlesSuccess, Has, IceCreds, IceError, if◌then◌else◌, in_turn, inl}
use Rattle.is_theorems.proofs.Common.{inr, is_expired, is_for_other_peer, is_misled, is_modern, is_nominated, is_numbered, is_valid}
use Rattle.is_theorems.proofs.Common.{is_valid_at, is_valid_state, Known, List, list_any, local_place, map, MatchOption, max, Message}
use Rattle.is_theorems.proofs.Common.{nat_lt, new_pair, Nominated, nominated, nominated_by_peer, nominated_by_self, Nominates}
use Rattle.is_theorems.proofs.Common.{NominatesWhere, NominationState, None, not, numbered, numbered_by_peer, numbers, Ok, Option, pair_of}
use Rattle.is_theorems.proofs.Common.{pair_served, PairRecord, Path, Queues, Receives, RecordsAndResponds, refl, remains, RemotePlace}
use Rattle.is_theorems.proofs.Common.{removes, RemovesExpired, RemovesInTurn, request_counted, request_in, RequestRecord, Reselects}
use Rattle.is_theorems.proofs.Common.{ResolvesRoleConflict, ResolvesRoleConflictBy, Result, selection_of, selects_at_requests, Send487}
use Rattle.is_theorems.proofs.Common.{served, Serves, state_updated, sides_of, SidesRecord, slice_set, Some, subst, Succeeded, Success, switched}
use Rattle.is_theorems.proofs.Common.{switched_sides, SwitchRole, sym, Takes, TakesAnswer, taking_over, Tries, triggered_time, true, undue}
use Rattle.is_theorems.proofs.Common.{Unknown, unwrap_or, Vacant, validated, with_pair, with_priority_in, with_request, with_sender}
use Rattle.is_theorems.proofs.Common.{with_sender_at, without, ℕ}
use Rattle.is_theorems.proofs.BasicLemmas.ServedPairs.{taken-time}
use Rattle.is_theorems.proofs.CallEffects.ChecksAndResponses.{Has-get, put_at}
use Rattle.is_theorems.proofs.RuleEffects.ChangedPairs.{eligible_valid, Has-map, self_kept}
use Rattle.is_theorems.proofs.RuleEffects.EarlierAndNewPairs.{choose, Has-filter, Has-push, rising-filter, rising-push}
use Rattle.is_theorems.proofs.RuleEffects.NominatedPairs.{SelectsPath, selects_path}
use Rattle.is_theorems.proofs.RuleEffects.NotedErrors.{coded, recoded, by_failure}
use Rattle.is_theorems.proofs.RuleEffects.SelectedPaths.{one_pair}
use Rattle.is_theorems.proofs.RuleEffects.TriggeredPairs.{triggered_by, triggered_is}
use Rattle.is_theorems.proofs.RuleEffects.UnchangedSettings.{either}

-- ---- what a request changes

-- the state after it, its nomination and the number of that, and a due time that it moves up
abbrev once_requested : PairRecord → ℕ → CheckState → NominationState → ℕ → PairRecord
once_requested p time state nomination number = record p {
  requests = counted p.requests;
  last_request = Some time;
  state = state;
  nomination = nomination;
  greatest_number = number;
}

record Served (p : PairRecord) (time : ℕ) (q : PairRecord) : Type 0 where
  state : CheckState
  nomination : NominationState
  number : ℕ
  is : q ≡ once_requested p time state nomination number
  stays : (state ≡ p.state) ⊎ (is_valid_state state ≡ true)

served-is : (c l : Bool) (q : RequestRecord) (p : PairRecord) → Served p q.time (served c l q p)
served-is c l q p = validates (l && not c) where
  number-is : (o : Option ℕ) (x : PairRecord) → (n : ℕ) × (numbered_by_peer c o x ≡ record x { greatest_number = n })
  number-is None x = (x.greatest_number, refl)
  number-is (Some n) x = by c where
    by : (b : Bool) → (k : ℕ) × ((if b then x else numbered n x) ≡ record x { greatest_number = k })
    by true = (x.greatest_number, refl)
    by false = (max x.greatest_number n, refl)

  named-is : (b m : Bool) (x : PairRecord) → (n : NominationState) × ((if b then nominated m x else x) ≡ record x { nomination = n })
  named-is true true x = (Success, refl)
  named-is true false x = (Nominated, refl)
  named-is false m x = (x.nomination, refl)

  finish : (x : PairRecord) (s : CheckState) → x ≡ record (with_request q.time p) { state = s } → (s ≡ p.state) ⊎ (is_valid_state s ≡ true)
      → Served p q.time (numbered_by_peer c q.nomination (nominated_by_peer c l q x))
  finish x s is stays =
      let n = named-is (not c && q.use_candidate && not (is_nominated x)) l x in
      let k = number-is q.nomination (nominated_by_peer c l q x) in
      record {
        state = s;
        nomination = n.0;
        number = k.0;
        is = k.1 ∙ (ap (λ (y : PairRecord). record y { greatest_number = k.0 }) n.1 ∙ ap (λ (y : PairRecord). record y { nomination = n.0; greatest_number = k.0 }) is);
        stays = stays;
      }

  validates : (b : Bool) → Served p q.time (numbered_by_peer c q.nomination (nominated_by_peer c l q (if b then validated (with_request q.time p) else with_request q.time p)))
  validates true = finish (validated (with_request q.time p)) Succeeded refl (inr refl)
  validates false = finish (with_request q.time p) p.state refl (inl refl)

module _ {H P : Type 0} (q : RequestRecord) (a : AgentRecord H P) (p : PairRecord) where
  -- a request of an agent
  pub request-number : (after_request q a p).number ≡ p.number
  request-number =
      ap (λ (x : PairRecord). x.number) (served-is a.controlling a.lite (as_taken (numbers a) q) (triggered_by q a p)).is
      ∙ ap (λ (x : PairRecord). x.number) (triggered_is (is_modern a.timing) (triggered_time q a) p).1

-- ---- lists

map-rising : (f : PairRecord → PairRecord) (ps : List PairRecord) → ((p : PairRecord) → (f p).number ≡ p.number) → AreRising ps → AreRising (map f ps)
map-rising f [] same rising = tt
map-rising f (p ∷ ps) same rising = (
  (λ q has.
      let o = Has-map f ps q has in
      let lt : p.number < o.0.number = rising.0 o.0 o.1 in
      let its : q.number ≡ o.0.number = ap (λ (x : PairRecord). x.number) (sym o.2) ∙ same o.0 in
      let own : (f p).number ≡ p.number = same p in
      omega (arith, lt, its, own)),
  map-rising f ps same rising.1,
)

at-number : (n : ℕ) (f : PairRecord → PairRecord) (p : PairRecord) → ((q : PairRecord) → q.number ≡ n → (f q).number ≡ q.number) → (change_at n f p).number ≡ p.number
at-number n f p same = by (is_numbered n p) refl where
  by : (b : Bool) → is_numbered n p ≡ b → (if b then f p else p).number ≡ p.number
  by true is = same p (eqb-true p.number n is)
  by false is = refl

-- the pair after a request at this time: more requests, and its state is as before, or it is valid
pub record IsRequested (p : PairRecord) (time : ℕ) (after : PairRecord) : Type 0 where
  pub number : after.number ≡ p.number
  pub requests : after.requests ≡ counted p.requests
  pub last : after.last_request ≡ Some time
  pub checks : after.checks ≡ p.checks
  pub count : after.checks_sent ≡ p.checks_sent
  pub first : after.first_sent ≡ p.first_sent
  pub again : after.first_after_request ≡ p.first_after_request
  pub answers : after.answers ≡ p.answers
  pub state : (after.state ≡ p.state) ⊎ (is_valid after ≡ true)

request-at : {H P : Type 0} (q : RequestRecord) (a : AgentRecord H P) (p : PairRecord) → IsRequested p q.time (after_request q a p)
request-at q a p =
    let t = triggered_is (is_modern a.timing) (triggered_time q a) p in
    let s = served-is a.controlling a.lite (as_taken (numbers a) q) (triggered_by q a p) in
    let is : after_request q a p ≡ once_requested (record p { due = t.0 }) (as_taken (numbers a) q).time s.state s.nomination s.number =
    s.is ∙ ap (λ (x : PairRecord). once_requested x (as_taken (numbers a) q).time s.state s.nomination s.number) t.1 in
    subst (λ (x : PairRecord). IsRequested p q.time x) (sym is) (record {
      number = refl;
      requests = refl;
      last = ap Some (taken-time (numbers a) q);
      checks = refl;
      count = refl;
      first = refl;
      again = refl;
      answers = refl;
      state = elim s.stays [
        | inl same ↦ inl (same ∙ ap (λ (x : PairRecord). x.state) t.1)
        | inr valid ↦ inr valid
      ];
    })

module _ (floor clock : ℕ) (Q : PairRecord → Type 0) where
  -- It holds of valid pairs, and of new ones from a number on. It is kept while a pair waits, and at requests until a time.
  pub record IsOfSilent : Type 0 where
    pub valid : (p : PairRecord) → is_valid p ≡ true → Q p
    pub fresh : (number local remote priority : ℕ) → floor ≤ number → Q (new_pair number local remote priority)
    pub taken : (lite : Bool) (other : PairRecord) (number local remote priority : ℕ) → floor ≤ number → Q other → Q (taking_over lite other (new_pair number local remote priority))
    pub fixed : (p : PairRecord) (due : Option ℕ) → (due ≡ None) → Q p → Q (record p { due = due })
    pub noted : (p : PairRecord) (code : Option ℕ) → Q p → Q (record p { last_error = code })
    pub ranked : (p : PairRecord) (priority : ℕ) → Q p → Q (record p { priority = priority })
    pub answered : (p after : PairRecord) (now : ℕ) (id : List ℕ) → TakesAnswer p now id after → Q p → Q after
    pub requested : (p after : PairRecord) (time : ℕ) → IsRequested p time after → time ≤ clock → Q p → Q after

  -- the numbers rise, and it holds of each pair
  pub record IsKept (next : ℕ) (ps : List PairRecord) : Type 0 where
    pub rising : AreRising ps
    pub below : AllBelow next ps
    pub each : (p : PairRecord) → Has ps p → Q p
    pub low : floor ≤ next

  pub kept-map : (next : ℕ) (f : PairRecord → PairRecord) (ps : List PairRecord) → ((p : PairRecord) → (f p).number ≡ p.number) → ((p : PairRecord) → Has ps p → Q p → Q (f p))
      → IsKept next ps → IsKept next (map f ps)
  kept-map next f ps same each k = record {
    rising = map-rising f ps same k.rising;
    below = λ q has. (let o = Has-map f ps q has in let lt = k.below o.0 o.1 in let its : q.number ≡ o.0.number = ap (λ (x : PairRecord). x.number) (sym o.2) ∙ same o.0 in omega (arith, lt, its));
    each = λ q has. (let o = Has-map f ps q has in subst (λ x. Q x) o.2 (each o.0 o.1 (k.each o.0 o.1)));
    low = k.low;
  }

  pub kept-filter : (next : ℕ) (keep : PairRecord → Bool) (ps : List PairRecord) → IsKept next ps → IsKept next (filter keep ps)
  kept-filter next keep ps k = record {
    rising = rising-filter keep ps k.rising;
    below = λ q has. k.below q (Has-filter keep ps q has);
    each = λ q has. k.each q (Has-filter keep ps q has);
    low = k.low;
  }

  kept-push : (next : ℕ) (ps : List PairRecord) (p : PairRecord) → p.number ≡ next → Q p → IsKept next ps → IsKept (next + 1) (ps ++ p ∷ [])
  kept-push next ps p is one k = record {
    rising = rising-push ps p k.rising (λ q has. (let lt = k.below q has in omega (arith, lt, is)));
    below = λ q has. elim (Has-push ps p q has) [
      | inl was ↦ (let lt = k.below q was in omega (arith, lt))
      | inr now ↦ (let its : p.number ≡ q.number = ap (λ (x : PairRecord). x.number) now in omega (arith, is, its))
    ];
    each = λ q has. elim (Has-push ps p q has) [
      | inl was ↦ k.each q was
      | inr now ↦ subst (λ x. Q x) now one
    ];
    low = (let low = k.low in omega (arith, low));
  }

  pub kept-change : (next n : ℕ) (f : PairRecord → PairRecord) (ps : List PairRecord) → ((p : PairRecord) → p.number ≡ n → (f p).number ≡ p.number)
      → ((p : PairRecord) → Has ps p → p.number ≡ n → Q p → Q (f p)) → IsKept next ps → IsKept next (change_pair n f ps)
  kept-change next n f ps same each k = kept-map next (change_at n f) ps (λ p. at-number n f p same) (λ p has q. by p has q (is_numbered n p) refl) k where
    by : (p : PairRecord) → Has ps p → Q p → (b : Bool) → is_numbered n p ≡ b → Q (if b then f p else p)
    by p has q true is = each p has (eqb-true p.number n is) q
    by p has q false is = q

  module _ (s : IsOfSilent) where
    pub unless-kept : (next : ℕ) (b : Bool) (ps : List PairRecord) → IsKept next ps → IsKept next (if b then ps else map undue ps)
    unless-kept next true ps k = k
    unless-kept next false ps k = kept-map next undue ps (λ p. refl) (λ p has q. s.fixed p None refl q) k

    named-valid : (b l : Bool) (p : PairRecord) → is_valid p ≡ true → Q (if b then nominated l p else p)
    named-valid b l p valid = s.valid (if b then nominated l p else p) ((self_kept b l p).valid ∙ valid)

    -- ---- forming

    abbrev Keeps : Formed → Type 0
    Keeps f = IsKept f.next_number f.pairs

    taken-number : (lite : Bool) (other own : PairRecord) → (taking_over lite other own).number ≡ own.number
    taken-number true other own = refl
    taken-number false other own = refl

    tries-one : (sides : SidesRecord) (at : Combination) (old new : Formed) → Keeps old → Tries sides at old new → Keeps new
    tries-one sides at old new k (None, none, made) =
        subst (λ (f : Formed). Keeps f) (sym made) (kept-push old.next_number old.pairs (pair_of sides at old.next_number) refl (s.fresh _ _ _ _ k.low) k)
    tries-one sides at old new k (Some found, (has, redundant, greatest), made) =
        choose (nat_lt found.priority (combined_priority sides at)) (λ f. new ≡ f) _ old made
        (λ replaced. subst (λ (f : Formed). Keeps f) (sym replaced)
        (kept-push old.next_number (without (is_numbered found.number) old.pairs) (taking_over sides.lite found (pair_of sides at old.next_number))
        (taken-number sides.lite found (pair_of sides at old.next_number)) (s.taken sides.lite found _ _ _ _ k.low (k.each found has))
        (kept-filter old.next_number (λ q. not (is_numbered found.number q)) old.pairs k)))
        (λ dropped. subst (λ (f : Formed). Keeps f) (sym dropped) k)

    tries-each : (sides : SidesRecord) (at : List Combination) (old new : Formed) → Keeps old → Each (Tries sides) at old new → Keeps new
    tries-each sides [] old new k same = subst (λ (f : Formed). Keeps f) (sym same) k
    tries-each sides (at ∷ more) old new k (mid, one, others) = tries-each sides more mid new (tries-one sides at old mid k one) others

    drops-each : (next limit : ℕ) (gone old new : List PairRecord) → IsKept next old → RemovesInTurn limit gone old new → IsKept next new
    drops-each next limit [] old new k (within, same) = subst (λ (ps : List PairRecord). IsKept next ps) (sym same) k
    drops-each next limit (p ∷ gone) old new k (over, has, others) =
        drops-each next limit gone (without (is_numbered p.number) old) new (kept-filter next (λ q. not (is_numbered p.number q)) old k) others

    module _ {H P : Type 0} where
      abbrev pub Holds : AgentRecord H P → Type 0
      Holds a = IsKept a.next_number a.pairs

      abbrev Leads : AgentRecord H P → AgentRecord H P → Type 0
      Leads old new = Holds old → Holds new

      pub made-kept : (needed new : AgentRecord H P) → new ≡ needed → Holds needed → Holds new
      made-kept needed new made k = subst (λ (a : AgentRecord H P). Holds a) (sym made) k

      pub forms-kept : (old new : AgentRecord H P) (all : List Combination) → FormsAll old all new → Leads old new
      forms-kept old new all (formed, (mid, each, evicts, number), made) k =
          let gone = removes (sides_of old) old.max_pairs mid.pairs formed.pairs evicts in
          let tried : Keeps mid = tries-each (sides_of old) all _ mid k each in
          subst (λ (a : AgentRecord H P). Holds a) (sym made)
          (subst (λ n. IsKept n formed.pairs) (sym number) (drops-each mid.next_number old.max_pairs gone.0 mid.pairs formed.pairs tried gone.1))

      -- ---- nomination and removal

      pub nominates-kept : (old new : AgentRecord H P) (path : Option Path) → Nominates old path new → Leads old new
      nominates-kept old new path h k = from (selects_path old new path h) where
        from : SelectsPath old path new → Holds new
        from (None, none, (is, same)) = made-kept old new same k
        from (Some top, chosen, h) =
            let able = chosen-able old.controlling (followed old) (selection_of old) top chosen in
            either (remains (followed old) top (selection_of old)) h
            (λ _ l. made-kept old new l.1 k)
            (λ _ l. made-kept _ new l.1
            (kept-change old.next_number top.number (nominated_by_self old.controlling old.lite) old.pairs
            (λ p _. (self_kept (not (is_nominated p) && (old.controlling || old.lite)) old.lite p).number)
            (λ p has same _. named-valid (not (is_nominated p) && (old.controlling || old.lite)) old.lite p
            (subst (λ (x : PairRecord). is_valid x ≡ true) (sym (one_pair old.pairs p top k.rising has able.0 same)) (eligible_valid old.controlling top able.1))) k))

      where-kept : (b : Bool) (old new : AgentRecord H P) (path : Option Path) → NominatesWhere b old path new → Leads old new
      where-kept true old new path h k = nominates-kept old new path h k
      where-kept false old new path h k = made-kept old new h.1 k

      pub expires-kept : (now : ℕ) (old new : AgentRecord H P) (path : Option Path) → RemovesExpired now old path new → Leads old new
      expires-kept now old new path h k = either (list_any (is_expired now old) old.pairs) h
          (λ _ j. made-kept (evaluated now j.0) new j.2
          (nominates-kept (expired_gone now old) j.0 path j.1 (kept-filter old.next_number (λ p. not (is_expired now old p)) old.pairs k)))
          (λ _ j. made-kept (state_updated true now old) new j.1 k)

      pub reselects-kept : (loses : Bool) (old new : AgentRecord H P) (path : Option Path) → Reselects loses old path new → Leads old new
      reselects-kept true old new path (named, nominates, made) k =
          made-kept (evaluated (unwrap_or old.last_time 0) named) new made (nominates-kept old named path nominates k)
      reselects-kept false old new path (none, made) k = made-kept old new made k

      -- ---- responses

      again-kept : (a : AgentRecord H P) → Leads a (formed_again a)
      again-kept a k = each-way (λ x. Holds x) a k
          (λ i j may. kept-push a.next_number a.pairs (formed a i j) refl (s.fresh _ _ _ _ k.low) k)

      success-kept : (now : ℕ) (old new : AgentRecord H P) (via : Path) (m : Message) (emitted : Emitted) → HandlesSuccess now old via m emitted new → Leads old new
      success-kept now old new via m emitted (recorded, (i, p, after, found, keeps, takes, made), (path, mid, nominates, is, done)) k =
          made-kept (evaluated now mid) new done (nominates-kept (formed_again recorded) mid path nominates (again-kept recorded (made-kept _ recorded made puts))) where
            number : after.number ≡ p.number
            number = ap (λ (x : PairRecord). x.number) takes.3

            puts : IsKept old.next_number (slice_set old.pairs i after)
            puts = subst (λ (ps : List PairRecord). IsKept old.next_number ps) (sym (put_at old.pairs i p after k.rising found number))
                (kept-change old.next_number after.number (λ _. after) old.pairs (λ q same. sym same)
                (λ q has same _. s.answered p after now m.id takes (k.each p (Has-get old.pairs i p found))) k)

      switched-kept : (a : AgentRecord H P) → Leads a (switched a)
      switched-kept a k = kept-map a.next_number (with_priority_in (switched_sides a)) a.pairs (λ p. refl) (λ p has q. s.ranked p _ q) k

      failure-kept : (old new : AgentRecord H P) (via : Path) (m : Message) (emitted : Emitted) → HandlesFailure old via m emitted new → Leads old new
      failure-kept old new via m emitted h k =
          by_failure (λ _ a. Holds a) old new via m emitted notes (λ code. switched-kept (recoded code old) (notes code)) h where
            notes : (code : PairRecord → Option ℕ) → Holds (recoded code old)
            notes code = kept-map old.next_number (coded code) old.pairs (λ p. refl) (λ p has q. s.noted p (code p) q) k

      -- ---- requests

      module _ (mac : H → List ℕ → List ℕ → List ℕ) (q : RequestRecord) (early : q.time ≤ clock) where
        pair : (l r number : ℕ) (a new : AgentRecord H P) (emitted : Emitted) → RecordsAndResponds mac q l r number a emitted new → Leads a new
        pair l r number a new emitted (path, mid, nominates, (values, is, made)) k =
            let recorded : Holds (pair_served q number a) =
            kept-change a.next_number number (after_request q a) a.pairs (λ p _. request-number q a p)
            (λ p has _ kept. s.requested p (after_request q a p) q.time (request-at q a p) early kept) k in
            let named = where-kept (selects_at_requests a && is_valid_at number a.pairs) (pair_served q number a) mid path nominates recorded in
            made-kept _ new made named

        takes : (l r : ℕ) (number : Option ℕ) (a new : AgentRecord H P) (emitted : Emitted) → FindsOrAddsPair mac q l r number a emitted new → Leads a new
        takes l r (Some number) a new emitted h k = pair l r number a new emitted h k
        takes l r None a new emitted h k = either (candidate_at a.local l).discarded h (λ _ j. made-kept a new j.1 k)
            (λ _ j. pair l r a.next_number (with_pair (formed a l r) a) new emitted j.1 (kept-push a.next_number a.pairs (formed a l r) refl (s.fresh _ _ _ _ k.low) k))

        joins-at : (l : ℕ) (place : RemotePlace) (a new : AgentRecord H P) (emitted : Emitted) → AddsUnknownSender mac q l place a emitted new → Leads a new
        joins-at l (Known r) a new emitted (number, between, h) k = takes l r number a new emitted h k
        joins-at l Barred a new emitted h k = made-kept a new h.1 k
        joins-at l Full a new emitted h k = made-kept a new h.1 k
        joins-at l Unknown a new emitted (number, between, h) k = takes l _ number (with_sender q a) new emitted h k
        joins-at l (Vacant r) a new emitted (number, between, h) k = takes l r number (with_sender_at r q a) new emitted h k

        admitted : (l : ℕ) (a new : AgentRecord H P) (emitted : Emitted) → CountsAndServes mac q l a emitted new → Leads a new
        admitted l a new emitted h k = either (is_misled a.controlling q) h (λ _ j. made-kept a new j.1 k)
            (λ _ j. joins-at l j.0 (request_counted a) new emitted j.2 k)

        resolves-by : (conflict : Conflict) (l : ℕ) (a new : AgentRecord H P) (emitted : Emitted) → ResolvesRoleConflictBy mac conflict q l a emitted new → Leads a new
        resolves-by Absent l a new emitted h k = admitted l a new emitted h k
        resolves-by Send487 l a new emitted (values, is, made) k = made-kept _ new made k
        resolves-by SwitchRole l a new emitted h k = admitted l (switched a) new emitted h (switched-kept a k)

        here : (place : Option ℕ) (a new : AgentRecord H P) (emitted : Emitted) → MatchOption place (Drops a emitted new) (λ l. ResolvesRoleConflict mac q l a emitted new) → Leads a new
        here None a new emitted h k = made-kept a new h.1 k
        here (Some l) a new emitted h k = resolves-by (conflict_of a q) l a new emitted h k

        pub serves-kept : (a new : AgentRecord H P) (emitted : Emitted) → Serves mac q a emitted new → Leads a new
        serves-kept a new emitted h k = either (is_for_other_peer a q) (in_turn mac q a new emitted h) (λ _ j. made-kept a new j.1 k) (λ _ j. here (local_place a.local q) a new emitted j k)

        requested : (remote : Option IceCreds) (a new : AgentRecord H P) (emitted : Emitted) → MatchOption remote (Queues q a emitted new) (λ _. Serves mac q a emitted new) → Leads a new
        requested None a new emitted h k = made-kept _ new h.1 k
        requested (Some peer) a new emitted h k = serves-kept a new emitted h k

      -- ---- packets

      module _ (mac : H → List ℕ → List ℕ → List ℕ) where
        by-class : (c : Class) (now : ℕ) (old mid : AgentRecord H P) (via : Path) (m : Message) (emitted : Emitted) → now ≤ clock → Takes mac c now old via m emitted mid → Leads old mid
        by-class class.Request now old mid via m emitted early h k = requested mac (request_in now via m) early old.remote_creds old mid emitted h k
        by-class class.Success now old mid via m emitted early h k = success-kept now old mid via m emitted h k
        by-class class.Failure now old mid via m emitted early h k = failure-kept old mid via m emitted h k
        by-class class.Indication now old mid via m emitted early h k = absurd h
        by-class class.Unknown now old mid via m emitted early h k = absurd h

        handled : (now : ℕ) (old new : AgentRecord H P) (via : Path) (m : Message) (r : Result Bool IceError) (emitted : Emitted) → now ≤ clock → HandlesPacket mac now old via m r emitted new → Leads old new
        handled now old new via m (Ok false) emitted early (rejected, is, made) k = made-kept old new made k
        handled now old new via m (Ok true) emitted early (accepted, (mid, takes_it, made)) k =
            made-kept (discovered_emitted m.class emitted via mid) new made (by-class m.class now old mid via m emitted early takes_it k)
        handled now old new via m (Err error) emitted early (may, is, made) k = made-kept old new made k

        pub received-kept : (answers : P → CandidateRecord → ℕ → ℕ → Type 0) (now : ℕ) (old new : AgentRecord H P) (via : Path) (bytes : List ℕ) (e : Entry)
            → now ≤ clock → Receives mac answers now old via bytes e new → Leads old new
        received-kept answers now old new via bytes e early (inl (fault, has, is, made)) k = made-kept old new made k
        received-kept answers now old new via bytes e early (inr (m, reads, (r, emitted, is, handles))) k = handled now old new via m r emitted early handles k
