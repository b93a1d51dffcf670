-- While the agent is full, each valid pair has a check that got a response.
use Rattle.is_pair.specs.Pairs.{last_of}
use Rattle.is_stun.specs.declared.header.Class.TheVariants as class
use Rattle.is_theorems.proofs.Common.{each-way, formed_again}
use Rattle.is_theorems.proofs.Common.{[], ◌&&◌, ◌++◌, ◌||◌, ◌∷◌, ◌≡◌, Absent, AddsUnknownSender, after_request, AgentRecord, all_scheduled}
use Rattle.is_theorems.proofs.Common.{as_taken, scheduled, at_request, at_timeout, Barred, Bool, candidate_at, CandidateRecord, change_at}
use Rattle.is_theorems.proofs.Common.{checked, CheckState, ChecksTop, Class, Combination, combined_priority, Conflict, conflict_of}
use Rattle.is_theorems.proofs.Common.{CountsAndServes, discovered_emitted, Drops, Each, Emitted, Entry, Err, evaluated, expired_gone, false}
use Rattle.is_theorems.proofs.Common.{filter, FindsOrAddsPair, first_taken, followed, Formed, formed, FormsAll, Full, gives_way}
use Rattle.is_theorems.proofs.Common.{HandlesFailure, HandlesPacket, HandlesSuccess, Has, hastened, heard, heard_at, IceCreds, IceError}
use Rattle.is_theorems.proofs.Common.{if◌then◌else◌, in_turn, inl, InProgress, inr, is_expired, is_for_other_peer, is_misled, is_nominated}
use Rattle.is_theorems.proofs.Common.{is_numbered, is_some, is_valid, is_valid_at, is_valid_state, Issued, Known, List, list_any}
use Rattle.is_theorems.proofs.Common.{local_place, MaintainsPairs, map, MatchOption, MayCheck, Message, nat_lt, nominated}
use Rattle.is_theorems.proofs.Common.{nominated_by_peer, nominated_by_self, Nominates, nominates_at_once, NominatesWhere, None, not}
use Rattle.is_theorems.proofs.Common.{numbers, Ok, Option, pair_of, pair_served, PairRecord, Path, path_left, Queues, Receives}
use Rattle.is_theorems.proofs.Common.{RecordsAndResponds, refl, remains, RemotePlace, removes, RemovesExpired, RemovesInTurn, request_at}
use Rattle.is_theorems.proofs.Common.{request_counted, request_in, RequestRecord, Reselects, ResolvesRoleConflict, ResolvesRoleConflictBy}
use Rattle.is_theorems.proofs.Common.{Result, selection_of, selects_at_requests, Send487, served, Serves, state_updated, sides_of, SidesRecord}
use Rattle.is_theorems.proofs.Common.{silent_gone, slice_set, Some, state_from, state_once_sent, Stream, StunTiming, subst, Succeeded}
use Rattle.is_theorems.proofs.Common.{switched, switched_sides, SwitchRole, sym, Takes, taking_over, timeout_begun, TimesOut, Tries, true}
use Rattle.is_theorems.proofs.Common.{undue, Unknown, unwrap_or, Vacant, Waiting, with_pair, with_priority_in, with_request, with_sender}
use Rattle.is_theorems.proofs.Common.{with_sender_at, without, ℕ}
use Rattle.is_theorems.proofs.CallEffects.ChecksAndResponses.{Has-set}
use Rattle.is_theorems.proofs.RuleEffects.ChangedPairs.{Has-map}
use Rattle.is_theorems.proofs.RuleEffects.EarlierAndNewPairs.{choose, Has-filter, Has-push}
use Rattle.is_theorems.proofs.RuleEffects.NominatedPairs.{SelectsPath, selects_path}
use Rattle.is_theorems.proofs.RuleEffects.TriggeredPairs.{by_trigger, triggered_by}
use Rattle.is_theorems.proofs.RuleEffects.UnchangedSettings.{either}
use Rattle.is_theorems.proofs.BasicLemmas.PairsInTurn.{by-begins, sent-pairs, sent_at}
use Rattle.is_theorems.proofs.BasicLemmas.ServedPairs.{numbered-by}
use Rattle.is_theorems.proofs.RuleEffects.NotedErrors.{coded, recoded, by_failure}
use Rattle.is_theorems.proofs.RuleEffects.HastenedPairs.{by-hastened, Hastens}

-- ---- one pair

-- A valid pair has a check that got a response.
abbrev pub IsAnswered : PairRecord → Type 0
IsAnswered p = is_valid p ≡ true → is_some p.consented ≡ true

sent-valid : (s : CheckState) → is_valid_state (state_once_sent s) ≡ true → is_valid_state s ≡ true
sent-valid Waiting h = h
sent-valid InProgress h = h
sent-valid Succeeded h = h

from-valid : (s : CheckState) → is_valid_state (state_from s Waiting) ≡ true → is_valid_state s ≡ true
from-valid Waiting h = h
from-valid InProgress h = h
from-valid Succeeded h = h

some-last : (o : Option ℕ) → is_some o ≡ true → is_some (last_of o None) ≡ true
some-last None h = h
some-last (Some at) h = refl

checked-answered : (now : ℕ) (t : StunTiming) (controlling : Bool) (id : List ℕ) (p : PairRecord) → IsAnswered p → IsAnswered (checked now t controlling id p)
checked-answered now t controlling id p a valid = a (sent-valid p.state valid)

heard-answered : (now : ℕ) (last : Option ℕ) (p : PairRecord) → IsAnswered p → IsAnswered (heard_at now last p)
heard-answered now None p a = a
heard-answered now (Some at) p a = a

nominated-answered : (b l : Bool) (p : PairRecord) → IsAnswered p → IsAnswered (if b then nominated l p else p)
nominated-answered true true p a = a
nominated-answered true false p a = a
nominated-answered false l p a = a

served-answered : (c l : Bool) (q : RequestRecord) (p : PairRecord) → l ≡ false → IsAnswered p → IsAnswered (served c l q p)
served-answered c true q p full a = absurd (cc)
served-answered c false q p full a =
    let k = nominated-answered (not c && q.use_candidate && not (is_nominated (with_request q.time p))) false (with_request q.time p) a in
    numbered-by (λ x. IsAnswered x) c q.nomination (nominated_by_peer c false q (with_request q.time p)) k (λ n. k)

taken-answered : (lite : Bool) (other : PairRecord) (s : SidesRecord) (at : Combination) (number : ℕ) → IsAnswered other → IsAnswered (taking_over lite other (pair_of s at number))
taken-answered true other s at number a valid = some-last other.consented (a (from-valid other.state valid))
taken-answered false other s at number a valid = some-last other.consented (a (from-valid other.state valid))

at-answered : (n : ℕ) (f : PairRecord → PairRecord) (p : PairRecord) → IsAnswered p → IsAnswered (f p) → IsAnswered (change_at n f p)
at-answered n f p a changed = by (is_numbered n p) where
  by : (b : Bool) → IsAnswered (if b then f p else p)
  by true = changed
  by false = a

-- ---- lists of pairs

abbrev pub AreAnswered : List PairRecord → Type 0
AreAnswered ps = (p : PairRecord) → Has ps p → IsAnswered p

pub answered-map : (f : PairRecord → PairRecord) (ps : List PairRecord) → ((p : PairRecord) → IsAnswered p → IsAnswered (f p)) → AreAnswered ps → AreAnswered (map f ps)
answered-map f ps each all q has = let o = Has-map f ps q has in subst (λ (x : PairRecord). IsAnswered x) o.2 (each o.0 (all o.0 o.1))

pub answered-filter : (keep : PairRecord → Bool) (ps : List PairRecord) → AreAnswered ps → AreAnswered (filter keep ps)
answered-filter keep ps all q has = all q (Has-filter keep ps q has)

answered-push : (ps : List PairRecord) (p : PairRecord) → AreAnswered ps → IsAnswered p → AreAnswered (ps ++ p ∷ [])
answered-push ps p all one q has = elim (Has-push ps p q has) [
  | inl was ↦ all q was
  | inr now ↦ subst (λ (x : PairRecord). IsAnswered x) now one
]

pub unless-answered : (b : Bool) (ps : List PairRecord) → AreAnswered ps → AreAnswered (if b then ps else map undue ps)
unless-answered true ps all = all
unless-answered false ps all = answered-map undue ps (λ p a. a) all

-- ---- forming

tries-one : (s : SidesRecord) (at : Combination) (old new : Formed) → AreAnswered old.pairs → Tries s at old new → AreAnswered new.pairs
tries-one s at old new all (None, none, made) =
    subst (λ (f : Formed). AreAnswered f.pairs) (sym made) (answered-push old.pairs (pair_of s at old.next_number) all (λ is. is))
tries-one s at old new all (Some found, (has, redundant, greatest), made) =
    choose (nat_lt found.priority (combined_priority s at)) (λ f. new ≡ f) _ old made
    (λ replaced. subst (λ (f : Formed). AreAnswered f.pairs) (sym replaced)
    (answered-push (without (is_numbered found.number) old.pairs) (taking_over s.lite found (pair_of s at old.next_number))
    (answered-filter (λ q. not (is_numbered found.number q)) old.pairs all) (taken-answered s.lite found s at old.next_number (all found has))))
    (λ dropped. subst (λ (f : Formed). AreAnswered f.pairs) (sym dropped) all)

tries-each : (s : SidesRecord) (at : List Combination) (old new : Formed) → AreAnswered old.pairs → Each (Tries s) at old new → AreAnswered new.pairs
tries-each s [] old new all same = subst (λ (f : Formed). AreAnswered f.pairs) (sym same) all
tries-each s (at ∷ more) old new all (mid, one, others) = tries-each s more mid new (tries-one s at old mid all one) others

drops-each : (limit : ℕ) (gone old new : List PairRecord) → AreAnswered old → RemovesInTurn limit gone old new → AreAnswered new
drops-each limit [] old new all (within, same) = subst (λ (ps : List PairRecord). AreAnswered ps) (sym same) all
drops-each limit (p ∷ gone) old new all (over, has, others) =
    drops-each limit gone (without (is_numbered p.number) old) new (answered-filter (λ q. not (is_numbered p.number q)) old all) others

module _ {H P : Type 0} where
  -- The agent is full, and its timing has the rule of consent. Its valid pairs have checks that got a response.
  abbrev pub IsFirm : AgentRecord H P → Type 0
  IsFirm a = (a.lite ≡ false) × AreAnswered a.pairs

  abbrev pub Keeps : AgentRecord H P → AgentRecord H P → Type 0
  Keeps old new = IsFirm old → IsFirm new

  pub made-firm : (needed new : AgentRecord H P) → new ≡ needed → IsFirm needed → IsFirm new
  made-firm needed new made f = subst (λ (a : AgentRecord H P). IsFirm a) (sym made) f

  pub forms-firm : (old new : AgentRecord H P) (all : List Combination) → FormsAll old all new → Keeps old new
  forms-firm old new all (formed, (mid, each, evicts, number), made) f =
      let gone = removes (sides_of old) old.max_pairs mid.pairs formed.pairs evicts in
      subst (λ (a : AgentRecord H P). IsFirm a) (sym made)
      (f.0, drops-each old.max_pairs gone.0 mid.pairs formed.pairs (tries-each (sides_of old) all _ mid f.1 each) gone.1)

  -- ---- nomination and removal

  nominates-firm : (old new : AgentRecord H P) (path : Option Path) → Nominates old path new → Keeps old new
  nominates-firm old new path h f = from (selects_path old new path h) where
    from : SelectsPath old path new → IsFirm new
    from (None, none, (is, same)) = made-firm old new same f
    from (Some top, chosen, k) = either (remains (followed old) top (selection_of old)) k
        (λ _ l. made-firm old new l.1 f)
        (λ _ l. subst (λ (a : AgentRecord H P). IsFirm a) (sym l.1) (
          f.0,
          answered-map (change_at top.number (nominated_by_self old.controlling old.lite)) old.pairs
              (λ p a. at-answered top.number (nominated_by_self old.controlling old.lite) p a
              (nominated-answered (not (is_nominated p) && (old.controlling || old.lite)) old.lite p a)) f.1,
        ))

  where-firm : (b : Bool) (old new : AgentRecord H P) (path : Option Path) → NominatesWhere b old path new → Keeps old new
  where-firm true old new path h f = nominates-firm old new path h f
  where-firm false old new path h f = made-firm old new h.1 f

  expires-firm : (now : ℕ) (old new : AgentRecord H P) (path : Option Path) → RemovesExpired now old path new → Keeps old new
  expires-firm now old new path h f = either (list_any (is_expired now old) old.pairs) h
      (λ _ k. made-firm (evaluated now k.0) new k.2
      (nominates-firm (expired_gone now old) k.0 path k.1 (f.0, answered-filter (λ p. not (is_expired now old p)) old.pairs f.1)))
      (λ _ k. made-firm (state_updated true now old) new k.1 f)

  pub reselects-firm : (loses : Bool) (old new : AgentRecord H P) (path : Option Path) → Reselects loses old path new → Keeps old new
  reselects-firm true old new path (named, nominates, made) f =
      made-firm (evaluated (unwrap_or old.last_time 0) named) new made (nominates-firm old named path nominates f)
  reselects-firm false old new path (none, made) f = made-firm old new made f

  -- ---- checks

  check-firm : (mac : H → List ℕ → List ℕ → List ℕ) (now : ℕ) (remote : Option IceCreds) (old new : AgentRecord H P) (s t : Stream) (issued : Option Issued)
      → MayCheck mac now remote old s issued new t → Keeps old new
  check-firm mac now None old new s t issued (is, made, drawn) f = made-firm old new made f
  check-firm mac now (Some remote) old new s t issued h f = either old.lite h
      (λ _ k. subst (λ (a : AgentRecord H P). IsFirm a) (sym k.1) (f.0, answered-map (heard now) old.pairs (λ p a. heard-answered now p.last_request p a) f.1))
      (λ _ k. next k.0 k.2) where
        asks : AreAnswered (map (scheduled now old.timing) old.pairs)
        asks = answered-map (scheduled now old.timing) old.pairs (λ p a. a) f.1

        next : (top : Option PairRecord) → ChecksTop mac now remote top (all_scheduled now old) s issued new t → IsFirm new
        next None (is, made, drawn) = subst (λ (a : AgentRecord H P). IsFirm a) (sym made) (f.0, asks)
        next (Some p) (id, drawn, values, is, made) = subst (λ (a : AgentRecord H P). IsFirm a) (sym made) (
          f.0,
          (let begins : Bool = nominates_at_once (all_scheduled now old) in
              let change : PairRecord → PairRecord = sent_at begins now old.timing old.controlling id in
              subst (λ ps. AreAnswered ps) (sym (sent-pairs begins p.number now old.timing old.controlling id (map (scheduled now old.timing) old.pairs)))
              (answered-map (change_at p.number change) (map (scheduled now old.timing) old.pairs)
              (λ x a. at-answered p.number change x a
              (by-begins begins (λ y. IsAnswered y) now old.timing old.controlling id x (λ valid. a (sent-valid x.state valid)) (checked-answered now old.timing old.controlling id x a))) asks)),
        )

  maintains-firm : (mac : H → List ℕ → List ℕ → List ℕ) (now : ℕ) (old new : AgentRecord H P) (s t : Stream) (emitted : Emitted) → MaintainsPairs mac now old s emitted new t → Keeps old new
  maintains-firm mac now old new s t emitted (first, second, issued, named, kept, nominating, giving, checking, is) f =
      check-firm mac now kept.remote_creds kept new s t issued checking
      (expires-firm now named kept second giving (nominates-firm (path_left now (at_timeout now old)) named first nominating (
        f.0,
        answered-map (hastened (Hastens now (at_timeout now old)) now) (silent_gone now (at_timeout now old)).pairs
            (λ p a. by-hastened (λ x. IsAnswered x) (Hastens now (at_timeout now old)) now p (λ at. a) a)
            (answered-filter (λ p. not (gives_way now (at_timeout now old) p)) old.pairs f.1),
      )))

  -- ---- responses

  again-firm : (s : AgentRecord H P) → Keeps s (formed_again s)
  again-firm s f = each-way (λ a. IsFirm a) s (f.0, f.1) (λ i j may. (f.0, answered-push s.pairs (formed s i j) f.1 (λ is. is)))

  success-firm : (now : ℕ) (old new : AgentRecord H P) (via : Path) (m : Message) (emitted : Emitted) → HandlesSuccess now old via m emitted new → Keeps old new
  success-firm now old new via m emitted (recorded, (i, p, after, found, keeps, (place, c, at, took), made), (path, mid, nominates, is, done)) f =
      made-firm (evaluated now mid) new done (nominates-firm (formed_again recorded) mid path nominates
      (again-firm recorded (subst (λ (a : AgentRecord H P). IsFirm a) (sym made) (f.0, puts)))) where
        puts : AreAnswered (slice_set old.pairs i after)
        puts q has = elim (Has-set old.pairs i after q has) [
          | inl was ↦ f.1 q was
          | inr now ↦ subst (λ (x : PairRecord). IsAnswered x) now (subst (λ (x : PairRecord). IsAnswered x) (sym took) (λ valid. refl))
        ]

  switched-firm : (a : AgentRecord H P) → Keeps a (switched a)
  switched-firm a f = (f.0, answered-map (with_priority_in (switched_sides a)) a.pairs (λ p h. h) f.1)

  failure-firm : (old new : AgentRecord H P) (via : Path) (m : Message) (emitted : Emitted) → HandlesFailure old via m emitted new → Keeps old new
  failure-firm old new via m emitted h f =
      by_failure (λ _ a. IsFirm a) old new via m emitted notes (λ code. switched-firm (recoded code old) (notes code)) h where
        notes : (code : PairRecord → Option ℕ) → IsFirm (recoded code old)
        notes code = (f.0, answered-map (coded code) old.pairs (λ p k. k) f.1)

  -- ---- requests

  module _ (mac : H → List ℕ → List ℕ → List ℕ) (q : RequestRecord) where
    request-answered : (s : AgentRecord H P) (p : PairRecord) → s.lite ≡ false → IsAnswered p → IsAnswered (after_request q s p)
    request-answered s p full a = served-answered s.controlling s.lite (as_taken (numbers s) q) (triggered_by q s p) full (by_trigger (λ (x : PairRecord). IsAnswered x) q s p (λ due. a))

    pair : (l r number : ℕ) (s new : AgentRecord H P) (emitted : Emitted) → RecordsAndResponds mac q l r number s emitted new → Keeps s new
    pair l r number s new emitted (path, mid, nominates, (values, is, made)) f =
        let recorded : IsFirm (pair_served q number s) =
        (f.0, answered-map (change_at number (after_request q s)) s.pairs (λ p a. at-answered number (after_request q s) p a (request-answered s p f.0 a)) f.1) in
        let named = where-firm (selects_at_requests s && is_valid_at number s.pairs) (pair_served q number s) mid path nominates recorded in
        subst (λ (a : AgentRecord H P). IsFirm a) (sym made) named

    takes : (l r : ℕ) (number : Option ℕ) (s new : AgentRecord H P) (emitted : Emitted) → FindsOrAddsPair mac q l r number s emitted new → Keeps s new
    takes l r (Some number) s new emitted h f = pair l r number s new emitted h f
    takes l r None s new emitted h f = either (candidate_at s.local l).discarded h (λ _ k. made-firm s new k.1 f)
        (λ _ k. pair l r s.next_number (with_pair (formed s l r) s) new emitted k.1 (f.0, answered-push s.pairs (formed s l r) f.1 (λ is. is)))

    joins-at : (l : ℕ) (place : RemotePlace) (s new : AgentRecord H P) (emitted : Emitted) → AddsUnknownSender mac q l place s emitted new → Keeps s new
    joins-at l (Known r) s new emitted (number, between, h) f = takes l r number s new emitted h f
    joins-at l Barred s new emitted h f = made-firm s new h.1 f
    joins-at l Full s new emitted h f = made-firm s new h.1 f
    joins-at l Unknown s new emitted (number, between, h) f = takes l _ number (with_sender q s) new emitted h f
    joins-at l (Vacant r) s new emitted (number, between, h) f = takes l r number (with_sender_at r q s) new emitted h f

    admitted : (l : ℕ) (s new : AgentRecord H P) (emitted : Emitted) → CountsAndServes mac q l s emitted new → Keeps s new
    admitted l s new emitted h f = either (is_misled s.controlling q) h (λ _ k. made-firm s new k.1 f)
        (λ _ k. joins-at l k.0 (request_counted s) new emitted k.2 f)

    resolves-by : (conflict : Conflict) (l : ℕ) (s new : AgentRecord H P) (emitted : Emitted) → ResolvesRoleConflictBy mac conflict q l s emitted new → Keeps s new
    resolves-by Absent l s new emitted h f = admitted l s new emitted h f
    resolves-by Send487 l s new emitted (values, is, made) f = subst (λ (a : AgentRecord H P). IsFirm a) (sym made) f
    resolves-by SwitchRole l s new emitted h f = admitted l (switched s) new emitted h (switched-firm s f)

    here : (place : Option ℕ) (s new : AgentRecord H P) (emitted : Emitted) → MatchOption place (Drops s emitted new) (λ l. ResolvesRoleConflict mac q l s emitted new) → Keeps s new
    here None s new emitted h f = made-firm s new h.1 f
    here (Some l) s new emitted h f = resolves-by (conflict_of s q) l s new emitted h f

    serves : (s new : AgentRecord H P) (emitted : Emitted) → Serves mac q s emitted new → Keeps s new
    serves s new emitted h f = either (is_for_other_peer s q) (in_turn mac q s new emitted h) (λ _ k. made-firm s new k.1 f) (λ _ k. here (local_place s.local q) s new emitted k f)

    requested : (remote : Option IceCreds) (s new : AgentRecord H P) (emitted : Emitted) → MatchOption remote (Queues q s emitted new) (λ _. Serves mac q s emitted new) → Keeps s new
    requested None s new emitted h f = subst (λ (a : AgentRecord H P). IsFirm a) (sym h.1) f
    requested (Some peer) s new emitted h f = serves s new emitted h f

  -- ---- packets and timeouts

  module _ (mac : H → List ℕ → List ℕ → List ℕ) where
    by-class : (c : Class) (now : ℕ) (old mid : AgentRecord H P) (via : Path) (m : Message) (emitted : Emitted) → Takes mac c now old via m emitted mid → Keeps old mid
    by-class class.Request now old mid via m emitted h f = requested mac (request_in now via m) old.remote_creds old mid emitted h f
    by-class class.Success now old mid via m emitted h f = success-firm now old mid via m emitted h f
    by-class class.Failure now old mid via m emitted h f = failure-firm old mid via m emitted h f
    by-class class.Indication now old mid via m emitted h f = absurd h
    by-class class.Unknown now old mid via m emitted h f = absurd h

    handled : (now : ℕ) (old new : AgentRecord H P) (via : Path) (m : Message) (r : Result Bool IceError) (emitted : Emitted) → HandlesPacket mac now old via m r emitted new → Keeps old new
    handled now old new via m (Ok false) emitted (rejected, is, made) f = made-firm old new made f
    handled now old new via m (Ok true) emitted (accepted, (mid, takes_it, made)) f =
        made-firm (discovered_emitted m.class emitted via mid) new made (by-class m.class now old mid via m emitted takes_it f)
    handled now old new via m (Err error) emitted (may, is, made) f = made-firm old new made f

    pub received-firm : (answers : P → CandidateRecord → ℕ → ℕ → Type 0) (now : ℕ) (old new : AgentRecord H P) (via : Path) (bytes : List ℕ) (e : Entry)
        → Receives mac answers now old via bytes e new → Keeps old new
    received-firm answers now old new via bytes e (inl (fault, has, is, made)) f = made-firm old new made f
    received-firm answers now old new via bytes e (inr (m, reads, (r, emitted, is, handles))) f = handled now old new via m r emitted handles f

    pub timed-firm : (now : ℕ) (old new : AgentRecord H P) (s t : Stream) (r : Result (Unit {0}) IceError) (emitted : Emitted) → TimesOut mac now old s r emitted new t → Keeps old new
    timed-firm now old new s t (Ok _) emitted h f = by (request_at now old) h where
      by : (q : Option RequestRecord) → MatchOption q (MaintainsPairs mac now (timeout_begun now old) s emitted new t) (λ q. Serves mac q (first_taken (at_request now (timeout_begun now old))) emitted new × (t ≡ s)) → IsFirm new
      by None k = maintains-firm mac now (timeout_begun now old) new s t emitted k f
      by (Some q) (k, drawn) = serves mac q (first_taken (at_request now (timeout_begun now old))) new emitted k f
    timed-firm now old new s t (Err error) emitted (may, is, made, drawn) f = made-firm old new made f
