-- How the rules change the number of checks that pairs still send before they may be removed after timeout. A request that adds
-- a pair adds as many as a pair may have, and a `handle_timeout` call takes at most one.
use Rattle.is_pair.specs.Due as due
use Rattle.is_pair.proofs.PairEntries.ChangedEntry.{rises-changed, rises-filter}
use Rattle.is_stun.specs.declared.header.Class.TheVariants as class
use Rattle.is_theorems.proofs.Common.{each-way, formed_again}
use Rattle.is_theorems.proofs.Common.{[], ◌&&◌, ◌*◌, ◌++◌, ◌+◌, ◌-◌, ◌||◌, ◌∙◌, ◌∷◌, ◌≡◌, ◌≤◌, Absent, AddsUnknownSender, after_request}
use Rattle.is_theorems.proofs.Common.{AgentRecord, all_scheduled, ap, arith, as_taken, scheduled, at_request, at_timeout, Barred, Bool}
use Rattle.is_theorems.proofs.Common.{candidate_at, CandidateRecord, change_at, change_pair, checked, ChecksTop, Class, Conflict}
use Rattle.is_theorems.proofs.Common.{conflict_of, consent_of, CountsAndServes, discovered_emitted, Drops, Emitted, Entry, Err, evaluated}
use Rattle.is_theorems.proofs.Common.{expired_gone, false, FindsOrAddsPair, first_taken, followed, formed, Full, gives_way, HandlesFailure}
use Rattle.is_theorems.proofs.Common.{HandlesSuccess, hastened, HaveConsent, IceCreds, IceError, if◌then◌else◌, in_turn, inl, inr}
use Rattle.is_theorems.proofs.Common.{is_expired, is_for_other_peer, is_left_out, is_misled, is_nominated, is_numbered, is_valid_at, Issued}
use Rattle.is_theorems.proofs.Common.{Known, length, length-append, List, list_any, local_place, local_with, MaintainsPairs, map}
use Rattle.is_theorems.proofs.Common.{mapped_candidate, MatchOption, MayCheck, Message, nominated_by_peer, nominated_by_self, Nominates}
use Rattle.is_theorems.proofs.Common.{nominates_at_once, None, not, numbers, Ok, Option, pair_served, PairRecord, Path, path_left, Queues}
use Rattle.is_theorems.proofs.Common.{Receives, RecordsAndResponds, refl, remains, RemotePlace, RemovesExpired, renominated, request_at}
use Rattle.is_theorems.proofs.Common.{request_counted, request_in, RequestRecord, ResolvesRoleConflict, ResolvesRoleConflictBy, Result}
use Rattle.is_theorems.proofs.Common.{rises, rising-each, same, selection_of, selects_at_requests, Send487, Serves, state_updated, silent_gone}
use Rattle.is_theorems.proofs.Common.{SocketAddr, Some, Stream, StunTiming, subst, suc-mul, success_counted, switched, switched_sides}
use Rattle.is_theorems.proofs.Common.{SwitchRole, sym, Takes, timeout_begun, TimesOut, true, Unknown, Vacant, validated, validated_by_peer}
use Rattle.is_theorems.proofs.Common.{with_pair, with_priority_in, with_request, with_sender, with_sender_at, ℕ}
use Rattle.is_theorems.proofs.DuePairs.AfterNominationAndRemoval.{Base, Thins, consent-same, names-thins}
use Rattle.is_theorems.proofs.RuleEffects.UnchangedSettings.{either}
use Rattle.is_theorems.proofs.RuleEffects.ChangedPairs.{self_kept}
use Rattle.is_theorems.proofs.RuleEffects.TriggeredPairs.{triggered_by, by_trigger}
use Rattle.is_theorems.proofs.RuleEffects.NominatedPairs.{SelectsPath, selects_path}
use Rattle.is_theorems.proofs.RemainingChecks.RemainingOfPairs.{unspent, unspent-alike, unspent-answered, unspent-checked, all-spent}
use Rattle.is_theorems.proofs.RemainingChecks.RemainingOfPairs.{unspents, unspents-map, unspents-push, unspents-filter, unspents-set}
use Rattle.is_theorems.proofs.RemainingChecks.RemainingOfPairs.{unspents-change}
use Rattle.is_theorems.proofs.BasicLemmas.PairsInTurn.{by-begins, sent-pairs, sent_at}
use Rattle.is_theorems.proofs.BasicLemmas.ServedPairs.{numbered-by}
use Rattle.is_theorems.proofs.RuleEffects.NotedErrors.{coded, recoded, by_failure}
use Rattle.is_theorems.proofs.RuleEffects.HastenedPairs.{by-hastened, due_next, Hastens}
use Rattle.is_theorems.proofs.RuleEffects.PathsThatAreLeft.{gives-stores}

-- what stays of the agent
pub record Held : Type 0 where
  pub lite : Bool
  pub timing : StunTiming

-- one more pair
one-more : (n m : ℕ) → (n + 1) * m ≡ n * m + m
one-more n m = ap (λ (k : ℕ). k * m) (omega arith) ∙ suc-mul n m

-- the pairs are changed each by itself, and store the same checks
each : (m : ℕ) (f : PairRecord → PairRecord) (xs : List PairRecord) (n : ℕ) → ((p : PairRecord) → (f p).checks ≡ p.checks) → unspents m xs + n ≤ unspents m (map f xs) + n + 0
each m f xs n same = let le = unspents-map m f xs (λ p. unspent-alike m p (f p) (same p)) in omega (arith, le)

at-checks : (n : ℕ) (f : PairRecord → PairRecord) (p : PairRecord) → (f p).checks ≡ p.checks → (change_at n f p).checks ≡ p.checks
at-checks n f p same = by (is_numbered n p) where
  by : (b : Bool) → (if b then f p else p).checks ≡ p.checks
  by true = same
  by false = refl

at-number : (n : ℕ) (f : PairRecord → PairRecord) (p : PairRecord) → (f p).number ≡ p.number → (change_at n f p).number ≡ p.number
at-number n f p same = by (is_numbered n p) where
  by : (b : Bool) → (if b then f p else p).number ≡ p.number
  by true = same
  by false = refl

-- a request leaves the checks of its pair
request-checks : {H P : Type 0} (q : RequestRecord) (s : AgentRecord H P) (p : PairRecord) → (after_request q s p).checks ≡ p.checks
request-checks q s p =
    let taken : RequestRecord = as_taken (numbers s) q in
    let w : PairRecord = with_request taken.time (triggered_by q s p) in
    let v : PairRecord = validated_by_peer s.controlling s.lite w in
    let kept : (nominated_by_peer s.controlling s.lite taken v).checks ≡ p.checks =
    (self_kept (not s.controlling && taken.use_candidate && not (is_nominated v)) s.lite v).checks
    ∙ (valid (s.lite && not s.controlling) w ∙ by_trigger (λ (x : PairRecord). x.checks ≡ p.checks) q s p (λ due. refl)) in
    numbered-by (λ x. x.checks ≡ p.checks) s.controlling taken.nomination (nominated_by_peer s.controlling s.lite taken v) kept (λ n. kept) where
      valid : (b : Bool) (p : PairRecord) → (if b then validated p else p).checks ≡ p.checks
      valid true p = refl
      valid false p = refl

module _ {H P : Type 0} where
  abbrev pub held_of : AgentRecord H P → Held
  held_of a = record { lite = a.lite; timing = a.timing }

  module _ (m : ℕ) where
    -- at most k checks of them are sent, and each added pair has m more
    abbrev pub Spends : ℕ → AgentRecord H P → AgentRecord H P → Type 0
    Spends k old new =
        (held_of new ≡ held_of old) × (length old.local ≤ length new.local)
        × (unspents m old.pairs + new.next_number * m ≤ unspents m new.pairs + old.next_number * m + k)

    pub spends-to : (k : ℕ) (old needed new : AgentRecord H P) → Spends k old needed → new ≡ needed → Spends k old new
    spends-to k old needed new h made = subst (λ (a : AgentRecord H P). Spends k old a) (sym made) h

    pub spends-none : (old new : AgentRecord H P) → new ≡ old → Spends 0 old new
    spends-none old new made = spends-to 0 old old new (refl, omega arith, omega arith) made

    pub spends-on : (i k : ℕ) (x y z : AgentRecord H P) → Spends i x y → Spends k y z → Spends (k + i) x z
    spends-on i k x y z (held, grown, less) (later_held, later_grown, later_less) =
        (later_held ∙ held, omega (arith, grown, later_grown), counted (unspents m x.pairs) (unspents m y.pairs) (unspents m z.pairs) (x.next_number * m) (y.next_number * m) (z.next_number * m) less later_less) where
          counted : (a b c d e f : ℕ) → a + e ≤ b + d + i → b + f ≤ c + e + k → a + f ≤ c + d + (k + i)
          counted a b c d e f h l = omega (arith, h, l)

    -- ---- nomination

    pub nominates-spends : (old new : AgentRecord H P) (path : Option Path) → Nominates old path new → Spends 0 old new
    nominates-spends old new path h = from (selects_path old new path h) where
      from : SelectsPath old path new → Spends 0 old new
      from (None, greatest, (is, made)) = spends-none old new made
      from (Some top, greatest, k) = either (remains (followed old) top (selection_of old)) k
          (λ _ l. spends-none old new l.1)
          (λ _ l. spends-to 0 old _ new (
            refl,
            omega arith,
            each m (change_at top.number (nominated_by_self old.controlling old.lite)) old.pairs (old.next_number * m)
                (λ p. at-checks top.number (nominated_by_self old.controlling old.lite) p (self_kept (not (is_nominated p) && (old.controlling || old.lite)) old.lite p).checks),
          ) l.1)

    nominates-rises : (old new : AgentRecord H P) (path : Option Path) → Nominates old path new → rises new.pairs ≡ rises old.pairs
    nominates-rises old new path h = from (selects_path old new path h) where
      from : SelectsPath old path new → rises new.pairs ≡ rises old.pairs
      from (None, greatest, (is, made)) = ap (λ (a : AgentRecord H P). rises a.pairs) made
      from (Some top, greatest, k) = either (remains (followed old) top (selection_of old)) k
          (λ _ l. ap (λ (a : AgentRecord H P). rises a.pairs) l.1)
          (λ _ l. ap (λ (a : AgentRecord H P). rises a.pairs) l.1
          ∙ rises-changed (change_at top.number (nominated_by_self old.controlling old.lite))
          (λ p. at-number top.number (nominated_by_self old.controlling old.lite) p (self_kept (not (is_nominated p) && (old.controlling || old.lite)) old.lite p).number) old.pairs)

    -- ---- roles

    switches : (s : AgentRecord H P) → Spends 0 s (switched s)
    switches s = (
      refl,
      omega arith,
      each m (with_priority_in (switched_sides s)) s.pairs (s.next_number * m) (λ p. refl),
    )

    failure : (old new : AgentRecord H P) (via : Path) (message : Message) (emitted : Emitted) → HandlesFailure old via message emitted new → Spends 0 old new
    failure old new via message emitted h =
        by_failure (λ _ a. Spends 0 old a) old new via message emitted notes
        (λ code. spends-on 0 0 old (recoded code old) (switched (recoded code old)) (notes code) (switches (recoded code old))) h where
          notes : (code : PairRecord → Option ℕ) → Spends 0 old (recoded code old)
          notes code = (refl, omega arith, each m (coded code) old.pairs (old.next_number * m) (λ p. refl))

    -- ---- responses

    mapped-grows : (a : AgentRecord H P) (p : PairRecord) (mapped : Option SocketAddr) → length a.local ≤ length (local_with p mapped a)
    mapped-grows a p None = omega arith
    mapped-grows a p (Some mapped) = by (is_left_out a.max_discovered a.local mapped) where
      by : (b : Bool) → length a.local ≤ length (if b then a.local else a.local ++ mapped_candidate a p mapped ∷ [])
      by true = omega arith
      by false = let long : length (a.local ++ mapped_candidate a p mapped ∷ []) ≡ length a.local + 1 = length-append a.local (mapped_candidate a p mapped ∷ []) in omega (arith, long)

    again : (s : AgentRecord H P) → Spends 0 s (formed_again s)
    again s = each-way (λ a. Spends 0 s a) s (let k = spends-none s s refl in (k.0, k.1, k.2)) (λ i j may. (
      refl,
      omega arith,
      (let all = unspents-push m (formed s i j) s.pairs refl in let more = one-more s.next_number m in omega (arith, all, more)),
    ))

    success : (now : ℕ) (old new : AgentRecord H P) (via : Path) (message : Message) (emitted : Emitted) → HandlesSuccess now old via message emitted new → Spends 0 old new
    success now old new via message emitted (recorded, (place, p, after, at, keeps, (i, c, c_at, is), made), (named, mid, nominates, emitted_is, done)) =
        spends-on 0 0 old recorded new
        (spends-to 0 old _ recorded (
          refl,
          mapped-grows (success_counted old) p message.attributes.xor_mapped_address,
          (let le = unspents-set m old.pairs place p after at (subst (λ (x : PairRecord). unspent m p ≤ unspent m x) (sym is) (unspent-answered m now i c p)) in omega (arith, le)),
        ) made)
        (spends-on 0 0 recorded (formed_again recorded) new (again recorded)
        (spends-to 0 (formed_again recorded) (evaluated now mid) new (let k = nominates-spends (formed_again recorded) mid named nominates in (k.0, k.1, k.2)) done))

    -- ---- requests

    module _ (mac : H → List ℕ → List ℕ → List ℕ) where
      module _ (q : RequestRecord) where
        pair : (l r number : ℕ) (s new : AgentRecord H P) (emitted : Emitted) → RecordsAndResponds mac q l r number s emitted new → Spends 0 s new
        pair l r number s new emitted (path, mid, nominates, (values, is, made)) =
            spends-to 0 s _ new
            (let k = spends-on 0 0 s (pair_served q number s) mid (
              refl,
              omega arith,
              each m (change_at number (after_request q s)) s.pairs (s.next_number * m) (λ p. at-checks number (after_request q s) p (request-checks q s p)),
            )
            (either (selects_at_requests s && is_valid_at number s.pairs) nominates
            (λ _ k. nominates-spends (pair_served q number s) mid path k)
            (λ _ k. spends-none (pair_served q number s) mid k.1)) in (k.0, k.1, k.2)) made

        takes : (l r : ℕ) (number : Option ℕ) (s new : AgentRecord H P) (emitted : Emitted) → FindsOrAddsPair mac q l r number s emitted new → Spends 0 s new
        takes l r (Some number) s new emitted h = pair l r number s new emitted h
        takes l r None s new emitted h = either (candidate_at s.local l).discarded h
            (λ _ k. spends-none s new k.1)
            (λ _ k. spends-on 0 0 s (with_pair (formed s l r) s) new (
              refl,
              omega arith,
              (let all = unspents-push m (formed s l r) s.pairs refl in let more = one-more s.next_number m in omega (arith, all, more)),
            )
            (pair l r s.next_number (with_pair (formed s l r) s) new emitted k.1))

        joins : (l : ℕ) (place : RemotePlace) (s new : AgentRecord H P) (emitted : Emitted) → AddsUnknownSender mac q l place s emitted new → Spends 0 s new
        joins l (Known r) s new emitted (number, between, h) = takes l r number s new emitted h
        joins l Barred s new emitted h = spends-none s new h.1
        joins l Unknown s new emitted (number, between, h) = let k = takes l _ number (with_sender q s) new emitted h in (k.0, k.1, k.2)
        joins l (Vacant r) s new emitted (number, between, h) = let k = takes l r number (with_sender_at r q s) new emitted h in (k.0, k.1, k.2)
        joins l Full s new emitted h = spends-none s new h.1

        admitted : (l : ℕ) (s new : AgentRecord H P) (emitted : Emitted) → CountsAndServes mac q l s emitted new → Spends 0 s new
        admitted l s new emitted h = either (is_misled s.controlling q) h
            (λ _ k. spends-none s new k.1)
            (λ _ k. (let g = joins l k.0 (request_counted s) new emitted k.2 in (g.0, g.1, g.2)))

        resolves : (conflict : Conflict) (l : ℕ) (s new : AgentRecord H P) (emitted : Emitted) → ResolvesRoleConflictBy mac conflict q l s emitted new → Spends 0 s new
        resolves Absent l s new emitted h = admitted l s new emitted h
        resolves Send487 l s new emitted (values, is, made) = spends-to 0 s _ new (refl, omega arith, omega arith) made
        resolves SwitchRole l s new emitted h = spends-on 0 0 s (switched s) new (switches s) (admitted l (switched s) new emitted h)

        here : (place : Option ℕ) (s new : AgentRecord H P) (emitted : Emitted) → MatchOption place (Drops s emitted new) (λ l. ResolvesRoleConflict mac q l s emitted new) → Spends 0 s new
        here None s new emitted h = spends-none s new h.1
        here (Some l) s new emitted h = resolves (conflict_of s q) l s new emitted h

        pub serves-spends : (s new : AgentRecord H P) (emitted : Emitted) → Serves mac q s emitted new → Spends 0 s new
        serves-spends s new emitted h = either (is_for_other_peer s q) (in_turn mac q s new emitted h) (λ _ k. spends-none s new k.1) (λ _ k. here (local_place s.local q) s new emitted k)

        requested : (remote : Option IceCreds) (s new : AgentRecord H P) (emitted : Emitted) → MatchOption remote (Queues q s emitted new) (λ _. Serves mac q s emitted new) → Spends 0 s new
        requested None s new emitted h = spends-to 0 s _ new (refl, omega arith, omega arith) h.1
        requested (Some peer) s new emitted h = serves-spends s new emitted h

      -- ---- packets

      by-class : (c : Class) (now : ℕ) (old mid : AgentRecord H P) (via : Path) (message : Message) (emitted : Emitted) → Takes mac c now old via message emitted mid → Spends 0 old mid
      by-class class.Request now old mid via message emitted h = requested (request_in now via message) old.remote_creds old mid emitted h
      by-class class.Success now old mid via message emitted h = success now old mid via message emitted h
      by-class class.Failure now old mid via message emitted h = failure old mid via message emitted h
      by-class class.Indication now old mid via message emitted h = absurd h
      by-class class.Unknown now old mid via message emitted h = absurd h

      pub receives-spends : (answers : P → CandidateRecord → ℕ → ℕ → Type 0) (now : ℕ) (old new : AgentRecord H P) (via : Path) (bytes : List ℕ) (e : Entry)
          → Receives mac answers now old via bytes e new → Spends 0 old new
      receives-spends answers now old new via bytes e (inl (fault, has_fault, is, made)) = spends-none old new made
      receives-spends answers now old new via bytes e (inr (message, reads, (Ok true, emitted, is, (accepted, (mid, takes_it, made))))) =
          spends-to 0 old (discovered_emitted message.class emitted via mid) new (let k = by-class message.class now old mid via message emitted takes_it in (k.0, k.1, k.2)) made
      receives-spends answers now old new via bytes e (inr (message, reads, (Ok false, emitted, is, (no_one, nothing, made)))) = spends-none old new made
      receives-spends answers now old new via bytes e (inr (message, reads, (Err error, emitted, is, (may, nothing, made)))) = spends-none old new made

      -- ---- timeouts

      -- a pair that gives way sent all its checks, and the others store the same ones
      leaves-spends : (now : ℕ) (a : AgentRecord H P) → a.timing.max_retransmits ≡ m → Spends 0 a (path_left now a)
      leaves-spends now a same_most = (
        refl,
        omega arith,
        (let le = unspents-filter m (λ p. not (gives_way now a p)) a.pairs (λ p has is. spent p (not-kept (gives_way now a p) is)) in
            let same = unspents-map m (hastened (Hastens now a) now) (silent_gone now a).pairs
            (λ p. unspent-alike m p (hastened (Hastens now a) now p) (by-hastened (λ x. x.checks ≡ p.checks) (Hastens now a) now p (λ at. refl) refl)) in
            omega (arith, le, same)),
      ) where
        not-kept : (b : Bool) → not b ≡ false → b ≡ true
        not-kept true h = refl
        not-kept false h = absurd (let no : true ≡ false = h in cc)

        spent : (p : PairRecord) → gives_way now a p ≡ true → unspent m p ≡ 0
        spent p gives = let many = gives-stores now a p gives in omega (arith, many, same_most)

      leaves-rises : (now : ℕ) (a : AgentRecord H P) → rises a.pairs ≡ true → rises (path_left now a).pairs ≡ true
      leaves-rises now a rising =
          rises-changed (hastened (Hastens now a) now) (λ p. by-hastened (λ x. x.number ≡ p.number) (Hastens now a) now p (λ at. refl) refl) (silent_gone now a).pairs
          ∙ rises-filter (λ p. not (gives_way now a p)) a.pairs rising

      expires-pairs : (now : ℕ) (old new : AgentRecord H P) (path : Option Path) → old.lite ≡ false → old.timing.max_retransmits ≡ m → HaveConsent now old → RemovesExpired now old path new → Spends 0 old new × (rises old.pairs ≡ true → rises new.pairs ≡ true)
      expires-pairs now old new path full same_most consents h = either (list_any (is_expired now old) old.pairs) h
          (λ _ k. (
          let gone : unspents m old.pairs ≤ unspents m (expired_gone now old).pairs =
          unspents-filter m (λ p. not (is_expired now old p)) old.pairs
          (λ p has is. subst (λ n. n - length p.checks ≡ 0) same_most (all-spent old.lite now old.timing p full (consents p has) is)) in
          let named = spends-on 0 0 old (expired_gone now old) k.0 (refl, omega arith, omega (arith, gone)) (nominates-spends (expired_gone now old) k.0 path k.1) in (
            spends-to 0 old (evaluated now k.0) new (named.0, named.1, named.2) k.2,
            λ rising. ap (λ (a : AgentRecord H P). rises a.pairs) k.2 ∙ (nominates-rises (expired_gone now old) k.0 path k.1 ∙ rises-filter (λ p. not (is_expired now old p)) old.pairs rising),
          )))
          (λ _ k. (spends-to 0 old (state_updated true now old) new (refl, omega arith, omega arith) k.1, λ rising. ap (λ (a : AgentRecord H P). rises a.pairs) k.1 ∙ rising))

      check : (now : ℕ) (remote : Option IceCreds) (old new : AgentRecord H P) (s t : Stream) (issued : Option Issued) → old.lite ≡ false → rises old.pairs ≡ true
          → MayCheck mac now remote old s issued new t → Spends 1 old new
      check now None old new s t issued full rising (is, made, drawn) = spends-to 1 old old new (refl, omega arith, omega arith) made
      check now (Some remote) old new s t issued full rising h = either old.lite h
          (λ is _. absurd (let no : true ≡ false = sym is ∙ full in cc))
          (λ _ k. next k.0 k.2) where
            all : unspents m old.pairs ≤ unspents m (map (scheduled now old.timing) old.pairs)
            all = unspents-map m (scheduled now old.timing) old.pairs (λ p. unspent-alike m p (scheduled now old.timing p) refl)

            next : (top : Option PairRecord) → ChecksTop mac now remote top (all_scheduled now old) s issued new t → Spends 1 old new
            next None (is, made, drawn) = spends-to 1 old (all_scheduled now old) new (refl, omega arith, (let le = all in omega (arith, le))) made
            next (Some p) (id, drawn, values, is, made) =
                let begins : Bool = nominates_at_once (all_scheduled now old) in
                let change : PairRecord → PairRecord = sent_at begins now old.timing old.controlling id in
                let one : unspents m (map (scheduled now old.timing) old.pairs)
                ≤ unspents m (change_pair p.number (checked now old.timing old.controlling id)
                (if begins then change_pair p.number renominated (map (scheduled now old.timing) old.pairs) else map (scheduled now old.timing) old.pairs)) + 1 =
                subst (λ ps. unspents m (map (scheduled now old.timing) old.pairs) ≤ unspents m ps + 1)
                (sym (sent-pairs begins p.number now old.timing old.controlling id (map (scheduled now old.timing) old.pairs)))
                (unspents-change m p.number change (map (scheduled now old.timing) old.pairs)
                (λ x. by-begins begins (λ y. unspent m x ≤ unspent m y + 1) now old.timing old.controlling id x
                (unspent-checked m now old.timing old.controlling id (renominated x)) (unspent-checked m now old.timing old.controlling id x))
                (rising-each (map (scheduled now old.timing) old.pairs) (rises-changed (scheduled now old.timing) (λ x. refl) old.pairs ∙ rising))) in
                spends-to 1 old _ new (refl, omega arith, (let le = all in omega (arith, le, one))) made

      maintains : (now : ℕ) (old new : AgentRecord H P) (s t : Stream) (emitted : Emitted) → old.lite ≡ false → old.timing.max_retransmits ≡ m → rises old.pairs ≡ true → HaveConsent now old
          → MaintainsPairs mac now old s emitted new t → Spends 1 old new
      maintains now old new s t emitted full same_most rising consents (first, second, issued, named, kept, nominating, giving, checking, is) =
          let a = spends-on 0 0 (at_timeout now old) (path_left now (at_timeout now old)) named (leaves-spends now (at_timeout now old) same_most)
          (nominates-spends (path_left now (at_timeout now old)) named first nominating) in
          let named_full : named.lite ≡ false = ap (λ (x : Held). x.lite) a.0 ∙ full in
          let named_most : named.timing.max_retransmits ≡ m = ap (λ (x : Held). x.timing.max_retransmits) a.0 ∙ same_most in
          let b = expires-pairs now named kept second named_full named_most (consents-named (names-thins now (at_timeout now old) named first nominating)) giving in
          let kept_rising = b.1 (nominates-rises (path_left now (at_timeout now old)) named first nominating ∙ leaves-rises now (at_timeout now old) rising) in
          let c = check now kept.remote_creds kept new s t issued (ap (λ (x : Held). x.lite) b.0.0 ∙ named_full) kept_rising checking in
          let all = spends-on 0 1 (at_timeout now old) kept new (spends-on 0 0 (at_timeout now old) named kept a b.0) c in
          (all.0, all.1, all.2) where
            consents-named : Thins (due_next now) (at_timeout now old) named → HaveConsent now named
            consents-named thins q has =
                let o = thins.1.back q has in
                consent-same (consent_of named.timing) now o.0 q o.2.consented o.2.heard
                ∙ (ap (λ (b : Base). due.has_consent (consent_of b.timing) now o.0) thins.0 ∙ consents o.0 o.1)

      pub times-out-spends : (now : ℕ) (old new : AgentRecord H P) (s t : Stream) (r : Result (Unit {0}) IceError) (emitted : Emitted) → old.lite ≡ false → old.timing.max_retransmits ≡ m → rises old.pairs ≡ true → HaveConsent now old
          → TimesOut mac now old s r emitted new t → Spends 1 old new
      times-out-spends now old new s t (Ok _) emitted full same_most rising consents h = by (request_at now old) h where
        by : (q : Option RequestRecord) → MatchOption q (MaintainsPairs mac now (timeout_begun now old) s emitted new t) (λ q. Serves mac q (first_taken (at_request now (timeout_begun now old))) emitted new × (t ≡ s)) → Spends 1 old new
        by None k = let all = maintains now (timeout_begun now old) new s t emitted full same_most rising consents k in (all.0, all.1, all.2)
        by (Some q) (k, drawn) = let all = serves-spends q (first_taken (at_request now (timeout_begun now old))) new emitted k in let less = all.2 in (all.0, all.1, omega (arith, less))
      times-out-spends now old new s t (Err error) emitted full same_most rising consents (may, is, made, drawn) = spends-to 1 old old new (refl, omega arith, omega arith) made
