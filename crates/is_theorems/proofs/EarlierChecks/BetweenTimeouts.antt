-- Whatever happens between two `handle_timeout` calls leaves no more checks of other pairs before a pair, except for
-- one by each added pair, unless the pair itself is answered.
use Rattle.is_stun.specs.declared.header.Class.TheVariants as class
use Rattle.is_theorems.proofs.Common.{each-way, formed_again}
use Rattle.is_theorems.proofs.Common.{◌&&◌, ◌||◌, ◌∙◌, ◌≡◌, ◌≤◌, ◌⊎◌, Absent, AddsUnknownSender, after_request, AgentRecord, ap, arith}
use Rattle.is_theorems.proofs.Common.{as_taken, Barred, Bool, candidate_at, CandidateRecord, change_at, Class, Conflict, conflict_of}
use Rattle.is_theorems.proofs.Common.{CountsAndServes, discovered_emitted, Drops, Emitted, Entry, eq-eqb, eqb-true, Err, evaluated, false}
use Rattle.is_theorems.proofs.Common.{FindsOrAddsPair, Flag, followed, formed, Full, HandlesFailure, HandlesSuccess, Has, IceCreds, in_turn}
use Rattle.is_theorems.proofs.Common.{inl, inr, is_for_other_peer, is_misled, is_modern, is_nominated, is_numbered, is_reverse, is_some}
use Rattle.is_theorems.proofs.Common.{is_valid_at, keeps_check, Known, List, local_place, MatchOption, Message, nominated_by_self}
use Rattle.is_theorems.proofs.Common.{Nominates, None, numbers, Ok, Option, pair_served, PairRecord, Path, path_of, priority_between}
use Rattle.is_theorems.proofs.Common.{Queues, Reads, Receives, RecordsAndResponds, refl, remains, RemotePlace, request_counted, request_in}
use Rattle.is_theorems.proofs.Common.{RequestRecord, ResolvesRoleConflict, ResolvesRoleConflictBy, selection_of, selects_at_requests}
use Rattle.is_theorems.proofs.Common.{Send487, served, Serves, Some, StunTiming, subst, switched, switched_sides, SwitchRole, sym, Takes}
use Rattle.is_theorems.proofs.Common.{triggered_time, triggered, true, Unknown, unwrap_or, Vacant, with_pair, with_priority_in, with_sender}
use Rattle.is_theorems.proofs.Common.{with_sender_at, ℕ}
use Rattle.is_theorems.proofs.BasicLemmas.EqualAddresses.{both}
use Rattle.is_theorems.proofs.CallEffects.ChecksAndResponses.{Has-get}
use Rattle.is_theorems.proofs.RuleEffects.UnchangedSettings.{either}
use Rattle.is_theorems.proofs.DuePairs.AfterNominationAndRemoval.{last_time_of}
use Rattle.is_theorems.proofs.EarlierChecks.ChecksOfOtherPairs.{lead, own-le, lead-answered}
use Rattle.is_theorems.proofs.EarlierChecks.ChangedPairs.{MovedUp, moved-mild, triggered-mild, at-moved, self-mild, served-mild, at-mild}
use Rattle.is_theorems.proofs.EarlierChecks.ChangedPairs.{Onward, onward-same, onward-on, onward-each, onward-adds, onward-set}
use Rattle.is_theorems.proofs.RuleEffects.NominatedPairs.{SelectsPath, selects_path}
use Rattle.is_theorems.proofs.RuleEffects.NotedErrors.{coded, recoded, by_failure}

-- what stays of the agent, in either role
pub record Ground : Type 0 where
  pub lite : Bool
  pub remote_creds : Option IceCreds
  pub timing : StunTiming
  pub queue : List RequestRecord
  pub last_time : Option ℕ
  pub ahead_turn : Bool
  pub next_kind : ℕ

module _ {H P : Type 0} where
  abbrev pub ground_of : AgentRecord H P → Ground
  ground_of a = record {
    lite = a.lite;
    remote_creds = a.remote_creds;
    timing = a.timing;
    queue = a.queue;
    last_time = a.last_time;
    ahead_turn = a.ahead_turn;
    next_kind = a.next_kind;
  }

  module _ (n by : ℕ) where
    abbrev pub GoesFrom : ℕ → AgentRecord H P → AgentRecord H P → Type 0
    GoesFrom at old new = (ground_of new ≡ ground_of old) × Onward n by at old.pairs old.next_number new.pairs new.next_number

    abbrev pub Goes : AgentRecord H P → AgentRecord H P → Type 0
    Goes old new = GoesFrom (last_time_of old) old new

    pub goes-to : (old needed new : AgentRecord H P) → Goes old needed → new ≡ needed → Goes old new
    goes-to old needed new h made = subst (λ (a : AgentRecord H P). Goes old a) (sym made) h

    pub goes-same : (old new : AgentRecord H P) → new ≡ old → Goes old new
    goes-same old new made = goes-to old old new (refl, onward-same n by (last_time_of old) old.pairs old.next_number) made

    pub goes-on : (x y z : AgentRecord H P) → Goes x y → Goes y z → Goes x z
    goes-on x y z a b =
        let same : last_time_of y ≡ last_time_of x = ap (λ (g : Ground). unwrap_or g.last_time 0) a.0 in
        let following : Onward n by (last_time_of x) y.pairs y.next_number z.pairs z.next_number = subst (λ at. Onward n by at y.pairs y.next_number z.pairs z.next_number) same b.1 in
        (b.0 ∙ a.0, onward-on n by (last_time_of x) x.pairs y.pairs z.pairs x.next_number y.next_number z.next_number a.1 following)

    -- ---- nomination

    pub nominates-onward : (at : ℕ) (old new : AgentRecord H P) (path : Option Path) → Nominates old path new → GoesFrom at old new
    nominates-onward at old new path h = from (selects_path old new path h) where
      unchanged : new ≡ old → GoesFrom at old new
      unchanged made = subst (λ (a : AgentRecord H P). GoesFrom at old a) (sym made) (refl, onward-same n by at old.pairs old.next_number)

      from : SelectsPath old path new → GoesFrom at old new
      from (None, greatest, (is, made)) = unchanged made
      from (Some top, greatest, k) = either (remains (followed old) top (selection_of old)) k
          (λ _ l. unchanged l.1)
          (λ _ l. subst (λ (a : AgentRecord H P). GoesFrom at old a) (sym l.1) (
            refl,
            onward-each n by at (change_at top.number (nominated_by_self old.controlling old.lite)) old.pairs old.next_number
                (λ p. moved-mild by at p (change_at top.number (nominated_by_self old.controlling old.lite) p)
                (at-mild top.number (nominated_by_self old.controlling old.lite) p (self-mild (old.controlling || old.lite) old.lite (is_nominated p) p refl))),
          ))

    pub nominates-goes : (old new : AgentRecord H P) (path : Option Path) → Nominates old path new → Goes old new
    nominates-goes old new path h = nominates-onward (last_time_of old) old new path h

    -- ---- roles

    switches : (s : AgentRecord H P) → Goes s (switched s)
    switches s = (
      refl,
      onward-each n by (last_time_of s) (with_priority_in (switched_sides s)) s.pairs s.next_number
          (λ p. moved-mild by (last_time_of s) p (with_priority_in (switched_sides s) p) (record { number = refl; due = refl; kept = refl; nomination = inl refl })),
    )

    failure : (old new : AgentRecord H P) (via : Path) (m : Message) (emitted : Emitted) → HandlesFailure old via m emitted new → Goes old new
    failure old new via m emitted h =
        by_failure (λ _ a. Goes old a) old new via m emitted notes
        (λ code. goes-on old (recoded code old) (switched (recoded code old)) (notes code) (switches (recoded code old))) h where
          notes : (code : PairRecord → Option ℕ) → Goes old (recoded code old)
          notes code = (
            refl,
            onward-each n by (last_time_of old) (coded code) old.pairs old.next_number
                (λ p. moved-mild by (last_time_of old) p (coded code p) (record { number = refl; due = refl; kept = refl; nomination = inl refl })),
          )

    -- ---- responses

    again : (s : AgentRecord H P) → Goes s (formed_again s)
    again s = each-way (λ a. Goes s a) s (let k = goes-same s s refl in (k.0, k.1))
        (λ i j may. (refl, onward-adds n by (last_time_of s) s.pairs s.next_number i j (priority_between s i j)))

    success : (now : ℕ) (old new : AgentRecord H P) (via path : Path) (m : Message) (emitted : Emitted) → ((q : PairRecord) → Has old.pairs q → q.number ≡ n → path_of old q ≡ path)
        → HandlesSuccess now old via m emitted new → (is_reverse via path ≡ true) ⊎ Goes old new
    success now old new via path m emitted on (recorded, (place, p, after, at, keeps, (i, c, (c_at, c_id), is), made), (named, mid, nominates, emitted_is, done)) = whose (is_numbered n p) refl where
      whose : (b : Bool) → is_numbered n p ≡ b → (is_reverse via path ≡ true) ⊎ Goes old new
      whose true numbered =
          inl (subst (λ w. is_reverse via w ≡ true) (on p (Has-get old.pairs place p at) (eqb-true p.number n numbered))
          (both (keeps_check m.id p) (is_reverse via (path_of old p)) keeps).1)
      whose false numbered =
          inr (goes-on old recorded new
          (goes-to old _ recorded (
            refl,
            onward-set n by (last_time_of old) old.pairs old.next_number place p after at (λ one. (let no : true ≡ false = sym (eq-eqb p.number n one) ∙ numbered in cc))
                (λ w. own-le w by p after (ap (λ (x : PairRecord). x.number) is) (subst (λ (x : PairRecord). lead w.both by x ≤ lead w.both by p) (sym is) (lead-answered w.both by now i c p c_at))),
          ) made)
          (goes-on recorded (formed_again recorded) new (again recorded)
          (goes-to (formed_again recorded) (evaluated now mid) new (let k = nominates-goes (formed_again recorded) mid named nominates in (k.0, k.1)) done)))

    -- ---- requests

    module _ (mac : H → List ℕ → List ℕ → List ℕ) where
      module _ (q : RequestRecord) where
        pair : (l r number : ℕ) (s new : AgentRecord H P) (emitted : Emitted) → RecordsAndResponds mac q l r number s emitted new → Goes s new
        pair l r number s new emitted (path, mid, nominates, (values, is, made)) =
            goes-to s _ new
            (let k = goes-on s (pair_served q number s) mid (
              refl,
              onward-each n by (last_time_of s) (change_at number (after_request q s)) s.pairs s.next_number
                  (λ p. at-moved by (last_time_of s) number (after_request q s) p (request-moves p)),
            )
            (either (selects_at_requests s && is_valid_at number s.pairs) nominates
            (λ _ k. nominates-goes (pair_served q number s) mid path k)
            (λ _ k. goes-same (pair_served q number s) mid k.1)) in (k.0, k.1)) made where
              request-moves : (p : PairRecord) → MovedUp by (last_time_of s) p (after_request q s p)
              request-moves p =
                  let first : PairRecord = triggered (is_modern s.timing) (triggered_time q s) p in
                  triggered-mild by (last_time_of s) (triggered_time q s) (is_modern s.timing) p (served s.controlling s.lite (as_taken (numbers s) q) first) (omega arith)
                  (served-mild s.controlling s.lite (as_taken (numbers s) q) first)

        takes : (l r : ℕ) (number : Option ℕ) (s new : AgentRecord H P) (emitted : Emitted) → FindsOrAddsPair mac q l r number s emitted new → Goes s new
        takes l r (Some number) s new emitted h = pair l r number s new emitted h
        takes l r None s new emitted h = either (candidate_at s.local l).discarded h
            (λ _ k. goes-same s new k.1)
            (λ _ k. goes-on s (with_pair (formed s l r) s) new (refl, onward-adds n by (last_time_of s) s.pairs s.next_number l r (priority_between s l r))
            (pair l r s.next_number (with_pair (formed s l r) s) new emitted k.1))

        joins : (l : ℕ) (place : RemotePlace) (s new : AgentRecord H P) (emitted : Emitted) → AddsUnknownSender mac q l place s emitted new → Goes s new
        joins l (Known r) s new emitted (number, between, h) = takes l r number s new emitted h
        joins l Barred s new emitted h = goes-same s new h.1
        joins l Unknown s new emitted (number, between, h) = let k = takes l _ number (with_sender q s) new emitted h in (k.0, k.1)
        joins l (Vacant r) s new emitted (number, between, h) = let k = takes l r number (with_sender_at r q s) new emitted h in (k.0, k.1)
        joins l Full s new emitted h = goes-same s new h.1

        admitted : (l : ℕ) (s new : AgentRecord H P) (emitted : Emitted) → CountsAndServes mac q l s emitted new → Goes s new
        admitted l s new emitted h = either (is_misled s.controlling q) h
            (λ _ k. goes-same s new k.1)
            (λ _ k. (let g = joins l k.0 (request_counted s) new emitted k.2 in (g.0, g.1)))

        resolves : (conflict : Conflict) (l : ℕ) (s new : AgentRecord H P) (emitted : Emitted) → ResolvesRoleConflictBy mac conflict q l s emitted new → Goes s new
        resolves Absent l s new emitted h = admitted l s new emitted h
        resolves Send487 l s new emitted (values, is, made) = goes-to s _ new (refl, onward-same n by (last_time_of s) s.pairs s.next_number) made
        resolves SwitchRole l s new emitted h = goes-on s (switched s) new (switches s) (admitted l (switched s) new emitted h)

        here : (place : Option ℕ) (s new : AgentRecord H P) (emitted : Emitted) → MatchOption place (Drops s emitted new) (λ l. ResolvesRoleConflict mac q l s emitted new) → Goes s new
        here None s new emitted h = goes-same s new h.1
        here (Some l) s new emitted h = resolves (conflict_of s q) l s new emitted h

        requested : (remote : Option IceCreds) (s new : AgentRecord H P) (emitted : Emitted) → is_some remote ≡ true
            → MatchOption remote (Queues q s emitted new) (λ _. Serves mac q s emitted new) → Goes s new
        requested None s new emitted known h = absurd (cc)
        requested (Some peer) s new emitted known h = either (is_for_other_peer s q) (in_turn mac q s new emitted h)
            (λ _ k. goes-same s new k.1)
            (λ _ k. here (local_place s.local q) s new emitted k)

      -- ---- packets

      by-class : (c : Class) (now : ℕ) (old mid : AgentRecord H P) (via path : Path) (m : Message) (emitted : Emitted) → is_some old.remote_creds ≡ true
          → ((q : PairRecord) → Has old.pairs q → q.number ≡ n → path_of old q ≡ path)
          → Takes mac c now old via m emitted mid → ((c ≡ class.Success) × (is_reverse via path ≡ true)) ⊎ Goes old mid
      by-class class.Request now old mid via path m emitted known on h = inr (requested (request_in now via m) old.remote_creds old mid emitted known h)
      by-class class.Success now old mid via path m emitted known on h = elim (success now old mid via path m emitted on h) [ inl back ↦ inl (refl, back) | inr k ↦ inr k ]
      by-class class.Failure now old mid via path m emitted known on h = inr (failure old mid via m emitted h)
      by-class class.Indication now old mid via path m emitted known on h = absurd h
      by-class class.Unknown now old mid via path m emitted known on h = absurd h

      -- raw bytes that arrived: the pair's path is answered, or no more checks go before it
      pub receives-goes : (answers : P → CandidateRecord → ℕ → ℕ → Type 0) (now : ℕ) (old new : AgentRecord H P) (via path : Path) (bytes : List ℕ) (e : Entry) → is_some old.remote_creds ≡ true
          → ((q : PairRecord) → Has old.pairs q → q.number ≡ n → path_of old q ≡ path) → Receives mac answers now old via bytes e new
          → ((m : Message) × Reads bytes m × (e.answer ≡ Flag true) × (m.class ≡ class.Success) × (is_reverse via path ≡ true)) ⊎ Goes old new
      receives-goes answers now old new via path bytes e known on (inl (fault, has_fault, is, made)) = inr (goes-same old new made)
      receives-goes answers now old new via path bytes e known on (inr (m, reads, (Ok true, emitted, is, (accepted, (mid, takes_it, made))))) =
          elim (by-class m.class now old mid via path m emitted known on takes_it) [
            | inl (success_came, back) ↦ inl (m, reads, ap (λ (x : Entry). x.answer) is, success_came, back)
            | inr k ↦ inr (goes-to old (discovered_emitted m.class emitted via mid) new (k.0, k.1) made)
          ]
      receives-goes answers now old new via path bytes e known on (inr (m, reads, (Ok false, emitted, is, (no_one, nothing, made)))) = inr (goes-same old new made)
      receives-goes answers now old new via path bytes e known on (inr (m, reads, (Err error, emitted, is, (may, nothing, made)))) = inr (goes-same old new made)
