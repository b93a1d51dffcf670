-- How the rules change the queues of packets and events.
use Rattle.is_theorems.proofs.Common.{formed_again}
use Rattle.is_theorems.proofs.Common.{[], ◌&&◌, ◌++◌, ◌+◌, ◌∙◌, ◌∷◌, ◌≡◌, ◌≤◌, Absent, AddsUnknownSender, AgentRecord, all_scheduled, ap, arith}
use Rattle.is_theorems.proofs.Common.{at_timeout, Barred, Bool, candidate_at, ChecksTop, Combination, cond, Conflict, conflict_of, count_by}
use Rattle.is_theorems.proofs.Common.{CountsAndServes, discovery_count, Drops, Emitted, evaluated, events_kept, expired_gone, false, filter}
use Rattle.is_theorems.proofs.Common.{FindsOrAddsPair, formed, FormsAll, Full, HandlesFailure, HandlesSuccess, has_nominated, has_possible}
use Rattle.is_theorems.proofs.Common.{IceAgentEvent, IceConnectionState, IceConnectionStateChange, IceCreds, IceRestart, if◌then◌else◌}
use Rattle.is_theorems.proofs.Common.{in_turn, is_discovery, is_expired, is_for_other_peer, is_misled, is_modern, is_selection, is_some}
use Rattle.is_theorems.proofs.Common.{is_valid_at, Issued, Known, length, length-append, List, list_any, local_place, MaintainsPairs}
use Rattle.is_theorems.proofs.Common.{MatchOption, MayCheck, Message, New, next_state, nominated_emitted, NominatedSend, Nominates}
use Rattle.is_theorems.proofs.Common.{NominatesWhere, None, not, Option, other_count, Packet, pair_served, PairRecord, Path, path_left}
use Rattle.is_theorems.proofs.Common.{Queues, RecordsAndResponds, refl, RemotePlace, RemovesExpired, request_counted, RequestRecord}
use Rattle.is_theorems.proofs.Common.{Reselects, ResolvesRoleConflict, ResolvesRoleConflictBy, same_state, selects_at_requests, Send487}
use Rattle.is_theorems.proofs.Common.{Serves, state_updated, Some, start_emitted, started, state_at_start, updated_state, Stream, subst}
use Rattle.is_theorems.proofs.Common.{sum_by-append, sum_by-cons, switched, SwitchRole, sym, timeout_begun, triggered_time, true, Unknown}
use Rattle.is_theorems.proofs.Common.{unpaired, Vacant, with_pair, with_selection, with_sender, with_sender_at, with_state, ℕ}
use Rattle.is_theorems.proofs.RuleEffects.Reselection.{by-reselecting}
use Rattle.is_theorems.proofs.RuleEffects.UnchangedSettings.{either}
use Rattle.is_theorems.proofs.RuleEffects.NotedErrors.{recoded, by_failure}

-- ---- queues

-- the queues that are polled, and the limit
pub record Lines : Type 0 where
  pub limit : Option ℕ
  pub packets : List Packet
  pub events : List IceAgentEvent

-- at most this many packets more, and at most this many events other than `DiscoveredRecv`
pub record Grows (p k : ℕ) (old new : Lines) : Type 0 where
  pub limit : new.limit ≡ old.limit
  pub packets : length new.packets ≤ length old.packets + p
  pub others : other_count new.events ≤ other_count old.events + k
  pub discoveries : discovery_count new.events ≤ discovery_count old.events

pub count-more : (test : IceAgentEvent → Bool) (events : List IceAgentEvent) (e : IceAgentEvent) → count_by test (events ++ e ∷ []) ≡ count_by test events + cond (test e) 1 0
count-more test events e =
    let both = sum_by-append (λ (x : IceAgentEvent). cond (test x) 1 0) events (e ∷ []) in
    let one = sum_by-cons (λ (x : IceAgentEvent). cond (test x) 1 0) e [] in
    omega (arith, both, one)

pub counts-all : (events : List IceAgentEvent) → discovery_count events + other_count events ≡ length events
counts-all [] = refl
counts-all (e ∷ rest) = by (is_discovery e) refl (counts-all rest) where
  by : (b : Bool) → is_discovery e ≡ b → discovery_count rest + other_count rest ≡ length rest → discovery_count (e ∷ rest) + other_count (e ∷ rest) ≡ length (e ∷ rest)
  by true is rest_is =
      let one : discovery_count (e ∷ rest) ≡ 1 + discovery_count rest = sum_by-cons (λ x. cond (is_discovery x) 1 0) e rest ∙ ap (λ t. cond t 1 0 + discovery_count rest) is in
      let none : other_count (e ∷ rest) ≡ 0 + other_count rest = sum_by-cons (λ x. cond (not (is_discovery x)) 1 0) e rest ∙ ap (λ t. cond (not t) 1 0 + other_count rest) is in
      omega (arith, one, none, rest_is)
  by false is rest_is =
      let none : discovery_count (e ∷ rest) ≡ 0 + discovery_count rest = sum_by-cons (λ x. cond (is_discovery x) 1 0) e rest ∙ ap (λ t. cond t 1 0 + discovery_count rest) is in
      let one : other_count (e ∷ rest) ≡ 1 + other_count rest = sum_by-cons (λ x. cond (not (is_discovery x)) 1 0) e rest ∙ ap (λ t. cond (not t) 1 0 + other_count rest) is in
      omega (arith, one, none, rest_is)

pub alike : (old new : Lines) → new ≡ old → Grows 0 0 old new
alike old new is = subst (λ l. Grows 0 0 old l) (sym is) (record { limit = refl; packets = omega arith; others = omega arith; discoveries = omega arith })

pub onward : (p k q m : ℕ) (a b c : Lines) → Grows p k a b → Grows q m b c → Grows (p + q) (k + m) a c
onward p k q m a b c f g =
    let f1 = f.packets in let f2 = f.others in let f3 = f.discoveries in
    let g1 = g.packets in let g2 = g.others in let g3 = g.discoveries in
    record { limit = g.limit ∙ f.limit; packets = omega (arith, f1, g1); others = omega (arith, f2, g2); discoveries = omega (arith, f3, g3) }

pub up : (p k q m : ℕ) (a b : Lines) → p ≤ q → k ≤ m → Grows p k a b → Grows q m a b
up p k q m a b one two f =
    let f1 = f.packets in let f2 = f.others in let f3 = f.discoveries in
    record { limit = f.limit; packets = omega (arith, f1, one); others = omega (arith, f2, two); discoveries = omega (arith, f3) }

pub one-event : (old : Lines) (e : IceAgentEvent) → is_discovery e ≡ false → Grows 0 1 old (record old { events = old.events ++ e ∷ [] })
one-event old e is =
    let others : other_count (old.events ++ e ∷ []) ≡ other_count old.events + 1 = count-more (λ x. not (is_discovery x)) old.events e ∙ ap (λ t. other_count old.events + cond (not t) 1 0) is in
    let none : discovery_count (old.events ++ e ∷ []) ≡ discovery_count old.events + 0 = count-more is_discovery old.events e ∙ ap (λ t. discovery_count old.events + cond t 1 0) is in
    record { limit = refl; packets = omega arith; others = omega (arith, others); discoveries = omega (arith, none) }

one-packet : (old : Lines) (p : Packet) → Grows 1 0 old (record old { packets = old.packets ++ p ∷ [] })
one-packet old p =
    let long : length (old.packets ++ p ∷ []) ≡ length old.packets + 1 = length-append old.packets (p ∷ []) in
    record { limit = refl; packets = omega (arith, long); others = omega arith; discoveries = omega arith }

-- an event, or none
may-event : (b : Bool) (old : Lines) (e : IceAgentEvent) → is_discovery e ≡ false → Grows 0 1 old (record old { events = if b then old.events else old.events ++ e ∷ [] })
may-event true old e is = up 0 0 0 1 old old (omega arith) (omega arith) (alike old old refl)
may-event false old e is = one-event old e is

unless-event : (b : Bool) (old : Lines) (e : IceAgentEvent) → is_discovery e ≡ false → Grows 0 1 old (record old { events = if b then old.events ++ e ∷ [] else old.events })
unless-event true old e is = one-event old e is
unless-event false old e is = up 0 0 0 1 old old (omega arith) (omega arith) (alike old old refl)

-- no more of a kind are left of those that pass
few-left : (t u : IceAgentEvent → Bool) (es : List IceAgentEvent) → count_by t (filter u es) ≤ count_by t es
few-left t u [] = omega arith
few-left t u (e ∷ rest) =
    let all = sum_by-cons (λ (x : IceAgentEvent). cond (t x) 1 0) e rest in
    let few = few-left t u rest in
    elim (u e) as (λ b. count_by t (if b then e ∷ filter u rest else filter u rest) ≤ count_by t (e ∷ rest)) [
      | true ↦ let left = sum_by-cons (λ (x : IceAgentEvent). cond (t x) 1 0) e (filter u rest) in omega (arith, all, few, left)
      | false ↦ omega (arith, all, few)
    ]

module _ {H P : Type 0} where
  abbrev pub lines_of : AgentRecord H P → Lines
  lines_of a = record { limit = a.max_discovered; packets = a.packets; events = a.events }

  abbrev pub Adds : ℕ → ℕ → AgentRecord H P → AgentRecord H P → Type 0
  Adds p k old new = Grows p k (lines_of old) (lines_of new)

  pub same : (old new : AgentRecord H P) → lines_of new ≡ lines_of old → Adds 0 0 old new
  same old new is = alike (lines_of old) (lines_of new) is

  -- what is equal to a state that a rule makes
  pub as-made : (p k : ℕ) (old needed new : AgentRecord H P) → new ≡ needed → Adds p k old needed → Adds p k old new
  as-made p k old needed new is h = subst (λ (a : AgentRecord H P). Adds p k old a) (sym is) h

  pub kept : (old new : AgentRecord H P) → new ≡ old → Adds 0 0 old new
  kept old new is = same old new (ap (λ (a : AgentRecord H P). lines_of a) is)

  pub more : (p k q m : ℕ) (a b c : AgentRecord H P) → Adds p k a b → Adds q m b c → Adds (p + q) (k + m) a c
  more p k q m a b c f g = onward p k q m (lines_of a) (lines_of b) (lines_of c) f g

  pub most : (p k q m : ℕ) (a b : AgentRecord H P) → p ≤ q → k ≤ m → Adds p k a b → Adds q m a b
  most p k q m a b one two f = up p k q m (lines_of a) (lines_of b) one two f

  -- the events that are kept when the pairs are cleared
  pub unpaired_adds : (a : AgentRecord H P) → Adds 0 0 a (unpaired a)
  unpaired_adds a = by (is_modern a.timing) where
    by : (b : Bool) → Grows 0 0 (lines_of a) (record (lines_of a) { events = events_kept b a.events })
    by true =
        let keeps = λ (x : IceAgentEvent). not (is_selection x) in
        let others = few-left (λ x. not (is_discovery x)) keeps a.events in
        let discoveries = few-left is_discovery keeps a.events in
        record { limit = refl; packets = omega arith; others = omega (arith, others); discoveries = omega (arith, discoveries) }
    by false = alike (lines_of a) (lines_of a) refl

  -- ---- states and nomination

  pub state_adds : (state : IceConnectionState) (a : AgentRecord H P) → Adds 0 1 a (with_state state a)
  state_adds state a = may-event (same_state a.state state) (lines_of a) (IceConnectionStateChange state) refl

  evaluated_adds : (now : ℕ) (a : AgentRecord H P) → Adds 0 1 a (evaluated now a)
  evaluated_adds now a = state_adds (next_state a.state (has_nominated a) (has_possible now a) a.lite) a

  updated_adds : (changes : Bool) (now : ℕ) (a : AgentRecord H P) → Adds 0 1 a (state_updated changes now a)
  updated_adds changes now a = state_adds (updated_state changes now a) a

  emitted_adds : (path : Option Path) (a : AgentRecord H P) → Adds 0 1 a (nominated_emitted path a)
  emitted_adds None a = most 0 0 0 1 a a (omega arith) (omega arith) (same a a refl)
  emitted_adds (Some path) a = one-event (lines_of a) (NominatedSend path.proto path.source path.destination) refl

  nominates_adds : (old new : AgentRecord H P) (path : Option Path) → Nominates old path new → Adds 0 1 old new
  nominates_adds old new path (chosen, names, made) = as-made 0 1 old (nominated_emitted path (with_selection chosen old)) new made (emitted_adds path (with_selection chosen old))

  where_adds : (b : Bool) (old new : AgentRecord H P) (path : Option Path) → NominatesWhere b old path new → Adds 0 1 old new
  where_adds true old new path h = nominates_adds old new path h
  where_adds false old new path h = most 0 0 0 1 old new (omega arith) (omega arith) (kept old new h.1)

  -- a candidate that takes the selected pair away
  pub reselects_adds : (loses : Bool) (old new : AgentRecord H P) (path : Option Path) → Reselects loses old path new → Adds 0 2 old new
  reselects_adds loses old new path h = by-reselecting (λ (a : AgentRecord H P). Adds 0 2 old a) loses old new path h
      (most 0 0 0 2 old old (omega arith) (omega arith) (same old old refl))
      (λ mid nominates. more 0 1 0 1 old mid (evaluated _ mid) (nominates_adds old mid path nominates) (evaluated_adds _ mid))

  removes_expired_adds : (now : ℕ) (old new : AgentRecord H P) (path : Option Path) → RemovesExpired now old path new → Adds 0 2 old new
  removes_expired_adds now old new path h = either (list_any (is_expired now old) old.pairs) h
      (λ _ k. as-made 0 2 old (evaluated now k.0) new k.2
      (more 0 1 0 1 old k.0 (evaluated now k.0) (nominates_adds (expired_gone now old) k.0 path k.1) (evaluated_adds now k.0)))
      (λ _ k. most 0 1 0 2 old new (omega arith) (omega arith) (as-made 0 1 old (state_updated true now old) new k.1 (updated_adds true now old)))

  -- ---- checks and timeouts

  check_adds : (mac : H → List ℕ → List ℕ → List ℕ) (now : ℕ) (remote : Option IceCreds) (old new : AgentRecord H P) (s t : Stream) (issued : Option Issued)
      → MayCheck mac now remote old s issued new t → Adds 1 0 old new
  check_adds mac now None old new s t issued (is, made, drawn) = most 0 0 1 0 old new (omega arith) (omega arith) (kept old new made)
  check_adds mac now (Some remote) old new s t issued h = either old.lite h
      (λ _ k. most 0 0 1 0 old new (omega arith) (omega arith) (same old new (ap (λ (a : AgentRecord H P). lines_of a) k.1)))
      (λ _ k. next k.0 k.2) where
        next : (top : Option PairRecord) → ChecksTop mac now remote top (all_scheduled now old) s issued new t → Adds 1 0 old new
        next None (is, made, drawn) = most 0 0 1 0 old new (omega arith) (omega arith) (same old new (ap (λ (a : AgentRecord H P). lines_of a) made))
        next (Some p) (id, drawn, values, is, made) = as-made 1 0 old _ new made (one-packet (lines_of old) _)

  pub begun_adds : (now : ℕ) (a : AgentRecord H P) → Adds 0 2 a (timeout_begun now a)
  begun_adds now a =
      more 0 1 0 1 a (start_emitted a) (started now (start_emitted a))
      (unless-event (same_state a.state New) (lines_of a) (IceRestart a.local_creds) refl) (state_adds (state_at_start now (start_emitted a)) (start_emitted a))

  pub maintains_adds : (mac : H → List ℕ → List ℕ → List ℕ) (now : ℕ) (old new : AgentRecord H P) (s t : Stream) (emitted : Emitted) → MaintainsPairs mac now old s emitted new t → Adds 1 3 old new
  maintains_adds mac now old new s t emitted (first, second, issued, named, kept, nominating, giving, checking, is) =
      more 0 3 1 0 old kept new
      (more 0 1 0 2 old named kept (nominates_adds (path_left now (at_timeout now old)) named first nominating) (removes_expired_adds now named kept second giving))
      (check_adds mac now kept.remote_creds kept new s t issued checking)

  -- ---- responses

  pub success_adds : (now : ℕ) (old new : AgentRecord H P) (via : Path) (m : Message) (emitted : Emitted) → HandlesSuccess now old via m emitted new → Adds 0 2 old new
  success_adds now old new via m emitted (recorded, (i, p, after, found, keeps, took, made), (path, mid, nominates, is, done)) =
      as-made 0 2 old (evaluated now mid) new done
      (more 0 1 0 1 old mid (evaluated now mid)
      (more 0 0 0 1 old (formed_again recorded) mid (same old (formed_again recorded) (ap (λ (a : AgentRecord H P). lines_of a) made))
      (nominates_adds (formed_again recorded) mid path nominates))
      (evaluated_adds now mid))

  pub failure_adds : (old new : AgentRecord H P) (via : Path) (m : Message) (emitted : Emitted) → HandlesFailure old via m emitted new → Adds 0 0 old new
  failure_adds old new via m emitted h = by_failure (λ _ a. Adds 0 0 old a) old new via m emitted (λ code. same old (recoded code old) refl) (λ code. same old (switched (recoded code old)) refl) h

  pub forms_adds : (old new : AgentRecord H P) (all : List Combination) → FormsAll old all new → Adds 0 0 old new
  forms_adds old new all (f, forms, made) = same old new (ap (λ (a : AgentRecord H P). lines_of a) made)

  -- ---- requests: at most one response, one selected path and a state

  module _ (mac : H → List ℕ → List ℕ → List ℕ) (q : RequestRecord) where
    none : (s new : AgentRecord H P) → Adds 0 0 s new → Adds 1 2 s new
    none s new h = most 0 0 1 2 s new (omega arith) (omega arith) h

    pair : (l r number : ℕ) (s new : AgentRecord H P) (emitted : Emitted) → RecordsAndResponds mac q l r number s emitted new → Adds 1 2 s new
    pair l r number s new emitted (path, mid, nominates, (values, is, made)) =
        let at : AgentRecord H P = state_updated (is_some path) (triggered_time q s) mid in
        more 0 1 1 1 s mid new
        (where_adds (selects_at_requests s && is_valid_at number s.pairs) (pair_served q number s) mid path nominates)
        (more 0 1 1 0 mid at new (updated_adds (is_some path) (triggered_time q s) mid) (as-made 1 0 at _ new made (one-packet (lines_of at) _)))

    takes : (l r : ℕ) (number : Option ℕ) (s new : AgentRecord H P) (emitted : Emitted) → FindsOrAddsPair mac q l r number s emitted new → Adds 1 2 s new
    takes l r (Some number) s new emitted h = pair l r number s new emitted h
    takes l r None s new emitted h = either (candidate_at s.local l).discarded h
        (λ _ k. none s new (kept s new k.1))
        (λ _ k. pair l r s.next_number (with_pair (formed s l r) s) new emitted k.1)

    joins : (l : ℕ) (place : RemotePlace) (s new : AgentRecord H P) (emitted : Emitted) → AddsUnknownSender mac q l place s emitted new → Adds 1 2 s new
    joins l (Known r) s new emitted (number, between, h) = takes l r number s new emitted h
    joins l Barred s new emitted h = none s new (kept s new h.1)
    joins l Full s new emitted h = none s new (kept s new h.1)
    joins l Unknown s new emitted (number, between, h) = takes l (length s.remote) number (with_sender q s) new emitted h
    joins l (Vacant r) s new emitted (number, between, h) = takes l r number (with_sender_at r q s) new emitted h

    admitted : (l : ℕ) (s new : AgentRecord H P) (emitted : Emitted) → CountsAndServes mac q l s emitted new → Adds 1 2 s new
    admitted l s new emitted h = either (is_misled s.controlling q) h (λ _ k. none s new (kept s new k.1)) (λ _ k. joins l k.0 (request_counted s) new emitted k.2)

    resolves : (conflict : Conflict) (l : ℕ) (s new : AgentRecord H P) (emitted : Emitted) → ResolvesRoleConflictBy mac conflict q l s emitted new → Adds 1 2 s new
    resolves Absent l s new emitted h = admitted l s new emitted h
    resolves Send487 l s new emitted (values, is, made) = most 1 0 1 2 s new (omega arith) (omega arith) (as-made 1 0 s _ new made (one-packet (lines_of s) _))
    resolves SwitchRole l s new emitted h = admitted l (switched s) new emitted h

    here : (place : Option ℕ) (s new : AgentRecord H P) (emitted : Emitted) → MatchOption place (Drops s emitted new) (λ l. ResolvesRoleConflict mac q l s emitted new) → Adds 1 2 s new
    here None s new emitted h = none s new (kept s new h.1)
    here (Some l) s new emitted h = resolves (conflict_of s q) l s new emitted h

    pub serves_adds : (s new : AgentRecord H P) (emitted : Emitted) → Serves mac q s emitted new → Adds 1 2 s new
    serves_adds s new emitted h = either (is_for_other_peer s q) (in_turn mac q s new emitted h) (λ _ k. none s new (kept s new k.1)) (λ _ k. here (local_place s.local q) s new emitted k)

    pub requested_adds : (remote : Option IceCreds) (s new : AgentRecord H P) (emitted : Emitted) → MatchOption remote (Queues q s emitted new) (λ _. Serves mac q s emitted new) → Adds 1 2 s new
    requested_adds None s new emitted h = none s new (same s new (ap (λ (a : AgentRecord H P). lines_of a) h.1))
    requested_adds (Some peer) s new emitted h = serves_adds s new emitted h
