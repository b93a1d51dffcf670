-- Serving as rules, each of which ends in the next one: what proofs by one rule at a time read. The list of the steps implies it.
use Rattle.is_rules.specs.Sending.{path_between}
use Rattle.is_rules.specs.StateUpdates.{state_updated}
use Rattle.is_rules.proofs.Common.{◌&&◌, ◌==◌, ◌≡◌, Absent, AgentRecord, Barred, Bool, candidate_at, Conflict, conflict_of, Drops, Emitted}
use Rattle.is_rules.proofs.Common.{false, formed, Full, if◌then◌else◌, is_487, is_admitted, is_for_other_peer, is_misled, is_some}
use Rattle.is_rules.proofs.Common.{is_valid_at, IsPairBetween, IsSenderPlace, Known, length, List, local_place, MatchBool, MatchOption, MAX}
use Rattle.is_rules.proofs.Common.{needs_pair_at, NominatesWhere, None, not, Option, pair_added, pair_number, pair_served, Path, refl}
use Rattle.is_rules.proofs.Common.{remote_index, RemotePlace, Replies, request_counted, RequestRecord, role_after, selects_at_requests}
use Rattle.is_rules.proofs.Common.{Send487, sender_added, sender_index, SendsRoleConflict, Serves, Some, subst, switched, switched_sides}
use Rattle.is_rules.proofs.Common.{SwitchRole, sym, triggered_time, true, Unknown, Vacant, with_pair, with_sender, with_sender_at, ℕ}
use Rattle.is_rules.proofs.ServedRequests.RecomputedPriorities.{between-reprioritized, place-reprioritized}

unequal : (b : Bool) → (b && true) ≡ false → b ≡ false
unequal true h = h
unequal false h = refl

module _ {H P : Type 0} (mac : H → List ℕ → List ℕ → List ℕ) where
  -- ---- the rules in turn

  -- The pair records the request, nomination is evaluated, and the response is sent.
  abbrev pub RecordsAndResponds : RequestRecord → ℕ → ℕ → ℕ → AgentRecord H P → Emitted → AgentRecord H P → Type 0
  RecordsAndResponds q l r number s emitted new =
      (path : Option Path) × (mid : AgentRecord H P)
      × NominatesWhere (selects_at_requests s && is_valid_at number s.pairs) (pair_served q number s) path mid
      × Replies mac q (path_between s l r) path (state_updated (is_some path) (triggered_time q s) mid) emitted new

  abbrev pub AddsPairAndResponds : RequestRecord → ℕ → ℕ → AgentRecord H P → Emitted → AgentRecord H P → Type 0
  AddsPairAndResponds q l r s emitted new = (s.next_number == MAX ≡ false) × RecordsAndResponds q l r s.next_number (with_pair (formed s l r) s) emitted new

  abbrev pub FindsOrAddsPair : RequestRecord → ℕ → ℕ → Option ℕ → AgentRecord H P → Emitted → AgentRecord H P → Type 0
  FindsOrAddsPair q l r (Some number) s emitted new = RecordsAndResponds q l r number s emitted new
  FindsOrAddsPair q l r None s emitted new =
      MatchBool (candidate_at s.local l).discarded (Drops s emitted new) (AddsPairAndResponds q l r s emitted new)

  abbrev pub Joins : RequestRecord → ℕ → ℕ → AgentRecord H P → Emitted → AgentRecord H P → Type 0
  Joins q l r s emitted new = (pair : Option ℕ) × IsPairBetween s.pairs l r pair × FindsOrAddsPair q l r pair s emitted new

  abbrev pub AddsUnknownSender : RequestRecord → ℕ → RemotePlace → AgentRecord H P → Emitted → AgentRecord H P → Type 0
  AddsUnknownSender q l (Known r) s emitted new = Joins q l r s emitted new
  AddsUnknownSender q l Barred s emitted new = Drops s emitted new
  AddsUnknownSender q l Unknown s emitted new = Joins q l (length s.remote) (with_sender q s) emitted new
  AddsUnknownSender q l (Vacant r) s emitted new = Joins q l r (with_sender_at r q s) emitted new
  AddsUnknownSender q l Full s emitted new = Drops s emitted new

  abbrev pub FindsSender : RequestRecord → ℕ → AgentRecord H P → Emitted → AgentRecord H P → Type 0
  FindsSender q l s emitted new = (place : RemotePlace) × IsSenderPlace s q place × AddsUnknownSender q l place s emitted new

  abbrev pub CountsAndServes : RequestRecord → ℕ → AgentRecord H P → Emitted → AgentRecord H P → Type 0
  CountsAndServes q l s emitted new = MatchBool (is_misled s.controlling q) (Drops s emitted new) (FindsSender q l (request_counted s) emitted new)

  abbrev pub ResolvesRoleConflictBy : Conflict → RequestRecord → ℕ → AgentRecord H P → Emitted → AgentRecord H P → Type 0
  ResolvesRoleConflictBy Absent q l s emitted new = CountsAndServes q l s emitted new
  ResolvesRoleConflictBy Send487 q l s emitted new = SendsRoleConflict mac q s emitted new
  ResolvesRoleConflictBy SwitchRole q l s emitted new = CountsAndServes q l (switched s) emitted new

  abbrev pub ResolvesRoleConflict : RequestRecord → ℕ → AgentRecord H P → Emitted → AgentRecord H P → Type 0
  ResolvesRoleConflict q l s emitted new = ResolvesRoleConflictBy (conflict_of s q) q l s emitted new

  abbrev pub ServesHere : RequestRecord → AgentRecord H P → Emitted → AgentRecord H P → Type 0
  ServesHere q s emitted new = MatchOption (local_place s.local q) (Drops s emitted new) (λ l. ResolvesRoleConflict q l s emitted new)

  -- ---- the list of the steps, from later states on

  -- from the state in which the sender is a remote candidate
  abbrev pub FromPair : RequestRecord → ℕ → ℕ → Option ℕ → AgentRecord H P → Emitted → AgentRecord H P → Type 0
  FromPair q l r pair s emitted new =
      MatchOption (pair_number l pair s) (Drops s emitted new) (λ number. RecordsAndResponds q l r number (pair_added l r pair s) emitted new)

  -- once the request is counted
  abbrev pub FromSender : RequestRecord → ℕ → RemotePlace → Option ℕ → AgentRecord H P → Emitted → AgentRecord H P → Type 0
  FromSender q l place pair s emitted new =
      MatchOption (sender_index s.remote place) (Drops s emitted new) (λ r. FromPair q l r pair (sender_added q place s) emitted new)

  -- once the role conflict is resolved
  abbrev pub FromCount : RequestRecord → ℕ → RemotePlace → Option ℕ → AgentRecord H P → Emitted → AgentRecord H P → Type 0
  FromCount q l place pair s emitted new =
      MatchBool (is_misled s.controlling q) (Drops s emitted new) (FromSender q l place pair (request_counted s) emitted new)

  -- ---- the list implies the rules in turn

  -- a number is left for a pair that is needed
  abbrev Left : Bool → AgentRecord H P → Type 0
  Left needed s = (s.next_number == MAX && needed) ≡ false

  by_pair : (q : RequestRecord) (l r : ℕ) (pair : Option ℕ) (s new : AgentRecord H P) (emitted : Emitted)
      → Left (not (is_some pair) && not (candidate_at s.local l).discarded) s → FromPair q l r pair s emitted new → FindsOrAddsPair q l r pair s emitted new
  by_pair q l r (Some number) s new emitted left h = h
  by_pair q l r None s new emitted left h = by (candidate_at s.local l).discarded left h where
    by : (d : Bool) → Left (not d) s
        → MatchOption (if d then None else Some s.next_number) (Drops s emitted new) (λ number. RecordsAndResponds q l r number (if d then s else with_pair (formed s l r) s) emitted new)
        → MatchBool d (Drops s emitted new) (AddsPairAndResponds q l r s emitted new)
    by true left h = h
    by false left h = (unequal (s.next_number == MAX) left, h)

  by_sender : (q : RequestRecord) (l : ℕ) (place : RemotePlace) (pair : Option ℕ) (s new : AgentRecord H P) (emitted : Emitted)
      → Left (needs_pair_at place pair (candidate_at s.local l).discarded) s → IsPairBetween s.pairs l (remote_index s.remote place) pair
      → FromSender q l place pair s emitted new → AddsUnknownSender q l place s emitted new
  by_sender q l (Known r) pair s new emitted left between h = (pair, between, by_pair q l r pair s new emitted left h)
  by_sender q l Barred pair s new emitted left between h = h
  by_sender q l Unknown pair s new emitted left between h = (pair, between, by_pair q l (length s.remote) pair (with_sender q s) new emitted left h)
  by_sender q l (Vacant r) pair s new emitted left between h = (pair, between, by_pair q l r pair (with_sender_at r q s) new emitted left h)
  by_sender q l Full pair s new emitted left between h = h

  by_count : (q : RequestRecord) (l : ℕ) (place : RemotePlace) (pair : Option ℕ) (s new : AgentRecord H P) (emitted : Emitted)
      → Left (not (is_misled s.controlling q) && needs_pair_at place pair (candidate_at s.local l).discarded) s
      → IsSenderPlace s q place → IsPairBetween s.pairs l (remote_index s.remote place) pair
      → FromCount q l place pair s emitted new → CountsAndServes q l s emitted new
  by_count q l place pair s new emitted left sends between h = by (is_misled s.controlling q) left h where
    by : (b : Bool) → Left (not b && needs_pair_at place pair (candidate_at s.local l).discarded) s
        → MatchBool b (Drops s emitted new) (FromSender q l place pair (request_counted s) emitted new)
        → MatchBool b (Drops s emitted new) (FindsSender q l (request_counted s) emitted new)
    by true left h = h
    by false left h = (place, sends, by_sender q l place pair (request_counted s) new emitted left between h)

  by_role : (k : Conflict) (q : RequestRecord) (l : ℕ) (place : RemotePlace) (pair : Option ℕ) (s new : AgentRecord H P) (emitted : Emitted)
      → Left (is_admitted k s.controlling q && needs_pair_at place pair (candidate_at s.local l).discarded) s
      → IsSenderPlace s q place → IsPairBetween s.pairs l (remote_index s.remote place) pair
      → MatchBool (is_487 k) (SendsRoleConflict mac q s emitted new) (FromCount q l place pair (role_after k s) emitted new)
      → ResolvesRoleConflictBy k q l s emitted new
  by_role Absent q l place pair s new emitted left sends between h = by_count q l place pair s new emitted left sends between h
  by_role Send487 q l place pair s new emitted left sends between h = h
  by_role SwitchRole q l place pair s new emitted left sends between h =
      by_count q l place pair (switched s) new emitted left
      (place-reprioritized (switched_sides s) s.max_discovered s.remote s.pairs q place sends)
      (between-reprioritized (switched_sides s) s.pairs l (remote_index s.remote place) pair between) h

  -- The request is dropped if it names another peer, and otherwise the rules act in turn.
  pub in_turn : (q : RequestRecord) (s new : AgentRecord H P) (emitted : Emitted) → Serves mac q s emitted new
      → MatchBool (is_for_other_peer s q) (Drops s emitted new) (ServesHere q s emitted new)
  in_turn q s new emitted (None, none, dropped) = by (is_for_other_peer s q) none where
    by : (b : Bool) → MatchBool b (Unit {0}) (local_place s.local q ≡ None) → MatchBool b (Drops s emitted new) (ServesHere q s emitted new)
    by true none = dropped
    by false none = subst (λ o. MatchOption o (Drops s emitted new) (λ l. ResolvesRoleConflict q l s emitted new)) (sym none) dropped
  in_turn q s new emitted (Some at, (known, received, sends, between), (left, h)) =
      subst (λ b. MatchBool b (Drops s emitted new) (ServesHere q s emitted new)) (sym known)
      (subst (λ o. MatchOption o (Drops s emitted new) (λ l. ResolvesRoleConflict q l s emitted new)) (sym received)
      (by_role (conflict_of s q) q at.local at.remote at.pair s new emitted left sends between h))

  -- a request from the peer to a local candidate
  pub resolved_in_turn : (q : RequestRecord) (s new : AgentRecord H P) (emitted : Emitted) (l : ℕ) → is_for_other_peer s q ≡ false
      → local_place s.local q ≡ Some l → Serves mac q s emitted new → ResolvesRoleConflict q l s emitted new
  resolved_in_turn q s new emitted l known received h =
      subst (λ o. MatchOption o (Drops s emitted new) (λ l. ResolvesRoleConflict q l s emitted new)) received
      (subst (λ b. MatchBool b (Drops s emitted new) (ServesHere q s emitted new)) known (in_turn q s new emitted h))
