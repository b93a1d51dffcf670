-- With the profile `Modern` there is a last time after each successful `handle_timeout` call.
use Rattle.is_rules.specs.Queue.{request_at}
use Rattle.is_rules.specs.TimeoutTimes.{CallsAreFollowed, CallsAreNoted}
use Rattle.is_rules.proofs.Common.{◌&&◌, ◌∙◌, ◌≡◌, Absent, AgentRecord, all_scheduled, ap, arith, at_request, at_timeout, Barred, Bool}
use Rattle.is_rules.proofs.Common.{candidate_at, ChecksTop, Conflict, conflict_of, Drops, Emitted, expired_gone, false, formed, Full}
use Rattle.is_rules.proofs.Common.{IceCreds, is_expired, is_for_other_peer, is_misled, is_modern, is_some, is_valid_at, Issued, Known}
use Rattle.is_rules.proofs.Common.{length, List, list_any, local_place, MaintainsPairs, MatchOption, MayCheck, NextTimeoutFrom}
use Rattle.is_rules.proofs.Common.{nominated_emitted, Nominates, NominatesWhere, None, Ok, Option, pair_served, PairRecord, Path, path_left}
use Rattle.is_rules.proofs.Common.{refl, RemotePlace, RemovesExpired, request_counted, RequestRecord, selects_at_requests, Send487, Serves}
use Rattle.is_rules.proofs.Common.{ServesQueued, Some, Stream, subst, switched, SwitchRole, timeout_begun, TimesOut, true, Unknown, Vacant}
use Rattle.is_rules.proofs.Common.{with_pair, with_selection, with_sender, with_sender_at, ℕ}
use Rattle.is_rules.proofs.PollsAndResponses.NextTimeout.{either, paced, paced-from}
use Rattle.is_rules.proofs.ServedRequests.RulesInTurn.{in_turn, AddsUnknownSender, CountsAndServes, FindsOrAddsPair, RecordsAndResponds}
use Rattle.is_rules.proofs.ServedRequests.RulesInTurn.{ResolvesRoleConflict, ResolvesRoleConflictBy}

either-request : (o : Option RequestRecord) {A R : Type 0} {B : RequestRecord → Type 0} → MatchOption o A B → (A → R) → ((q : RequestRecord) → B q → R) → R
either-request None h f g = f h
either-request (Some q) h f g = g q h

module _ {H P : Type 0} where
  -- the last time stays
  abbrev Keeps : AgentRecord H P → AgentRecord H P → Type 0
  Keeps old new = new.last_time ≡ old.last_time

  same : (old new : AgentRecord H P) → new ≡ old → Keeps old new
  same old new made = ap (λ (a : AgentRecord H P). a.last_time) made

  nominates : (old new : AgentRecord H P) (path : Option Path) → Nominates old path new → Keeps old new
  nominates old new path (chosen, names, made) = ap (λ (a : AgentRecord H P). a.last_time) made ∙ emits path (with_selection chosen old) where
    emits : (path : Option Path) (a : AgentRecord H P) → Keeps a (nominated_emitted path a)
    emits None a = refl
    emits (Some path) a = refl

  nominates-where : (evaluates : Bool) (old new : AgentRecord H P) (path : Option Path) → NominatesWhere evaluates old path new → Keeps old new
  nominates-where true old new path h = nominates old new path h
  nominates-where false old new path h = same old new h.1

  removes : (now : ℕ) (old new : AgentRecord H P) (path : Option Path) → RemovesExpired now old path new → Keeps old new
  removes now old new path h = either (list_any (is_expired now old) old.pairs) h
      (λ _ k. ap (λ (a : AgentRecord H P). a.last_time) k.2 ∙ nominates (expired_gone now old) k.0 path k.1)
      (λ _ k. ap (λ (a : AgentRecord H P). a.last_time) k.1)

  -- ---- with `Modern`, the time is noted before an early request is served

  noted : (now : ℕ) (a : AgentRecord H P) → is_modern a.timing ≡ true → is_some (at_request now a).last_time ≡ true
  noted now a on = grind (arith, on)

  module _ (mac : H → List ℕ → List ℕ → List ℕ) where
    checks : (now : ℕ) (remote : Option IceCreds) (old new : AgentRecord H P) (s t : Stream) (issued : Option Issued) → MayCheck mac now remote old s issued new t → Keeps old new
    checks now None old new s t issued h = same old new h.1
    checks now (Some remote) old new s t issued h = either old.lite h
        (λ _ k. ap (λ (a : AgentRecord H P). a.last_time) k.1)
        (λ _ k. top k.0 k.2) where
          top : (next : Option PairRecord) → ChecksTop mac now remote next (all_scheduled now old) s issued new t → Keeps old new
          top None k = ap (λ (a : AgentRecord H P). a.last_time) k.1
          top (Some p) (id, drawn, values, is, made) = ap (λ (a : AgentRecord H P). a.last_time) made

    module _ (q : RequestRecord) where
      pair : (l r number : ℕ) (s new : AgentRecord H P) (emitted : Emitted) → RecordsAndResponds mac q l r number s emitted new → Keeps s new
      pair l r number s new emitted (path, mid, selects, (values, is, made)) =
          ap (λ (a : AgentRecord H P). a.last_time) made
          ∙ nominates-where (selects_at_requests s && is_valid_at number s.pairs) (pair_served q number s) mid path selects

      takes : (l r : ℕ) (number : Option ℕ) (s new : AgentRecord H P) (emitted : Emitted) → FindsOrAddsPair mac q l r number s emitted new → Keeps s new
      takes l r (Some number) s new emitted h = pair l r number s new emitted h
      takes l r None s new emitted h = either (candidate_at s.local l).discarded h
          (λ _ k. same s new k.1)
          (λ _ k. pair l r s.next_number (with_pair (formed s l r) s) new emitted k.1)

      joins : (l : ℕ) (place : RemotePlace) (s new : AgentRecord H P) (emitted : Emitted) → AddsUnknownSender mac q l place s emitted new → Keeps s new
      joins l (Known r) s new emitted (number, between, h) = takes l r number s new emitted h
      joins l Barred s new emitted h = same s new h.1
      joins l Unknown s new emitted (number, between, h) = takes l (length s.remote) number (with_sender q s) new emitted h
      joins l (Vacant r) s new emitted (number, between, h) = takes l r number (with_sender_at r q s) new emitted h
      joins l Full s new emitted h = same s new h.1

      counts : (l : ℕ) (s new : AgentRecord H P) (emitted : Emitted) → CountsAndServes mac q l s emitted new → Keeps s new
      counts l s new emitted h = either (is_misled s.controlling q) h
          (λ _ k. same s new k.1)
          (λ _ k. joins l k.0 (request_counted s) new emitted k.2)

      resolves : (conflict : Conflict) (l : ℕ) (s new : AgentRecord H P) (emitted : Emitted) → ResolvesRoleConflictBy mac conflict q l s emitted new → Keeps s new
      resolves Absent l s new emitted h = counts l s new emitted h
      resolves Send487 l s new emitted (values, is, made) = ap (λ (a : AgentRecord H P). a.last_time) made
      resolves SwitchRole l s new emitted h = counts l (switched s) new emitted h

      here : (place : Option ℕ) (s new : AgentRecord H P) (emitted : Emitted) → MatchOption place (Drops s emitted new) (λ l. ResolvesRoleConflict mac q l s emitted new) → Keeps s new
      here None s new emitted h = same s new h.1
      here (Some l) s new emitted h = resolves (conflict_of s q) l s new emitted h

      serves : (s new : AgentRecord H P) (emitted : Emitted) → Serves mac q s emitted new → Keeps s new
      serves s new emitted h = either (is_for_other_peer s q) (in_turn mac q s new emitted h) (λ _ k. same s new k.1) (λ _ k. here (local_place s.local q) s new emitted k)

    -- ---- the call

    maintains : (now : ℕ) (old new : AgentRecord H P) (s t : Stream) (emitted : Emitted) → MaintainsPairs mac now old s emitted new t → new.last_time ≡ Some now
    maintains now old new s t emitted (first, second, issued, named, kept, names, gone, sends, is) =
        let at_first = nominates (path_left now (at_timeout now old)) named first names in
        let at_second = removes now named kept second gone in
        let at_last = checks now kept.remote_creds kept new s t issued sends in
        cc

    last-is-now : (old new : AgentRecord H P) (now : ℕ) (s t : Stream) (emitted : Emitted) → request_at now old ≡ None
        → TimesOut mac now old s (Ok tt) emitted new t → new.last_time ≡ Some now
    last-is-now old new now s t emitted none call = maintains now (timeout_begun now old) new s t emitted
        (subst (λ o. MatchOption o (MaintainsPairs mac now (timeout_begun now old) s emitted new t)
        (λ q. ServesQueued mac q (at_request now (timeout_begun now old)) s emitted new t)) none call)

    pub calls-noted : CallsAreNoted P mac
    calls-noted old new now s t emitted noting =
        either-request (request_at now old) noting.call
        (λ h. ap (λ o. is_some o) (maintains now (timeout_begun now old) new s t emitted h))
        (λ q h. ap (λ o. is_some o) (serves q _ new emitted h.0) ∙ noted now (timeout_begun now old) noting.by_rule)

    pub calls-followed : CallsAreFollowed P mac
    calls-followed old new polled now s t emitted noting None h = from new.last_time (calls-noted old new now s t emitted noting) h where
      from : (last : Option ℕ) → is_some last ≡ true → NextTimeoutFrom last new None polled → ⊥
      from None given k = grind (arith, given)
      from (Some last) given k = k
    calls-followed old new polled now s t emitted noting (Some at) h = λ none.
        let last = last-is-now old new now s t emitted none noting.call in
        let low = paced new polled now at (paced-from new polled now (Some at) last h) in
        omega (arith, low)
