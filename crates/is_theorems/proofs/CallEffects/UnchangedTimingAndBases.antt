-- What no step except a setter changes: limits, and that host and relayed local candidates are their own base.
use Rattle.is_theorems.proofs.Common.{[], ◌&&◌, ◌∙◌, ◌∷◌, ◌≡◌, Absent, AddsUnknownSender, AgentRecord, all_scheduled, ap, at_timeout, Barred}
use Rattle.is_theorems.proofs.Common.{Bool, candidate_at, CandidateRecord, ChecksTop, Conflict, conflict_of, CountsAndServes, Drops}
use Rattle.is_theorems.proofs.Common.{Emitted, expired_gone, false, FindsOrAddsPair, formed, Full, Has, IceCreds, in_turn, inl, inr}
use Rattle.is_theorems.proofs.Common.{is_expired, is_for_other_peer, is_misled, is_valid_at, IsBased, Issued, Known, length, List, list_any}
use Rattle.is_theorems.proofs.Common.{local_place, MaintainsPairs, MatchOption, MayCheck, nominated_emitted, Nominates, NominatesWhere}
use Rattle.is_theorems.proofs.Common.{None, Option, pair_served, PairRecord, Path, path_left, RecordsAndResponds, refl, RemotePlace}
use Rattle.is_theorems.proofs.Common.{RemovesExpired, request_counted, RequestRecord, Reselects, ResolvesRoleConflict}
use Rattle.is_theorems.proofs.Common.{ResolvesRoleConflictBy, selects_at_requests, Send487, Serves, Some, Stream, StunTiming, suc, switched}
use Rattle.is_theorems.proofs.Common.{SwitchRole, true, Unknown, Vacant, with_pair, with_selection, with_sender, with_sender_at, zero, ℕ}
use Rattle.is_theorems.proofs.RuleEffects.UnchangedSettings.{either}

pub record Rest : Type 0 where
  pub local : List CandidateRecord
  pub timing : StunTiming

module _ {H P : Type 0} where
  abbrev pub rest_of : AgentRecord H P → Rest
  rest_of a = record { local = a.local; timing = a.timing }

  abbrev Rests : AgentRecord H P → AgentRecord H P → Type 0
  Rests old new = rest_of new ≡ rest_of old

  same : (old new : AgentRecord H P) → new ≡ old → Rests old new
  same old new made = ap (λ (a : AgentRecord H P). rest_of a) made

  pub nominates_rest : (old new : AgentRecord H P) (path : Option Path) → Nominates old path new → Rests old new
  nominates_rest old new path (chosen, names, made) = ap (λ (a : AgentRecord H P). rest_of a) made ∙ emitted_rest path (with_selection chosen old) where
    emitted_rest : (path : Option Path) (a : AgentRecord H P) → Rests a (nominated_emitted path a)
    emitted_rest None a = refl
    emitted_rest (Some path) a = refl

  where_rest : (b : Bool) (old new : AgentRecord H P) (path : Option Path) → NominatesWhere b old path new → Rests old new
  where_rest true old new path h = nominates_rest old new path h
  where_rest false old new path h = same old new h.1

  pub removes_expired_rest : (now : ℕ) (old new : AgentRecord H P) (path : Option Path) → RemovesExpired now old path new → Rests old new
  removes_expired_rest now old new path h = either (list_any (is_expired now old) old.pairs) h
      (λ _ k. ap (λ (a : AgentRecord H P). rest_of a) k.2 ∙ nominates_rest (expired_gone now old) k.0 path k.1)
      (λ _ k. ap (λ (a : AgentRecord H P). rest_of a) k.1)

  pub reselects_rest : (loses : Bool) (old new : AgentRecord H P) (path : Option Path) → Reselects loses old path new → Rests old new
  reselects_rest true old new path (named, nominates, made) = ap (λ (a : AgentRecord H P). rest_of a) made ∙ nominates_rest old named path nominates
  reselects_rest false old new path h = same old new h.1

  check_rest : (mac : H → List ℕ → List ℕ → List ℕ) (now : ℕ) (remote : Option IceCreds) (old new : AgentRecord H P) (s t : Stream) (issued : Option Issued)
      → MayCheck mac now remote old s issued new t → Rests old new
  check_rest mac now None old new s t issued (is, made, drawn) = same old new made
  check_rest mac now (Some remote) old new s t issued h = either old.lite h
      (λ _ k. ap (λ (a : AgentRecord H P). rest_of a) k.1)
      (λ _ k. next k.0 k.2) where
        next : (top : Option PairRecord) → ChecksTop mac now remote top (all_scheduled now old) s issued new t → Rests old new
        next None (is, made, drawn) = ap (λ (a : AgentRecord H P). rest_of a) made
        next (Some p) (id, drawn, values, is, made) = ap (λ (a : AgentRecord H P). rest_of a) made

  pub maintains_pairs_rest : (mac : H → List ℕ → List ℕ → List ℕ) (now : ℕ) (old new : AgentRecord H P) (s t : Stream) (emitted : Emitted) → MaintainsPairs mac now old s emitted new t → Rests old new
  maintains_pairs_rest mac now old new s t emitted (first, second, issued, named, kept, nominating, giving, checking, is) =
      check_rest mac now kept.remote_creds kept new s t issued checking
      ∙ (removes_expired_rest now named kept second giving ∙ nominates_rest (path_left now (at_timeout now old)) named first nominating)

  module _ (mac : H → List ℕ → List ℕ → List ℕ) (q : RequestRecord) where
    pair : (l r number : ℕ) (s new : AgentRecord H P) (emitted : Emitted) → RecordsAndResponds mac q l r number s emitted new → Rests s new
    pair l r number s new emitted (path, mid, nominates, (values, is, made)) =
        ap (λ (a : AgentRecord H P). rest_of a) made ∙ where_rest (selects_at_requests s && is_valid_at number s.pairs) (pair_served q number s) mid path nominates

    takes : (l r : ℕ) (number : Option ℕ) (s new : AgentRecord H P) (emitted : Emitted) → FindsOrAddsPair mac q l r number s emitted new → Rests s new
    takes l r (Some number) s new emitted h = pair l r number s new emitted h
    takes l r None s new emitted h = either (candidate_at s.local l).discarded h (λ _ k. same s new k.1) (λ _ k. pair l r s.next_number (with_pair (formed s l r) s) new emitted k.1)

    joins_at : (l : ℕ) (place : RemotePlace) (s new : AgentRecord H P) (emitted : Emitted) → AddsUnknownSender mac q l place s emitted new → Rests s new
    joins_at l (Known r) s new emitted (number, between, h) = takes l r number s new emitted h
    joins_at l Barred s new emitted h = same s new h.1
    joins_at l Unknown s new emitted (number, between, h) = takes l (length s.remote) number (with_sender q s) new emitted h
    joins_at l (Vacant r) s new emitted (number, between, h) = takes l r number (with_sender_at r q s) new emitted h
    joins_at l Full s new emitted h = same s new h.1

    admits : (l : ℕ) (s new : AgentRecord H P) (emitted : Emitted) → CountsAndServes mac q l s emitted new → Rests s new
    admits l s new emitted h = either (is_misled s.controlling q) h (λ _ k. same s new k.1)
        (λ _ k. joins_at l k.0 (request_counted s) new emitted k.2)

    resolves_by : (conflict : Conflict) (l : ℕ) (s new : AgentRecord H P) (emitted : Emitted) → ResolvesRoleConflictBy mac conflict q l s emitted new → Rests s new
    resolves_by Absent l s new emitted h = admits l s new emitted h
    resolves_by Send487 l s new emitted (values, emitted_is, made) = ap (λ (a : AgentRecord H P). rest_of a) made
    resolves_by SwitchRole l s new emitted h = admits l (switched s) new emitted h

    here : (place : Option ℕ) (s new : AgentRecord H P) (emitted : Emitted) → MatchOption place (Drops s emitted new) (λ l. ResolvesRoleConflict mac q l s emitted new) → Rests s new
    here None s new emitted h = same s new h.1
    here (Some l) s new emitted h = resolves_by (conflict_of s q) l s new emitted h

    pub serves_rest : (s new : AgentRecord H P) (emitted : Emitted) → Serves mac q s emitted new → Rests s new
    serves_rest s new emitted h = either (is_for_other_peer s q) (in_turn mac q s new emitted h) (λ _ k. same s new k.1) (λ _ k. here (local_place s.local q) s new emitted k)

-- ---- based candidates

abbrev pub AllBased : List CandidateRecord → Type 0
AllBased cs = (c : CandidateRecord) → Has cs c → IsBased c

pub based_at : (cs : List CandidateRecord) (i : ℕ) → AllBased cs → IsBased (candidate_at cs i)
based_at [] i h = λ _. refl
based_at (c ∷ cs) zero h = h c (inl refl)
based_at (c ∷ cs) (suc i) h = based_at cs i (λ x has. h x (inr has))
