-- The rules that do not change the lists that a limit bounds.
use Rattle.is_theorems.proofs.Common.{formed_again}
use Rattle.is_theorems.proofs.Common.{◌∙◌, ◌≡◌, AgentRecord, all_scheduled, ap, at_timeout, Bool, ChecksTop, Combination, Emitted, expired_gone}
use Rattle.is_theorems.proofs.Common.{false, FormsAll, HandlesFailure, HandlesSuccess, IceCreds, is_expired, Issued, List, list_any}
use Rattle.is_theorems.proofs.Common.{MaintainsPairs, mapped_added, MayCheck, Message, nominated_emitted, Nominates, NominatesWhere, None}
use Rattle.is_theorems.proofs.Common.{Option, PairRecord, Path, path_left, refl, RemovesExpired, Reselects, Some, Stream, success_counted}
use Rattle.is_theorems.proofs.Common.{true, with_selection, ℕ}
use Rattle.is_theorems.proofs.RuleEffects.Reselection.{by-reselecting}
use Rattle.is_theorems.proofs.RuleEffects.UnchangedSettings.{either}
use Rattle.is_theorems.proofs.StorageBounds.BoundedLists.{Lists}
use Rattle.is_theorems.proofs.RuleEffects.NotedErrors.{by_failure}

module _ {H P : Type 0} where
  abbrev pub lists_of : AgentRecord H P → Lists
  lists_of a = record { limit = a.max_discovered; local = a.local; remote = a.remote; sources = a.discovered_sources }

  abbrev pub Same : AgentRecord H P → AgentRecord H P → Type 0
  Same old new = lists_of new ≡ lists_of old

  pub same : (old new : AgentRecord H P) → new ≡ old → Same old new
  same old new made = ap (λ (a : AgentRecord H P). lists_of a) made

  -- ---- what leaves the lists

  pub nominates_same : (old new : AgentRecord H P) (path : Option Path) → Nominates old path new → Same old new
  nominates_same old new path (chosen, names, made) = ap (λ (a : AgentRecord H P). lists_of a) made ∙ emitted path (with_selection chosen old) where
    emitted : (path : Option Path) (a : AgentRecord H P) → Same a (nominated_emitted path a)
    emitted None a = refl
    emitted (Some path) a = refl

  pub where_same : (b : Bool) (old new : AgentRecord H P) (path : Option Path) → NominatesWhere b old path new → Same old new
  where_same true old new path h = nominates_same old new path h
  where_same false old new path h = same old new h.1

  pub reselects_same : (loses : Bool) (old new : AgentRecord H P) (path : Option Path) → Reselects loses old path new → Same old new
  reselects_same loses old new path h =
      by-reselecting (λ (a : AgentRecord H P). Same old a) loses old new path h refl (λ mid nominates. nominates_same old mid path nominates)

  pub removes_expired_same : (now : ℕ) (old new : AgentRecord H P) (path : Option Path) → RemovesExpired now old path new → Same old new
  removes_expired_same now old new path h = either (list_any (is_expired now old) old.pairs) h
      (λ _ k. ap (λ (a : AgentRecord H P). lists_of a) k.2 ∙ nominates_same (expired_gone now old) k.0 path k.1)
      (λ _ k. ap (λ (a : AgentRecord H P). lists_of a) k.1)

  check_same : (mac : H → List ℕ → List ℕ → List ℕ) (now : ℕ) (remote : Option IceCreds) (old new : AgentRecord H P) (s t : Stream) (issued : Option Issued)
      → MayCheck mac now remote old s issued new t → Same old new
  check_same mac now None old new s t issued (is, made, drawn) = same old new made
  check_same mac now (Some remote) old new s t issued h = either old.lite h
      (λ _ k. ap (λ (a : AgentRecord H P). lists_of a) k.1)
      (λ _ k. next k.0 k.2) where
        next : (top : Option PairRecord) → ChecksTop mac now remote top (all_scheduled now old) s issued new t → Same old new
        next None (is, made, drawn) = ap (λ (a : AgentRecord H P). lists_of a) made
        next (Some p) (id, drawn, values, is, made) = ap (λ (a : AgentRecord H P). lists_of a) made

  pub maintains_pairs_same : (mac : H → List ℕ → List ℕ → List ℕ) (now : ℕ) (old new : AgentRecord H P) (s t : Stream) (emitted : Emitted) → MaintainsPairs mac now old s emitted new t → Same old new
  maintains_pairs_same mac now old new s t emitted (first, second, issued, named, kept, nominating, giving, checking, is) =
      check_same mac now kept.remote_creds kept new s t issued checking
      ∙ (removes_expired_same now named kept second giving ∙ nominates_same (path_left now (at_timeout now old)) named first nominating)

  -- a response changes them as its mapped address does
  pub success_same : (now : ℕ) (old new : AgentRecord H P) (via : Path) (m : Message) (emitted : Emitted) → HandlesSuccess now old via m emitted new
      → (p : PairRecord) × Same (mapped_added p m.attributes.xor_mapped_address (success_counted old)) new
  success_same now old new via m emitted (recorded, (i, p, after, found, keeps, took, made), (path, mid, nominates, is, done)) =
      (p, ap (λ (a : AgentRecord H P). lists_of a) done ∙ (nominates_same (formed_again recorded) mid path nominates ∙ ap (λ (a : AgentRecord H P). lists_of a) made))

  pub failure_same : (old new : AgentRecord H P) (via : Path) (m : Message) (emitted : Emitted) → HandlesFailure old via m emitted new → Same old new
  failure_same old new via m emitted h = by_failure (λ _ a. Same old a) old new via m emitted (λ code. refl) (λ code. refl) h

  pub forms_same : (old new : AgentRecord H P) (all : List Combination) → FormsAll old all new → Same old new
  forms_same old new all (f, forms, made) = ap (λ (a : AgentRecord H P). lists_of a) made
