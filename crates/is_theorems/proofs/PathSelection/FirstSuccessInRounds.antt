-- A controlling agent without a valid pair selects a path at the first success response that it accepts: in a call, and in rounds.
use Rattle.is_stun.specs.declared.header.Class.TheVariants as class
use Rattle.is_theorems.proofs.Common.{[], ◌++◌, ◌∙◌, ◌∷◌, ◌≡◌, ◌⊎◌, AcceptsBy, AcceptsSuccess, AgentRecord, ap, AreInRound, arith, Bool}
use Rattle.is_theorems.proofs.Common.{Call, CandidateRecord, ControlsAlong, Entry, Execution, ExecutionRound, ExecutionRounds, Flag}
use Rattle.is_theorems.proofs.Common.{HandleTimeout, Has, HasSelected, inl, inr, is_modern, is_some, IsFresh, IsSound, last_of, List}
use Rattle.is_theorems.proofs.Common.{Message, None, Path, Reads, ReceivePacket, refl, selected_along, SelectsAlong, SelectsBy, Step}
use Rattle.is_theorems.proofs.Common.{Stream, subst, SuccessesSelect, sym, true, ℕ}
use Rattle.is_theorems.proofs.CallEffects.PathAndTradeEffects.{path_theorem}
use Rattle.is_theorems.proofs.DuePairs.AfterPackets.{NoneValid}
use Rattle.is_theorems.proofs.DuePairs.NoNominationDue.{Quiet, as-is, modern-execution, modern-stays, modern-stays-timeout, quiet-call}
use Rattle.is_theorems.proofs.DuePairs.NoNominationDue.{quiet-timeout}
use Rattle.is_theorems.proofs.PathSelection.NominatedByPeerPerAgent.{execution_on}
use Rattle.is_theorems.proofs.StoredPairs.TransactionsOverPackets.{sound-execution}

-- The call accepts a success response and selects a path.
abbrev pub SelectsBySuccess : {P : Type 0} → Call P → Entry → Type 0
SelectsBySuccess call e = AcceptsSuccess call e × (is_some (last_of e.emitted.selected_paths) ≡ true)

module _ {H P : Type 0} (mac : H → List ℕ → List ℕ → List ℕ) (answers : P → CandidateRecord → ℕ → ℕ → Type 0) (select : SuccessesSelect {H = H} {P = P} mac answers) (first : AgentRecord H P) (fresh : IsFresh first) where
  -- ---- a call

  pub success-selects : (now : ℕ) (via : Path) (bytes : List ℕ) (e : Entry) (m : Message) (old new : AgentRecord H P) (s t : Stream) (zs : List (Call P × Entry)) → Execution mac answers zs first old
      → NoneValid old.pairs → Step mac answers old s (ReceivePacket now via bytes) e new t → new.controlling ≡ true → Reads bytes m → e.answer ≡ Flag true → m.class ≡ class.Success
      → SelectsBySuccess {P = P} (ReceivePacket now via bytes) e
  success-selects now via bytes e m old new s t zs led none step role reads flag success = ((now, via, m, (refl, refl, reads, flag), success), of-said said.0) where
    said : SelectsAlong {P = P} ([] ++ (ReceivePacket now via bytes, e) ∷ []) × HasSelected (selected_along None (zs ++ ([] ++ (ReceivePacket now via bytes, e) ∷ []))) new
    said = select first old old new zs [] s t now via bytes e m fresh led none refl step (refl, refl, reads, flag) success role

    of-said : SelectsAlong {P = P} ((ReceivePacket now via bytes, e) ∷ []) → is_some (last_of e.emitted.selected_paths) ≡ true
    of-said (y, inl is, selected_paths) = ap (λ (z : Call P × Entry). is_some (last_of z.1.emitted.selected_paths)) is ∙ selected_paths
    of-said (y, inr none, selected_paths) = absurd none

  selects-at : (call : Call P) (e : Entry) (old new : AgentRecord H P) (s t : Stream) (zs : List (Call P × Entry)) → Execution mac answers zs first old → NoneValid old.pairs
      → Step mac answers old s call e new t → new.controlling ≡ true → AcceptsSuccess call e → SelectsBySuccess call e
  selects-at (ReceivePacket now via bytes) e old new s t zs led none step role (at, by, m, (now_is, path_is, reads, flag), success) =
      success-selects now via bytes e m old new s t zs led none step role reads flag success
  selects-at _ e old new s t zs led none step role (at, by, m, nothing, success) = absurd nothing

  -- ---- the calls of a round

  abbrev SelectsHere : List (Call P × Entry) → Type 0
  SelectsHere xs = (x : Call P × Entry) × Has xs x × SelectsBySuccess x.0 x.1

  -- a path is selected, or no pair is valid afterwards
  quiet-round : (m : Bool) (xs : List (Call P × Entry)) (old new : AgentRecord H P) (zs : List (Call P × Entry)) → Execution mac answers zs first old → is_modern old.timing ≡ m → AreInRound m xs → IsSound old
      → (execution : Execution mac answers xs old new) → ControlsAlong mac answers xs old new execution → Quiet old → SelectsHere xs ⊎ Quiet new
  quiet-round m [] old new zs led rules fits sound is along q = inr (subst (λ (a : AgentRecord H P). Quiet a) (sym is) q)
  quiet-round m (x ∷ rest) old new zs led rules fits sound (mid, s, t, given, step, more) along q =
      let sound_mid : IsSound mid = (path_theorem mac answers old mid s t x.0 x.1 sound given step).1 in
      elim (quiet-call mac answers x.0 x.1 old mid s t (as-is m (is_modern old.timing) x.0 rules (fits x (inl refl))) sound given q step) [
        | inl success ↦ inl (x, inl refl, selects-at x.0 x.1 old mid s t zs led q.invalid step along.0 success)
        | inr still ↦
            elim (quiet-round m rest mid new (zs ++ x ∷ []) (execution_on mac answers zs (x ∷ []) first old mid led (mid, s, t, given, step, refl)) (modern-stays mac answers m x.0 x.1 old mid s t (fits x (inl refl)) step ∙ rules) (λ y has. fits y (inr has)) sound_mid more along.1 still) [
              | inl (y, has, selected) ↦ inl (y, inr has, selected)
              | inr after ↦ inr after
            ]
      ]

  -- a path is selected, if a success response is accepted
  success-in-round : (m : Bool) (y : Call P × Entry) (xs : List (Call P × Entry)) (old new : AgentRecord H P) (zs : List (Call P × Entry)) → Execution mac answers zs first old → is_modern old.timing ≡ m → AreInRound m xs → IsSound old
      → (execution : Execution mac answers xs old new) → ControlsAlong mac answers xs old new execution → Quiet old → Has xs y → AcceptsSuccess y.0 y.1 → SelectsHere xs
  success-in-round m y [] old new zs led rules fits sound is along q has success = absurd has
  success-in-round m y (x ∷ rest) old new zs led rules fits sound (mid, s, t, given, step, more) along q (inl is) success =
      (x, inl refl, selects-at x.0 x.1 old mid s t zs led q.invalid step along.0 (subst (λ (z : Call P × Entry). AcceptsSuccess z.0 z.1) (sym is) success))
  success-in-round m y (x ∷ rest) old new zs led rules fits sound (mid, s, t, given, step, more) along q (inr has) success =
      let sound_mid : IsSound mid = (path_theorem mac answers old mid s t x.0 x.1 sound given step).1 in
      elim (quiet-call mac answers x.0 x.1 old mid s t (as-is m (is_modern old.timing) x.0 rules (fits x (inl refl))) sound given q step) [
        | inl first_success ↦ (x, inl refl, selects-at x.0 x.1 old mid s t zs led q.invalid step along.0 first_success)
        | inr still ↦
            (let k = success-in-round m y rest mid new (zs ++ x ∷ []) (execution_on mac answers zs (x ∷ []) first old mid led (mid, s, t, given, step, refl)) (modern-stays mac answers m x.0 x.1 old mid s t (fits x (inl refl)) step ∙ rules) (λ z there. fits z (inr there)) sound_mid more along.1 still has success in
            (k.0, inr k.1, k.2))
      ]

  -- ---- rounds

  pub selects-by : (m : Bool) (limit : ℕ) (rounds : List (ExecutionRound P)) (old last : AgentRecord H P) (zs : List (Call P × Entry)) → Execution mac answers zs first old → is_modern old.timing ≡ m → IsSound old → Quiet old
      → ExecutionRounds mac answers rounds old last → ((x : ExecutionRound P) → Has rounds x → AreInRound m x.following) → AcceptsBy limit rounds → SelectsBy limit rounds
  selects-by m limit [] old last zs led rules sound q run fits accepts = absurd accepts
  selects-by m limit (r ∷ later) old last zs led rules sound q (mid, next, s, t, step, role, execution, along, more) fits (in_time, accepts) =
      let sound_mid : IsSound mid = (path_theorem mac answers old mid s t (HandleTimeout r.now) r.timeout sound tt step).1 in
      let rules_mid : is_modern mid.timing ≡ m = modern-stays-timeout mac answers r.now r.timeout old mid s t step ∙ rules in
      let still : Quiet mid = quiet-timeout mac answers r.now r.timeout old mid s t sound q step in
      let to-mid : Execution mac answers (zs ++ (HandleTimeout r.now, r.timeout) ∷ []) first mid =
      execution_on mac answers zs ((HandleTimeout r.now, r.timeout) ∷ []) first old mid led (mid, s, t, tt, step, refl) in
      elim accepts [
        | inl (y, has, success) ↦
            (let k = success-in-round m y r.following mid next (zs ++ (HandleTimeout r.now, r.timeout) ∷ []) to-mid rules_mid (fits r (inl refl)) sound_mid execution along still has (search success) in
            (r, inl refl, (k.0, k.1, k.2.0, k.2.1), omega (arith, in_time)))
        | inr after ↦ elim (quiet-round m r.following mid next (zs ++ (HandleTimeout r.now, r.timeout) ∷ []) to-mid rules_mid (fits r (inl refl)) sound_mid execution along still) [
          | inl (y, has, (accepted, selected)) ↦ (r, inl refl, (y, has, accepted, selected), omega (arith, in_time))
          | inr quiet_next ↦
              (let k = selects-by m limit later next last ((zs ++ (HandleTimeout r.now, r.timeout) ∷ []) ++ r.following)
              (execution_on mac answers (zs ++ (HandleTimeout r.now, r.timeout) ∷ []) r.following first mid next to-mid execution)
              (modern-execution mac answers m r.following mid next (fits r (inl refl)) execution ∙ rules_mid) (sound-execution mac answers r.following mid next sound_mid execution) quiet_next more (λ x has. fits x (inr has)) after in
              (k.0, inr k.1, k.2, k.3))
        ]
      ]
