-- If no pair is valid, the first accepted success response makes a controlling agent select a path in a per-agent execution. The
-- preconditions that mutants/specifications changes are read by tactics.
use Rattle.is_theorems.proofs.Common.{[], ◌++◌, ◌∙◌, ◌∷◌, ◌≡◌, AgentRecord, ap, Call, CandidateRecord, Entry, Execution, false, Has, inl}
use Rattle.is_theorems.proofs.Common.{inr, is_some, is_valid, IsSound, last_of, List, None, Option, PairRecord, Path, ReceivePacket, refl}
use Rattle.is_theorems.proofs.Common.{selected_along, SelectsAlong, Some, subst, SuccessesSelect, sym, true, ℕ}
use Rattle.is_theorems.proofs.PathSelection.SelectedAfterFirstResponse.{one-named}
use Rattle.is_theorems.proofs.PathSelection.SelectedAfterResponse.{eligible}
use Rattle.is_theorems.proofs.PathSelection.NominatedByPeerPerAgent.{execution_on, names-from}
use Rattle.is_theorems.proofs.CallEffects.PathAndTradeEffects.{path_theorem}
use Rattle.is_theorems.proofs.PathSelection.SelectedPairIsNominated.{names-best, was-named}
use Rattle.is_theorems.proofs.CallEffects.FailedCallsAndNewAgents.{fresh_sound}
use Rattle.is_theorems.proofs.StoredPairs.TransactionsOverPackets.{sound-execution}

module _ {H P : Type 0} where
  -- `selected_pair` names no pair
  abbrev NamesNone : AgentRecord H P → Type 0
  NamesNone a = (p : PairRecord) → Has a.pairs p → a.selected_pair ≡ Some p.number → ⊥

  module _ (mac : H → List ℕ → List ℕ → List ℕ) (answers : P → CandidateRecord → ℕ → ℕ → Type 0) where
    -- if it comes to name a pair, a path is selected along the way
    selects : (xs : List (Call P × Entry)) (old new : AgentRecord H P) → IsSound old → Execution mac answers xs old new → NamesNone old
        → (p : PairRecord) → Has new.pairs p → new.selected_pair ≡ Some p.number → SelectsAlong xs
    selects [] old new sound is none p has named = absurd (subst (λ (a : AgentRecord H P). NamesNone a) (sym is) none p has named)
    selects (x ∷ rest) old new sound (mid, s, t, based, step, more) none p has named =
        let law = path_theorem mac answers old mid s t x.0 x.1 sound based step in
        by (last_of x.1.emitted.selected_paths) refl (λ is. selects rest mid new law.1 more
        (λ q there is_named. (let w = was-named mac old mid x.0 x.1 law.0 sound is q there is_named in none w.0.0 w.0.1 w.1)) p has named) where
          by : (o : Option Path) → last_of x.1.emitted.selected_paths ≡ o → (last_of x.1.emitted.selected_paths ≡ None → SelectsAlong rest) → SelectsAlong (x ∷ rest)
          by (Some path) is later = (x, inl refl, ap (λ o. is_some o) is)
          by None is later = let k = later is in (k.0, inr k.1, k.2)

    pub successes-select : SuccessesSelect mac answers
    successes-select first start near last before xs s t now via bytes e m fresh led none execution step brings success role =
        let call : Call P = ReceivePacket now via bytes in
        let sound_first : IsSound first = subst (λ (a : AgentRecord H P). IsSound a) (sym fresh.2) (fresh_sound H P first.provider fresh.0 fresh.1) in
        let sound_start = sound-execution mac answers before first start sound_first led in
        let sound_near = sound-execution mac answers xs start near sound_start execution in
        let effect = (path_theorem mac answers near last s t call e sound_near tt step).0 in
        let taken = effect.taken now via m brings success in
        let steers : last.controlling ≡ true = search role in
        let able = eligible last.controlling taken.0 steers taken.3 in
        let points = effect.points (now, via, m, brings, success) in
        let named = one-named last taken.0 taken.1 able points in
        let empty : first.pairs ≡ [] = ap (λ (a : AgentRecord H P). a.pairs) fresh.2 in
        let begin = names-from mac answers before first start sound_first empty led in
        let within = execution_on mac answers xs ((call, e) ∷ []) start near last execution (last, s, t, tt, step, refl) in
        let whole = execution_on mac answers before (xs ++ (call, e) ∷ []) first start last led within in
        let all = before ++ (xs ++ (call, e) ∷ []) in (
          selects (xs ++ (call, e) ∷ []) start last sound_start within
              (λ p has is. (let invalid : is_valid p ≡ false = search (none p has) in let wrong : false ≡ true = sym invalid ∙ (begin p has is).0 in cc)) named.0 named.1 named.2,
          names-best last (selected_along None all) taken.0 taken.1 able (names-from mac answers all first last sound_first empty whole) points,
        )
