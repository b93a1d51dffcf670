-- A controlled agent selects a path in the call that makes its nomination complete.
use Rattle.is_stun.specs.declared.header.Class.TheVariants as class
use Rattle.is_theorems.specs.AtOnceExecutions.{CompletedNominationsAreSelected, CompletesNomination}
use Rattle.is_theorems.proofs.Common.{[], ◌++◌, ◌∙◌, ◌∷◌, ◌≡◌, ◌⊎◌, AcceptsNomination, AcceptsSuccessOn, AgentRecord, ap, Call}
use Rattle.is_theorems.proofs.Common.{CandidateRecord, Ends, Entry, false, HasSelected, inl, inr, is_modern, is_nominated, is_valid}
use Rattle.is_theorems.proofs.Common.{IsOnlyPair, IsSound, issued_as, IsTopSelected, List, None, PairRecord, Path, PathEffect, refl}
use Rattle.is_theorems.proofs.Common.{selected_along, Stays, subst, sym, true, UsesAddressesOf, WereValidOn, ℕ}
use Rattle.is_theorems.proofs.CallEffects.FailedCallsAndNewAgents.{fresh_sound}
use Rattle.is_theorems.proofs.CallEffects.PathAndTradeEffects.{path_theorem}
use Rattle.is_theorems.proofs.PathSelection.NominatedByPeerPerAgent.{answered, execution_on, Marked, names-from, next, nominated_now}
use Rattle.is_theorems.proofs.PathSelection.NominatedByPeerPerAgent.{nomination_accepted, valid_now}
use Rattle.is_theorems.proofs.PathSelection.SelectedAfterResponse.{nominated-eligible, point-of}
use Rattle.is_theorems.proofs.PathSelection.SelectedAtRequests.{served_top}
use Rattle.is_theorems.proofs.PathSelection.SelectedPairIsNominated.{IsNamed, names-best}
use Rattle.is_theorems.proofs.StoredPairs.PairsThatStay.{pairs-stay}
use Rattle.is_theorems.proofs.StoredPairs.TransactionsOverPackets.{sound-execution}

module _ {H P : Type 0} (mac : H → List ℕ → List ℕ → List ℕ) (answers : P → CandidateRecord → ℕ → ℕ → Type 0) where
  module _ (first start near last : AgentRecord H P) (before xs : List (Call P × Entry)) (call : Call P) (e : Entry) (path : Path)
      (c : CompletesNomination mac answers start near last xs call e path) (sound : IsSound near) where
    abbrev Selected : Type 0
    Selected = HasSelected (selected_along None (before ++ (xs ++ (call, e) ∷ []))) last

    effect : PathEffect mac near call e last
    effect = (path_theorem mac answers near last c.drawn c.left call e sound c.given c.step).0

    only : IsOnlyPair last path
    only p q has_p has_q uses_p uses_q = search (c.only_pair p q has_p has_q uses_p uses_q)

    controlled : last.controlling ≡ false
    controlled = search c.controlled

    -- the nominated pair is the valid one
    chooses : IsNamed (selected_along None (before ++ (xs ++ (call, e) ∷ []))) last → Marked path is_nominated last → Marked path is_valid last → IsTopSelected last → Selected
    chooses named n v top =
        let one : v.0 ≡ n.0 = only v.0 n.0 v.1 n.1 v.3 n.3 in
        let valid : is_valid n.0 ≡ true = subst (λ (p : PairRecord). is_valid p ≡ true) one v.2 in
        names-best last (selected_along None (before ++ (xs ++ (call, e) ∷ []))) n.0 n.1 (nominated-eligible last.controlling n.0 valid n.2) named top

    -- the response was received before, and the nomination is accepted
    serves : IsNamed (selected_along None (before ++ (xs ++ (call, e) ∷ []))) last → is_modern near.timing ≡ true → AcceptsNomination near call e path → Marked path is_valid near → Selected ⊎ Ends answers near call e path
    serves named at_once asked (v, has, valid, uses) = elim (pairs-stay mac answers near last c.drawn c.left call e v sound c.given c.step has) [
      | inr ends ↦ inr (v, has, uses, ends)
      | inl k ↦ inl (completes k)
    ] where
      uses-still : (k : Stays near v last) → UsesAddressesOf last path k.pair
      uses-still k = (ap (λ (w : Path). w.source) k.path ∙ uses.0, ap (λ (w : Path). w.destination) k.path ∙ uses.1)

      were : Stays near v last → WereValidOn near last path
      were k p there on =
          let one : k.pair ≡ p = only k.pair p k.there there (uses-still k) (ap (λ (w : Path). w.source) on, ap (λ (w : Path). w.destination) on) in
          (v, has, sym k.number ∙ ap (λ (r : PairRecord). r.number) one, valid)

      completes : Stays near v last → Selected
      completes k =
          let top = served_top mac answers near last c.drawn c.left e sound (issued_as path class.Success asked.1) refl at_once call c.step asked.0 asked.2 asked.4 (were k) in
          chooses named (nominated_now mac answers path near last call e effect asked controlled) (k.pair, k.there, k.valid valid, uses-still k) top

    -- the nomination was accepted before, and the response is accepted
    takes : IsNamed (selected_along None (before ++ (xs ++ (call, e) ∷ []))) last → AcceptsSuccessOn call e path → Marked path is_nominated near → Selected ⊎ Ends answers near call e path
    takes named (at, by, m, brings, success, back) marked =
        elim (next mac answers path is_nominated near last c.drawn c.left call e (λ p k is. k.nominated is) sound c.given c.step marked) [
          | inr ends ↦ inr ends
          | inl n ↦ inl (chooses named n (valid_now mac answers path near last call e effect (at, by, m, brings, success, back))
              (effect.points (point-of near call e at by m brings success)))
        ]

  pub completed-nominations-are-selected : CompletedNominationsAreSelected mac answers
  completed-nominations-are-selected first start near last before xs call e path fresh led c =
      let sound_first : IsSound first = subst (λ (a : AgentRecord H P). IsSound a) (sym fresh.2) (fresh_sound H P first.provider fresh.0 fresh.1) in
      let sound_start = sound-execution mac answers before first start sound_first led in
      let sound_near = sound-execution mac answers xs start near sound_start c.execution in
      let whole = execution_on mac answers before (xs ++ (call, e) ∷ []) first start last led
      (execution_on mac answers xs ((call, e) ∷ []) start near last c.execution (last, c.drawn, c.left, c.given, c.step, refl)) in
      let named = names-from mac answers (before ++ (xs ++ (call, e) ∷ [])) first last sound_first (ap (λ (a : AgentRecord H P). a.pairs) fresh.2) whole in
      elim c.arrives [
        | inl k ↦
            (let at_once : is_modern near.timing ≡ true = search k.0 in
            let asked : AcceptsNomination near call e path = search k.2 in
            elim (answered mac answers path xs start near sound_start c.execution k.1.0 k.1.1 k.1.2) [
              | inr ends ↦ inr (inl ends)
              | inl marked ↦ elim (serves first start near last before xs call e path c sound_near named at_once asked marked) [ inl selected ↦ inl selected | inr ends ↦ inr (inr (search ends)) ]
            ])
        | inr k ↦
            (let response : AcceptsSuccessOn call e path = search k.1 in
            elim (nomination_accepted mac answers path xs start near sound_start c.execution k.0) [
              | inr ends ↦ inr (inl ends)
              | inl marked ↦ elim (takes first start near last before xs call e path c sound_near named response marked) [ inl selected ↦ inl selected | inr ends ↦ inr (inr (search ends)) ]
            ])
      ]
