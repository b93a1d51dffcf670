-- If a path was nominated and answered in a per-agent execution, the next `handle_timeout` call selects it.
use Rattle.is_stun.specs.declared.header.Class.TheVariants as class
use Rattle.is_theorems.proofs.Common.{[], ◌++◌, ◌∙◌, ◌∷◌, ◌≡◌, ◌⊎◌, AcceptedNominationsAreSelected, AcceptsNomination}
use Rattle.is_theorems.proofs.Common.{AcceptsNominationAlong, AcceptsSuccessOn, AgentRecord, ap, Bool, Call, CandidateRecord, clears, Ends}
use Rattle.is_theorems.proofs.Common.{EndsAlong, Entry, Execution, false, GivesBased, HandleTimeout, Has, HasSelected, if◌then◌else◌, inl}
use Rattle.is_theorems.proofs.Common.{inr, is_nominated, is_reverse, is_some, is_valid, IsSound, Issued, issued_as, keeps_check, last_of}
use Rattle.is_theorems.proofs.Common.{List, no-some, None, Option, option_or, PairRecord, Path, path_of, PathEffect, refl, selected_along}
use Rattle.is_theorems.proofs.Common.{SelectsAlong, Some, Stays, Step, Stream, subst, sym, true, UsesAddressesOf, ℕ}
use Rattle.is_theorems.proofs.BasicLemmas.EqualAddresses.{both}
use Rattle.is_theorems.proofs.PathSelection.SelectedAfterResponse.{nominated-eligible}
use Rattle.is_theorems.proofs.PathSelection.NominatedByPeer.{back-on, uses-too}
use Rattle.is_theorems.proofs.CallEffects.PathAndTradeEffects.{path_theorem}
use Rattle.is_theorems.proofs.PathSelection.SelectedPairIsNominated.{IsNamed, names-best, names-next}
use Rattle.is_theorems.proofs.CallEffects.FailedCallsAndNewAgents.{fresh_sound}
use Rattle.is_theorems.proofs.StoredPairs.PairsThatStay.{pairs-stay}
use Rattle.is_theorems.proofs.StoredPairs.TransactionsOverPackets.{sound-execution}

-- a path that was selected last was selected in one of the calls
selected-in : {P : Type 0} (xs : List (Call P × Entry)) (was : Option Path) (path : Path) → selected_along was xs ≡ Some path → SelectsAlong xs ⊎ (was ≡ Some path)
selected-in [] was path is = inr is
selected-in (x ∷ rest) was path is =
    elim (selected-in rest (option_or (last_of x.1.emitted.selected_paths) (if clears x.0 x.1.answer then None else was)) path is) [
      | inl k ↦ inl (k.0, inr k.1, k.2)
      | inr k ↦ by (last_of x.1.emitted.selected_paths) refl k
    ] where
      before : (b : Bool) → (if b then None else was) ≡ Some path → was ≡ Some path
      before true k = absurd (no-some path k)
      before false k = k

      by : (o : Option Path) → last_of x.1.emitted.selected_paths ≡ o → option_or o (if clears x.0 x.1.answer then None else was) ≡ Some path → SelectsAlong (x ∷ rest) ⊎ (was ≡ Some path)
      by (Some one) here k = inl (x, inl refl, ap (λ (o : Option Path). is_some o) here)
      by None here k = inr (before (clears x.0 x.1.answer) k)

module _ {H P : Type 0} where
  -- a pair of the path passes
  abbrev pub Marked : Path → (PairRecord → Bool) → AgentRecord H P → Type 0
  Marked path test a = (p : PairRecord) × Has a.pairs p × (test p ≡ true) × UsesAddressesOf a path p

  module _ (mac : H → List ℕ → List ℕ → List ℕ) (answers : P → CandidateRecord → ℕ → ℕ → Type 0) where
    pub execution_on : (xs ys : List (Call P × Entry)) (a b c : AgentRecord H P) → Execution mac answers xs a b → Execution mac answers ys b c → Execution mac answers (xs ++ ys) a c
    execution_on [] ys a b c is more = subst (λ (z : AgentRecord H P). Execution mac answers ys z c) is more
    execution_on (x ∷ xs) ys a b c (mid, s, t, based, step, on) more = (mid, s, t, based, step, execution_on xs ys mid b c on more)

    -- the pair that `selected_pair` names, and the path that was selected last
    names-along : (xs : List (Call P × Entry)) (old new : AgentRecord H P) (path : Option Path) → IsSound old → Execution mac answers xs old new → IsNamed path old → IsNamed (selected_along path xs) new
    names-along [] old new path sound is were = subst (λ (a : AgentRecord H P). IsNamed path a) (sym is) were
    names-along (x ∷ rest) old new path sound (mid, s, t, based, step, more) were =
        let law = path_theorem mac answers old mid s t x.0 x.1 sound based step in
        names-along rest mid new (option_or (last_of x.1.emitted.selected_paths) (if clears x.0 x.1.answer then None else path)) law.1 more
        (names-next mac old mid x.0 x.1 path law.0 sound were)

    -- from a new agent on, `selected_pair` names the pair of the path that was selected last
    pub names-from : (xs : List (Call P × Entry)) (first last : AgentRecord H P) → IsSound first → first.pairs ≡ [] → Execution mac answers xs first last → IsNamed (selected_along None xs) last
    names-from xs first last sound none execution =
        names-along xs first last None sound execution (λ p has is. absurd (subst (λ (ps : List PairRecord). Has ps p) none has))

    module _ (path : Path) where
      pub next : (test : PairRecord → Bool) (old new : AgentRecord H P) (s t : Stream) (call : Call P) (e : Entry) → ((p : PairRecord) (k : Stays old p new) → test p ≡ true → test k.pair ≡ true)
          → IsSound old → GivesBased call → Step mac answers old s call e new t → Marked path test old → Marked path test new ⊎ Ends answers old call e path
      next test old new s t call e keeps sound based step (p, has, is, joins) = elim (pairs-stay mac answers old new s t call e p sound based step has) [
        | inl k ↦ inl (k.pair, k.there, keeps p k is, (ap (λ (w : Path). w.source) k.path ∙ joins.0, ap (λ (w : Path). w.destination) k.path ∙ joins.1))
        | inr ends ↦ inr (p, has, joins, ends)
      ]

      along : (test : PairRecord → Bool) → ((old new : AgentRecord H P) (p : PairRecord) (k : Stays old p new) → test p ≡ true → test k.pair ≡ true)
          → (xs : List (Call P × Entry)) (old new : AgentRecord H P) → IsSound old → (execution : Execution mac answers xs old new) → Marked path test old
          → Marked path test new ⊎ EndsAlong mac answers xs old new execution path
      along test keeps [] old new sound is marked = inl (subst (λ (a : AgentRecord H P). Marked path test a) (sym is) marked)
      along test keeps (x ∷ rest) old new sound (mid, s, t, based, step, more) marked =
          elim (next test old mid s t x.0 x.1 (keeps old mid) sound based step marked) [
            | inl k ↦ elim (along test keeps rest mid new (path_theorem mac answers old mid s t x.0 x.1 sound based step).1 more k) [ inl m ↦ inl m | inr ends ↦ inr (inr ends) ]
            | inr ends ↦ inr (inl ends)
          ]

      pub nominated_now : (old new : AgentRecord H P) (call : Call P) (e : Entry) → PathEffect mac old call e new → AcceptsNomination old call e path → new.controlling ≡ false → Marked path is_nominated new
      nominated_now old new call e f (q, id, serving, uses, out) controlled =
          let k = f.replied (issued_as path class.Success id) out refl in
          let on = k.3 (uses-too old call e q k.0 serving k.1 uses) controlled in
          let same : path_of new on.0 ≡ path = on.3 ∙ sym (ap (λ (i : Issued). i.path) k.2) in
          (on.0, on.1, on.2, (ap (λ (w : Path). w.source) same, ap (λ (w : Path). w.destination) same))

      pub valid_now : (old new : AgentRecord H P) (call : Call P) (e : Entry) → PathEffect mac old call e new → AcceptsSuccessOn call e path → Marked path is_valid new
      valid_now old new call e f (at, by, m, brings, success, back) =
          let k = f.taken at by m brings success in
          let on = both (keeps_check m.id k.0) (is_reverse by (path_of new k.0)) k.2 in
          (k.0, k.1, k.3, back-on by (path_of new k.0) path on.1 back)

      pub nomination_accepted : (xs : List (Call P × Entry)) (old new : AgentRecord H P) → IsSound old → (execution : Execution mac answers xs old new) → AcceptsNominationAlong mac answers xs old new execution path
          → Marked path is_nominated new ⊎ EndsAlong mac answers xs old new execution path
      nomination_accepted [] old new sound execution asks = absurd asks
      nomination_accepted (x ∷ rest) old new sound (mid, s, t, based, step, more) (inl (accepts_nomination, controlled)) =
          let law = path_theorem mac answers old mid s t x.0 x.1 sound based step in
          elim (along is_nominated (λ a b p k is. k.nominated is) rest mid new law.1 more (nominated_now old mid x.0 x.1 law.0 accepts_nomination controlled)) [ inl m ↦ inl m | inr ends ↦ inr (inr ends) ]
      nomination_accepted (x ∷ rest) old new sound (mid, s, t, based, step, more) (inr asks) =
          elim (nomination_accepted rest mid new (path_theorem mac answers old mid s t x.0 x.1 sound based step).1 more asks) [ inl m ↦ inl m | inr ends ↦ inr (inr ends) ]

      pub answered : (xs : List (Call P × Entry)) (old new : AgentRecord H P) → IsSound old → (execution : Execution mac answers xs old new)
          → (y : Call P × Entry) → Has xs y → AcceptsSuccessOn y.0 y.1 path → Marked path is_valid new ⊎ EndsAlong mac answers xs old new execution path
      answered [] old new sound execution y has is = absurd has
      answered (x ∷ rest) old new sound (mid, s, t, based, step, more) y (inl same) is =
          let law = path_theorem mac answers old mid s t x.0 x.1 sound based step in
          let now : AcceptsSuccessOn x.0 x.1 path = subst (λ (z : Call P × Entry). AcceptsSuccessOn z.0 z.1 path) (sym same) is in
          elim (along is_valid (λ a b p k valid. k.valid valid) rest mid new law.1 more (valid_now old mid x.0 x.1 law.0 now)) [ inl m ↦ inl m | inr ends ↦ inr (inr ends) ]
      answered (x ∷ rest) old new sound (mid, s, t, based, step, more) y (inr has) is =
          elim (answered rest mid new (path_theorem mac answers old mid s t x.0 x.1 sound based step).1 more y has is) [ inl m ↦ inl m | inr ends ↦ inr (inr ends) ]

    pub nomination_accepted-are-selected_paths : AcceptedNominationsAreSelected mac answers
    nomination_accepted-are-selected_paths first start near last before xs s t now timeout path fresh led execution step done none asks (y, has, is) only_pair =
        let sound_first : IsSound first = subst (λ (a : AgentRecord H P). IsSound a) (sym fresh.2) (fresh_sound H P first.provider fresh.0 fresh.1) in
        let sound_start = sound-execution mac answers before first start sound_first led in
        let sound_near = sound-execution mac answers xs start near sound_start execution in
        let whole = execution_on before (xs ++ (HandleTimeout now, timeout) ∷ []) first start last led
        (execution_on xs ((HandleTimeout now, timeout) ∷ []) start near last execution (last, s, t, tt, step, refl)) in
        by sound_first sound_near whole (nomination_accepted path xs start near sound_start execution asks) (answered path xs start near sound_start execution y has is) where
          Said : Type 0
          Said = (SelectsAlong (before ++ (xs ++ (HandleTimeout now, timeout) ∷ []))
              × HasSelected (selected_along None (before ++ (xs ++ (HandleTimeout now, timeout) ∷ []))) last)
              ⊎ (EndsAlong mac answers xs start near execution path ⊎ Ends answers near (HandleTimeout now) timeout path)

          at_last : IsSound first → IsSound near → Execution mac answers (before ++ (xs ++ (HandleTimeout now, timeout) ∷ [])) first last → Marked path is_nominated last → Marked path is_valid last → Said
          at_last sound_first sound_near whole n w =
              let one : w.0 ≡ n.0 = only_pair w.0 n.0 w.1 n.1 w.3 n.3 in
              let valid : is_valid n.0 ≡ true = subst (λ (p : PairRecord). is_valid p ≡ true) one w.2 in
              let effect = (path_theorem mac answers near last s t (HandleTimeout now) timeout sound_near tt step).0 in
              let able = nominated-eligible last.controlling n.0 valid n.2 in
              let all = before ++ (xs ++ (HandleTimeout now, timeout) ∷ []) in
              let named = names-from all first last sound_first (ap (λ (a : AgentRecord H P). a.pairs) fresh.2) whole in
              let top : HasSelected (selected_along None all) last = names-best last (selected_along None all) n.0 n.1 able named (effect.points (done, none)) in
              elim (selected-in all None (path_of last top.0) top.3) [ inl selected ↦ inl (selected, top) | inr was ↦ absurd (no-some (path_of last top.0) was) ]

          by : IsSound first → IsSound near → Execution mac answers (before ++ (xs ++ (HandleTimeout now, timeout) ∷ [])) first last
              → Marked path is_nominated near ⊎ EndsAlong mac answers xs start near execution path → Marked path is_valid near ⊎ EndsAlong mac answers xs start near execution path → Said
          by sound_first sound_near whole (inr ends) v = inr (inl ends)
          by sound_first sound_near whole (inl n) (inr ends) = inr (inl ends)
          by sound_first sound_near whole (inl n) (inl v) =
              elim (next path is_nominated near last s t (HandleTimeout now) timeout (λ p k is. k.nominated is) sound_near tt step n) [
                | inr ends ↦ inr (inr ends)
                | inl m ↦ elim (next path is_valid near last s t (HandleTimeout now) timeout (λ p k is. k.valid is) sound_near tt step v) [
                  | inr ends ↦ inr (inr ends)
                  | inl u ↦ at_last sound_first sound_near whole m u
                ]
              ]
