-- Executions of one agent whose random words may come from any streams: their states satisfy the invariant, and what a limit bounds
-- stays bounded.
use Rattle.is_theorems.proofs.Common.{[], ◌*◌, ◌+◌, ◌∙◌, ◌∷◌, ◌≡◌, ◌≤◌, AgentRecord, arith, BeforeEach, Bool, CandidateRecord, cond, false}
use Rattle.is_theorems.proofs.Common.{gathered_count, inl, inr, is_gathered, is_signal, is_signaled, IsNewlyCreated, IsSound, length}
use Rattle.is_theorems.proofs.Common.{length-map, List, Logged, mul-le-mul_right, SharedRun, signal_count, subst, suc, sum_by-cons, sym}
use Rattle.is_theorems.proofs.Common.{true, zero, ℕ}
use Rattle.is_theorems.proofs.StorageBounds.UnchangedLists.{lists_of}
use Rattle.is_theorems.proofs.StorageBounds.ListsInExecutions.{bounds}
use Rattle.is_theorems.proofs.StorageBounds.BoundedLists.{Within, fits-none, is_own}
use Rattle.is_theorems.proofs.StorageBounds.PairsByCellInExecutions.{Stays, steps}
use Rattle.is_theorems.proofs.StorageBounds.PairsByCellAfterRules.{own_at, surplus}
use Rattle.is_theorems.proofs.StorageBounds.PairsByCell.{cell_of, cells, extras-length, owned, pairs-in-grid}
use Rattle.is_theorems.proofs.CallEffects.PathAndTradeEffects.{path_theorem}
use Rattle.is_theorems.proofs.ExecutionLogs.SharedLogTheorems.{new_sound}
use Rattle.is_theorems.specs.Limited.{ListsStayBounded, PairsStayFew, IsLimitedAt, FormsFewAt}

owned-most : (own : ℕ → Bool) (n : ℕ) → owned own n ≤ n
owned-most own zero = omega arith
owned-most own (suc n) = by (own n) (owned-most own n) where
  by : (b : Bool) → owned own n ≤ n → cond b 1 0 + owned own n ≤ suc n
  by true le = omega (arith, le)
  by false le = omega (arith, le)

module _ {H P : Type 0} (mac : H → List ℕ → List ℕ → List ℕ) (answers : P → CandidateRecord → ℕ → ℕ → Type 0) where
  pub sound_run : (first last : AgentRecord H P) (log : List (Logged P)) → IsNewlyCreated first → SharedRun mac answers first log last → IsSound last
  sound_run first last [] new run = subst (λ (a : AgentRecord H P). IsSound a) (sym run) (new_sound first new)
  sound_run first last (x ∷ before) new (mid, s, t, run, based, step) =
      (path_theorem mac answers mid last s t x.call x.entry (sound_run first mid before new run) based step).1

  -- ---- lists

  within : (most : ℕ) (first last : AgentRecord H P) (log : List (Logged P)) → IsNewlyCreated first → (run : SharedRun mac answers first log last)
      → BeforeEach mac answers (IsLimitedAt most) first log last run → Within most (gathered_count log) (signal_count log) (lists_of last)
  within most first last [] (creds, tie, role, is) run limited =
      subst (λ (a : AgentRecord H P). Within most 0 0 (lists_of a)) (sym (run ∙ is))
      (record { local = fits-none is_own most 0; remote = fits-none is_signaled most 0; sources = omega arith })
  within most first last (x ∷ before) new (mid, s, t, run, based, step) (here, earlier) =
      subst (λ j. Within most j (signal_count (x ∷ before)) (lists_of last)) (sym (sum_by-cons (λ (y : Logged P). cond (is_gathered y.call) 1 0) x before))
      (subst (λ k. Within most (cond (is_gathered x.call) 1 0 + gathered_count before) k (lists_of last)) (sym (sum_by-cons (λ (y : Logged P). cond (is_signal y.call) 1 0) x before))
      (bounds most (gathered_count before) (signal_count before) mac answers mid last s t x.entry x.call here step (within most first mid before new run earlier)))

  pub lists_stay_bounded : ListsStayBounded {H = H} mac answers
  lists_stay_bounded most first last log new run limited =
      let w = within most first last log new run limited in
      let local = w.local.all in let remote = w.remote.all in let sources = w.sources in
      record { local = omega (arith, local); remote = omega (arith, remote); sources = omega (arith, sources) }

  -- ---- pairs

  few_extras : (limit : ℕ) (first last : AgentRecord H P) (log : List (Logged P)) → IsNewlyCreated first → (run : SharedRun mac answers first log last)
      → BeforeEach mac answers (FormsFewAt limit) first log last run → surplus last ≤ limit
  few_extras limit first last [] (creds, tie, role, is) run few =
      subst (λ (a : AgentRecord H P). surplus a ≤ limit) (sym (run ∙ is)) (omega arith)
  few_extras limit first last (x ∷ before) new (mid, s, t, run, based, step) (here, earlier) =
      by (steps mac answers mid last s t x.entry (sound_run first mid before new run) x.call step) (few_extras limit first mid before new run earlier) here where
        by : Stays x.call mid last → surplus mid ≤ limit → FormsFewAt limit mid x → surplus last ≤ limit
        by (inl fewer) was few_at = omega (arith, fewer, was)
        by (inr (forms, formed)) was few_at =
            let most : mid.max_pairs ≤ limit = search (few_at forms) in
            let all : length (cells last.pairs) ≡ length last.pairs = length-map last.pairs cell_of in
            let some = extras-length (own_at last.local) (cells last.pairs) in
            omega (arith, formed, most, all, some)

  pub pairs_stay_few : PairsStayFew {H = H} mac answers
  pairs_stay_few limit first last log new run few =
      let le = few_extras limit first last log new run few in
      let sound : IsSound last = sound_run first last log new run in
      let k = pairs-in-grid (own_at last.local) last.pairs (length last.local) (length last.remote) sound.placed in
      let own : owned (own_at last.local) (length last.local) * length last.remote ≤ length last.local * length last.remote =
      mul-le-mul_right (length last.remote) (owned-most (own_at last.local) (length last.local)) in
      along (length last.pairs) (surplus last) (owned (own_at last.local) (length last.local) * length last.remote) (length last.local * length last.remote) limit k le own where
        along : (a r g h k : ℕ) → a ≤ r + g → r ≤ k → g ≤ h → a ≤ k + h
        along a r g h k p q e = omega (arith, p, q, e)
