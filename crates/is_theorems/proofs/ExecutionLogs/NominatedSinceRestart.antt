-- With `Modern` an ICE restart leaves no early request and no pair, so what waits since then, and what is selected, was nominated since then. What
-- mutants/specifications changes is read by tactics.
use Rattle.is_theorems.proofs.Common.{[], ◌&&◌, ◌∙◌, ◌∷◌, ◌≡◌, ◌⊎◌, AgentRecord, Answer, ap, as_taken, AskedSince, AsksAt, Bool, Call}
use Rattle.is_theorems.proofs.Common.{CandidateRecord, clears, early_kept, Entry, Err, false, Has, has_numbers, inl, inr, is_done}
use Rattle.is_theorems.proofs.Common.{is_modern, is_nominated, IsBrought, IsControlledSince, IsModernAtRestart, IsNewlyCreated}
use Rattle.is_theorems.proofs.Common.{IsNominatedByPeer, IsNominatedOn, List, Logged, NeverLite, NominatedSince, Ok, Path, PathEffect}
use Rattle.is_theorems.proofs.Common.{PathTheorem, request_in, RequestRecord, RestartIce, restarts, reversed, SelectionsAreNominatedSince}
use Rattle.is_theorems.proofs.Common.{SharedRun, Some, Step, Stream, subst, sym, true, ℕ}
use Rattle.is_theorems.proofs.ExecutionLogs.SharedLogTheorems.{true_false, no_paths, holds, now_controlled}

-- a restart is a clear
pub clear-of : {P : Type 0} (call : Call P) (answer : Answer) → restarts call answer ≡ true → clears call answer ≡ true
clear-of (RestartIce creds keep) answer is = is
clear-of _ answer is = let no : false ≡ true = search is in absurd (cc)

module _ {H P : Type 0} (mac : H → List ℕ → List ℕ → List ℕ) (answers : P → CandidateRecord → ℕ → ℕ → Type 0) where
  -- with `Modern` no early request is left
  none_left : (old new : AgentRecord H P) (s t : Stream) (call : Call P) (e : Entry) → Step mac answers old s call e new t
      → restarts call e.answer ≡ true → is_modern old.timing ≡ true → new.queue ≡ []
  none_left old new s t (RestartIce creds keep) e (Ok _, is, (short, made), drawn) restart modern =
      ap (λ (a : AgentRecord H P). a.queue) made ∙ ap (λ (b : Bool). early_kept b old.queue) modern
  none_left old new s t (RestartIce creds keep) e (Err error, is, h, drawn) restart modern =
      let no : false ≡ true = sym (ap (λ (x : Entry). is_done x.answer) is) ∙ restart in absurd (cc)
  none_left old new s t _ e step restart modern = let no : false ≡ true = search restart in absurd (cc)

  module _ (law : PathTheorem {H = H} {P = P} mac answers) (first : AgentRecord H P) (new : IsNewlyCreated first) where
    -- a request that waited, or is received now
    asked_since : (numbered : Bool) (x : Logged P) (before : List (Logged P)) (old last : AgentRecord H P) (f : PathEffect mac old x.call x.entry last)
        → restarts x.call x.entry.answer ≡ false
        → ((q : RequestRecord) → Has old.queue q → (as_taken numbered q).use_candidate ≡ true → AskedSince numbered before (reversed q.path))
        → (q : RequestRecord) → Has old.queue q ⊎ IsBrought x.call x.entry q → (as_taken numbered q).use_candidate ≡ true
        → AskedSince numbered (x ∷ before) (reversed q.path)
    asked_since numbered x before old last f none waited q (inl was) uses = inr (search none, waited q was uses)
    asked_since numbered x before old last f none waited q (inr (at, by, m, brings, request, is)) uses =
        let asked : (as_taken numbered (request_in at by m)).use_candidate ≡ true = subst (λ (y : RequestRecord). (as_taken numbered y).use_candidate ≡ true) is uses in
        inl (subst (λ (y : RequestRecord). AsksAt numbered x (reversed y.path)) (sym is) (at, by, m, brings, (f.accepted at by m brings).0, request, asked, search))

    -- each early request that waits was received since the last restart
    queued_since : (numbered : Bool) (log : List (Logged P)) (last : AgentRecord H P) → SharedRun mac answers first log last → IsModernAtRestart log
        → (q : RequestRecord) → Has last.queue q → (as_taken numbered q).use_candidate ≡ true → AskedSince numbered log (reversed q.path)
    queued_since numbered [] last run modern q has uses = absurd (subst (λ (a : AgentRecord H P). Has a.queue q) (run ∙ new.3) has)
    queued_since numbered (x ∷ before) last (mid, s, t, run, based, step) (inl (restart, modern)) q has uses =
        let profile = ap (λ (set : Bool × Bool). set.1) (holds mac answers law first new before mid run).numbering_is ∙ modern in
        absurd (subst (λ (qs : List RequestRecord). Has qs q) (none_left mid last s t x.call x.entry step restart profile) has)
    queued_since numbered (x ∷ before) last (mid, s, t, run, based, step) (inr (none, modern)) q has uses =
        let f = (law mid last s t x.call x.entry (holds mac answers law first new before mid run).sound based step).0 in
        asked_since numbered x before mid last f none (queued_since numbered before mid run modern) q (f.queue q has) uses

    module _ (x : Logged P) (before : List (Logged P)) (last : AgentRecord H P) (run : SharedRun mac answers first (x ∷ before) last)
        (never_lite : NeverLite (x ∷ before)) where
      effect : PathEffect mac run.0 x.call x.entry last
      effect = (law run.0 last run.1 run.2 x.call x.entry (holds mac answers law first new before run.0 run.3).sound run.4 run.5).0

      asked_now : restarts x.call x.entry.answer ≡ false → IsModernAtRestart before
          → (path : Path) → IsNominatedByPeer run.0 x.call x.entry path → NominatedSince (x ∷ before) path
      asked_now none modern path (q, serving, uses, on) =
          let numbers_is = ap (λ (set : Bool × Bool). set.0 && set.1) (holds mac answers law first new before run.0 run.3).numbering_is in
          let taken : (as_taken (has_numbers before) q).use_candidate ≡ true = subst (λ b. (as_taken b q).use_candidate ≡ true) numbers_is uses in
          inl (search (subst (λ p. AskedSince (has_numbers before) (x ∷ before) p) on
          (asked_since (has_numbers before) x before run.0 last effect none (queued_since (has_numbers before) before run.0 run.3 modern) q (effect.serves q serving) taken)))

    -- while the agent is controlled since the last clear, each nominated path was nominated by the peer since the last restart
    nominated_since : (log : List (Logged P)) (last : AgentRecord H P) → NeverLite log → IsModernAtRestart log
        → (run : SharedRun mac answers first log last) → IsControlledSince mac answers first log last run
        → (path : Path) → IsNominatedOn last path → NominatedSince log path
    nominated_since [] last never_lite modern run controlled path k = absurd (subst (λ (a : AgentRecord H P). Has a.pairs k.0) (run ∙ new.3) k.1)
    nominated_since (x ∷ before) last never_lite (inl restart) run controlled path k =
        true_false (is_nominated k.0) k.2 ((effect x before last run never_lite).cleared_pairs (clear-of x.call x.entry.answer restart.0) k.0 k.1).2
    nominated_since (x ∷ before) last never_lite (inr (none, modern)) run controlled path k =
        let f = effect x before last run never_lite in
        elim controlled.1 [
          | inl clear ↦ true_false (is_nominated k.0) k.2 (f.cleared_pairs clear k.0 k.1).2
          | inr since ↦ elim (f.nominated ((holds mac answers law first new before run.0 run.3).lite_is never_lite.1) (now_controlled mac answers law first new before run.0 run.3 since) controlled.0 path k) [
            | inl was ↦ inr (search none, nominated_since before run.0 never_lite.1 modern run.3 since path was)
            | inr now ↦ asked_now x before last run never_lite none modern path now
          ]
        ]

    -- and so was each path that the last call selects
    selected_since : (x : Logged P) (before : List (Logged P)) (last : AgentRecord H P) → NeverLite (x ∷ before) → IsModernAtRestart (x ∷ before)
        → (run : SharedRun mac answers first (x ∷ before) last) → IsControlledSince mac answers first (x ∷ before) last run
        → (path : Path) → Has x.entry.emitted.selected_paths (Some path) → NominatedSince (x ∷ before) path
    selected_since x before last never_lite (inl restart) run controlled path has =
        absurd (no_paths mac answers law path (subst (λ emitted. Has emitted.selected_paths (Some path))
        ((effect x before last run never_lite).cleared (clear-of x.call x.entry.answer restart.0)) has))
    selected_since x before last never_lite (inr (none, modern)) run controlled path has =
        let f = effect x before last run never_lite in
        elim controlled.1 [
          | inl clear ↦ absurd (no_paths mac answers law path (subst (λ emitted. Has emitted.selected_paths (Some path)) (f.cleared clear) has))
          | inr since ↦ elim (f.selected_asked ((holds mac answers law first new before run.0 run.3).lite_is never_lite.1) (now_controlled mac answers law first new before run.0 run.3 since) controlled.0 path has) [
            | inl was ↦ inr (search none, nominated_since before run.0 never_lite.1 modern run.3 since path was)
            | inr now ↦ asked_now x before last run never_lite none modern path now
          ]
        ]

  pub selections_are_nominated_since : PathTheorem {H = H} {P = P} mac answers → SelectionsAreNominatedSince {H = H} mac answers
  selections_are_nominated_since law first last x before new never_lite modern run controlled path has =
      let created : IsNewlyCreated first = search new in
      let never : NeverLite (x ∷ before) = search never_lite in
      let restarted : IsModernAtRestart (x ∷ before) = search modern in
      let since : IsControlledSince mac answers first (x ∷ before) last run = search controlled in
      search (selected_since law first created x before last never restarted run since path has)
