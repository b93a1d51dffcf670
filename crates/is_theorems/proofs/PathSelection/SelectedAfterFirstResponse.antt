-- An accepted success response selects a path, if no pair was valid before.
use Rattle.is_theorems.proofs.Common.{◌∙◌, ◌≡◌, AgentRecord, BringsSuccess, CandidateRecord, chosen-able, chosen-none, false, followed, Has}
use Rattle.is_theorems.proofs.Common.{is_eligible, is_some, is_valid, IsFresh, IsSound, IsTopSelected, last_of, List, Logged, named-by}
use Rattle.is_theorems.proofs.Common.{None, none_pass, Option, PairRecord, Path, PathEffect, Point, refl, remains, Run, SegmentSelects}
use Rattle.is_theorems.proofs.Common.{selection_of, Some, Stream, subst, sym, true, ℕ}
use Rattle.is_theorems.proofs.CallEffects.PathAndTradeEffects.{path_theorem}
use Rattle.is_theorems.proofs.ExecutionLogs.LogTheorems.{holds, runs_sound}
use Rattle.is_theorems.proofs.PathSelection.SelectedPairIsNominated.{persists-with, was-named}
use Rattle.is_theorems.proofs.DuePairs.AfterPackets.{NoneValid}
use Rattle.is_theorems.proofs.PathSelection.SelectedAfterResponse.{eligible, point-of, answers-select}

module _ {H P : Type 0} where
  -- if a pair is eligible, `selected_pair` names one
  pub one-named : (a : AgentRecord H P) (q : PairRecord) → Has a.pairs q → is_eligible a.controlling q ≡ true → IsTopSelected a
      → (p : PairRecord) × Has a.pairs p × (a.selected_pair ≡ Some p.number)
  one-named a q has able (None, none, persists) =
      absurd (none_pass (is_eligible a.controlling) a.pairs q (chosen-none a.controlling (followed a) (selection_of a) none) has able)
  one-named a q has able (Some best, chosen, persists) = by (followed a) refl where
    by : (o : Option ℕ) → followed a ≡ o → (p : PairRecord) × Has a.pairs p × (a.selected_pair ≡ Some p.number)
    by None none = let k = persists-with best.priority a (subst (λ f. remains f best (selection_of a) ≡ true) none persists) in (k.0, k.1, k.2)
    by (Some n) follows = (
      best,
      (chosen-able a.controlling (followed a) (selection_of a) best chosen).0,
      named-by a.selected_pair best (subst (λ f. remains f best (selection_of a) ≡ true) follows persists),
    )

  module _ (mac : H → List ℕ → List ℕ → List ℕ) (answers : P → CandidateRecord → ℕ → ℕ → Type 0) where
    module _ (first : AgentRecord H P) (s : Stream) (log : List (Logged P)) (fresh : IsFresh first) where
      -- ---- an accepted success response selects

      -- `selected_pair` names no pair that is not valid
      named-valid : (before : List (Logged P)) (last : AgentRecord H P) (t : Stream) → Run mac answers first s before last t
          → (p : PairRecord) → Has last.pairs p → last.selected_pair ≡ Some p.number → is_valid p ≡ true
      named-valid before last t run p has named = ((holds mac answers (path_theorem mac answers) first s fresh before last t run).named p has named).0

      -- if no pair was valid, a pair that `selected_pair` names was selected now
      named-now : (mid after : AgentRecord H P) (x : Logged P) → PathEffect mac mid x.call x.entry after → IsSound mid → NoneValid mid.pairs
          → ((p : PairRecord) → Has mid.pairs p → mid.selected_pair ≡ Some p.number → is_valid p ≡ true)
          → (o : Option Path) → last_of x.entry.emitted.selected_paths ≡ o → (p : PairRecord) → Has after.pairs p → after.selected_pair ≡ Some p.number → is_some o ≡ true
      named-now mid after x f sound none were (Some path) is p has named = refl
      named-now mid after x f sound none were None is p has named =
          let w = was-named mac mid after x.call x.entry f sound is p has named in
          let no : false ≡ true = sym (none w.0.0 w.0.1) ∙ were w.0.0 w.0.1 w.1 in no

      pub selects_path-at : (before part : List (Logged P)) (mid after : AgentRecord H P) (x : Logged P) → Point mac answers first s log before mid x after
          → NoneValid mid.pairs → after.controlling ≡ true → BringsSuccess x → Has part x → SegmentSelects mac answers first s log part
      selects_path-at before part mid after x point none role (at, by, m, brings, success) within =
          let sound = runs_sound mac answers (path_theorem mac answers) first mid s point.at before fresh point.led in
          let f = (path_theorem mac answers mid after point.at point.following x.call x.entry sound point.given point.step).0 in
          let taken = f.taken at by m brings success in
          let named = one-named after taken.0 taken.1 (eligible after.controlling taken.0 role taken.3) (f.points (point-of mid x.call x.entry at by m brings success)) in (
            before,
            mid,
            after,
            x,
            point,
            within,
            (at, by, m, brings, success),
            named-now mid after x f sound none (named-valid before mid point.at point.led) (last_of x.entry.emitted.selected_paths) refl named.0 named.1 named.2,
            answers-select mac answers first s log fresh before mid after x point at by m brings success role,
          )
