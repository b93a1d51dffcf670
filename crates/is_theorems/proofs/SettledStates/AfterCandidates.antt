-- A candidate is added or invalidated: if the selected pair is removed, a path is selected and the state is evaluated.
use Rattle.is_theorems.proofs.Common.{◌&&◌, ◌∙◌, ◌≡◌, AddsLocal, AddsRemote, AgentRecord, Answer, ap, appended, as_remote, Bool}
use Rattle.is_theorems.proofs.Common.{CandidateRecord, Combination, Emitted, enabled_again, Entry, Err, evaluated, false, FormsAll}
use Rattle.is_theorems.proofs.Common.{has_selected, IceError, inl, inr, Invalidates, InvalidatesAt, is_local_at, is_remote_at, last_of}
use Rattle.is_theorems.proofs.Common.{List, local_discarded, local_to_discard, loses_selected, MaySelect, New, None, not, Ok, Option, Path}
use Rattle.is_theorems.proofs.Common.{refl, remote_discarded, remote_to_discard, Reselects, Result, same_state, selected_only, updates_late}
use Rattle.is_theorems.proofs.Common.{Some, Stream, subst, sym, true, unwrap_or, with_remote, ℕ}
use Rattle.is_theorems.proofs.CallEffects.AddedCandidates.{by_adding_local, by_adding_remote}
use Rattle.is_theorems.proofs.CallEffects.FailedCallsAndNewAgents.{enrolment_kept, storing_kept}
use Rattle.is_theorems.proofs.ConnectedConsent.ConnectedPairs.{evaluated-backed, HasNominated}
use Rattle.is_theorems.proofs.RuleEffects.UnchangedSettings.{either}
use Rattle.is_theorems.proofs.SettledStates.LivePairs.{filter-back, forms-back, no-live}
use Rattle.is_theorems.proofs.SettledStates.Outcomes.{Outcome, IsPlaceAtLimit, settles-begun, Stays, unasked-none}
use Rattle.is_theorems.proofs.SettledStates.SelectedPairs.{begun-evaluated, evaluated-connects, is-selected, nominates-selects}
use Rattle.is_theorems.proofs.SettledStates.SelectedPairs.{nominates-state, Selects, was-selected}

module _ {H P : Type 0} where
  -- the state and the selected number stay, and only a pair that replaces one is valid and nominated
  pub record Grows (old mid : AgentRecord H P) : Type 0 where
    pub state : mid.state ≡ old.state
    pub number : mid.selected_pair ≡ old.selected_pair
    pub back : HasNominated mid.pairs → HasNominated old.pairs

  as-it-was : (old mid : AgentRecord H P) → mid ≡ old → Grows old mid
  as-it-was old mid made = subst (λ (a : AgentRecord H P). Grows old a) (sym made) (record { state = refl; number = refl; back = λ live. live })

  grown : (old start mid : AgentRecord H P) (all : List Combination) → Grows old start → FormsAll start all mid → Grows old mid
  grown old start mid all k forms = record {
    state = ap (λ (a : AgentRecord H P). a.state) forms.2 ∙ k.state;
    number = ap (λ (a : AgentRecord H P). a.selected_pair) forms.2 ∙ k.number;
    back = λ live. k.back (forms-back start mid all forms live);
  }

  -- ---- what the calls do first

  local-discards : (k : ℕ) (old : AgentRecord H P) → Grows old (local_discarded k old)
  local-discards k old = record { state = refl; number = refl; back = λ live. filter-back (λ p. not (is_local_at k p)) old.pairs live }

  remote-discards : (k : ℕ) (old : AgentRecord H P) → Grows old (remote_discarded k old)
  remote-discards k old = record { state = refl; number = refl; back = λ live. filter-back (λ p. not (is_remote_at k p)) old.pairs live }

  discards : (old mid : AgentRecord H P) (l r : Option ℕ) (found : Bool) → InvalidatesAt l r old found mid → Grows old mid
  discards old mid (Some k) r found (is, made) = subst (λ (a : AgentRecord H P). Grows old a) (sym made) (local-discards k old)
  discards old mid None (Some k) found (is, made) = subst (λ (a : AgentRecord H P). Grows old a) (sym made) (remote-discards k old)
  discards old mid None None found (is, made) = as-it-was old mid made

  pub invalidates : (old mid : AgentRecord H P) (c : CandidateRecord) (found : Bool) → Invalidates old c found mid → Grows old mid
  invalidates old mid c found h = discards old mid (local_to_discard c old) (remote_to_discard c old) found h

  pub signals : (old mid : AgentRecord H P) (c : CandidateRecord) (r : Result (Unit {0}) IceError) → AddsRemote old c r mid → Grows old mid
  signals old mid c (Ok _) h = by_adding_remote old mid c h
      (λ made. as-it-was old mid made)
      (λ f. grown old (with_remote (as_remote c) None old) mid _ (record { state = refl; number = refl; back = λ live. live }) f)
      (λ k lt addr f. grown old (with_remote (as_remote c) (Some k) old) mid _ (record { state = refl; number = refl; back = λ live. live }) f)
  signals old mid c (Err error) h = as-it-was old mid (storing_kept old mid c error h)

  pub adds-local : (answers : P → CandidateRecord → ℕ → ℕ → Type 0) (old mid : AgentRecord H P) (c : CandidateRecord) (r : Result (Option ℕ) IceError)
      → AddsLocal answers old c r mid → Grows old mid
  adds-local answers old mid c (Ok place) h = by_adding_local old mid answers c place h
      (λ made. as-it-was old mid made)
      (λ x based f. grown old (appended x old) mid _ (record { state = refl; number = refl; back = λ live. live }) f)
      (λ k lt f. grown old (enabled_again k old) mid _ (record { state = refl; number = refl; back = λ live. live }) f)
      (λ x based k f. grown old (appended x (local_discarded k old)) mid _ (record { state = refl; number = refl; back = (local-discards k old).back }) f)
  adds-local answers old mid c (Err error) h = as-it-was old mid (enrolment_kept answers old mid c error h)

  -- ---- the call

  module _ (old mid new : AgentRecord H P) (path : Option Path) (k : Grows old mid) where
    -- the selected pair is not removed
    stays-selected : loses_selected old mid ≡ false → updates_late old ≡ true → has_selected old ≡ true → has_selected mid ≡ true
    stays-selected none on was =
        by (has_selected mid) (sym (ap (λ b. b && has_selected old && not (has_selected mid)) on ∙ ap (λ b. b && not (has_selected mid)) was) ∙ none) where
          by : (b : Bool) → not b ≡ false → b ≡ true
          by true h = refl
          by false h = no-live (sym h)

    reselects : Reselects (loses_selected old mid) mid path new → Outcome old (selected_only path) new
    reselects h = either (loses_selected old mid) h
        (λ _ r. inr (subst (λ (a : AgentRecord H P). IsPlaceAtLimit old a) (sym r.2)
        (again r.0 (nominates-state mid r.0 path r.1) (nominates-selects mid r.0 path r.1))))
        (λ none r. inl (subst (λ (a : AgentRecord H P). Stays old (selected_only path) a) (sym r.1) (record {
          state = k.state;
          unasked = unasked-none (selected_only path) refl;
          silent = λ _. ap (λ o. last_of (selected_only o).selected_paths) r.0;
          back = λ _ live. inl (k.back live);
          keeps = λ rules was. was-selected mid.selected_pair mid.pairs
              (stays-selected none rules.0 (is-selected old.selected_pair old.pairs was));
        }))) where
          at : ℕ
          at = unwrap_or mid.last_time 0

          again : (named : AgentRecord H P) → named.state ≡ mid.state → (HasNominated named.pairs → Selects named) → IsPlaceAtLimit old (evaluated at named)
          again named state selects = record {
            begun = begun-evaluated at named;
            backed = evaluated-backed at named;
            connects = λ rules live. evaluated-connects at named (ap (λ z. same_state z New) (state ∙ k.state) ∙ settles-begun old rules.0) live;
            selects = λ _ live. selects live;
          }

  pub selecting : {A : Type 0} (old new : AgentRecord H P) (s t : Stream) (e : Entry) (to_answer : A → Answer)
      (Does : A → AgentRecord H P → Type 0)
      → ((mid : AgentRecord H P) (r : A) → Does r mid → Grows old mid) → MaySelect to_answer Does old s e new t → Outcome old e.emitted new
  selecting old new s t e to_answer Does does (r, emitted, is, (path, mid, h, again, out), drawn) =
      subst (λ (x : Emitted). Outcome old x new) (sym (ap (λ (x : Entry). x.emitted) is ∙ out)) (reselects old mid new path (does mid r h) again)
