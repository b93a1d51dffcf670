-- Each `NominatedSend` that waits reports a path that was selected since all such events were last removed, and what holds of selected paths holds
-- of it. What mutants/specifications changes is read by tactics.
use Rattle.is_theorems.proofs.Common.{[], ◌∙◌, ◌∷◌, ◌≡◌, AgentRecord, Answer, ap, Begins, Bool, Call, CandidateRecord, Checking, clears}
use Rattle.is_theorems.proofs.Common.{Done, Entry, events_kept, false, FormsAgain, Has, IceAgentEvent, IceConnectionStateChange, IceCreds}
use Rattle.is_theorems.proofs.Common.{IceRestart, if◌then◌else◌, inl, inr, is_done, is_modern, is_modern_profile, is_selection}
use Rattle.is_theorems.proofs.Common.{IsAnsweredBy, IsControlledSince, IsControlledSinceRestart, IsModernAtRestart, IsNewlyCreated, List}
use Rattle.is_theorems.proofs.Common.{Logged, Modern, NeverLite, NominatedByPeer, NominatedSince, not, numbering_of, numbering_set_by}
use Rattle.is_theorems.proofs.Common.{Original, Path, PathTheorem, Profile, RecreateCandidatePairs, refl, Reports, RestartIce, restarts}
use Rattle.is_theorems.proofs.Common.{SelectedSince, selecting, SharedRun, Some, subst, sym, true, WaitingAreAnswered}
use Rattle.is_theorems.proofs.Common.{WaitingAreNominatedByPeer, WaitingAreNominatedSince, WaitingAreSelected, ℕ}
use Rattle.is_theorems.proofs.CallEffects.KeptSettings.{settings-are-set}
use Rattle.is_theorems.proofs.CallEffects.QueuedSelections.{events-are-selected, no-such, has-last}
use Rattle.is_theorems.proofs.ExecutionLogs.NominatedSinceRestart.{clear-of, selections_are_nominated_since}
use Rattle.is_theorems.proofs.ExecutionLogs.PollingOrder.{queues_theorem}
use Rattle.is_theorems.proofs.ExecutionLogs.SharedLogTheorems.{numbering-next, selections_are_answered, selections_are_nominated_by_peer}

-- after a restart only its own events wait
begun : (a : Answer) (creds : IceCreds) (old new : List IceAgentEvent) (path : Path) → Begins a creds old new → Has new (selecting path) → is_done a ≡ false
begun Done creds old new path (inl is) has = elim (subst (λ (es : List IceAgentEvent). Has es (selecting path)) is has) [
  | inl here ↦ no-such path (IceRestart creds) refl here
  | inr none ↦ absurd none
]
begun Done creds old new path (inr is) has = elim (subst (λ (es : List IceAgentEvent). Has es (selecting path)) is has) [
  | inl here ↦ no-such path (IceRestart creds) refl here
  | inr (inl here) ↦ no-such path (IceConnectionStateChange Checking) refl here
  | inr (inr none) ↦ absurd none
]
begun _ creds old new path b has = refl

-- of the events that are kept, none reports a path
none-first : (b : Bool) (e : IceAgentEvent) (es : List IceAgentEvent) (path : Path) → is_selection e ≡ b → (Has es (selecting path) → ⊥)
    → Has (if not b then e ∷ es else es) (selecting path) → ⊥
none-first true e es path is none has = none has
none-first false e es path is none (inl here) = let f : is_selection e ≡ true = ap is_selection here in let wrong : true ≡ false = sym f ∙ is in absurd (cc)
none-first false e es path is none (inr has) = none has

none-kept : (es : List IceAgentEvent) (path : Path) → Has (events_kept true es) (selecting path) → ⊥
none-kept [] path none = none
none-kept (e ∷ es) path has = none-first (is_selection e) e (events_kept true es) path refl (λ had. none-kept es path had) has

-- with `Modern` none waits once pairs are formed again
formed : (a : Answer) (old new : List IceAgentEvent) (path : Path) → FormsAgain Modern a old new → Has new (selecting path) → is_done a ≡ false
formed Done old new path (inl is) has = absurd (none-kept old path (subst (λ (es : List IceAgentEvent). Has es (selecting path)) is has))
formed Done old new path (inr is) has =
    elim (has-last (events_kept true old) (IceConnectionStateChange Checking) (selecting path) (subst (λ (es : List IceAgentEvent). Has es (selecting path)) is has)) [
      | inl there ↦ absurd (none-kept old path there)
      | inr here ↦ no-such path (IceConnectionStateChange Checking) refl here
    ]
formed _ old new path f has = refl

-- a call after which one waits does not remove all
not_removed : {P : Type 0} (profile : Profile) (call : Call P) (e : Entry) (old new : List IceAgentEvent) (path : Path) → Reports profile call e old new
    → Has new (selecting path) → (if is_modern_profile profile then clears call e.answer else restarts call e.answer) ≡ false
not_removed Modern (RestartIce creds keep) e old new path b has = begun e.answer creds old new path b has
not_removed Original (RestartIce creds keep) e old new path b has = begun e.answer creds old new path b has
not_removed Modern RecreateCandidatePairs e old new path f has = formed e.answer old new path f has
not_removed Modern _ e old new path r has = search
not_removed Original _ e old new path r has = search

-- a call that removes none is no restart
not_restart : {P : Type 0} (modern : Bool) (call : Call P) (answer : Answer) → (if modern then clears call answer else restarts call answer) ≡ false → restarts call answer ≡ false
not_restart true (RestartIce creds keep) answer is = is
not_restart true _ answer is = search
not_restart false call answer is = is

module _ {H P : Type 0} (mac : H → List ℕ → List ℕ → List ℕ) (answers : P → CandidateRecord → ℕ → ℕ → Type 0) where
  -- the profile is the one that the log set last
  numbering-is : (first : AgentRecord H P) → IsNewlyCreated first → (log : List (Logged P)) (last : AgentRecord H P) → SharedRun mac answers first log last
      → (last.renominates, is_modern last.timing) ≡ numbering_of log
  numbering-is first created [] last run = ap (λ (a : AgentRecord H P). (a.renominates, is_modern a.timing)) (run ∙ created.3)
  numbering-is first created (x ∷ before) last (mid, s, t, run, given, step) =
      numbering-next x.call x.entry.answer mid last (settings-are-set mac answers mid last s t x.call x.entry step)
      ∙ ap (λ (set : Bool × Bool). numbering_set_by x.call set) (numbering-is first created before mid run)

  module _ (first : AgentRecord H P) (created : IsNewlyCreated first) (path : Path)
      (Fits : (log : List (Logged P)) (last : AgentRecord H P) → SharedRun mac answers first log last → Type 0)
      (earlier : (x : Logged P) (before : List (Logged P)) (last : AgentRecord H P) (run : SharedRun mac answers first (x ∷ before) last)
      → restarts x.call x.entry.answer ≡ false → Fits (x ∷ before) last run → Fits before run.0 run.3)
      (Holds : Logged P → List (Logged P) → Type 0)
      (each : (x : Logged P) (before : List (Logged P)) (last : AgentRecord H P) (run : SharedRun mac answers first (x ∷ before) last)
      → Fits (x ∷ before) last run → Has x.entry.emitted.selected_paths (Some path) → Holds x before) where
    waiting : (log : List (Logged P)) (last : AgentRecord H P) (run : SharedRun mac answers first log last) → Fits log last run
        → Has last.events (selecting path) → SelectedSince Holds log path
    waiting [] last run fits has = absurd (subst (λ (a : AgentRecord H P). Has a.events (selecting path)) (run ∙ created.3) has)
    waiting (x ∷ before) last run fits has =
        let reports : Reports run.0.timing.profile x.call x.entry run.0.events last.events = (queues_theorem mac answers run.0 last run.1 run.2 x.call x.entry run.5).1 in
        let none = subst (λ (modern : Bool). (if modern then clears x.call x.entry.answer else restarts x.call x.entry.answer) ≡ false)
        (ap (λ (set : Bool × Bool). set.1) (numbering-is first created before run.0 run.3))
        (not_removed run.0.timing.profile x.call x.entry run.0.events last.events path reports has) in
        elim (events-are-selected mac answers run.0 last run.1 run.2 x.call x.entry run.5 path has) [
          | inl was ↦ inr (search none, waiting before run.0 run.3 (earlier x before last run (not_restart (numbering_of before).1 x.call x.entry.answer none) fits) was)
          | inr now ↦ inl (search now, each x before last run fits now)
        ]

  pub waiting_are_selected : WaitingAreSelected {H = H} mac answers
  waiting_are_selected first last log new run path has =
      let created : IsNewlyCreated first = search new in
      let waits : Has last.events (selecting path) = search has in
      search (waiting first created path (λ log last run. Unit {0}) (λ x before last run none fits. tt) (λ x before. Unit {0}) (λ x before last run fits now. tt) log last run tt waits)

  pub waiting_are_answered : PathTheorem {H = H} {P = P} mac answers → WaitingAreAnswered {H = H} mac answers
  waiting_are_answered law first last log new never_lite run path has =
      let created : IsNewlyCreated first = search new in
      let never : NeverLite log = search never_lite in
      let waits : Has last.events (selecting path) = search has in
      search (waiting first created path (λ log last run. NeverLite log) (λ x before last run none never. never.1) (λ x before. IsAnsweredBy mac first.provider x before path)
      (λ x before last run never now. selections_are_answered mac answers law first last x before created never run path now) log last run never waits)

  -- ---- what the peer nominated

  since-clear : (first : AgentRecord H P) (log : List (Logged P)) (last : AgentRecord H P) (run : SharedRun mac answers first log last)
      → IsControlledSinceRestart mac answers first log last run → IsControlledSince mac answers first log last run
  since-clear first [] last run controlled = controlled
  since-clear first (x ∷ before) last run controlled = (
    controlled.0,
    elim controlled.1 [
      | inl restart ↦ inl (clear-of x.call x.entry.answer restart)
      | inr since ↦ inr (since-clear first before run.0 run.3 since)
    ],
  )

  before-it : (first : AgentRecord H P) (x : Logged P) (before : List (Logged P)) (last : AgentRecord H P) (run : SharedRun mac answers first (x ∷ before) last)
      → restarts x.call x.entry.answer ≡ false → IsControlledSinceRestart mac answers first (x ∷ before) last run
      → IsControlledSinceRestart mac answers first before run.0 run.3
  before-it first x before last run none controlled = elim controlled.1 [
    | inl restart ↦ (let no : true ≡ false = sym restart ∙ none in absurd (cc))
    | inr since ↦ since
  ]

  nominated-by : (path : Path) (log : List (Logged P)) → SelectedSince (λ x before. NominatedByPeer (x ∷ before) path) log path → NominatedByPeer log path
  nominated-by path [] none = absurd none
  nominated-by path (x ∷ before) (inl now) = now.1
  nominated-by path (x ∷ before) (inr more) = inr (nominated-by path before more.1)

  pub waiting_are_nominated_by_peer : PathTheorem {H = H} {P = P} mac answers → WaitingAreNominatedByPeer {H = H} mac answers
  waiting_are_nominated_by_peer law first last log new never_lite run controlled path has =
      let created : IsNewlyCreated first = search new in
      let never : NeverLite log = search never_lite in
      let since : IsControlledSinceRestart mac answers first log last run = search controlled in
      let waits : Has last.events (selecting path) = search has in
      search (nominated-by path log
      (waiting first created path (λ log last run. NeverLite log × IsControlledSinceRestart mac answers first log last run)
      (λ x before last run none fits. (fits.0.1, before-it first x before last run none fits.1)) (λ x before. NominatedByPeer (x ∷ before) path)
      (λ x before last run fits now. selections_are_nominated_by_peer mac answers law first last x before created fits.0 run (since-clear first (x ∷ before) last run fits.1) path now)
      log last run (never, since) waits))

  -- since the last restart

  nominated-since : (path : Path) (log : List (Logged P)) → SelectedSince (λ x before. NominatedSince (x ∷ before) path) log path → NominatedSince log path
  nominated-since path [] none = absurd none
  nominated-since path (x ∷ before) (inl now) = now.1
  nominated-since path (x ∷ before) (inr more) = inr (search (not_restart (numbering_of before).1 x.call x.entry.answer more.0), nominated-since path before more.1)

  modern-before : (x : Logged P) (before : List (Logged P)) → restarts x.call x.entry.answer ≡ false → IsModernAtRestart (x ∷ before) → IsModernAtRestart before
  modern-before x before none (inl restart) = let no : true ≡ false = sym restart.0 ∙ none in absurd (cc)
  modern-before x before none (inr more) = more.1

  pub waiting_are_nominated_since : PathTheorem {H = H} {P = P} mac answers → WaitingAreNominatedSince {H = H} mac answers
  waiting_are_nominated_since law first last log new never_lite modern run controlled path has =
      let created : IsNewlyCreated first = search new in
      let never : NeverLite log = search never_lite in
      let restarted : IsModernAtRestart log = search modern in
      let since : IsControlledSinceRestart mac answers first log last run = search controlled in
      let waits : Has last.events (selecting path) = search has in
      search (nominated-since path log
      (waiting first created path (λ log last run. NeverLite log × (IsModernAtRestart log × IsControlledSinceRestart mac answers first log last run))
      (λ x before last run none fits. (fits.0.1, (modern-before x before none fits.1.0, before-it first x before last run none fits.1.1)))
      (λ x before. NominatedSince (x ∷ before) path)
      (λ x before last run fits now. selections_are_nominated_since mac answers law first last x before created fits.0 fits.1.0 run (since-clear first (x ∷ before) last run fits.1.1) path now)
      log last run (never, (restarted, since)) waits))
