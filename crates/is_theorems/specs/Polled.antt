-- What events report of paths: each `NominatedSend` is of a path that a call selected since all such events were last removed, and what holds
-- of selected paths holds of it. With `Modern` a restart leaves no early request, so that what the peer nominated before it counts no more.
use Rattle.std.specs.Prelude.{◌≡◌, ℕ, ◌⊎◌, Bool, true, false, List, [], ◌∷◌, Some, if◌then◌else◌}
use Rattle.is_proto.specs.Lists.{Has}
use Rattle.is_candidate.specs.Candidates.{CandidateRecord}
use Rattle.is_rules.specs.declared.emitted.Path.{Path}
use Rattle.is_rules.specs.Agent.{AgentRecord}
use Rattle.is_rules.specs.Steps.{Call, RestartIce, Answer, is_done}
use Rattle.is_theorems.specs.Logs.{Logged, clears_at, numbering_of, has_numbers, AsksAt, NeverLite, IsAnsweredBy, NominatedByPeer}
use Rattle.is_theorems.specs.Reporting.{selecting}
use Rattle.is_theorems.specs.Shared.{IsNewlyCreated, IsControlledSince, SharedRun}

-- the call restarts ICE, and returns Ok
abbrev pub restarts : {P : Type 0} → Call P → Answer → Bool
restarts (RestartIce creds keep) answer = is_done answer
restarts _ answer = false

-- The call removes each `NominatedSend` that waits: with `Modern`, as the log set the profile last, any clear does, with `Original` an ICE restart.
abbrev pub removes_selections : {P : Type 0} → Logged P → List (Logged P) → Bool
removes_selections x before = if (numbering_of before).1 then clears_at x else restarts x.call x.entry.answer

-- A call since `NominatedSend` events were last removed selected the path, and the property holds of this call and of the log before it.
abbrev pub SelectedSince : {P : Type 0} → (Logged P → List (Logged P) → Type 0) → List (Logged P) → Path → Type 0
SelectedSince Holds [] path = ⊥
SelectedSince Holds (x ∷ before) path =
    (Has x.entry.emitted.selected_paths (Some path) × Holds x before)
    ⊎ ((removes_selections x before ≡ false) × SelectedSince Holds before path)

-- A call since `NominatedSend` events were last removed selected the path, whatever was before it.
abbrev pub IsSelectedSince : {P : Type 0} → List (Logged P) → Path → Type 0
IsSelectedSince log path = SelectedSince (λ x before. Unit {0}) log path

-- A call since `NominatedSend` events were last removed selected the path, and the path was answered by then.
abbrev pub IsAnsweredSince : {H P : Type 0} → (H → List ℕ → List ℕ → List ℕ) → H → List (Logged P) → Path → Type 0
IsAnsweredSince mac provider log path = SelectedSince (λ x before. IsAnsweredBy mac provider x before path) log path

-- The profile was `Modern` at the last ICE restart, or there was none.
abbrev pub IsModernAtRestart : {P : Type 0} → List (Logged P) → Type 0
IsModernAtRestart [] = Unit {0}
IsModernAtRestart (x ∷ before) =
    ((restarts x.call x.entry.answer ≡ true) × ((numbering_of before).1 ≡ true))
    ⊎ ((restarts x.call x.entry.answer ≡ false) × IsModernAtRestart before)

-- A request that was accepted since the last ICE restart nominates the path.
abbrev pub AskedSince : {P : Type 0} → Bool → List (Logged P) → Path → Type 0
AskedSince numbered [] path = ⊥
AskedSince numbered (x ∷ before) path = AsksAt numbered x path ⊎ ((restarts x.call x.entry.answer ≡ false) × AskedSince numbered before path)

-- The peer nominated the path since the last ICE restart: at some call since then a request that was accepted since the restart
-- nominates it, as the settings before this call take requests.
abbrev pub NominatedSince : {P : Type 0} → List (Logged P) → Path → Type 0
NominatedSince [] path = ⊥
NominatedSince (x ∷ before) path =
    AskedSince (has_numbers before) (x ∷ before) path ⊎ ((restarts x.call x.entry.answer ≡ false) × NominatedSince before path)

module _ {H P : Type 0} (mac : H → List ℕ → List ℕ → List ℕ) (answers : P → CandidateRecord → ℕ → ℕ → Type 0) where
  -- The agent is controlled in each state since the last ICE restart, or since the start if there was none.
  abbrev pub IsControlledSinceRestart : (first : AgentRecord H P) (log : List (Logged P)) (last : AgentRecord H P) → SharedRun mac answers first log last → Type 0
  IsControlledSinceRestart first [] last run = last.controlling ≡ false
  IsControlledSinceRestart first (x ∷ before) last run =
      (last.controlling ≡ false) × ((restarts x.call x.entry.answer ≡ true) ⊎ IsControlledSinceRestart first before run.0 run.3)

  -- ---- the theorems, of a `NominatedSend` that waits after any execution from a newly created agent

  -- The path of each `NominatedSend` that waits was selected since these events were last removed.
  abbrev pub WaitingAreSelected : Type 0
  WaitingAreSelected =
      (first last : AgentRecord H P) (log : List (Logged P))
      → IsNewlyCreated first → SharedRun mac answers first log last
      → (path : Path) → Has last.events (selecting path) → IsSelectedSince log path

  -- Never lite: the path of each `NominatedSend` that waits was selected since these events were last removed, and answered when it was.
  abbrev pub WaitingAreAnswered : Type 0
  WaitingAreAnswered =
      (first last : AgentRecord H P) (log : List (Logged P))
      → IsNewlyCreated first → NeverLite log → SharedRun mac answers first log last
      → (path : Path) → Has last.events (selecting path) → IsAnsweredSince mac first.provider log path

  -- Never lite, and controlled since the last ICE restart: the peer nominated the path of each `NominatedSend` that waits.
  abbrev pub WaitingAreNominatedByPeer : Type 0
  WaitingAreNominatedByPeer =
      (first last : AgentRecord H P) (log : List (Logged P))
      → IsNewlyCreated first → NeverLite log → (run : SharedRun mac answers first log last)
      → IsControlledSinceRestart first log last run → (path : Path) → Has last.events (selecting path) → NominatedByPeer log path

  -- Never lite, and controlled since the last ICE restart: if the profile was `Modern` at that restart, or there was none, the peer
  -- nominated the path of each `NominatedSend` that waits since then.
  abbrev pub WaitingAreNominatedSince : Type 0
  WaitingAreNominatedSince =
      (first last : AgentRecord H P) (log : List (Logged P))
      → IsNewlyCreated first → NeverLite log → IsModernAtRestart log
      → (run : SharedRun mac answers first log last) → IsControlledSinceRestart first log last run
      → (path : Path) → Has last.events (selecting path) → NominatedSince log path

  -- Never lite, and controlled since the last clear: if the profile was `Modern` at the last ICE restart, or there was none, the peer
  -- nominated each path that the last call selects since that restart.
  abbrev pub SelectionsAreNominatedSince : Type 0
  SelectionsAreNominatedSince =
      (first last : AgentRecord H P) (x : Logged P) (before : List (Logged P))
      → IsNewlyCreated first → NeverLite (x ∷ before) → IsModernAtRestart (x ∷ before) → (run : SharedRun mac answers first (x ∷ before) last)
      → IsControlledSince mac answers first (x ∷ before) last run
      → (path : Path) → Has x.entry.emitted.selected_paths (Some path) → NominatedSince (x ∷ before) path
