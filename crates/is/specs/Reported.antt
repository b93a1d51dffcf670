-- What events report, and what the settings are: along the log of one agent, and along that of two.
use Rattle.std.specs.Prelude.{◌≡◌, ℕ, ◌⊎◌, List, [], ◌∷◌, Some}
use Rattle.rand_core.specs.Stream.{Stream}
use Rattle.is_proto.specs.Lists.{Has}
use Rattle.is_candidate.specs.Candidates.{CandidateRecord}
use Rattle.is_rules.specs.declared.emitted.Path.{Path}
use Rattle.is_rules.specs.Agent.{AgentRecord}
use Rattle.is_rules.specs.Steps.{PollEvent, Happened}
use Rattle.is_theorems.specs.Logs.{Logged, NeverLite, NominatedByPeer}
use Rattle.is_theorems.specs.Polled.{IsSelectedSince, IsAnsweredSince, IsControlledSinceRestart}
use Rattle.is_theorems.specs.Reporting.{selecting}
use Rattle.is_theorems.specs.Runs.{AtEach, Point, shared_run}
use Rattle.is_theorems.specs.Settings.{all_settings_of, settings_along}
use Rattle.is.specs.Floods.{AfterEach}
use Rattle.is.specs.Sides.{own_log}
use Rattle.is.specs.World.{WorldRecord, LoggedEvent, at, Streams}

-- `poll_event` returns a `NominatedSend` of the path.
abbrev pub ReportsPath : {P : Type 0} → Logged P → Path → Type 0
ReportsPath x path = (x.call ≡ PollEvent) × (x.entry.answer ≡ Happened (Some (selecting path)))

module _ {H P : Type 0} (mac : H → List ℕ → List ℕ → List ℕ) (answers : P → CandidateRecord → ℕ → ℕ → Type 0) where
  -- ---- one agent

  -- A `NominatedSend` that waits after a call waited before it, or reports a path that the call selects.
  abbrev pub QueuedAreSelected : AgentRecord H P → Stream → List (Logged P) → Type 0
  QueuedAreSelected first s log =
      AtEach mac answers first s log (λ before mid x after. (path : Path) → Has after.events (selecting path)
      → Has mid.events (selecting path) ⊎ Has x.entry.emitted.selected_paths (Some path))

  -- Each path in a `NominatedSend` that `poll_event` returned was selected since the last ICE restart, with `Modern` since the last clear,
  abbrev pub PolledAreSelected : AgentRecord H P → Stream → List (Logged P) → Type 0
  PolledAreSelected first s log = AtEach mac answers first s log (λ before mid x after. (path : Path) → ReportsPath x path → IsSelectedSince before path)

  -- The path of each polled `NominatedSend` was answered when it was selected.
  abbrev pub PolledAreAnswered : AgentRecord H P → Stream → List (Logged P) → Type 0
  PolledAreAnswered first s log =
      AtEach mac answers first s log (λ before mid x after. (path : Path) → ReportsPath x path → IsAnsweredSince mac first.provider before path)

  -- The path of each polled `NominatedSend` was nominated by the peer, if the agent was controlled since the last ICE restart.
  abbrev pub PolledAreNominatedByPeer : AgentRecord H P → Stream → List (Logged P) → Type 0
  PolledAreNominatedByPeer first s log =
      (before : List (Logged P)) (mid after : AgentRecord H P) (x : Logged P) (point : Point mac answers first s log before mid x after)
      → IsControlledSinceRestart mac answers first before mid (shared_run mac answers first s before mid point.at point.led)
      → (path : Path) → ReportsPath x path → NominatedByPeer before path

  -- After each call the settings are those that the calls set last.
  abbrev pub SettingsAreThoseSet : AgentRecord H P → Stream → List (Logged P) → Type 0
  SettingsAreThoseSet first s log = AtEach mac answers first s log (λ before mid x after. all_settings_of after ≡ settings_along (all_settings_of first) (x ∷ before))

  -- ---- two agents

  -- Each `NominatedSend` that waits in a side reports a path that the side selected since its last ICE restart, with `Modern` since its last
  -- clear.
  abbrev pub BothReportSelected : WorldRecord H P → Streams → List (LoggedEvent P) → Type 0
  BothReportSelected first s log =
      AfterEach mac answers first s log (λ part side a. (path : Path) → Has a.events (selecting path) → IsSelectedSince (own_log side [] part) path)

  -- Each `NominatedSend` that waits in a side that was never lite reports a path that was answered when the side selected it.
  abbrev pub BothReportAnswered : WorldRecord H P → Streams → List (LoggedEvent P) → Type 0
  BothReportAnswered first s log =
      AfterEach mac answers first s log (λ part side a. NeverLite (own_log side [] part)
      → (path : Path) → Has a.events (selecting path) → IsAnsweredSince mac (at side first).provider (own_log side [] part) path)

  -- A side's settings are those that its calls set last.
  abbrev pub BothKeepSettings : WorldRecord H P → Streams → List (LoggedEvent P) → Type 0
  BothKeepSettings first s log =
      AfterEach mac answers first s log (λ part side a. all_settings_of a ≡ settings_along (all_settings_of (at side first)) (own_log side [] part))
