-- The theorems of two agents, for every log of the network model.
use Rattle.std.specs.Prelude.{ℕ, List}
use Rattle.is_candidate.specs.Candidates.{CandidateRecord}
use Rattle.is.specs.declared.world_events.TwoAgentsEvent.{TwoAgentsEvent}
use Rattle.is.specs.declared.world_events.WorldLog.{WorldLog}
use Rattle.is.specs.World.{WorldRecord, LoggedEvent, logged, IsWorldLog, Streams}
use Rattle.is.specs.WorldRoles.{GreaterKeeps, LesserSwitchesOnce, RolesDifferOnceMet}
use Rattle.is.specs.Traces.{SelectedAreTraced}
use Rattle.is.specs.Selections.{DeliveredRoundsSelect}
use Rattle.is.specs.AcceptedNominations.{AcceptedNominationsSelect}
use Rattle.is.specs.Connections.{BothConnect}
use Rattle.is.specs.Connects.{BothSelect}
use Rattle.is.specs.Punctual.{ChecksComeInTime}
use Rattle.is.specs.PunctualSelections.{SelectionsComeInTime}
use Rattle.is.specs.Meetings.{RolesMeet}
use Rattle.is.specs.Mirrors.{LonePathsMirror}
use Rattle.is.specs.Renominations.{LeadingPathIsSelected, OnePathIsSelected}

module _ {H P : Type 0} (mac : H → List ℕ → List ℕ → List ℕ) (answers : P → CandidateRecord → ℕ → ℕ → Type 0) where
  abbrev pub KeepsTheorem : Type 0
  KeepsTheorem =
      (first last : WorldRecord H P) (s t : Streams) (events : List (TwoAgentsEvent P)) (log : WorldLog)
      → IsWorldLog mac answers first s events log last t
      → GreaterKeeps first (logged events log.entries.items)

  abbrev pub SwitchesOnceTheorem : Type 0
  SwitchesOnceTheorem =
      (first last : WorldRecord H P) (s t : Streams) (events : List (TwoAgentsEvent P)) (log : WorldLog)
      → IsWorldLog mac answers first s events log last t
      → LesserSwitchesOnce first (logged events log.entries.items)

  abbrev pub DiffersTheorem : Type 0
  DiffersTheorem = (first : WorldRecord H P) (s : Streams) (log : List (LoggedEvent P)) → RolesDifferOnceMet mac answers first s log

  abbrev pub TracedTheorem : Type 0
  TracedTheorem =
      (first last : WorldRecord H P) (s t : Streams) (events : List (TwoAgentsEvent P)) (log : WorldLog)
      → IsWorldLog mac answers first s events log last t
      → SelectedAreTraced first (logged events log.entries.items) log.entries.items

  abbrev pub DeliveriesTheorem : Type 0
  DeliveriesTheorem = (first : WorldRecord H P) (s : Streams) (log : List (LoggedEvent P)) → DeliveredRoundsSelect mac answers first s log

  abbrev pub AcceptedNominationsTheorem : Type 0
  AcceptedNominationsTheorem = (first : WorldRecord H P) (s : Streams) (log : List (LoggedEvent P)) → AcceptedNominationsSelect mac answers first s log

  abbrev pub ConnectionsTheorem : Type 0
  ConnectionsTheorem = (first : WorldRecord H P) (s : Streams) (log : List (LoggedEvent P)) → BothConnect mac answers first s log

  abbrev pub ConnectsTheorem : Type 0
  ConnectsTheorem = (first : WorldRecord H P) (s : Streams) (log : List (LoggedEvent P)) → BothSelect mac answers first s log

  abbrev pub InTimeTheorem : Type 0
  InTimeTheorem = (first : WorldRecord H P) (s : Streams) (log : List (LoggedEvent P)) → ChecksComeInTime mac answers first s log

  abbrev pub SelectionsInTimeTheorem : Type 0
  SelectionsInTimeTheorem = (first : WorldRecord H P) (s : Streams) (log : List (LoggedEvent P)) → SelectionsComeInTime mac answers first s log

  abbrev pub MeetingsTheorem : Type 0
  MeetingsTheorem = (first : WorldRecord H P) (s : Streams) (log : List (LoggedEvent P)) → RolesMeet mac answers first s log

  abbrev pub MirrorsTheorem : Type 0
  MirrorsTheorem = (first : WorldRecord H P) (s : Streams) (log : List (LoggedEvent P)) → LonePathsMirror mac answers first s log

  abbrev pub RenominationsTheorem : Type 0
  RenominationsTheorem = (first : WorldRecord H P) (s : Streams) (log : List (LoggedEvent P)) → OnePathIsSelected mac answers first s log

  abbrev pub NumbersTheorem : Type 0
  NumbersTheorem = (first : WorldRecord H P) (s : Streams) (log : List (LoggedEvent P)) → LeadingPathIsSelected mac answers first s log
