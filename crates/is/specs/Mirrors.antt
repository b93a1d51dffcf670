-- How the selected paths of two agents relate to each other.
use Rattle.std.specs.Prelude.{◌≡◌, ℕ, false, List, Some}
use Rattle.is_proto.specs.Lists.{Has}
use Rattle.is_candidate.specs.Candidates.{CandidateRecord}
use Rattle.is_pair.specs.Pairs.{PairRecord}
use Rattle.is_rules.specs.declared.emitted.Path.{Path}
use Rattle.is_rules.specs.Sending.{path_of}
use Rattle.is_rules.specs.Emitted.{reversed}
use Rattle.is_theorems.specs.Shared.{IsNewlyCreated}
use Rattle.is.specs.declared.world_events.Side.{Side}
use Rattle.is.specs.AcceptedNominationsIn.{Occurrence, occurrences_in}
use Rattle.is.specs.World.{WorldRecord, LoggedEvent, WorldRun, at, other, Streams}

module _ {H P : Type 0} where
  -- The side selected the path.
  abbrev pub SelectsThePath : Side → Path → Occurrence H P → Type 0
  SelectsThePath side path x = (x.entry.outcome.side ≡ Some side) × Has x.entry.outcome.entry.emitted.selected_paths (Some path)

  -- The side is not lite, and all its pairs are on the path.
  abbrev pub KeepsTo : Side → Path → WorldRecord H P → Type 0
  KeepsTo side path w = ((at side w).lite ≡ false) × ((p : PairRecord) → Has (at side w).pairs p → path_of (at side w) p ≡ path)

  module _ (mac : H → List ℕ → List ℕ → List ℕ) (answers : P → CandidateRecord → ℕ → ℕ → Type 0) where
    -- Two agents are newly created. Before each entry of the log neither is lite, all pairs of one are on a path, and all pairs
    -- of the other are on the reverse path. Then any two paths that they selected are the reverse of each other.
    abbrev pub LonePathsMirror : WorldRecord H P → Streams → List (LoggedEvent P) → Type 0
    LonePathsMirror first s log =
        (last : WorldRecord H P) (t : Streams) (run : WorldRun mac answers first s 0 log last t) (x y : Occurrence H P) (side : Side) (path one two : Path)
        → ((z : Side) → IsNewlyCreated (at z first))
        → ((z : Occurrence H P) → Has (occurrences_in mac answers first s 0 log last t run) z
        → KeepsTo side path z.before × KeepsTo (other side) (reversed path) z.before)
        → Has (occurrences_in mac answers first s 0 log last t run) x → Has (occurrences_in mac answers first s 0 log last t run) y
        → SelectsThePath side one x → SelectsThePath (other side) two y → two ≡ reversed one
