-- How the controlled one of two agents selects a path (RFC 8445, sections 7.2.5.3.2 and 7.3.1.5).
use Rattle.std.specs.Prelude.{◌≡◌, ℕ, List, [], ◌∷◌, ◌++◌, ◌⊎◌}
use Rattle.is_proto.specs.Lists.{Has}
use Rattle.is_candidate.specs.Candidates.{CandidateRecord}
use Rattle.is_rules.specs.declared.emitted.Path.{Path}
use Rattle.is_theorems.specs.Asked.{IsOnlyPair}
use Rattle.is_theorems.specs.Runs.{IsTopPath}
use Rattle.is_theorems.specs.Shared.{IsNewlyCreated}
use Rattle.is.specs.declared.world_events.Side.{Side}
use Rattle.is.specs.Deliveries.{SelectsPath}
use Rattle.is.specs.AcceptedNominationsIn.{Occurrence, IsControlled, IsPlainTimeout, IsAskedOver, IsExchangedOver, MayEndAt, occurrences_in}
use Rattle.is.specs.Sides.{own_log}
use Rattle.is.specs.World.{WorldRecord, LoggedEvent, WorldRun, at, Streams}

module _ {H P : Type 0} where
  -- Two agents are newly created. A segment of their log, in which the side is controlled, ends with a `handle_timeout` call of the
  -- side that serves no early request. After it only one of the side's pairs uses the path's addresses.
  pub record IsControlledSegment (first : WorldRecord H P) (all before part rest : List (Occurrence H P)) (timeout : Occurrence H P) (side : Side) (path : Path)
      : Type 0 where
    pub new : (x : Side) → IsNewlyCreated (at x first)
    pub split : all ≡ before ++ ((part ++ timeout ∷ []) ++ rest)
    pub controlled : IsControlled side (part ++ timeout ∷ [])
    pub plain : IsPlainTimeout side timeout
    pub only_pair : IsOnlyPair (at side timeout.following) path

  -- The side selected a path in these entries.
  abbrev pub SelectsIn : Side → List (Occurrence H P) → Type 0
  SelectsIn side all = (x : Occurrence H P) × Has all x × SelectsPath side x.entry

  -- A call of the side in these entries may have removed a pair of the path.
  abbrev pub MayEndIn : (P → CandidateRecord → ℕ → ℕ → Type 0) → Side → Path → List (Occurrence H P) → Type 0
  MayEndIn answers side path all = (x : Occurrence H P) × Has all x × MayEndAt answers side path x

module _ {H P : Type 0} (mac : H → List ℕ → List ℕ → List ℕ) (answers : P → CandidateRecord → ℕ → ℕ → Type 0) where
  -- In these entries, a log from the start, the side selected a path, and last that of an eligible pair with the greatest stored
  -- priority (`IsTopPath`).
  pub record SelectsTop (side : Side) (all : List (Occurrence H P)) (last : Occurrence H P) : Type 0 where
    pub selects : SelectsIn side all
    pub top : IsTopPath mac answers (own_log side [] all) (at side last.following)

  -- In a segment as in `IsControlledSegment` the peer nominates a path to the controlled side, and the controlled side's own check on it
  -- is answered, in either order and at any time, also through NATs. By its end the side selected a path, and the last is the best one,
  -- unless one of its calls may have removed a pair of the path.
  abbrev pub AcceptedNominationsSelect : WorldRecord H P → Streams → List (LoggedEvent P) → Type 0
  AcceptedNominationsSelect first s log =
      (last : WorldRecord H P) (t : Streams) (run : WorldRun mac answers first s 0 log last t) (before part rest : List (Occurrence H P)) (timeout : Occurrence H P)
      (side : Side) (path : Path)
      → IsControlledSegment first (occurrences_in mac answers first s 0 log last t run) before part rest timeout side path
      → IsAskedOver mac side path part → IsExchangedOver mac side path part
      → SelectsTop side (before ++ (part ++ timeout ∷ [])) timeout ⊎ MayEndIn answers side path (part ++ timeout ∷ [])
