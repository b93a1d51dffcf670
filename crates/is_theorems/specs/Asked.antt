-- A controlled agent: if the peer nominated a path, and a success response was received on it, in either order, a path is
-- selected by the end of the next `handle_timeout` call.
use Rattle.std.specs.Prelude.{◌≡◌, ℕ, ◌⊎◌, true, false, List, [], ◌∷◌, ◌++◌, Some, None}
use Rattle.rand_core.specs.Stream.{Stream}
use Rattle.is_proto.specs.Lists.{Has}
use Rattle.is_candidate.specs.Candidates.{CandidateRecord}
use Rattle.is_pair.specs.Pairs.{PairRecord}
use Rattle.is_stun.specs.declared.header.Class.TheVariants as class
use Rattle.is_stun.specs.Message.{Message}
use Rattle.is_rules.specs.Agent.{AgentRecord}
use Rattle.is_rules.specs.Answers.{is_reverse}
use Rattle.is_rules.specs.Brought.{Brings, IsServing}
use Rattle.is_rules.specs.Serving.{nominates}
use Rattle.is_rules.specs.declared.emitted.Path.{Path}
use Rattle.is_theorems.specs.Logs.{Logged}
use Rattle.is_rules.specs.Queue.{request_at}
use Rattle.is_rules.specs.Request.{RequestRecord}
use Rattle.is_theorems.specs.Rounds.{Part, RunsOn}
use Rattle.is_theorems.specs.Runs.{IsFresh, Point, IsTopPath}
use Rattle.is_rules.specs.Sending.{path_of}
use Rattle.is_theorems.specs.Staying.{MayEnd}
use Rattle.is_rules.specs.Steps.{HandleTimeout, Done}
use Rattle.is_rules.specs.Emitted.{issued_as}

-- An accepted success response was received on the reverse path.
abbrev pub IsAnsweredOn : {P : Type 0} → Logged P → Path → Type 0
IsAnsweredOn x path = (at : ℕ) × (by : Path) × (m : Message) × Brings x.call x.entry at by m × (m.class ≡ class.Success) × (is_reverse by path ≡ true)

abbrev pub IsAnsweredIn : {P : Type 0} → List (Logged P) → Path → Type 0
IsAnsweredIn part path = (x : Logged _) × Has part x × IsAnsweredOn x path

module _ {H P : Type 0} where
  -- The pair uses the path's addresses: it goes from the path's source to its destination.
  abbrev pub UsesAddressesOf : AgentRecord H P → Path → PairRecord → Type 0
  UsesAddressesOf a path p = ((path_of a p).source ≡ path.source) × ((path_of a p).destination ≡ path.destination)

  -- At most one pair uses the path's addresses.
  abbrev pub IsOnlyPair : AgentRecord H P → Path → Type 0
  IsOnlyPair a path = (p q : PairRecord) → Has a.pairs p → Has a.pairs q → UsesAddressesOf a path p → UsesAddressesOf a path q → p ≡ q

  -- The peer nominates the path: a request with USE-CANDIDATE gets a success response on the path, and the agent is controlled
  -- afterwards.
  abbrev pub IsAskedOn : AgentRecord H P → Logged P → AgentRecord H P → Path → Type 0
  IsAskedOn old x new path =
      (q : RequestRecord) × (id : List ℕ) × IsServing old x.call x.entry q × (nominates old q ≡ true)
      × (x.entry.emitted.issued ≡ Some (issued_as path class.Success id)) × (new.controlling ≡ false)

  module _ (mac : H → List ℕ → List ℕ → List ℕ) (answers : P → CandidateRecord → ℕ → ℕ → Type 0) where
    -- At an entry of the segment the peer nominates the path.
    abbrev pub IsAskedIn : (before : List (Logged P)) (start : AgentRecord H P) (s : Stream) (part : List (Logged P)) (last : AgentRecord H P) (t : Stream)
        → RunsOn mac answers before start s part last t → Path → Type 0
    IsAskedIn before start s [] last t run path = ⊥
    IsAskedIn before start s (x ∷ part) last t run path =
        IsAskedOn run.0 x last path ⊎ IsAskedIn before start s part run.0 run.1 run.2 path

    module _ (first : AgentRecord H P) (s : Stream) (log : List (Logged P)) where
      -- At an entry of the segment a pair that uses the path's addresses may be removed.
      abbrev pub MayEndIn : List (Logged P) → Path → Type 0
      MayEndIn part path =
          (before : List (Logged P)) × (mid after : AgentRecord H P) × (x : Logged P) × (p : PairRecord)
          × Point mac answers first s log before mid x after × Has part x × Has mid.pairs p × UsesAddressesOf mid path p × MayEnd answers mid x.call x.entry p

      -- In a segment of the log the peer nominated a path and a success response was received on it, in either order. A
      -- `handle_timeout` call that serves no early request follows. If only one pair uses the path's addresses then, a path is
      -- selected by the end of this call, unless a pair that uses them may have been removed.
      abbrev pub AskedPathsSelect : Type 0
      AskedPathsSelect =
          (before part : List (Logged P)) (start last : AgentRecord H P) (timeout : Logged P) (now : ℕ) (path : Path)
          → (found : Part mac answers first s log before start (timeout ∷ part) last)
          → timeout.call ≡ HandleTimeout now → timeout.entry.answer ≡ Done → request_at now found.run.0 ≡ None
          → IsAskedIn before start found.at part found.run.0 found.run.1 found.run.2 path → IsAnsweredIn part path → IsOnlyPair last path
          → IsTopPath mac answers (timeout ∷ (part ++ before)) last ⊎ MayEndIn (timeout ∷ part) path

    abbrev pub AskedAreSelected : Type 0
    AskedAreSelected = (first : AgentRecord H P) (s : Stream) (log : List (Logged P)) → IsFresh first → AskedPathsSelect first s log
