-- How both of two agents select a path, if each has rounds in which the network delivers (RFC 8445, sections 6.1.4.2, 7.2.5.3 and
-- 7.3.1.5).
use Rattle.std.specs.Prelude.{◌≡◌, ℕ, ◌*◌, ◌<◌, ◌≤◌, false, ◌&&◌, List, [], ◌∷◌, ◌++◌, length, count_by, Some, ◌⊎◌, slice_get}
use Rattle.is_proto.specs.Lists.{Has}
use Rattle.is_candidate.specs.Candidates.{CandidateRecord}
use Rattle.is_pair.specs.Pairs.{PairRecord}
use Rattle.is_rules.specs.declared.emitted.Path.{Path}
use Rattle.is_theorems.specs.AskedExecutions.{AcceptsSuccessOn}
use Rattle.is_theorems.specs.FirstTimeouts.{Suffices}
use Rattle.is_theorems.specs.Reached.{IsInLine, IsLasting, nominations_ahead, selects}
use Rattle.is_theorems.specs.ServedSoon.{IsServed}
use Rattle.is_rules.specs.Sending.{path_of}
use Rattle.is_rules.specs.Steps as agent
use Rattle.is.specs.declared.world_events.Side.{Side}
use Rattle.is.specs.AcceptedNominationsIn.{Occurrence, IsAskedOver, IsExchangedOver, is_of, occurrences_in}
use Rattle.is.specs.AcceptedNominations.{IsControlledSegment, MayEndIn, SelectsTop}
use Rattle.is.specs.Selections.{SideRound, all_of, state_after, AreKept, MayEndInRounds, OvertakeIn, RoundChecks}
use Rattle.is.specs.World.{WorldRecord, InFlightRecord, Deliver, LoggedEvent, WorldRun, at, other, Streams}

module _ {H P : Type 0} where
  -- how many calls of the side select a path
  abbrev pub selections_of : Side → List (Occurrence H P) → ℕ
  selections_of side all = count_by (λ (x : Occurrence H P). is_of side x.entry.outcome.side && selects x.entry.outcome.entry) all

  -- The rounds suffice for a pair of the side that is due by the time `by` (`Suffices`): 2n - 1 rounds for n pairs, and one more for
  -- each pair that is added in them, also by candidates that the side adds, and for each nomination that the side may send at once; if
  -- checks may go ahead, 4n - 1, and two more.
  abbrev pub SideRoundsReach : Side → ℕ → SideRound H P → List (SideRound H P) → WorldRecord H P → Type 0
  SideRoundsReach side by first later last =
      Suffices by first.now (at side first.timeout.before) (at side (state_after first.timeout.following first.following)) (at side last) (length later)
      (nominations_ahead (at side first.timeout.before) (selections_of side (all_of (first ∷ later))))
      (nominations_ahead (at side (state_after first.timeout.following first.following)) (selections_of side (all_of later)))

  -- A request was served on the pair of the side when the rounds begin, which is due before the first one. No `handle_timeout` call of the
  -- rounds selects a path. There are at least 2 * m rounds, however many pairs there are, and fewer than m of them check the selected pair or
  -- urgent pairs before this one.
  pub record ServedRoundsReach (side : Side) (by : ℕ) (p : PairRecord) (first : SideRound H P) (later : List (SideRound H P)) : Type 0 where
    pub late : by < first.now
    pub served : IsServed (at side first.timeout.before) p
    pub quiet : (r : SideRound H P) → Has (first ∷ later) r → selects r.timeout.entry.outcome.entry ≡ false
    pub m : ℕ
    pub enough : 2 * m ≤ length (first ∷ later)
    pub few : ¬ OvertakeIn side p.number m (first ∷ later)

  -- The side has rounds in the segment that suffice for a pair on the path, which is due by the time `by` when they begin
  -- (`SideRoundsReach`), or for one on which a request was served (`ServedRoundsReach`).
  pub record HasRounds (side : Side) (path : Path) (part : List (Occurrence H P)) (last : WorldRecord H P) : Type 0 where
    pub ahead : List (Occurrence H P)
    pub first : SideRound H P
    pub later : List (SideRound H P)
    pub split : part ≡ ahead ++ all_of (first ∷ later)
    pub by : ℕ
    pub pair : PairRecord
    pub line : IsInLine first.now by (at side first.timeout.before) pair
    pub on : path_of (at side first.timeout.before) pair ≡ path
    pub kept : AreKept side by first later
    pub lasting : (r : SideRound H P) → Has later r → IsLasting r.now (at side first.timeout.before) pair
    pub enough : SideRoundsReach side by first later last ⊎ ServedRoundsReach side by pair first later

  -- A success response that is received on the reverse path is accepted.
  pub record Succeeds (side : Side) (path : Path) (x : Occurrence H P) : Type 0 where
    pub place : ℕ
    pub now : ℕ
    pub via : Path
    pub in_flight : InFlightRecord
    pub event : x.entry.event ≡ Deliver place now via
    pub sent : slice_get x.before.network place ≡ Some in_flight
    pub its : other in_flight.sender ≡ side
    pub accepts : AcceptsSuccessOn {P = P} (agent.ReceivePacket now via in_flight.packet.contents) x.entry.outcome.entry path

  -- A round of the other side, with its path `its`: if a check is sent on this path, a check of the segment nominates the side's
  -- path (`IsAskedOver`). So it does if a success response for `its` is received.
  pub record Asks (mac : H → List ℕ → List ℕ → List ℕ) (side : Side) (path its : Path) (part : List (Occurrence H P)) (r : SideRound H P) : Type 0 where
    pub asked : RoundChecks its r → IsAskedOver mac side path part
    pub early : (x : Occurrence H P) → Has r.following x → Succeeds (other side) its x → IsAskedOver mac side path part

  -- A round of the side whose peer nominates: if a check is sent on the path, a check of the segment is answered
  -- (`IsExchangedOver`).
  abbrev pub RoundIsAnswered : (H → List ℕ → List ℕ → List ℕ) → Side → Path → List (Occurrence H P) → SideRound H P → Type 0
  RoundIsAnswered mac side path part r = RoundChecks path r → IsExchangedOver mac side path part

  -- The other side has rounds for its path in the segment, and each asks the side (`Asks`).
  pub record AsksInRounds (mac : H → List ℕ → List ℕ → List ℕ) (side : Side) (path its : Path) (part : List (Occurrence H P)) (last : WorldRecord H P) : Type 0 where
    pub rounds : HasRounds (other side) its part last
    pub asks : (r : SideRound H P) → Has (rounds.first ∷ rounds.later) r → Asks mac side path its part r

  -- The side has rounds for its path in the segment, and each is answered (`RoundIsAnswered`).
  pub record IsAnsweredInRounds (mac : H → List ℕ → List ℕ → List ℕ) (side : Side) (path : Path) (part : List (Occurrence H P)) (last : WorldRecord H P) : Type 0 where
    pub rounds : HasRounds side path part last
    pub answered : (r : SideRound H P) → Has (rounds.first ∷ rounds.later) r → RoundIsAnswered mac side path part r

  module _ (mac : H → List ℕ → List ℕ → List ℕ) (answers : P → CandidateRecord → ℕ → ℕ → Type 0) where
    -- In a segment as that of `AcceptedNominationsSelect` the controlling side has rounds that suffice for a pair on its path `its`. If
    -- it sends checks on `its` in them, one that nominates is delivered on the reverse of the controlled side's path. The controlled
    -- side has rounds that suffice for a pair on its path. If it sends checks on it in them, one is answered. Both may happen at any
    -- time in the segment, and through NATs. By its end the controlled side selected a path, and the last is the best one, unless one
    -- of its calls may have removed a pair of the path, or a candidate that the controlling side adds in its rounds one of `its`. This
    -- holds whatever else happens.
    abbrev pub BothConnect : WorldRecord H P → Streams → List (LoggedEvent P) → Type 0
    BothConnect first s log =
        (last : WorldRecord H P) (t : Streams) (run : WorldRun mac answers first s 0 log last t) (before part rest : List (Occurrence H P)) (timeout : Occurrence H P)
        (side : Side) (path its : Path)
        → IsControlledSegment first (occurrences_in mac answers first s 0 log last t run) before part rest timeout side path
        → (asking : AsksInRounds mac side path its part timeout.before) → IsAnsweredInRounds mac side path part timeout.before
        → SelectsTop mac answers side (before ++ (part ++ timeout ∷ [])) timeout
        ⊎ (MayEndIn answers side path (part ++ timeout ∷ []) ⊎ MayEndInRounds answers (other side) its (asking.rounds.first ∷ asking.rounds.later))
