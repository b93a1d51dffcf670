-- How both of two new agents select a path, in whatever roles they begin, if the network delivers on one path of each (RFC 8445,
-- sections 6.1.4.2, 7.2.5.3, 7.3.1.1, 7.3.1.5 and 8.1.1).
use Rattle.std.specs.Prelude.{◌≡◌, ◌≢◌, ℕ, false, List, [], ◌∷◌, ◌++◌, ◌⊎◌}
use Rattle.is_proto.specs.Lists.{Has}
use Rattle.is_proto.specs.Packets.{Packet}
use Rattle.is_candidate.specs.Candidates.{CandidateRecord}
use Rattle.is_pair.specs.Pairs.{PairRecord}
use Rattle.is_stun.specs.declared.header.Class.{Class}
use Rattle.is_rules.specs.declared.emitted.Path.{Path}
use Rattle.is_theorems.specs.Asked.{IsOnlyPair}
use Rattle.is_theorems.specs.Asking.{AreNominatedOn}
use Rattle.is_theorems.specs.Delivery.{Sends}
use Rattle.is_rules.specs.Emitted.{reversed}
use Rattle.is_theorems.specs.Progress.{Awaits, IsUnanswered}
use Rattle.is_rules.specs.Sending.{path_of}
use Rattle.is.specs.declared.world_events.Side.{Side}
use Rattle.is.specs.Connections.{HasRounds, Succeeds}
use Rattle.is.specs.AcceptedNominationsIn.{Occurrence, HandedCheck, IsReturnedInTime, IsPlainTimeout, occurrences_in}
use Rattle.is.specs.AcceptedNominations.{MayEndIn, SelectsIn, SelectsTop}
use Rattle.is.specs.Meetings.{IsMeeting}
use Rattle.is.specs.Selections.{SideRound, all_of, state_after, AreKept, MayEndInRounds, SufficeForPair, RoundChecks}
use Rattle.is.specs.World.{WorldRecord, LoggedEvent, WorldRun, at, other, Streams}
use Rattle.is.specs.WorldRoles.{IsFairWorld}

module _ {H P : Type 0} where
  -- A check that the side sends on the path in the segment is delivered to the other side, where it arrives as the path `over`
  -- (`HandedCheck`). Each response to it is delivered back while the check is pending.
  abbrev pub IsDelivered : (H → List ℕ → List ℕ → List ℕ) → (P → CandidateRecord → ℕ → ℕ → Type 0) → Side → Path → Path → List (Occurrence H P) → Type 0
  IsDelivered mac answers side path over all =
      (k : HandedCheck mac side path over all)
      × ((class : Class) (reply : Packet) → Sends (at (other side) k.comes.handed.before) k.comes.handed.entry.outcome.entry class k.id reply (at (other side) k.comes.handed.following)
      → IsReturnedInTime mac answers side path over all k reply)

  -- The network delivers what the side sends on the path: if the side sends a check on it in the rounds, or accepts a success response on
  -- it, a check on it is delivered in the segment, and so are the responses (`IsDelivered`).
  abbrev pub ChecksAreDelivered : (H → List ℕ → List ℕ → List ℕ) → (P → CandidateRecord → ℕ → ℕ → Type 0) → Side → Path → Path → List (SideRound H P) → List (Occurrence H P) → Type 0
  ChecksAreDelivered mac answers side path over rounds all =
      (r : SideRound H P) → Has rounds r → RoundChecks path r ⊎ ((x : Occurrence H P) × Has r.following x × Succeeds side path x) → IsDelivered mac answers side path over all

  -- The segment begins with rounds of the side. No pair of it is valid when they begin, and one on the path is due in them. They
  -- suffice for this pair, and the network delivers on its path.
  pub record Opens (mac : H → List ℕ → List ℕ → List ℕ) (answers : P → CandidateRecord → ℕ → ℕ → Type 0) (side : Side) (path over : Path) (all : List (Occurrence H P)) : Type 0 where
    pub first : SideRound H P
    pub later : List (SideRound H P)
    pub more : List (Occurrence H P)
    pub split : all ≡ all_of (first ∷ later) ++ more
    pub by : ℕ
    pub pair : PairRecord
    pub on : path_of (at side first.timeout.before) pair ≡ path
    pub waits : Awaits first.now by (at side first.timeout.before) pair
    pub unanswered : IsUnanswered (at side first.timeout.before) pair
    pub kept : AreKept side by first later
    pub enough : SufficeForPair side by pair first later
    pub delivers : ChecksAreDelivered mac answers side path over (first ∷ later) all

  -- The segment has rounds of the side that suffice for a pair on the path, and the network delivers on it.
  pub record Goes (mac : H → List ℕ → List ℕ → List ℕ) (answers : P → CandidateRecord → ℕ → ℕ → Type 0) (side : Side) (path over : Path) (all : List (Occurrence H P)) (last : WorldRecord H P) : Type 0 where
    pub rounds : HasRounds side path all last
    pub delivers : ChecksAreDelivered mac answers side path over (rounds.first ∷ rounds.later) all

  -- How the side comes to have a check on the path delivered in the segment: it has rounds for it (`Goes`), or one is delivered, however few
  -- rounds it has and however many pairs.
  pub data ComesToCheck (mac : H → List ℕ → List ℕ → List ℕ) (answers : P → CandidateRecord → ℕ → ℕ → Type 0) (side : Side) (path over : Path) (all : List (Occurrence H P)) (last : WorldRecord H P)
      : Type 0 where
    ByRounds : Goes mac answers side path over all last → ComesToCheck mac answers side path over all last
    ByDelivery : IsDelivered mac answers side path over all → ComesToCheck mac answers side path over all last

  -- the rounds that it needs for it
  abbrev pub rounds_needed : {mac : H → List ℕ → List ℕ → List ℕ} {answers : P → CandidateRecord → ℕ → ℕ → Type 0} {side : Side} {path over : Path} {all : List (Occurrence H P)} {last : WorldRecord H P}
      → ComesToCheck mac answers side path over all last → List (SideRound H P)
  rounds_needed (ByRounds goes) = goes.rounds.first ∷ goes.rounds.later
  rounds_needed (ByDelivery delivered) = []

  -- The roles differ when the segment begins, or a check of one side is delivered in it, and its 487 if it gets one.
  abbrev pub AgreeOnRoles : (H → List ℕ → List ℕ → List ℕ) → (P → CandidateRecord → ℕ → ℕ → Type 0) → WorldRecord H P → List (Occurrence H P) → Type 0
  AgreeOnRoles mac answers w all = (w.a.controlling ≢ w.b.controlling) ⊎ ((side : Side) × (path : Path) × IsMeeting mac answers side path all)

  -- How the side comes to select a path: it has rounds in the opening (`Opens`), or it selected one by the end of the opening, perhaps
  -- by a check that it sent before the roles differed.
  pub data StartsToSelect (mac : H → List ℕ → List ℕ → List ℕ) (answers : P → CandidateRecord → ℕ → ℕ → Type 0) (side : Side) (path over : Path) (meeting opening : List (Occurrence H P))
      : Type 0 where
    InRounds : Opens mac answers side path over opening → StartsToSelect mac answers side path over meeting opening
    Already : SelectsIn side (meeting ++ opening) → StartsToSelect mac answers side path over meeting opening

  -- Two agents are newly created, with different tie-breakers, in any roles. First they agree on roles (`meeting`). Let `path` be one of
  -- the side that is controlled then, and `its` one of the other side: what one sends on its own arrives on the reverse of the other's.
  -- Next the controlling side has rounds for its path, and the network delivers on it, or it selected a path already (`opening`). From
  -- then on its pairs on `its` are nominated, and a check of each side on its path is delivered, with its response (`part`). A
  -- `handle_timeout` call of the controlled side that serves no early request follows, after which only one of its pairs uses the path's
  -- addresses.
  pub record IsSession (mac : H → List ℕ → List ℕ → List ℕ) (answers : P → CandidateRecord → ℕ → ℕ → Type 0) (first : WorldRecord H P) (log : List (LoggedEvent P))
      (all meeting opening part rest : List (Occurrence H P)) (timeout : Occurrence H P) (side : Side) (path its : Path) : Type 0 where
    pub greater : Side
    pub fair : IsFairWorld first greater log
    pub split : all ≡ meeting ++ (opening ++ ((part ++ timeout ∷ []) ++ rest))
    pub agree : AgreeOnRoles mac answers first meeting
    pub controlled : (at side (state_after first meeting)).controlling ≡ false
    pub starts : StartsToSelect mac answers (other side) its (reversed path) meeting opening
    pub nominated : (x : Occurrence H P) → Has part x → AreNominatedOn (at (other side) x.following) its
    pub leads : ComesToCheck mac answers (other side) its (reversed path) part timeout.before
    pub follows : ComesToCheck mac answers side path (reversed its) part timeout.before
    pub plain : IsPlainTimeout side timeout
    pub only_pair : IsOnlyPair (at side timeout.following) path

  module _ (mac : H → List ℕ → List ℕ → List ℕ) (answers : P → CandidateRecord → ℕ → ℕ → Type 0) where
    -- By the end of the opening the side selects a path. If it has rounds in the opening, it does so in it, unless a candidate that it
    -- adds in them may remove a pair of its path.
    abbrev pub SelectsByOpening : (side : Side) (path over : Path) (meeting opening : List (Occurrence H P)) → StartsToSelect mac answers side path over meeting opening → Type 0
    SelectsByOpening side path over meeting opening (InRounds opens) = SelectsIn side opening ⊎ MayEndInRounds answers side path (opens.first ∷ opens.later)
    SelectsByOpening side path over meeting opening (Already selected) = SelectsIn side (meeting ++ opening)

    -- In a session as in `IsSession` the controlling side selects a path by the end of the opening. By the end the other side selected a
    -- path, too, and last the best one. An exception is that an added candidate, or another call, may have removed the pair of a path.
    abbrev pub BothSelect : WorldRecord H P → Streams → List (LoggedEvent P) → Type 0
    BothSelect first s log =
        (last : WorldRecord H P) (t : Streams) (run : WorldRun mac answers first s 0 log last t) (meeting opening part rest : List (Occurrence H P))
        (timeout : Occurrence H P) (side : Side) (path its : Path)
        → (is : IsSession mac answers first log (occurrences_in mac answers first s 0 log last t run) meeting opening part rest timeout side path its)
        → SelectsByOpening (other side) its (reversed path) meeting opening is.starts
        × (SelectsTop mac answers side (meeting ++ (opening ++ (part ++ timeout ∷ []))) timeout
        ⊎ (MayEndIn answers side path (part ++ timeout ∷ [])
        ⊎ MayEndInRounds answers (other side) its (rounds_needed is.leads)))
