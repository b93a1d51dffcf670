-- How the controlling one of two agents selects a path: rounds that suffice for one of its pairs, and a check that is answered while
-- it is pending (RFC 8445, sections 6.1.4.2, 7.2.5.3 and 8.1.1).
use Rattle.std.specs.Prelude.{◌≡◌, ℕ, suc, ◌*◌, ◌<◌, ◌≤◌, ◌⊎◌, Bool, true, false, List, [], ◌∷◌, ◌++◌, length, Some}
use Rattle.is_proto.specs.Lists.{Has}
use Rattle.is_proto.specs.Times.{MAX}
use Rattle.is_proto.specs.Packets.{Packet}
use Rattle.is_candidate.specs.Candidates.{CandidateRecord}
use Rattle.is_pair.specs.Pairs.{PairRecord}
use Rattle.is_stun.specs.declared.header.Class.TheVariants.{Request, Success}
use Rattle.is_stun.specs.Timing.{is_modern}
use Rattle.is_rules.specs.declared.emitted.Path.{Path}
use Rattle.is_theorems.specs.Delivery.{Sends}
use Rattle.is_rules.specs.Emitted.{issued_as}
use Rattle.is_theorems.specs.Progress.{Awaits, IsUnanswered}
use Rattle.is_theorems.specs.ServedSoon.{IsServed}
use Rattle.is_theorems.specs.UrgentFirst.{IsOvertaken}
use Rattle.is_rules.specs.Sending.{path_of}
use Rattle.is_rules.specs.Steps as agent
use Rattle.is_theorems.specs.FirstChecks.{SufficeForDue}
use Rattle.is_theorems.specs.FirstTimeouts.{Suffices}
use Rattle.is_theorems.specs.Shared.{IsNewlyCreated}
use Rattle.is.specs.declared.world_events.Side.{Side}
use Rattle.is.specs.Deliveries.{MakesPolls, MakesInRound, SelectsPath}
use Rattle.is.specs.AcceptedNominationsIn.{Occurrence, HandedCheck, IsReturnedInTime, MayEndAt, occurrences_in}
use Rattle.is.specs.World.{WorldRecord, Call, LoggedEvent, WorldRun, at, other, Streams}

-- a `handle_timeout` call of a side, and what happens after it, oldest first
pub record SideRound (H P : Type 0) : Type 0 where
  pub now : ℕ
  pub timeout : Occurrence H P
  pub following : List (Occurrence H P)

abbrev pub all_of : {H P : Type 0} → List (SideRound H P) → List (Occurrence H P)
all_of [] = []
all_of (r ∷ later) = r.timeout ∷ (r.following ++ all_of later)

-- when the rounds begin
abbrev pub times_in : {H P : Type 0} → List (SideRound H P) → List ℕ
times_in [] = []
times_in (r ∷ later) = r.now ∷ times_in later

-- the state of the network model after these entries
abbrev pub state_after : {H P : Type 0} → WorldRecord H P → List (Occurrence H P) → WorldRecord H P
state_after w [] = w
state_after w (x ∷ rest) = state_after x.following rest

module _ {H P : Type 0} where
  -- The `handle_timeout` call returns Ok. After it the side makes only calls that may come in a round (`MakesInRound`), so it may add
  -- candidates, whatever it receives and whatever the other side does.
  pub record IsKept (modern : Bool) (side : Side) (r : SideRound H P) : Type 0 where
    pub comes : r.timeout.entry.event ≡ Call side (agent.HandleTimeout r.now)
    pub done : r.timeout.entry.outcome.entry.answer ≡ agent.Done
    pub early : r.now < MAX
    pub between : (x : Occurrence H P) → Has r.following x → MakesInRound modern side x.entry.event

  -- The side has the profile `Modern` when its rounds begin.
  abbrev pub begins_modern : Side → (first : SideRound H P) → Bool
  begins_modern side first = is_modern (at side first.timeout.before).timing

  -- Rounds of the side, each as in `IsKept`. The first `handle_timeout` call is no earlier than `by`, and the others are later than that.
  pub record AreKept (side : Side) (by : ℕ) (first : SideRound H P) (later : List (SideRound H P)) : Type 0 where
    pub from : by ≤ first.now
    pub late : (r : SideRound H P) → Has later r → by < r.now
    pub kept : (r : SideRound H P) → Has (first ∷ later) r → IsKept (begins_modern side first) side r

  -- In the rounds the side makes only polls besides its `handle_timeout` calls.
  abbrev pub MakesPollsIn : Side → List (SideRound H P) → Type 0
  MakesPollsIn side rounds = (r : SideRound H P) → Has rounds r → (x : Occurrence H P) → Has r.following x → MakesPolls side x.entry.event

  -- Between the `handle_timeout` calls of the rounds a call of the side may remove a pair of the path. Of the calls that may come
  -- there only the addition of a candidate may.
  abbrev pub MayEndInRounds : (P → CandidateRecord → ℕ → ℕ → Type 0) → Side → Path → List (SideRound H P) → Type 0
  MayEndInRounds answers side path rounds = (r : SideRound H P) × Has rounds r × ((x : Occurrence H P) × Has r.following x × MayEndAt answers side path x)

  -- The rounds suffice for a pair of the side that is due by the time `by` (`Suffices`): 2n - 1 rounds for n pairs, and one more for
  -- each pair that is added in them, also by candidates that the side adds; if checks may go ahead, 4n - 1, and two more. No nomination
  -- is to be sent at once in them.
  abbrev pub SideRoundsSuffice : Side → ℕ → SideRound H P → List (SideRound H P) → WorldRecord H P → Type 0
  SideRoundsSuffice side by first later last =
      Suffices by first.now (at side first.timeout.before) (at side (state_after first.timeout.following first.following)) (at side last) (length later) 0 0

  -- In the rounds the side makes only polls, and there are enough of them (`SufficeForDue`): n rounds, if n pairs of the side are due
  -- by the time `by` when they begin, and this time is earlier. If it is not, one round suffices for a single pair, and otherwise n
  -- rounds after the first one, if n pairs are due by then when the second `handle_timeout` call comes. If checks may go ahead, it is 2n.
  pub record AreEachPolled (side : Side) (by : ℕ) (first : SideRound H P) (later : List (SideRound H P)) : Type 0 where
    pub few : SufficeForDue by first.now (at side first.timeout.before) (at side (state_after first.timeout.following first.following)) (times_in later)
    pub polls : MakesPollsIn side (first ∷ later)

  -- So many of the rounds, or more, check the selected pair of the side, or an urgent pair before the one with the number (`IsOvertaken`).
  abbrev pub OvertakeIn : Side → (number n : ℕ) → List (SideRound H P) → Type 0
  OvertakeIn side number n [] = n ≡ 0
  OvertakeIn side number n (r ∷ later) =
      OvertakeIn side number n later
      ⊎ ((k : ℕ) × (n ≡ suc k) × IsOvertaken number r.now (at side r.timeout.before) r.timeout.entry.outcome.entry.emitted × OvertakeIn side number k later)

  -- A request was served on the pair of the side when the rounds begin (`IsServed`). There are at least 2 * m later rounds, and fewer than m of
  -- them check other pairs before this one. So 2 later rounds suffice if none does, however many pairs there are.
  pub record ServedRoundsSuffice (side : Side) (p : PairRecord) (first : SideRound H P) (later : List (SideRound H P)) : Type 0 where
    pub served : IsServed (at side first.timeout.before) p
    pub m : ℕ
    pub enough : 2 * m ≤ length later
    pub few : ¬ OvertakeIn side p.number m later

  -- The rounds suffice in one of these ways for a pair of the side that is due by the time `by`, while no pair is valid.
  abbrev pub SufficeForPair : Side → ℕ → PairRecord → SideRound H P → List (SideRound H P) → Type 0
  SufficeForPair side by p first later =
      AreEachPolled side by first later
      ⊎ (SideRoundsSuffice side by first later (state_after first.timeout.before (all_of (first ∷ later))) ⊎ ServedRoundsSuffice side p first later)

  -- The `handle_timeout` call sends a check on the path.
  abbrev pub RoundChecks : Path → SideRound H P → Type 0
  RoundChecks path r = (id : List ℕ) × (r.timeout.entry.outcome.entry.emitted.issued ≡ Some (issued_as path Request id))

  -- After each of these entries the side is controlling, and the other side is controlled.
  abbrev pub IsControlling : Side → List (Occurrence H P) → Type 0
  IsControlling side all = (x : Occurrence H P) → Has all x → ((at side x.following).controlling ≡ true) × ((at (other side) x.following).controlling ≡ false)

  -- The side sends a check on the path, which is delivered to the other side at any time (`HandedCheck`). Its success response is
  -- delivered back while the check is pending.
  abbrev pub IsAnsweredInTime : (H → List ℕ → List ℕ → List ℕ) → (P → CandidateRecord → ℕ → ℕ → Type 0) → Side → Path → List (Occurrence H P) → Type 0
  IsAnsweredInTime mac answers side path all =
      (over : Path) × (k : HandedCheck mac side path over all)
      × ((reply : Packet) → Sends (at (other side) k.comes.handed.before) k.comes.handed.entry.outcome.entry Success k.id reply (at (other side) k.comes.handed.following)
      → IsReturnedInTime mac answers side path over all k reply)

  -- Two agents are newly created. A segment of their log, in which the side is controlling, begins with rounds of the side. When they
  -- begin, no pair of the side is valid, and one is due by the time `by`, with due times computed at the time of the first round. The
  -- rounds suffice: if n pairs are due by then, n rounds in which the side makes only polls, or one more if the time is not earlier
  -- than the first one (`AreEachPolled`); or else 2n - 1 rounds for n pairs in all, and one more for each pair that is added in them
  -- (`SideRoundsSuffice`), also by candidates that the side adds. If checks may go ahead, it is 2n, or 4n - 1 and two more. If a request was
  -- served on the pair, it is 2 * m after the first, fewer than m of which check other pairs before it (`ServedRoundsSuffice`).
  pub record IsControllingSegment (first : WorldRecord H P) (all before more rest : List (Occurrence H P)) (side : Side) (r : SideRound H P) (rounds : List (SideRound H P))
      (p : PairRecord) (by : ℕ) : Type 0 where
    pub new : (x : Side) → IsNewlyCreated (at x first)
    pub split : all ≡ before ++ ((all_of (r ∷ rounds) ++ more) ++ rest)
    pub role : (at side r.timeout.before).controlling ≡ true
    pub controlling : IsControlling side (all_of (r ∷ rounds) ++ more)
    pub waits : Awaits r.now by (at side r.timeout.before) p
    pub unanswered : IsUnanswered (at side r.timeout.before) p
    pub kept : AreKept side by r rounds
    pub enough : SufficeForPair side by p r rounds

  -- If the side sends a check on the path in the rounds, a check on it in the segment is answered in time.
  abbrev pub RoundsAreAnswered : (H → List ℕ → List ℕ → List ℕ) → (P → CandidateRecord → ℕ → ℕ → Type 0) → Side → Path → List (SideRound H P) → List (Occurrence H P) → Type 0
  RoundsAreAnswered mac answers side path rounds all =
      (x : SideRound H P) → Has rounds x → RoundChecks path x → IsAnsweredInTime mac answers side path all

  -- In a segment as in `IsControllingSegment`, if the side sends a check on the path of the pair in the rounds, a check on it in the
  -- segment is answered. That may happen at any time while the check is pending, and through NATs. Then the side selects a path in the
  -- segment, unless a candidate that it adds in the rounds may remove a pair of the path. This holds whatever else happens.
  abbrev pub DeliveredRoundsSelect : (mac : H → List ℕ → List ℕ → List ℕ) (answers : P → CandidateRecord → ℕ → ℕ → Type 0) → WorldRecord H P → Streams → List (LoggedEvent P) → Type 0
  DeliveredRoundsSelect mac answers first s log =
      (last : WorldRecord H P) (t : Streams) (run : WorldRun mac answers first s 0 log last t) (before more rest : List (Occurrence H P)) (side : Side)
      (r : SideRound H P) (rounds : List (SideRound H P)) (p : PairRecord) (by : ℕ)
      → IsControllingSegment first (occurrences_in mac answers first s 0 log last t run) before more rest side r rounds p by
      → RoundsAreAnswered mac answers side (path_of (at side r.timeout.before) p) (r ∷ rounds) (all_of (r ∷ rounds) ++ more)
      → ((x : Occurrence H P) × Has (all_of (r ∷ rounds) ++ more) x × SelectsPath side x.entry)
      ⊎ MayEndInRounds answers side (path_of (at side r.timeout.before) p) (r ∷ rounds)
