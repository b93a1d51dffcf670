-- When the controlling one of two agents selects its first path, in nanoseconds, if its caller is punctual and a check is answered within a
-- round trip. The response may come several rounds after its check.
use Rattle.std.specs.Prelude.{◌≡◌, ℕ, true, false, ◌+◌, ◌*◌, ◌≤◌, ◌⊎◌, List, ◌∷◌, ◌++◌, length}
use Rattle.is_proto.specs.Lists.{Has}
use Rattle.is_candidate.specs.Candidates.{CandidateRecord}
use Rattle.is_pair.specs.Pairs.{PairRecord}
use Rattle.is_rules.specs.declared.emitted.Path.{Path}
use Rattle.is_rules.specs.Sending.{path_of}
use Rattle.is_rules.specs.Steps as agent
use Rattle.is_theorems.specs.Progress.{Awaits, IsUnanswered}
use Rattle.is_theorems.specs.Shared.{IsNewlyCreated}
use Rattle.is.specs.declared.world_events.Side.{Side}
use Rattle.is.specs.AcceptedNominationsIn.{Occurrence, occurrences_in}
use Rattle.is.specs.Deliveries.{MakesInRound, SelectsPath}
use Rattle.is.specs.Punctual.{IsTimed}
use Rattle.is.specs.Selections.{SideRound, all_of, begins_modern, AreKept, MayEndInRounds, SufficeForPair, RoundChecks, IsAnsweredInTime}
use Rattle.is.specs.World.{WorldRecord, Streams, Call, LoggedEvent, WorldRun, at, other}

module _ {H P : Type 0} where
  -- In the first ones of these rounds a check on the path is sent, delivered and answered (`IsAnsweredInTime`), and the other side is
  -- controlled once it received the check: it was so before, or gives way in a role conflict. Each of them begins at this time or earlier.
  pub record IsAnsweredBy (mac : H → List ℕ → List ℕ → List ℕ) (answers : P → CandidateRecord → ℕ → ℕ → Type 0) (side : Side) (path : Path) (limit : ℕ) (rounds : List (SideRound H P)) : Type 0 where
    pub early : List (SideRound H P)
    pub others : List (SideRound H P)
    pub split : rounds ≡ early ++ others
    pub in_time : (r : SideRound H P) → Has early r → r.now ≤ limit
    pub answered : IsAnsweredInTime mac answers side path (all_of early)
    pub role : (at (other side) answered.1.comes.handed.following).controlling ≡ false

  -- If the side sends a check on the path in one of the rounds, one is answered in a round that begins at most `trip` later.
  abbrev pub AreAnsweredWithin : (H → List ℕ → List ℕ → List ℕ) → (P → CandidateRecord → ℕ → ℕ → Type 0) → Side → Path → ℕ → List (SideRound H P) → Type 0
  AreAnsweredWithin mac answers side path trip rounds = (r : SideRound H P) → Has rounds r → RoundChecks path r → IsAnsweredBy mac answers side path (r.now + trip) rounds

  -- The side selects a path in one of the rounds, which begins at this time or earlier.
  abbrev pub SelectsBy : Side → ℕ → List (SideRound H P) → Type 0
  SelectsBy side limit rounds = (r : SideRound H P) × Has rounds r × ((x : Occurrence H P) × Has r.following x × SelectsPath side x.entry) × (r.now ≤ limit)

  -- After each of these entries the side is controlling.
  abbrev pub StaysControlling : Side → List (Occurrence H P) → Type 0
  StaysControlling side all = (x : Occurrence H P) → Has all x → (at side x.following).controlling ≡ true

  -- Two agents are newly created. A segment of their log consists of rounds of the side, in which it is controlling, whatever role the
  -- other side has. Between its `handle_timeout` calls it may add candidates. When the rounds begin, no pair of it is valid, and one is due
  -- by the time `by`. The first round and the later ones suffice for this pair, as in `rounds` (`SufficeForPair`). In them its caller is
  -- punctual. More rounds may follow.
  pub record OpensInTime (created : WorldRecord H P) (all : List (Occurrence H P)) (side : Side) (pace delay : ℕ) : Type 0 where
    pub new : (x : Side) → IsNewlyCreated (at x created)
    pub before : List (Occurrence H P)
    pub first : SideRound H P
    pub later : List (SideRound H P)
    pub more : List (SideRound H P)
    pub rest : List (Occurrence H P)
    pub split : all ≡ before ++ (all_of (first ∷ (later ++ more)) ++ rest)
    pub role : (at side first.timeout.before).controlling ≡ true
    pub controlling : StaysControlling side (all_of (first ∷ (later ++ more)))
    pub by : ℕ
    pub pair : PairRecord
    pub waits : Awaits first.now by (at side first.timeout.before) pair
    pub unanswered : IsUnanswered (at side first.timeout.before) pair
    pub kept : AreKept side by first later
    pub enough : SufficeForPair side by pair first later
    pub timed : IsTimed side pace delay first later
    pub calls : (r : SideRound H P) → Has more r → r.timeout.entry.event ≡ Call side (agent.HandleTimeout r.now)
    pub between : (r : SideRound H P) → Has more r → (x : Occurrence H P) → Has r.following x → MakesInRound (begins_modern side first) side x.entry.event

  -- all of the rounds
  abbrev pub rounds_in : {created : WorldRecord H P} {all : List (Occurrence H P)} {side : Side} {pace delay : ℕ} → OpensInTime created all side pace delay → List (SideRound H P)
  rounds_in k = k.first ∷ (k.later ++ k.more)

  module _ (mac : H → List ℕ → List ℕ → List ℕ) (answers : P → CandidateRecord → ℕ → ℕ → Type 0) where
    -- If in such a segment a check on the pair's path is answered within `trip`, whenever the side sends one, it selects a path. The round of
    -- this begins after the first one by at most `pace + delay` for each of the later ones, and `trip`. The exception: a candidate that the
    -- side adds in the first or in a later one may remove a pair of the path. This holds whatever else happens.
    abbrev pub SelectionsComeInTime : WorldRecord H P → Streams → List (LoggedEvent P) → Type 0
    SelectionsComeInTime first s log =
        (last : WorldRecord H P) (t : Streams) (run : WorldRun mac answers first s 0 log last t) (side : Side) (pace delay trip : ℕ)
        → (k : OpensInTime first (occurrences_in mac answers first s 0 log last t run) side pace delay)
        → AreAnsweredWithin mac answers side (path_of (at side k.first.timeout.before) k.pair) trip (rounds_in k)
        → SelectsBy side (k.first.now + length k.later * (pace + delay) + trip) (rounds_in k)
        ⊎ MayEndInRounds answers side (path_of (at side k.first.timeout.before) k.pair) (k.first ∷ k.later)
