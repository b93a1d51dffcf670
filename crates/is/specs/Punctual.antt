-- How soon one of two agents checks a path, in nanoseconds, if its caller is punctual: it calls `handle_timeout` at most `delay` after a
-- time that `poll_timeout` returned since the `handle_timeout` call before, or earlier.
use Rattle.std.specs.Prelude.{◌≡◌, ℕ, ◌+◌, ◌*◌, ◌≤◌, ◌⊎◌, List, [], ◌∷◌, ◌++◌, length, Some}
use Rattle.is_proto.specs.Lists.{Has}
use Rattle.is_candidate.specs.Candidates.{CandidateRecord}
use Rattle.is_rules.specs.declared.emitted.Path.{Path}
use Rattle.is_rules.specs.Steps as agent
use Rattle.is_theorems.specs.Shared.{IsNewlyCreated}
use Rattle.is.specs.declared.world_events.Side.{Side}
use Rattle.is.specs.AcceptedNominationsIn.{Occurrence, occurrences_in}
use Rattle.is.specs.Connections.{HasRounds, Succeeds}
use Rattle.is.specs.Selections.{SideRound, state_after, RoundChecks, MayEndInRounds}
use Rattle.is.specs.World.{WorldRecord, Streams, Call, LoggedEvent, WorldRun, at}

module _ {H P : Type 0} where
  -- One of these entries is a `poll_timeout` of the side, and `next` is at most `delay` later than the time that it returned.
  pub record IsPrompt (side : Side) (delay next : ℕ) (xs : List (Occurrence H P)) : Type 0 where
    pub poll : Occurrence H P
    pub polled : Has xs poll
    pub event : poll.entry.event ≡ Call side agent.PollTimeout
    pub deadline : ℕ
    pub answer : poll.entry.outcome.entry.answer ≡ agent.NextTimeout (Some deadline)
    pub soon : next ≤ deadline + delay

  -- Each later round begins at most `delay` after a time that `poll_timeout` returned in the round before it.
  abbrev pub IsPunctual : Side → ℕ → SideRound H P → List (SideRound H P) → Type 0
  IsPunctual side delay r [] = Unit {0}
  IsPunctual side delay r (x ∷ later) = IsPrompt side delay x.now r.following × IsPunctual side delay x later

  -- The side's pacing interval is at most `pace` when the rounds begin, and no call in them sets a longer one. Its caller is punctual.
  pub record IsTimed (side : Side) (pace delay : ℕ) (r : SideRound H P) (later : List (SideRound H P)) : Type 0 where
    pub begins : (at side r.timeout.before).timing_advance ≤ pace
    pub keeps : (x : SideRound H P) → Has (r ∷ later) x → (o : Occurrence H P) → Has x.following o → (by : ℕ) → o.entry.event ≡ Call side (agent.SetTimingAdvance by) → by ≤ pace
    pub punctual : IsPunctual side delay r later

  -- The `handle_timeout` call of one of the rounds sends a check on the path, and comes at this time or earlier.
  abbrev pub ChecksBy : Path → ℕ → List (SideRound H P) → Type 0
  ChecksBy path limit rounds = (r : SideRound H P) × Has rounds r × RoundChecks path r × (r.now ≤ limit)

  module _ (mac : H → List ℕ → List ℕ → List ℕ) (answers : P → CandidateRecord → ℕ → ℕ → Type 0) where
    -- Two agents are newly created. In a segment of their log a side has rounds that suffice for a pair on the path, k after the first,
    -- and its caller is punctual. Then it sends a check on the path at most k times `pace + delay` after the first round begins, unless in
    -- the rounds a success response on the path is accepted, or a candidate that the side adds may remove a pair of the path. This holds
    -- whatever else happens.
    abbrev pub ChecksComeInTime : WorldRecord H P → Streams → List (LoggedEvent P) → Type 0
    ChecksComeInTime first s log =
        (last : WorldRecord H P) (t : Streams) (run : WorldRun mac answers first s 0 log last t) (before part rest : List (Occurrence H P)) (side : Side) (path : Path)
        (pace delay : ℕ)
        → ((x : Side) → IsNewlyCreated (at x first)) → occurrences_in mac answers first s 0 log last t run ≡ before ++ (part ++ rest)
        → (has : HasRounds side path part (state_after first (before ++ part))) → IsTimed side pace delay has.first has.later
        → ChecksBy path (has.first.now + length has.later * (pace + delay)) (has.first ∷ has.later)
        ⊎ (((r : SideRound H P) × Has (has.first ∷ has.later) r × ((x : Occurrence H P) × Has r.following x × Succeeds side path x))
        ⊎ MayEndInRounds answers side path (has.first ∷ has.later))
