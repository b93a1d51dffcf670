-- The headline (clause `headline` of `run` and of `World::run`): what an agent guarantees that keeps the profile `Original`, and what two do.
use Rattle.std.specs.List.{AllByRecursion}
use Rattle.std.specs.Prelude.{◌≡◌, ◌≢◌, ℕ, ◌<◌, ◌≤◌, true, false, List, ◌∷◌, map, Some}
use Rattle.rand_core.specs.Stream.{Stream}
use Rattle.is_proto.specs.Lists.{Has}
use Rattle.is_stun.specs.declared.header.Class.TheVariants.{Request}
use Rattle.is_stun.specs.declared.header.Method.TheVariants.{Binding}
use Rattle.is_stun.specs.declared.timing.Profile.TheVariants.{Original}
use Rattle.is_stun.specs.Message.{Message}
use Rattle.is_candidate.specs.Candidates.{CandidateRecord}
use Rattle.is_pair.specs.Pairs.{PairRecord}
use Rattle.is_rules.specs.declared.emitted.Path.{Path}
use Rattle.is_rules.specs.Agent.{AgentRecord}
use Rattle.is_rules.specs.Brought.{Brings}
use Rattle.is_rules.specs.Emitted.{reversed}
use Rattle.is_rules.specs.Nominating.{is_eligible}
use Rattle.is_rules.specs.Points.{IsNominationPoint}
use Rattle.is_rules.specs.Sending.{path_of}
use Rattle.is_rules.specs.Steps as agent
use Rattle.is_theorems.specs.Logs.{Logged, last_selected, IsAnsweredBy}
use Rattle.is_theorems.specs.Runs as runs
use Rattle.is_theorems.specs.Runs.{AtEach, shared_run}
use Rattle.is_theorems.specs.Shared.{IsControlledSince}
use Rattle.is.specs.declared.world_events.Side.{Side}
use Rattle.is.specs.declared.world_events.Side.TheVariants.{A, B}
use Rattle.is.specs.Accepted.{AcceptsOnPath, ChangesNothing}
use Rattle.is.specs.World.{WorldRecord, Event, Call, LoggedEvent, Streams, at, other}
use Rattle.is.specs.WorldRoles.{IsNewWorld, Point, Meets, role_in, changes}

-- ---- one agent

-- An agent is plain if it is not lite, and has the profile `Original` and no renomination, as a new one. The call leaves it plain.
abbrev pub LeavesPlain : {P : Type 0} → agent.Call P → Type 0
LeavesPlain (agent.SetProfile profile) = profile ≡ Original
LeavesPlain (agent.SetRenomination renominates) = renominates ≡ false
LeavesPlain (agent.SetIceLite lite) = lite ≡ false
LeavesPlain _ = Unit {0}

abbrev pub StaysPlain : {P : Type 0} → List (Logged P) → Type 0
StaysPlain log = AllByRecursion (λ x. LeavesPlain x.call) log

-- One of these calls accepted a Binding request with USE-CANDIDATE, which was received on the reverse of the path.
abbrev pub IsAsked : {P : Type 0} → List (Logged P) → Path → Type 0
IsAsked log path =
    (x : Logged _) × Has log x × (at : ℕ) × (by : Path) × (m : Message) × Brings x.call x.entry at by m
    × (m.method ≡ Binding) × (m.class ≡ Request) × (m.attributes.use_candidate ≡ true) × (reversed by ≡ path)

module _ {H P : Type 0} where
  -- The path that was selected last since the last clear is that of an eligible pair, and no eligible pair has a greater stored priority.
  abbrev pub IsGreatestSelected : List (Logged P) → AgentRecord H P → Type 0
  IsGreatestSelected log a =
      (best : PairRecord) × Has a.pairs best × (is_eligible a.controlling best ≡ true) × (last_selected log ≡ Some (path_of a best))
      × ((p : PairRecord) → Has a.pairs p → is_eligible a.controlling p ≡ true → p.priority ≤ best.priority)

  module _ (mac : H → List ℕ → List ℕ → List ℕ) (answers : P → CandidateRecord → ℕ → ℕ → Type 0) where
    -- what `run` guarantees of an agent that is plain, at each entry of its log
    pub record Headline (first : AgentRecord H P) (s : Stream) (log : List (Logged P)) : Type 0 where
      -- Bytes that the agent does not accept, on the path on which they were received, change nothing, issue nothing and select no path.
      pub unaccepted : AtEach mac answers first s log (λ before mid x after. (now : ℕ) (path : Path) (bytes : List ℕ)
          → x.call ≡ agent.ReceivePacket now path bytes → ¬ AcceptsOnPath mac mid path bytes → ChangesNothing mid x.entry after)
      -- Each selected path got an authentic success response, on its reverse path, to a check that was sent since the last clear.
      pub answered : AtEach mac answers first s log (λ before mid x after. (path : Path) → Has x.entry.emitted.selected_paths (Some path)
          → IsAnsweredBy mac first.provider x before path)
      -- After each accepted success response, and each `handle_timeout` that served no early request: if a pair is eligible, the path that
      -- was selected last is that of one with the greatest stored priority.
      pub greatest : AtEach mac answers first s log (λ before mid x after. IsNominationPoint mid x.call x.entry
          → (p : PairRecord) → Has after.pairs p → is_eligible after.controlling p ≡ true → IsGreatestSelected (x ∷ before) after)
      -- The peer nominated each path that is selected while the agent was controlled since the last clear.
      pub asked : (before : List (Logged P)) (mid after : AgentRecord H P) (x : Logged P) (point : runs.Point mac answers first s log before mid x after)
          → IsControlledSince mac answers first (x ∷ before) after
          (mid, point.at, point.following, shared_run mac answers first s before mid point.at point.led, point.given, point.step)
          → (path : Path) → Has x.entry.emitted.selected_paths (Some path) → IsAsked (x ∷ before) path

-- ---- two agents

-- The event leaves the profile of the side `Original`.
abbrev pub LeavesOriginal : {P : Type 0} → Side → Event P → Type 0
LeavesOriginal side (Call s (agent.SetProfile profile)) = s ≡ side → profile ≡ Original
LeavesOriginal side _ = Unit {0}

module _ {H P : Type 0} where
  -- Both agents are newly created and keep the profile `Original`, no packet is in flight, no two checks have the same ID, and `greater` has
  -- the greater tie-breaker.
  pub record IsOriginalWorld (first : WorldRecord H P) (greater : Side) (log : List (LoggedEvent P)) : Type 0 where
    pub start : IsNewWorld first log
    pub tie : (at (other greater) first).tie_breaker < (at greater first).tie_breaker
    pub original : (side : Side) → AllByRecursion (λ x. LeavesOriginal side x.event) log

  module _ (mac : H → List ℕ → List ℕ → List ℕ) (answers : P → CandidateRecord → ℕ → ℕ → Type 0) where
    pub record RolesSettle (first : WorldRecord H P) (s : Streams) (log : List (LoggedEvent P)) (greater : Side) : Type 0 where
      -- The agent with the greater tie-breaker has the same role after every event.
      pub keeps : AllByRecursion (λ x. role_in greater x ≡ (at greater first).controlling) log
      -- The role of the other one changes in at most one event.
      pub switches_once : changes (at (other greater) first).controlling (map (role_in (other greater)) log) ≤ 1
      -- Once it has met the role of the first (`Meets`), the roles are different.
      pub opposite : (mid : WorldRecord H P) (x : LoggedEvent P) (rest : List (LoggedEvent P)) → Point mac answers first s log mid x rest
          → Meets (other greater) mid x → AllByRecursion (λ y. role_in A y ≢ role_in B y) (x ∷ rest)

    abbrev pub RolesHeadline : WorldRecord H P → Streams → List (LoggedEvent P) → Type 0
    RolesHeadline first s log = (greater : Side) → IsOriginalWorld first greater log → RolesSettle first s log greater
