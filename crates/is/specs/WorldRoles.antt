-- Roles of two agents over any network (RFC 8445, section 7.3.1.1).
use Rattle.std.specs.List.{AllByRecursion}
use Rattle.std.specs.Prelude.{◌≡◌, ◌≢◌, ℕ, ◌+◌, ◌<◌, ◌≤◌, Bool, true, false, List, [], ◌∷◌, ◌++◌, map, Some, ◌⊎◌, slice_get, if◌then◌else◌}
use Rattle.is_proto.specs.Lists.{same}
use Rattle.is_candidate.specs.Candidates.{CandidateRecord}
use Rattle.is_stun.specs.declared.header.Class.TheVariants as class
use Rattle.is_stun.specs.Message.{Message}
use Rattle.is_stun.specs.Timing.{is_modern_profile}
use Rattle.is_rules.specs.declared.emitted.Path.{Path}
use Rattle.is_rules.specs.Request.{RequestRecord}
use Rattle.is_rules.specs.Answers.{is_role_conflict}
use Rattle.is_rules.specs.Steps as agent
use Rattle.is_rules.specs.Brought.{Brings, IsServing, IsServedPastTests}
use Rattle.is_rules.specs.Emitted.{issued_as}
use Rattle.is_theorems.specs.Shared.{IsNewlyCreated}
use Rattle.is.specs.declared.world_events.Side.{Side}
use Rattle.is.specs.declared.world_events.Side.TheVariants.{A, B}
use Rattle.is.specs.World as world
use Rattle.is.specs.World.{WorldRecord, InFlightRecord, LoggedEvent, Event, at, other, in_world, Streams}

-- ---- the preconditions

-- No two of the entries issued checks with the same transaction ID.
abbrev pub HaveDistinctIds : {P : Type 0} → List (LoggedEvent P) → Type 0
HaveDistinctIds log =
    (i j : ℕ) (id : List ℕ) (p q : Path) (x y : LoggedEvent _) → slice_get log i ≡ Some x → slice_get log j ≡ Some y
    → x.outcome.entry.emitted.issued ≡ Some (issued_as p class.Request id) → y.outcome.entry.emitted.issued ≡ Some (issued_as q class.Request id) → i ≡ j

-- The side is not made lite.
abbrev pub StaysFull : {P : Type 0} → Side → Event P → Type 0
StaysFull side (world.Call s (agent.SetIceLite lite)) = s ≡ side → lite ≡ false
StaysFull side _ = Unit {0}

abbrev pub IsNeverLite : {P : Type 0} → Side → List (LoggedEvent P) → Type 0
IsNeverLite side log = AllByRecursion (λ x. StaysFull side x.event) log

-- The side does not get the profile by which a lite agent keeps its role.
abbrev pub StaysOriginal : {P : Type 0} → Side → Event P → Type 0
StaysOriginal side (world.Call s (agent.SetProfile profile)) = s ≡ side → is_modern_profile profile ≡ false
StaysOriginal side _ = Unit {0}

-- The side is never made lite, or never gets that profile. So it keeps its role only by its tie-breaker.
abbrev pub ComparesTies : {P : Type 0} → Side → List (LoggedEvent P) → Type 0
ComparesTies side log = IsNeverLite side log ⊎ AllByRecursion (λ x. StaysOriginal side x.event) log

-- Both agents are newly created, no packet is in flight, and no two checks have the same ID.
pub record IsNewWorld {H P : Type 0} (first : WorldRecord H P) (log : List (LoggedEvent P)) : Type 0 where
  pub new : (side : Side) → IsNewlyCreated (at side first)
  pub empty : first.network ≡ []
  pub distinct : HaveDistinctIds log

-- The network model is new (`IsNewWorld`), `greater` has the greater tie-breaker, and neither agent is a lite one that keeps its role.
pub record IsFairWorld {H P : Type 0} (first : WorldRecord H P) (greater : Side) (log : List (LoggedEvent P)) : Type 0 where
  pub start : IsNewWorld first log
  pub tie : (at (other greater) first).tie_breaker < (at greater first).tie_breaker
  pub compares : (side : Side) → ComparesTies side log

-- ---- roles in the log

-- the role of a side, in a list in which A's role comes first
abbrev pub role_at : Side → List Bool → Bool
role_at A (a ∷ rest) = a
role_at B (a ∷ b ∷ rest) = b
role_at _ _ = false

abbrev pub role_in : {P : Type 0} → Side → LoggedEvent P → Bool
role_in side x = role_at side x.outcome.controlling

-- how often a role changes along the list
abbrev pub changes : Bool → List Bool → ℕ
changes role [] = 0
changes role (next ∷ roles) = (if same role next then 0 else 1) + changes next roles

module _ {H P : Type 0} where
  -- The agent with the greater tie-breaker has the same role after every event.
  abbrev pub GreaterKeeps : WorldRecord H P → List (LoggedEvent P) → Type 0
  GreaterKeeps first log =
      (greater : Side) → IsFairWorld first greater log → AllByRecursion (λ x. role_in greater x ≡ (at greater first).controlling) log

  -- The role of the other agent changes in at most one event.
  abbrev pub LesserSwitchesOnce : WorldRecord H P → List (LoggedEvent P) → Type 0
  LesserSwitchesOnce first log =
      (greater : Side) → IsFairWorld first greater log → changes (at (other greater) first).controlling (map (role_in (other greater)) log) ≤ 1

  -- ---- after they met

  -- The event makes the side do the call.
  abbrev pub Makes : WorldRecord H P → Event P → Side → agent.Call P → Type 0
  Makes w (world.Call s c) side d = (s ≡ side) × (d ≡ c) × (in_world c ≡ true)
  Makes w (world.Poll s) side d = ⊥
  Makes w (world.Deliver place now path) side d =
      (l : InFlightRecord) × (slice_get w.network place ≡ Some l) × (other l.sender ≡ side) × (d ≡ agent.ReceivePacket now path l.packet.contents)
  Makes w (world.Stray s now path bytes) side d = ⊥

  -- At this event the side serves a request that passes the tests of its USERNAME and its destination, received now or earlier;
  -- or it accepts an error response with code 487.
  abbrev pub Meets : Side → WorldRecord H P → LoggedEvent P → Type 0
  Meets side w x =
      (c : agent.Call P) × Makes w x.event side c
      × (((q : RequestRecord) × IsServing (at side w) c x.outcome.entry q × IsServedPastTests (at side w) q)
      ⊎ ((now : ℕ) × (path : Path) × (m : Message) × Brings c x.outcome.entry now path m × (m.class ≡ class.Failure) × (is_role_conflict m ≡ true)))

module _ {H P : Type 0} (mac : H → List ℕ → List ℕ → List ℕ) (answers : P → CandidateRecord → ℕ → ℕ → Type 0) where
  -- x is in the log, with the state of the network model before it.
  pub record Point (first : WorldRecord H P) (s : Streams) (log : List (LoggedEvent P)) (mid : WorldRecord H P) (x : LoggedEvent P)
      (rest : List (LoggedEvent P)) : Type 0 where
    pub before : List (LoggedEvent P)
    pub split : log ≡ before ++ x ∷ rest
    pub after : WorldRecord H P
    pub last : WorldRecord H P
    pub u : Streams
    pub v : Streams
    pub t : Streams
    pub n : ℕ
    pub led : world.WorldRun mac answers first s 0 before mid u
    pub happens : world.Happens mac answers mid u x.event x.outcome after v
    pub leads : world.WorldRun mac answers after v n rest last t

  -- Once the agent with the smaller tie-breaker has met the other one's role (`Meets`), the roles are different.
  abbrev pub RolesDifferOnceMet : WorldRecord H P → Streams → List (LoggedEvent P) → Type 0
  RolesDifferOnceMet first s log =
      (greater : Side) → IsFairWorld first greater log → (mid : WorldRecord H P) (x : LoggedEvent P) (rest : List (LoggedEvent P))
      → Point first s log mid x rest
      → Meets (other greater) mid x → AllByRecursion (λ y. role_in A y ≢ role_in B y) (x ∷ rest)
