-- What the agent received in a call, and parts of its state by path.
use Rattle.std.specs.Prelude.{◌≡◌, ℕ, Bool, true, false, not, List, Some, is_some}
use Rattle.is_proto.specs.Lists.{Has}
use Rattle.is_pair.specs.Checks.{Check}
use Rattle.is_pair.specs.Pairs.{PairRecord, is_valid, is_nominated}
use Rattle.is_stun.specs.declared.header.Class.TheVariants as class
use Rattle.is_stun.specs.Integrity.{IsSignedBy}
use Rattle.is_stun.specs.Message.{Message}
use Rattle.is_stun.specs.Reading.{Reads}
use Rattle.is_rules.specs.declared.credentials.IceCreds.{IceCreds}
use Rattle.is_rules.specs.declared.emitted.Path.{Path}
use Rattle.is_rules.specs.Places.{local_place}
use Rattle.is_rules.specs.Request.{RequestRecord, request_in}
use Rattle.is_rules.specs.Steps.{Done, Flag, Entry}
use Rattle.is_rules.specs.declared.roles.Conflict.{Conflict}
use Rattle.is_rules.specs.declared.roles.Conflict.TheVariants.{SwitchRole}
use Rattle.is_rules.specs.Emitted.{reversed}
use Rattle.is_rules.specs.Agent.{AgentRecord}
use Rattle.is_rules.specs.Sending.{path_of}
use Rattle.is_rules.specs.Roles.{conflict_of}
use Rattle.is_rules.specs.Serving.{is_for_other_peer, nominates}
use Rattle.is_rules.specs.Queue.{request_at}
use Rattle.is_rules.specs.Answers.{is_role_conflict, is_reverse}
use Rattle.is_rules.specs.Steps.{Call, SetControlling, ReceivePacket, HandleTimeout}

-- the role after a request that is served and passes the tests
abbrev pub role_once : Conflict → Bool → Bool
role_once SwitchRole controlling = not controlling
role_once _ controlling = controlling

-- The agent received this message in the call, on this path at this time, and accepted it.
abbrev pub Brings : {P : Type 0} → Call P → Entry → ℕ → Path → Message → Type 0
Brings (ReceivePacket now path bytes) e at by m = (now ≡ at) × (path ≡ by) × Reads bytes m × (e.answer ≡ Flag true)
Brings _ e at by m = ⊥

-- a request that was accepted now
abbrev pub IsBrought : {P : Type 0} → Call P → Entry → RequestRecord → Type 0
IsBrought call e q = (at : ℕ) × (by : Path) × (m : Message) × Brings call e at by m × (m.class ≡ class.Request) × (q ≡ request_in at by m)

module _ {H P : Type 0} where
  -- ---- parts of the state, by path

  -- A transaction with this ID, whose check was sent in this role, is pending on the path.
  abbrev pub IsKept : AgentRecord H P → Path → List ℕ → Bool → Type 0
  IsKept a path id controlling =
      (p : PairRecord) × (c : Check) × Has a.pairs p × Has p.checks c × (c.id ≡ id) × (c.controlling ≡ controlling) × (path_of a p ≡ path)

  abbrev pub IsValidOn : AgentRecord H P → Path → Type 0
  IsValidOn a path = (p : PairRecord) × Has a.pairs p × (is_valid p ≡ true) × (path_of a p ≡ path)

  abbrev pub IsNominatedOn : AgentRecord H P → Path → Type 0
  IsNominatedOn a path = (p : PairRecord) × Has a.pairs p × (is_nominated p ≡ true) × (path_of a p ≡ path)

  -- The pair existed before, on the same path. It is valid if it was valid, and nominated if it was nominated.
  abbrev pub Continues : AgentRecord H P → AgentRecord H P → PairRecord → Type 0
  Continues old new p =
      (q : PairRecord) × Has old.pairs q × (q.number ≡ p.number) × (path_of old q ≡ path_of new p)
      × (is_valid q ≡ true → is_valid p ≡ true) × (is_nominated q ≡ true → is_nominated p ≡ true)

  -- ---- requests

  -- The transition serves this request: the one that was received in the call, or the early request that `handle_timeout` takes
  -- from the queue.
  abbrev pub IsServing : AgentRecord H P → Call P → Entry → RequestRecord → Type 0
  IsServing old (HandleTimeout now) e q = (request_at now old ≡ Some q) × (e.answer ≡ Done)
  IsServing old call e q =
      (at : ℕ) × (by : Path) × (m : Message) × Brings call e at by m × (m.class ≡ class.Request) × (is_some old.remote_creds ≡ true)
      × (q ≡ request_in at by m)

  -- The peer nominates the path.
  abbrev pub IsNominatedByPeer : AgentRecord H P → Call P → Entry → Path → Type 0
  IsNominatedByPeer old call e path = (q : RequestRecord) × IsServing old call e q × (nominates old q ≡ true) × (reversed q.path ≡ path)

  -- ----

  -- The request passes the tests of its username fragment and its destination.
  abbrev pub IsServedPastTests : AgentRecord H P → RequestRecord → Type 0
  IsServedPastTests old q = (is_for_other_peer old q ≡ false) × ((l : ℕ) × (local_place old.local q ≡ Some l))

  -- ---- responses

  -- An authentic success response was received on the reverse path, with the ID of a transaction that was pending on the path.
  abbrev pub IsAnswered : (H → List ℕ → List ℕ → List ℕ) → AgentRecord H P → Call P → Entry → Path → Type 0
  IsAnswered mac old call e path =
      (at : ℕ) × (by : Path) × (m : Message) × (controlling : Bool) × (peer : IceCreds)
      × Brings call e at by m × (m.class ≡ class.Success) × IsKept old path m.id controlling
      × (old.remote_creds ≡ Some peer) × IsSignedBy (mac old.provider) m peer.pass
      × (is_reverse by path ≡ true)

  -- ---- roles

  -- A request claims the agent's role with a greater tie-breaker, and the agent switches its role.
  abbrev pub SwitchesRoleFor : AgentRecord H P → Call P → Entry → AgentRecord H P → Type 0
  SwitchesRoleFor old call e new =
      (q : RequestRecord) × IsServing old call e q × (conflict_of old q ≡ SwitchRole) × (new.controlling ≡ not old.controlling)

  -- A 487 was received for a check, and the agent then has the role that the check was not sent in.
  abbrev pub IsRejectedBy : AgentRecord H P → Call P → Entry → AgentRecord H P → Type 0
  IsRejectedBy old call e new =
      (at : ℕ) × (by path : Path) × (m : Message) × (controlling : Bool)
      × Brings call e at by m × (m.class ≡ class.Failure) × (is_role_conflict m ≡ true)
      × IsKept old path m.id controlling × (new.controlling ≡ not controlling)

-- The user sets the role.
abbrev pub IsRoleSet : {P : Type 0} → Call P → Bool → Type 0
IsRoleSet (SetControlling controlling) role = role ≡ controlling
IsRoleSet _ role = ⊥
