-- The two-agent network model: two agents, and the in-flight packets between them.
use Rattle.std.specs.Prelude.{◌≡◌, ℕ, Bool, true, false, MatchBool, List, [], ◌∷◌, ◌++◌, map, suc, Option, Some, None, ◌⊎◌, slice_get}
use Rattle.std.specs.Prelude.{length, Result, Ok, Err}
use Rattle.rand_core.specs.Stream.{Stream}
use Rattle.is_proto.specs.Packets.{Packet, packet_of}
use Rattle.is_proto.specs.declared.error.IceError.{IceError}
use Rattle.is_proto.specs.declared.error.IceError.TheVariants.{OutOfMemory}
use Rattle.is_proto.specs.declared.error.ParseFault.{ParseFault}
use Rattle.is_candidate.specs.Candidates.{CandidateRecord}
use Rattle.is_stun.specs.declared.header.Class.{Class}
use Rattle.is_stun.specs.declared.trans_id.TransId.{TransId}
use Rattle.is_stun.specs.Message.{Message}
use Rattle.is_stun.specs.Reading.{fault_of, message_of}
use Rattle.is_rules.specs.declared.emitted.Path.{Path}
use Rattle.is_rules.specs.Steps as agent
use Rattle.is_rules.specs.Steps.{quiet, Answer, Flag, Rejected, NotInWorld, NoSuchPacket}
use Rattle.is_rules.specs.Agent.{AgentRecord, fresh, MakesAgent}
use Rattle.is_rules.specs.Fitting.{are_too_long}
use Rattle.is_agent.specs.View.{record_of}
use Rattle.is_rules.specs.Polls.{PollsTransmit}
use Rattle.is_rules.specs.Steps.{Step}
use Rattle.is_rules.specs.Sound.{GivesBased}
use Rattle.is_rules.specs.Effects.{clears}
use Rattle.is.specs.declared.world_events.Side.{Side}
use Rattle.is.specs.declared.world_events.Side.TheVariants.{A, B}
use Rattle.is.specs.declared.world.AgentSpec.{AgentSpec}
use Rattle.is.specs.declared.world_events.InFlight as code
use Rattle.is.specs.declared.world.TwoAgents.{TwoAgents}
use Rattle.is.specs.declared.world_events.TwoAgentsEvent.{TwoAgentsEvent}
use Rattle.is.specs.declared.world_events.TwoAgentsEvent.TheVariants as event
use Rattle.is.specs.declared.world_events.WorldEntry.{WorldEntry}
use Rattle.is.specs.declared.world_events.WorldLog.{WorldLog}
use Rattle.is.specs.Views.{call_view, answer_view}
use Rattle.is.specs.Accepted.{LeavesOut}

-- ---- the state of the network model

-- an in-flight packet, and its sender
pub record InFlightRecord : Type 0 where
  pub sender : Side
  pub packet : Packet

pub record WorldRecord (H P : Type 0) : Type 0 where
  pub a : AgentRecord H P
  pub b : AgentRecord H P
  pub network : List InFlightRecord

abbrev pub in_flight_of : code.InFlight → InFlightRecord
in_flight_of l = record { sender = l.sender; packet = packet_of l.packet }

abbrev pub world_of : {H P : Type 0} → TwoAgents H P → WorldRecord H P
world_of w = record { a = record_of w.a; b = record_of w.b; network = map in_flight_of w.network.items }

abbrev pub other : Side → Side
other A = B
other B = A

abbrev pub at : {H P : Type 0} → Side → WorldRecord H P → AgentRecord H P
at A w = w.a
at B w = w.b

abbrev pub put : {H P : Type 0} → Side → AgentRecord H P → WorldRecord H P → WorldRecord H P
put A r w = record w { a = r }
put B r w = record w { b = r }

-- the random sources of both agents
pub record Streams : Type 0 where
  pub a : Stream
  pub b : Stream

abbrev pub sources : Stream → Stream → Streams
sources a b = record { a = a; b = b }

abbrev pub source_of : Side → Streams → Stream
source_of A s = s.a
source_of B s = s.b

-- what is left of the sources, after a side drew from its own
abbrev pub drawn_by : Side → Stream → Streams → Streams
drawn_by A left s = record s { a = left }
drawn_by B left s = record s { b = left }

-- A's role first
abbrev pub roles_of : {H P : Type 0} → WorldRecord H P → List Bool
roles_of w = w.a.controlling ∷ w.b.controlling ∷ []

-- ---- a newly created network model

module _ {H P : Type 0} where
  -- a newly created agent, in its role
  abbrev pub MakesMember : AgentSpec H → Result (AgentRecord H P) IceError → Type 0
  MakesMember spec (Ok a) =
      (are_too_long spec.creds None ≡ false) × (a ≡ record (fresh spec.provider spec.creds spec.tie_breaker) { controlling = spec.controlling })
  MakesMember spec (Err error) = MakesAgent {P = P} spec.provider spec.creds spec.tie_breaker (Err error)

  abbrev pub made_world : Result (TwoAgents H P) IceError → Result (WorldRecord H P) IceError
  made_world (Ok w) = Ok (world_of w)
  made_world (Err error) = Err error

  -- `TwoAgents::new`
  abbrev pub MakesWorld : AgentSpec H → AgentSpec H → Result (WorldRecord H P) IceError → Type 0
  MakesWorld a b (Ok w) = MakesMember a (Ok w.a) × MakesMember b (Ok w.b) × (w.network ≡ [])
  MakesWorld a b (Err error) = MakesMember a (Err error) ⊎ MakesMember b (Err error)

-- ---- events and log entries

pub data Event (P : Type 0) : Type 0 where
  Call : Side → agent.Call P → Event P
  Poll : Side → Event P
  -- the index of an in-flight packet, the time, and the path on which it is received
  Deliver : ℕ → ℕ → Path → Event P
  -- bytes that the other agent did not send: the side to which they come, the time, the path on which they are received, and they
  Stray : Side → ℕ → Path → List ℕ → Event P

abbrev pub event_view : {P : Type 0} → TwoAgentsEvent P → Event P
event_view (event.Call side c) = Call side (call_view c)
event_view (event.Poll side) = Poll side
event_view (event.Deliver packet now proto source destination) =
    Deliver packet now.0 (record { proto = proto; source = source; destination = destination })
event_view (event.Stray side now proto source destination bytes) =
    Stray side now.0 (record { proto = proto; source = source; destination = destination }) bytes.items

-- The recorded result of an event: what the agent returned and emitted, both roles after it, the side that acted, whether the
-- event cleared its pairs, and what a delivered packet encodes.
pub record Outcome : Type 0 where
  pub entry : agent.Entry
  pub controlling : List Bool
  pub side : Option Side
  pub clear : Bool
  pub moved : Option (Class × TransId)

abbrev pub outcome_of : WorldEntry → Outcome
outcome_of e = record {
  entry = record { answer = answer_view e.answer; emitted = record { issued = e.issued; selected_paths = e.announced } };
  controlling = e.controlling;
  side = e.side;
  clear = e.clear;
  moved = e.moved;
}

-- What the bytes encode; none if they have a parse fault.
abbrev pub read_unless : Option ParseFault → Message → Option (Class × TransId)
read_unless None m = Some (m.class, record { 0 = m.id })
read_unless (Some fault) m = None

abbrev pub moved_by : {P : Type 0} → agent.Call P → Option (Class × TransId)
moved_by (agent.ReceivePacket now path bytes) = read_unless (fault_of bytes) (message_of bytes)
moved_by _ = None

-- ---- transitions

-- The calls that are transitions of the network model: packets are received only by delivery, and no role or tie-breaker is set.
abbrev pub in_world : {P : Type 0} → agent.Call P → Bool
in_world (agent.ReceivePacket now path bytes) = false
in_world (agent.SetControlling controlling) = false
in_world (agent.SetControlTieBreaker tie_breaker) = false
in_world _ = true

-- An agent's packet becomes an in-flight packet; or there is none; or memory is exhausted.
abbrev pub PolledInto : {H P : Type 0} → AgentRecord H P → List InFlightRecord → Side → Answer → AgentRecord H P → List InFlightRecord → Type 0
PolledInto old network side answer new multiset' =
    ((answer ≡ Rejected OutOfMemory) × (new ≡ old) × (multiset' ≡ network))
    ⊎ (((answer ≡ Flag false) × PollsTransmit old None new × (multiset' ≡ network))
    ⊎ ((p : Packet) × PollsTransmit old (Some p) new × (answer ≡ Flag true) × (multiset' ≡ network ++ record { sender = side; packet = p } ∷ [])))

-- a recorded result with only the returned value, the side and the roles
abbrev pub plain : Answer → Option Side → List Bool → Outcome
plain answer side roles = record { entry = quiet answer; controlling = roles; side = side; clear = false; moved = None }

module _ {H P : Type 0} (mac : H → List ℕ → List ℕ → List ℕ) (answers : P → CandidateRecord → ℕ → ℕ → Type 0) where
  -- Nothing happens, and the log entry says why.
  abbrev pub Persists : WorldRecord H P → Streams → Answer → Option Side → Outcome → WorldRecord H P → Streams → Type 0
  Persists w s answer side e w' t = (w' ≡ w) × (t ≡ s) × (e ≡ plain answer side (roles_of w))

  -- one agent makes a call, and draws from its random source
  pub record TakesTurn (w : WorldRecord H P) (s : Streams) (side : Side) (c : agent.Call P) (e : Outcome) (w' : WorldRecord H P) (t : Streams)
      : Type 0 where
    pub new : AgentRecord H P
    pub left : Stream
    pub step : Step mac answers (at side w) (source_of side s) c e.entry new left
    pub drawn : t ≡ drawn_by side left s
    pub given : GivesBased c
    pub world : w' ≡ put side new w
    pub roles : e.controlling ≡ roles_of w'
    pub side_is : e.side ≡ Some side
    pub clear : e.clear ≡ clears c e.entry.answer
    pub moved : e.moved ≡ moved_by c

  -- An agent's packet becomes an in-flight packet.
  pub record Polls (w : WorldRecord H P) (s : Streams) (side : Side) (e : Outcome) (w' : WorldRecord H P) (t : Streams) : Type 0 where
    pub answer : Answer
    pub new : AgentRecord H P
    pub network : List InFlightRecord
    pub polled : PolledInto (at side w) w.network side answer new network
    pub world : w' ≡ record (put side new w) { network = network }
    pub emitted : e ≡ plain answer (Some side) (roles_of w')
    pub stream : t ≡ s

  abbrev pub Delivers : WorldRecord H P → Streams → Option InFlightRecord → ℕ → Path → Outcome → WorldRecord H P → Streams → Type 0
  Delivers w s None now path e w' t = Persists w s NoSuchPacket None e w' t
  Delivers w s (Some l) now path e w' t = TakesTurn w s (other l.sender) (agent.ReceivePacket now path l.packet.contents) e w' t

  -- Nothing happens at bytes that the other agent did not send. If they are accepted, they are no event of the network model.
  abbrev pub IgnoresStray : WorldRecord H P → Streams → Side → ℕ → Path → List ℕ → Outcome → WorldRecord H P → Streams → Type 0
  IgnoresStray w s side now path bytes e w' t =
      (answer : Answer) × LeavesOut mac answers now (at side w) path bytes answer × Persists w s answer (Some side) e w' t

  -- one event
  abbrev pub Happens : WorldRecord H P → Streams → Event P → Outcome → WorldRecord H P → Streams → Type 0
  Happens w s (Call side c) e w' t = MatchBool (in_world c) (TakesTurn w s side c e w' t) (Persists w s NotInWorld (Some side) e w' t)
  Happens w s (Poll side) e w' t = Polls w s side e w' t
  Happens w s (Deliver place now path) e w' t = Delivers w s (slice_get w.network place) now path e w' t
  Happens w s (Stray side now path bytes) e w' t = IgnoresStray w s side now path bytes e w' t

-- ---- the log

-- a log entry: the event, its recorded result, and the number of the entry
pub record LoggedEvent (P : Type 0) : Type 0 where
  pub number : ℕ
  pub event : Event P
  pub outcome : Outcome

abbrev pub logged_as : {P : Type 0} → TwoAgentsEvent P → WorldEntry → LoggedEvent P
logged_as v e = record { number = e.number; event = event_view v; outcome = outcome_of e }

-- the log, in order
abbrev pub logged : {P : Type 0} → List (TwoAgentsEvent P) → List WorldEntry → List (LoggedEvent P)
logged [] entries = []
logged (v ∷ events) [] = []
logged (v ∷ events) (e ∷ entries) = logged_as v e ∷ logged events entries

module _ {H P : Type 0} (mac : H → List ℕ → List ℕ → List ℕ) (answers : P → CandidateRecord → ℕ → ℕ → Type 0) where
  -- The log, in order, may be that of an execution from the first state to the last. Its entries are numbered from n.
  abbrev pub WorldRun : WorldRecord H P → Streams → ℕ → List (LoggedEvent P) → WorldRecord H P → Streams → Type 0
  WorldRun first s n [] last t = (last ≡ first) × (t ≡ s)
  WorldRun first s n (x ∷ rest) last t =
      (mid : WorldRecord H P) × (u : Streams) × (x.number ≡ n) × Happens mac answers first s x.event x.outcome mid u × WorldRun mid u (suc n) rest last t

  -- One entry for each event, in order; or nothing was done.
  abbrev pub IsWorldLog : WorldRecord H P → Streams → List (TwoAgentsEvent P) → WorldLog → WorldRecord H P → Streams → Type 0
  IsWorldLog old s events log new t =
      MatchBool log.stopped
      ((log.entries.items ≡ []) × (new ≡ old) × (t ≡ s))
      ((length log.entries.items ≡ length events) × WorldRun old s 0 (logged events log.entries.items) new t)
