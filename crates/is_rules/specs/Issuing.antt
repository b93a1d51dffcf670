-- What a transition issues, and how it changes the queues.
use Rattle.std.specs.Prelude.{◌≡◌, ℕ, ◌&&◌, Bool, true, List, [], ◌∷◌, ◌++◌, Option, Some, None, is_some, ◌⊎◌, if◌then◌else◌}
use Rattle.is_proto.specs.Lists.{Has}
use Rattle.is_proto.specs.Packets.{Packet}
use Rattle.is_candidate.specs.Candidates.{CandidateRecord}
use Rattle.is_candidate.specs.Priorities.{check_priority}
use Rattle.is_stun.specs.declared.header.Class.{Class}
use Rattle.is_stun.specs.declared.header.Class.TheVariants as class
use Rattle.is_stun.specs.Message.{Message}
use Rattle.is_stun.specs.Checks.{binding_request, binding_reply, binding_role_conflict_reply, with_nomination}
use Rattle.is_stun.specs.Writing.{written}
use Rattle.is_stun.specs.Theorems.{IsPut}
use Rattle.is_stun.specs.Timing.{is_modern}
use Rattle.is_rules.specs.declared.credentials.IceCreds.{IceCreds}
use Rattle.is_rules.specs.declared.emitted.Issued.{Issued}
use Rattle.is_rules.specs.declared.emitted.Path.{Path}
use Rattle.is_rules.specs.Request.{RequestRecord, request_in}
use Rattle.is_rules.specs.Polls.{IsPolled}
use Rattle.is_rules.specs.Steps.{Answer, Done, Polled, Entry, quiet, is_done}
use Rattle.is_rules.specs.declared.roles.Conflict.TheVariants.{Send487}
use Rattle.is_rules.specs.Emitted.{reversed}
use Rattle.is_rules.specs.Agent.{AgentRecord}
use Rattle.is_rules.specs.Sending.{carried}
use Rattle.is_rules.specs.Roles.{conflict_of}
use Rattle.is_rules.specs.Queue.{queued_last, request_at}
use Rattle.is_rules.specs.Restarting.{early_kept}
use Rattle.is_rules.specs.Checking.{username_between}
use Rattle.is_rules.specs.Steps.{Call, RestartIce, HandleTimeout, PollTransmit}
use Rattle.is_rules.specs.Brought.{Brings, IsServing}

-- ---- the packet queue

-- the path of an outgoing packet
abbrev pub via_out : Packet → Path
via_out packet = record { proto = packet.proto; source = packet.source; destination = packet.destination }

-- At most one packet is appended: the one that is reported as issued.
abbrev pub IsQueued : Option Issued → List Packet → List Packet → Type 0
IsQueued None old new = new ≡ old
IsQueued (Some issued) old new = (packet : Packet) × (via_out packet ≡ issued.path) × (new ≡ old ++ packet ∷ [])

abbrev pub IsEmptied : {X : Type 0} → Answer → List X → List X → Type 0
IsEmptied answer old new = new ≡ (if is_done answer then [] else old)

-- `poll_transmit` removes the first packet, an ICE restart empties the queue, and any other call appends the packet that it
-- reports.
abbrev pub QueuesPackets : {P : Type 0} → Call P → Entry → List Packet → List Packet → Type 0
QueuesPackets PollTransmit e old new = (given : Option Packet) × (e ≡ quiet (Polled given)) × IsPolled old given new
QueuesPackets (RestartIce creds keep) e old new = (e.emitted.issued ≡ None) × IsEmptied e.answer old new
QueuesPackets _ e old new = IsQueued e.emitted.issued old new

-- ---- the queue of early requests

-- A `handle_timeout` call that succeeds removes some requests from the front, and then the one that it serves.
abbrev pub WaitsPast : Option RequestRecord → Answer → List RequestRecord → List RequestRecord → Type 0
WaitsPast None answer old new = (gone : List RequestRecord) × (old ≡ gone ++ new)
WaitsPast (Some q) Done old new = (gone : List RequestRecord) × (old ≡ gone ++ q ∷ new)
WaitsPast (Some q) answer old new = new ≡ old

-- A request is signed with the password of the agent that receives it, and its response with the same one (RFC 8445, section
-- 7.2.2).
abbrev pub key_for : Class → IceCreds → Option IceCreds → List ℕ
key_for class.Request local (Some remote) = remote.pass
key_for _ local remote = local.pass

module _ {H P : Type 0} where
  -- A request that was received is appended, within the limit; otherwise the queue does not change.
  abbrev pub WaitsWith : AgentRecord H P → Call P → Entry → AgentRecord H P → Type 0
  WaitsWith old call e new =
      (new.queue ≡ old.queue)
      ⊎ ((at : ℕ) × (by : Path) × (m : Message) × Brings call e at by m × (m.class ≡ class.Request) × (old.remote_creds ≡ None)
      × (new.queue ≡ queued_last (old.queue ++ request_in at by m ∷ [])))

  abbrev pub Waits : AgentRecord H P → Call P → Entry → AgentRecord H P → Type 0
  Waits old (HandleTimeout now) e new = WaitsPast (request_at now old) e.answer old.queue new.queue
  -- with `Modern` a restart empties the queue
  Waits old (RestartIce creds keep) e new = new.queue ≡ early_kept (is_done e.answer && is_modern old.timing) old.queue
  Waits old call e new = WaitsWith old call e new

  -- ---- what is issued

  -- What the bytes of an issued message say, by its class. `controlling` is the role after the transition.
  abbrev pub Says : Class → AgentRecord H P → Call P → Entry → List ℕ → Message → Path → Bool → Type 0
  -- A check claims the agent's role, which does not change. It has USE-CANDIDATE only if the agent is controlling, and
  -- NOMINATION only with it.
  Says class.Request old call e bytes m path controlling =
      (peer : IceCreds) × (c : CandidateRecord) × (use_candidate : Bool) × (number : Option ℕ)
      × (old.remote_creds ≡ Some peer) × Has old.local c
      × (m ≡ with_nomination number (binding_request (username_between peer old.local_creds) m.id old.controlling old.tie_breaker (check_priority c) use_candidate))
      × IsPut bytes m × (controlling ≡ old.controlling) × (use_candidate ≡ true → old.controlling ≡ true)
      × (is_some number ≡ true → use_candidate ≡ true)
  -- A success response replies to the request that is served, on its reverse path.
  Says class.Success old call e bytes m path controlling =
      (q : RequestRecord) × IsServing old call e q × (m ≡ binding_reply q.id q.path.source) × (path ≡ reversed q.path)
      × IsPut bytes (binding_reply q.id (carried q.path.source))
  -- A 487 replies to the request that is served, on its reverse path. The request claimed the agent's own role with a tie-breaker that is
  -- not greater. The role does not change.
  Says class.Failure old call e bytes m path controlling =
      (q : RequestRecord) × IsServing old call e q × (m ≡ binding_role_conflict_reply q.id) × (path ≡ reversed q.path)
      × IsPut bytes m × (conflict_of old q ≡ Send487) × (controlling ≡ old.controlling)
  -- No other message is issued.
  Says _ old call e bytes m path controlling = ⊥

  -- The transition issues the packet: it is signed as its class requires, and reported.
  abbrev pub IsIssued : (H → List ℕ → List ℕ → List ℕ) → AgentRecord H P → Call P → Entry → Packet → Bool → Type 0
  IsIssued mac old call e packet controlling =
      (m : Message)
      × (packet.contents ≡ written (mac old.provider) (Some (key_for m.class old.local_creds old.remote_creds)) m)
      × (e.emitted.issued ≡ Some record { path = via_out packet; class = m.class; id = record { 0 = m.id } })
      × Says m.class old call e packet.contents m (via_out packet) controlling
