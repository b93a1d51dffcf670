-- What a network that delivers guarantees: a check is served and gets a response, and the response is accepted (RFC 8445, section
-- 7).
use Rattle.std.specs.Prelude.{◌≡◌, ℕ, ◌==◌, ◌&&◌, Bool, true, false, not, List, [], ◌∷◌, ◌++◌, length, Some}
use Rattle.std.specs.List.{list_any}
use Rattle.rand_core.specs.Stream.{Stream}
use Rattle.is_proto.specs.Lists.{is_empty}
use Rattle.is_proto.specs.Packets.{Packet}
use Rattle.is_candidate.specs.Candidates.{CandidateRecord}
use Rattle.is_candidate.specs.Kinds.{is_direct}
use Rattle.is_stun.specs.declared.header.Class.{Class}
use Rattle.is_stun.specs.declared.header.Class.TheVariants.{Request, Success}
use Rattle.is_stun.specs.Message.{Message}
use Rattle.is_rules.specs.declared.emitted.Path.{Path}
use Rattle.is_rules.specs.Agent.{AgentRecord}
use Rattle.is_rules.specs.Answers.{keeps_check_on}
use Rattle.is_rules.specs.Brought.{Brings}
use Rattle.is_rules.specs.Fitting.{are_too_long}
use Rattle.is_rules.specs.Issuing.{via_out}
use Rattle.is_rules.specs.Limit.{HasPlaceFor}
use Rattle.is_rules.specs.Places.{is_at, is_live}
use Rattle.is_rules.specs.Sound.{IsSound}
use Rattle.is_rules.specs.Steps.{Call, Entry, HandleTimeout, ReceivePacket, Step, is_rejection}
use Rattle.is_rules.specs.Emitted.{issued_as, reversed}

-- A username fragment that USERNAME can carry: not empty, and without a colon (RFC 8445, section 5.3).
pub record IsFragment (ufrag : List ℕ) : Type 0 where
  pub some : is_empty ufrag ≡ false
  pub plain : list_any (λ b. b == 58) ufrag ≡ false

-- The candidate receives what comes on the path (RFC 8445, section 7.3).
abbrev pub receives : Path → CandidateRecord → Bool
receives path c = is_direct c.kind && is_at path.destination path.proto c

-- The path begins at the candidate, which was discarded.
abbrev pub is_gone_at : Path → CandidateRecord → Bool
is_gone_at path c = is_at path.source path.proto c && c.discarded

module _ {H P : Type 0} where
  -- The agents have each other's credentials, which fit into USERNAME. They compute the same MACs, of twenty bytes.
  pub record KnowEachOther (mac : H → List ℕ → List ℕ → List ℕ) (a b : AgentRecord H P) : Type 0 where
    pub mine : a.remote_creds ≡ Some b.local_creds
    pub its : b.remote_creds ≡ Some a.local_creds
    pub own : IsFragment a.local_creds.ufrag
    pub other : IsFragment b.local_creds.ufrag
    pub fit : are_too_long a.local_creds (Some b.local_creds) ≡ false
    pub alike : mac a.provider ≡ mac b.provider
    pub twenty : (key text : List ℕ) → length (mac a.provider key text) ≡ 20

  -- The path leads to a local candidate that is not discarded, and does not begin at a discarded remote candidate. The limit on
  -- candidates that requests bring does not bar its sender; without a limit nothing does.
  pub record IsReachedBy (a : AgentRecord H P) (path : Path) : Type 0 where
    pub there : list_any (is_live (receives path)) a.local ≡ true
    pub from : list_any (is_gone_at path) a.remote ≡ false
    pub room : HasPlaceFor a path

  -- The transition reports this packet as issued, and appends it to the packet queue.
  pub record Sends (old : AgentRecord H P) (e : Entry) (class : Class) (id : List ℕ) (packet : Packet) (new : AgentRecord H P) : Type 0 where
    pub emitted : e.emitted.issued ≡ Some (issued_as (via_out packet) class id)
    pub put : new.packets ≡ old.packets ++ packet ∷ []

  module _ (mac : H → List ℕ → List ℕ → List ℕ) (answers : P → CandidateRecord → ℕ → ℕ → Type 0) where
    -- The packet is received as it was sent, and the call does not fail.
    pub record Delivered (packet : Packet) (at : ℕ) (old : AgentRecord H P) (e : Entry) (new : AgentRecord H P) : Type 0 where
      pub before : Stream
      pub following : Stream
      pub step : Step mac answers old before (ReceivePacket at (via_out packet) packet.contents) e new following
      pub nomination_accepted : is_rejection e.answer ≡ false

    -- The packet was accepted, and encodes a message of this class.
    abbrev pub IsTaken : Packet → ℕ → Entry → Class → Type 0
    IsTaken packet at e class =
        (m : Message) × Brings {P = P} (ReceivePacket at (via_out packet) packet.contents) e at (via_out packet) m × (m.class ≡ class)

    -- The transition of a call issues the packet.
    pub record Issued (class : Class) (id : List ℕ) (packet : Packet) (old : AgentRecord H P) (new : AgentRecord H P) : Type 0 where
      pub call : Call P
      pub entry : Entry
      pub before : Stream
      pub following : Stream
      pub step : Step mac answers old before call entry new following
      pub sends : Sends old entry class id packet new

    -- A check is sent: a `handle_timeout` call of an agent issues it.
    pub record SentCheck : Type 0 where
      pub sender : AgentRecord H P
      pub sent : AgentRecord H P
      pub now : ℕ
      pub timeout : Entry
      pub before : Stream
      pub following : Stream
      pub check : Packet
      pub id : List ℕ
      pub sound : IsSound sender
      pub step : Step mac answers sender before (HandleTimeout now) timeout sent following
      pub sends : Sends sender timeout Request id check sent

    -- A packet is received: it is delivered to an agent, on a path that reaches this agent.
    pub record ReceivedPacket (packet : Packet) : Type 0 where
      pub receiver : AgentRecord H P
      pub served : AgentRecord H P
      pub at : ℕ
      pub handed : Entry
      pub sound : IsSound receiver
      pub reached : IsReachedBy receiver (via_out packet)
      pub delivered : Delivered packet at receiver handed served

    -- A check that was received is served: it is accepted, and its success response is sent on the reverse of its path.
    pub record ServedCheck (k : SentCheck) (came : Packet) (c : ReceivedPacket came) : Type 0 where
      pub taken : IsTaken came c.at c.handed Request
      pub reply : Packet
      pub via_back : via_out reply ≡ reversed (via_out came)
      pub sends : Sends c.receiver c.handed Success k.id reply c.served

    -- A check that one of two agents issued is delivered to the other while their roles differ. Then it is accepted, and its
    -- success response is sent on the reverse path.
    abbrev pub ChecksAreServed : Type 0
    ChecksAreServed =
        (a sent b served : AgentRecord H P) (check : Packet) (id : List ℕ) (at : ℕ) (e : Entry)
        → IsSound a → IsSound b → KnowEachOther mac a b → b.controlling ≡ not a.controlling → IsReachedBy b (via_out check)
        → Issued Request id check a sent → Delivered check at b e served
        → IsTaken check at e Request
        × ((reply : Packet) × (via_out reply ≡ reversed (via_out check)) × Sends b e Success id reply served)

    -- This success response, delivered to the first agent while the transaction is pending, is accepted.
    abbrev pub RepliesAreAccepted : Type 0
    RepliesAreAccepted =
        (a taken b served : AgentRecord H P) (reply : Packet) (id : List ℕ) (at : ℕ) (e : Entry)
        → IsSound b → KnowEachOther mac a b → Issued Success id reply b served
        → list_any (keeps_check_on a (via_out reply) id) a.pairs ≡ true → Delivered reply at a e taken
        → IsTaken reply at e Success

    -- After a `handle_timeout` call that sends a check, a pair has the pending transaction: its response is expected on the
    -- reverse path.
    abbrev pub ChecksAreKept : Type 0
    ChecksAreKept =
        (a sent : AgentRecord H P) (s t : Stream) (now : ℕ) (check : Packet) (id : List ℕ) (e : Entry)
        → IsSound a → Step mac answers a s (HandleTimeout now) e sent t → Sends a e Request id check sent
        → list_any (keeps_check_on sent (reversed (via_out check)) id) sent.pairs ≡ true
