-- A TURN client, its server and the network between them. What the server accepts is any list; packets may be lost, delayed and repeated. Two
-- rules bind them: the server accepts a request only after a packet with its transaction ID left, and a response that says so arrives only
-- after that.
use Rattle.std.specs.Prelude.{◌≡◌, ◌⊎◌, ℕ, ◌+◌, ◌*◌, ◌≤◌, Bool, true, List, [], ◌∷◌, bytes_eq, replicate, Option, Some, None, Result, Ok, Err}
use Rattle.std.specs.declared.net.socket_addr.SocketAddr.{SocketAddr}
use Rattle.rand_core.specs.Stream.{Stream, fill_bytes}
use Rattle.is_proto.specs.Times.{SECOND}
use Rattle.is_proto.specs.declared.error.StunError.{StunError}
use Rattle.is_proto.specs.declared.proto.Instant.{Instant}
use Rattle.is_stun.specs.declared.requested.AddressFamily.{AddressFamily}
use Rattle.is_stun.specs.declared.trans_id.TransId.{TransId}
use Rattle.is_stun.specs.Message.{Message}
use Rattle.is_turn.specs.declared.attempts.Attempt.{Attempt}
use Rattle.is_turn.specs.declared.lease.Lease.{Lease}
use Rattle.is_turn.specs.declared.operation.Operation.{Operation}
use Rattle.is_turn.specs.declared.requests.Request.{Request}
use Rattle.is_turn.specs.declared.requests.Request.TheVariants.{Allocate, Refresh, CreatePermission, ChannelBind}
use Rattle.is_turn.specs.declared.session.Phase.{Phase}
use Rattle.is_turn.specs.declared.session.Phase.TheVariants as phases
use Rattle.is_turn.specs.declared.session.Session.{Session}
use Rattle.is_turn.specs.declared.timing.ClientTiming.{ClientTiming}
use Rattle.is_turn.specs.declared.turn.Packet.{Packet}
use Rattle.is_turn.specs.declared.turn.Packet.TheVariants as packets
use Rattle.is_turn.specs.Client.{at_time}
use Rattle.is_turn.specs.Credentials.{Credentials}
use Rattle.is_turn.specs.Incoming.{datagram_of, response}
use Rattle.is_turn.specs.Leases.{unused, request_for}
use Rattle.is_turn.specs.Outcome.{answered_in, seconds_or_none}
use Rattle.is_turn.specs.Places.{at_place}
use Rattle.is_turn.specs.Receipts.{Receipt}
use Rattle.is_turn.specs.Receiving.{IsReceived}
use Rattle.is_turn.specs.Relaying.{kept_leases, permits_peer, routed, after_route, TimesOut, client_packet, after_poll, leases_after_poll, session_after_event, leases_after_event}
use Rattle.is_turn.specs.Session.{new_session, turn_started, turn_closed, turn_lost, probed}
use Rattle.is_turn.specs.Turn.{key_now}
use Rattle.is_turn.specs.Verdict.{IsSignedFor, code_of}

-- ---- the network and the server

-- a packet with this transaction ID left at this time
pub record Sent : Type 0 where
  pub id : TransId
  pub time : ℕ

-- The server's word: from this time on it has what the request is for, for so long, whatever comes later.
pub record Acceptance : Type 0 where
  pub request : Request
  pub time : ℕ
  pub lasts : ℕ

-- a packet with this ID left at this time or before
abbrev pub WasSent : List ℕ → ℕ → List Sent → Type 0
WasSent id time [] = ⊥
WasSent id time (x ∷ sent) = ((x.id.0 ≡ id) × (x.time ≤ time)) ⊎ WasSent id time sent

-- how long a success response says that it lasts: by its LIFETIME; a permission five minutes, a channel ten (RFC 8656, 9 and 12)
abbrev pub stated_lifetime : Request → Message → ℕ
stated_lifetime (Allocate seconds family) m = seconds_or_none m.attributes.lifetime * SECOND
stated_lifetime (Refresh seconds) m = seconds_or_none m.attributes.lifetime * SECOND
stated_lifetime (CreatePermission peer) m = 300 * SECOND
stated_lifetime (ChannelBind number peer) m = 600 * SECOND

-- what a response to the request said: accepted after a packet with the response's ID left, and before the response arrived
pub record IsAccepted (r : Request) (m : Message) (now : ℕ) (sent : List Sent) (g : Acceptance) : Type 0 where
  pub request : g.request ≡ r
  pub after : WasSent m.id g.time sent
  pub before : g.time ≤ now
  pub lasts : stated_lifetime r m ≤ g.lasts

abbrev pub WasAccepted : Request → Message → ℕ → List Sent → List Acceptance → Type 0
WasAccepted r m now sent [] = ⊥
WasAccepted r m now sent (g ∷ accepted) = IsAccepted r m now sent g ⊎ WasAccepted r m now sent accepted

-- nobody can sign, or the response is signed with the key of the attempt that it answers
abbrev pub IsBelievable : (List ℕ → List ℕ → List ℕ) → Message → Attempt → Option Credentials → Type 0
IsBelievable mac m a c = (c ≡ None) ⊎ IsSignedFor mac m a.key

-- a success response to an attempt of the request was made by the server
abbrev pub IsHonest : (List ℕ → List ℕ → List ℕ) → Message → ℕ → List Sent → List Acceptance → Option Credentials → Option Operation → Type 0
IsHonest mac m now sent accepted c None = Unit {0}
IsHonest mac m now sent accepted c (Some o) =
    (a : Attempt) → answered_in m o ≡ Some a → IsBelievable mac m a c → WasAccepted o.request m now sent accepted

-- ---- what happens to a client

-- a client with its leases and its credentials, its clock, and the packets that left
pub record World : Type 0 where
  pub session : Session
  pub leases : List Lease
  pub credentials : Option Credentials
  pub clock : ℕ
  pub sent : List Sent

-- a client as it is made, of which no packet left
pub record IsFresh (w : World) : Type 0 where
  pub server : SocketAddr
  pub family : Option AddressFamily
  pub timing : ClientTiming
  pub lifetime : ℕ
  pub places : ℕ
  pub session : w.session ≡ new_session server family timing lifetime
  pub leases : w.leases ≡ replicate places unused
  pub sent : w.sent ≡ []

-- no forgery: each success response to a pending request was made by the server
abbrev pub NoForgery : (List ℕ → List ℕ → List ℕ) → List ℕ → ℕ → List Acceptance → World → Type 0
NoForgery mac bytes now accepted w = (m : Message) → datagram_of bytes ≡ response m → code_of m ≡ None
    → IsHonest mac m now w.sent accepted w.credentials w.session.operation
    × ((place : ℕ) → IsHonest mac m now w.sent accepted w.credentials (at_place place w.leases).operation)

-- the transaction ID is another one than those before: 96 random bits
abbrev pub IsNew : List ℕ → List Sent → Type 0
IsNew id [] = Unit {0}
IsNew id (x ∷ sent) = (bytes_eq id x.id.0 ≡ true → ⊥) × IsNew id sent

abbrev pub id_of : Packet → Option TransId
id_of packets.Nothing = None
id_of (packets.Request r id) = Some id
id_of (packets.Lease place r id) = Some id
id_of (packets.KeepAlive id) = Some id

abbrev pub and_sent : Option TransId → ℕ → List Sent → List Sent
and_sent None now sent = sent
and_sent (Some id) now sent = record { id = id; time = now } ∷ sent

-- what was polled leaves at once
abbrev pub sent_after : Result (Option ℕ) StunError → Packet → ℕ → List Sent → List Sent
sent_after (Ok (Some n)) packet now sent = and_sent (id_of packet) now sent
sent_after (Ok None) packet now sent = sent
sent_after (Err e) packet now sent = sent

pub data Call : Type 0 where
  start : Call
  close : Bool → Call
  lose : Call
  permit : SocketAddr → Call
  send : SocketAddr → Bool → Call
  probe : Call
  handle_timeout : Stream → Stream → Call
  poll_transmit : Result (Option ℕ) StunError → Call
  poll_event : Call
  receive : List ℕ → Receipt → Call

abbrev pub Becomes : Session → List Lease → List Sent → World → Type 0
Becomes s l sent new = (new.session ≡ s) × (new.leases ≡ l) × (new.sent ≡ sent)

-- What a call at this time does, in the words of its contract. The server's datagrams are received; any other changes nothing.
abbrev pub Does : Call → (List ℕ → List ℕ → List ℕ) → List Acceptance → ℕ → World → World → Type 0
Does start mac accepted now w new = Becomes (turn_started (at_time now) w.session) w.leases w.sent new
Does (close has_credentials) mac accepted now w new =
    Becomes (turn_closed (at_time now) has_credentials w.session) (kept_leases new.session w.leases) w.sent new
Does lose mac accepted now w new = Becomes (turn_lost w.session) (kept_leases new.session w.leases) w.sent new
Does (permit peer) mac accepted now w new = Becomes w.session (permits_peer (at_time now) peer w.session w.leases).0 w.sent new
Does (send peer media) mac accepted now w new =
    Becomes (after_route (routed (at_time now) peer media w.session w.leases).1 (at_time now) w.session)
    (routed (at_time now) peer media w.session w.leases).0 w.sent new
Does probe mac accepted now w new = Becomes (probed (at_time now) w.session) w.leases w.sent new
Does (handle_timeout stream stream_new) mac accepted now w new =
    IsNew (fill_bytes 12 stream).0 w.sent × (new.sent ≡ w.sent)
    × TimesOut (at_time now) (key_now w.credentials) stream w.session w.leases new.session new.leases stream_new
Does (poll_transmit result) mac accepted now w new =
    Becomes (after_poll result (client_packet w.session w.leases) w.session) (leases_after_poll result (client_packet w.session w.leases) w.leases)
    (sent_after result (client_packet w.session w.leases) now w.sent) new
Does poll_event mac accepted now w new =
    Becomes (session_after_event w.session w.leases) (leases_after_event w.session w.leases) w.sent new
Does (receive bytes result) mac accepted now w new =
    NoForgery mac bytes now accepted w × (new.sent ≡ w.sent)
    × IsReceived mac (at_time now) bytes w.session w.leases w.credentials result new.session new.leases new.credentials

-- one call, and the clock, which goes forward
pub record Happens (mac : List ℕ → List ℕ → List ℕ) (accepted : List Acceptance) (w new : World) : Type 0 where
  pub call : Call
  pub forward : w.clock ≤ new.clock
  pub does : Does call mac accepted new.clock w new

-- the worlds after each of the calls
abbrev pub IsRun : (List ℕ → List ℕ → List ℕ) → List Acceptance → World → List World → Type 0
IsRun mac accepted w [] = Unit {0}
IsRun mac accepted w (next ∷ rest) = Happens mac accepted w next × IsRun mac accepted next rest

-- ---- belief and truth

-- of these requests one was accepted by now, and lasts until then
abbrev pub IsHeld : (Request → Type 0) → ℕ → ℕ → List Acceptance → Type 0
IsHeld IsFor now until [] = ⊥
IsHeld IsFor now until (g ∷ accepted) = (IsFor g.request × (g.time ≤ now) × (until ≤ g.time + g.lasts)) ⊎ IsHeld IsFor now until accepted

abbrev pub IsForAllocation : Request → Type 0
IsForAllocation (Allocate seconds family) = Unit {0}
IsForAllocation (Refresh seconds) = Unit {0}
IsForAllocation (CreatePermission peer) = ⊥
IsForAllocation (ChannelBind number peer) = ⊥

-- the request for this peer's permission, or its channel
abbrev pub IsForLease : Option SocketAddr → Option ℕ → Request → Type 0
IsForLease None number r = ⊥
IsForLease (Some peer) number r = r ≡ request_for peer number

-- while the client has an allocation, the server has it until the end that the client believes
abbrev pub AllocationIsHeld : Phase → Instant → ℕ → List Acceptance → Type 0
AllocationIsHeld phases.Ready until now accepted = IsHeld IsForAllocation now until.0 accepted
AllocationIsHeld phases.New until now accepted = Unit {0}
AllocationIsHeld phases.Asking until now accepted = Unit {0}
AllocationIsHeld phases.Leaving until now accepted = Unit {0}
AllocationIsHeld phases.Closing until now accepted = Unit {0}
AllocationIsHeld phases.Ended until now accepted = Unit {0}

abbrev pub EndIsHeld : Option SocketAddr → Option ℕ → Option Instant → ℕ → List Acceptance → Type 0
EndIsHeld peer number None now accepted = Unit {0}
EndIsHeld peer number (Some until) now accepted = IsHeld (IsForLease peer number) now until.0 accepted

-- while the client has a permission or channel, the server has it until the end that the client believes
abbrev pub LeaseIsHeld : Lease → ℕ → List Acceptance → Type 0
LeaseIsHeld g now accepted = EndIsHeld g.peer g.number g.until now accepted

-- what the client believes is true
pub record BeliefIsTrue (accepted : List Acceptance) (w : World) : Type 0 where
  pub allocation : AllocationIsHeld w.session.phase w.session.until w.clock accepted
  pub leases : (place : ℕ) → LeaseIsHeld (at_place place w.leases) w.clock accepted

-- What the client believes is true in each of these states.
abbrev pub BeliefIsAlwaysTrue : List Acceptance → List World → Type 0
BeliefIsAlwaysTrue accepted [] = Unit {0}
BeliefIsAlwaysTrue accepted (w ∷ rest) = BeliefIsTrue accepted w × BeliefIsAlwaysTrue accepted rest
