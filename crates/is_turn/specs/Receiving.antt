-- What a datagram does to a TURN client. Only a response to an attempt of its pending request does anything, and only a genuine one
-- changes what the client believes of its allocation.
use Rattle.std.specs.Prelude.{◌≡◌, ◌↔◌, ◌⊎◌, ℕ, Bool, false, IsTrue, IsSome, List, is_some, position, Option, Some, None}
use Rattle.std.specs.declared.net.socket_addr.SocketAddr.{SocketAddr}
use Rattle.is_proto.specs.declared.proto.Instant.{Instant}
use Rattle.is_stun.specs.Message.{Message}
use Rattle.is_turn.specs.declared.lease.Lease.{Lease}
use Rattle.is_turn.specs.declared.outcome.Reason.TheVariants as reasons
use Rattle.is_turn.specs.declared.session.Session.{Session}
use Rattle.is_turn.specs.Alternate.{alternate_in}
use Rattle.is_turn.specs.Credentials.{Credentials, Challenge}
use Rattle.is_turn.specs.Incoming.{Datagram, datagram_of, channel_data, peer_data, response, malformed, unasked, unparsed}
use Rattle.is_turn.specs.LeaseResponses.{IsLeaseAnswered, heard_data}
use Rattle.is_turn.specs.Leases.{attempt_of, is_answered_by}
use Rattle.is_turn.specs.Outcome.{attempt_answered, key_in, key_answered, outcome_for}
use Rattle.is_turn.specs.Places.{at_place, channel_peer}
use Rattle.is_turn.specs.Receipts.{Receipt, dropped}
use Rattle.is_turn.specs.Relaying.{kept_leases}
use Rattle.is_turn.specs.Turn.{OutcomeApplies}
use Rattle.is_turn.specs.Verdict.{IsSignedFor, code_of}

-- ---- one step

-- a response to the request for the allocation: what is decided by its signature is done
abbrev pub IsAnswered : (List ℕ → List ℕ → List ℕ) → Instant → Message → Option SocketAddr → Session → Option Credentials
    → Receipt → Session → Option Credentials → Type 0
IsAnswered mac now m alternate s c result new c_new =
    (is_signed : Bool) × (IsTrue is_signed ↔ IsSignedFor mac m (key_answered m s))
    × OutcomeApplies now (outcome_for is_signed s c m alternate) m.attributes.realm m.attributes.nonce s c result new c_new

abbrev pub IsRespondedBy : Option ℕ → (List ℕ → List ℕ → List ℕ) → Instant → Message → Option SocketAddr → Session → List Lease → Option Credentials
    → Receipt → Session → List Lease → Option Credentials → Type 0
IsRespondedBy None mac now m alternate s l c result new l_new c_new =
    IsAnswered mac now m alternate s c result new c_new × (l_new ≡ kept_leases new l)
IsRespondedBy (Some place) mac now m alternate s l c result new l_new c_new =
    IsLeaseAnswered mac now m place s l c result new l_new c_new

-- a response: to the request for the first lease that it answers, or else to that for the allocation
abbrev pub IsResponded : (List ℕ → List ℕ → List ℕ) → Instant → Message → Option SocketAddr → Session → List Lease → Option Credentials
    → Receipt → Session → List Lease → Option Credentials → Type 0
IsResponded mac now m alternate s l c result new l_new c_new =
    IsRespondedBy (position (is_answered_by m) l) mac now m alternate s l c result new l_new c_new

abbrev pub IsUnchanged : Receipt → Session → List Lease → Option Credentials → Receipt → Session → List Lease → Option Credentials → Type 0
IsUnchanged why s l c result new l_new c_new = (result ≡ why) × (new ≡ s) × (l_new ≡ l) × (c_new ≡ c)

-- data changes only when leases were used
abbrev pub IsHeard : Receipt × List Lease → Session → Option Credentials → Receipt → Session → List Lease → Option Credentials → Type 0
IsHeard answer s c result new l_new c_new = ((result, l_new) ≡ answer) × (new ≡ s) × (c_new ≡ c)

abbrev pub IsReceivedAs : Datagram → (List ℕ → List ℕ → List ℕ) → Instant → Option SocketAddr → Session → List Lease → Option Credentials
    → Receipt → Session → List Lease → Option Credentials → Type 0
IsReceivedAs (response m) mac now alternate s l c result new l_new c_new = IsResponded mac now m alternate s l c result new l_new c_new
IsReceivedAs (peer_data peer contents) mac now alternate s l c result new l_new c_new =
    IsHeard (heard_data now (Some peer) contents s l) s c result new l_new c_new
IsReceivedAs (channel_data number contents) mac now alternate s l c result new l_new c_new =
    IsHeard (heard_data now (channel_peer number l) contents s l) s c result new l_new c_new
IsReceivedAs malformed mac now alternate s l c result new l_new c_new = IsUnchanged (dropped reasons.Malformed) s l c result new l_new c_new
IsReceivedAs unparsed mac now alternate s l c result new l_new c_new = IsUnchanged (dropped reasons.Unparsed) s l c result new l_new c_new
IsReceivedAs unasked mac now alternate s l c result new l_new c_new = IsUnchanged (dropped reasons.Unasked) s l c result new l_new c_new

-- a datagram of the server
abbrev pub IsReceived : (List ℕ → List ℕ → List ℕ) → Instant → List ℕ → Session → List Lease → Option Credentials
    → Receipt → Session → List Lease → Option Credentials → Type 0
IsReceived mac now bytes s l c result new l_new c_new =
    IsReceivedAs (datagram_of bytes) mac now (alternate_in bytes) s l c result new l_new c_new

-- ---- what changes a client

abbrev pub IsWhole : Session → Option Credentials → Session → Option Credentials → Type 0
IsWhole s c new c_new = (new ≡ s) × (c_new ≡ c)

-- the datagram is a response of the server to an attempt of the pending request: by its method, class and transaction ID
pub record Answers (source : SocketAddr) (bytes : List ℕ) (s : Session) : Type 0 where
  pub server : source ≡ s.server
  pub message : Message
  pub read : datagram_of bytes ≡ response message
  pub attempt : IsSome (attempt_answered message s)

-- it is one to an attempt of the request for a lease
pub record AnswersLease (source : SocketAddr) (bytes : List ℕ) (s : Session) (l : List Lease) : Type 0 where
  pub server : source ≡ s.server
  pub message : Message
  pub read : datagram_of bytes ≡ response message
  pub place : IsSome (position (is_answered_by message) l)

-- What the client believes of its allocation, and when it asks again. The rest of a session are its pending request, and packets and
-- events that are to be polled.
abbrev pub SameBelief : Session → Session → Type 0
SameBelief s new =
    (new.phase ≡ s.phase) × (new.allocation ≡ s.allocation) × (new.until ≡ s.until) × (new.renew ≡ s.renew)

-- with credentials: signed with the key of the attempt that it answers
abbrev pub IsGenuine : (List ℕ → List ℕ → List ℕ) → List ℕ → Session → Type 0
IsGenuine mac bytes s = (m : Message) × (datagram_of bytes ≡ response m) × IsSignedFor mac m (key_answered m s)

-- an unsigned 300 to an attempt that was not signed: before there is an allocation it may name another server, or end the client
pub record IsRedirection (bytes : List ℕ) (s : Session) : Type 0 where
  pub message : Message
  pub read : datagram_of bytes ≡ response message
  pub code : code_of message ≡ Some 300
  pub unsigned : is_some message.integrity ≡ false
  pub first : key_answered message s ≡ None

-- signed with the key of the attempt of a lease's request that it answers
abbrev pub IsLeaseGenuine : (List ℕ → List ℕ → List ℕ) → List ℕ → List Lease → Type 0
IsLeaseGenuine mac bytes l =
    (m : Message) × (place : ℕ) × (datagram_of bytes ≡ response m) × IsSignedFor mac m (key_in (attempt_of m (at_place place l)))

-- With credentials, what the client believes of its allocation stays, unless the datagram is genuine, also for a lease, or a
-- redirection.
abbrev pub OnlyByGenuine : (List ℕ → List ℕ → List ℕ) → List ℕ → Session → List Lease → Option Credentials → Session → Type 0
OnlyByGenuine mac bytes s l c new =
    IsSome c → SameBelief s new ⊎ ((IsGenuine mac bytes s ⊎ IsRedirection bytes s) ⊎ IsLeaseGenuine mac bytes l)

-- ---- what stays of the credentials

-- the server has shown that it knows the password
abbrev pub IsConfirmed : Option Credentials → Type 0
IsConfirmed None = ⊥
IsConfirmed (Some c) = c.password ≡ None

abbrev pub pin_in : Option Challenge → Option (List ℕ × List ℕ)
pin_in None = None
pin_in (Some last) = Some (last.realm, last.key)

-- the realm and the key
abbrev pub pin_of : Option Credentials → Option (List ℕ × List ℕ)
pin_of None = None
pin_of (Some c) = pin_in c.challenge

-- once they are confirmed, realm and key stay until the client ends
abbrev pub KeepsPin : Option Credentials → Option Credentials → Type 0
KeepsPin c new = IsConfirmed c → (new ≡ None) ⊎ (pin_of new ≡ pin_of c)
