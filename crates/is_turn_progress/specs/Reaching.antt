-- How soon a client has its allocation: at a server that returns each response in time, and with a caller that is punctual.
use Rattle.std.specs.Prelude.{◌≡◌, ◌⊎◌, ℕ, ◌+◌, ◌*◌, ◌<◌, ◌≤◌, List, [], ◌∷◌, length, position, Option, Some, None, if◌then◌else◌}
use Rattle.std.specs.declared.net.socket_addr.SocketAddr.{SocketAddr}
use Rattle.is_proto.specs.Times.{MAX}
use Rattle.is_proto.specs.declared.proto.Instant.{Instant}
use Rattle.is_stun.specs.declared.header.Class.TheVariants as classes
use Rattle.is_stun.specs.declared.header.Method.TheVariants as methods
use Rattle.is_stun.specs.declared.requested.AddressFamily.{AddressFamily}
use Rattle.is_stun.specs.Integrity.{IsSignedBy}
use Rattle.is_stun.specs.Message.{Message}
use Rattle.is_turn.specs.declared.attempts.Attempt.{Attempt}
use Rattle.is_turn.specs.declared.operation.Operation.{Operation}
use Rattle.is_turn.specs.declared.session.Allocation.{Allocation}
use Rattle.is_turn.specs.declared.session.Session.{Session}
use Rattle.is_turn.specs.declared.timing.ClientTiming.{ClientTiming}
use Rattle.is_turn.specs.declared.turn.TurnEvent.TheVariants as events
use Rattle.is_turn.specs.Client.{at_time}
use Rattle.is_turn.specs.Credentials.{Credentials, new_credentials}
use Rattle.is_turn.specs.Incoming.{datagram_of, response}
use Rattle.is_turn.specs.Leases.{is_answered_by}
use Rattle.is_turn.specs.Relaying.{next_client_time, client_event}
use Rattle.is_turn.specs.Session.{new_session, turn_started}
use Rattle.is_turn.specs.Worlds.{Call, start, close, lose, permit, send, probe, handle_timeout, poll_transmit, poll_event, receive}
use Rattle.is_turn_progress.specs.States.{State, Advances}

-- ---- what the server sends

-- 401 to an Allocate request that was not signed, with REALM and NONCE (RFC 8489, section 9.2.4)
pub record IsFirstChallenge (m : Message) (id : List ℕ) : Type 0 where
  pub method : m.method ≡ methods.Allocate
  pub class : m.class ≡ classes.Failure
  pub to : m.id ≡ id
  pub reason : List ℕ
  pub code : m.attributes.error_code ≡ Some (401, reason)
  pub unsigned : m.integrity ≡ None
  pub realm : List ℕ
  pub has_realm : m.attributes.realm ≡ Some realm
  pub short_realm : length realm ≤ 763
  pub nonce : List ℕ
  pub has_nonce : m.attributes.nonce ≡ Some nonce
  pub short_nonce : length nonce ≤ 763

-- a success response to an Allocate request: a relayed address, and for how long (RFC 8656, section 7.3)
pub record IsAllocateSuccess (m : Message) (id : List ℕ) : Type 0 where
  pub method : m.method ≡ methods.Allocate
  pub class : m.class ≡ classes.Success
  pub to : m.id ≡ id
  pub relayed : SocketAddr
  pub has_relayed : m.attributes.xor_relayed_address ≡ Some relayed
  pub seconds : ℕ
  pub has_lifetime : m.attributes.lifetime ≡ Some seconds
  pub lasts : 0 < seconds

-- what it returns to a client with credentials: a challenge; to a signed request, a signed success response
abbrev pub IsRightTo : (List ℕ → List ℕ → List ℕ) → Message → List ℕ → Option (List ℕ) → Type 0
IsRightTo mac m id None = IsFirstChallenge m id
IsRightTo mac m id (Some key) = IsAllocateSuccess m id × IsSignedBy mac m key

-- a client without credentials gets a success response at once
abbrev pub IsRight : (List ℕ → List ℕ → List ℕ) → Message → Attempt → Option Credentials → Type 0
IsRight mac m a None = IsAllocateSuccess m a.id.0
IsRight mac m a (Some c) = IsRightTo mac m a.id.0 a.key

-- ---- a request that waits for its response

abbrev pub waiting_in : Option Operation → Option Attempt
waiting_in None = None
waiting_in (Some o) = if o.is_fresh then None else o.attempts.last

-- the last attempt of the pending request, if no challenge replaced it
abbrev pub waiting : Session → Option Attempt
waiting s = waiting_in s.operation

-- the right response to it: its transaction ID is not that of a request for a lease
pub record IsExpected (mac : List ℕ → List ℕ → List ℕ) (bytes : List ℕ) (x : State) : Type 0 where
  pub message : Message
  pub read : datagram_of bytes ≡ response message
  pub attempt : Attempt
  pub waits : waiting x.session ≡ Some attempt
  pub right : IsRight mac message attempt x.credentials
  pub own : position (is_answered_by message) x.leases ≡ None

-- a datagram that changes nothing: a repeated one, one of a stranger, data
abbrev pub IsIdle : State → State → Type 0
IsIdle x new = (new.session ≡ x.session) × (new.credentials ≡ x.credentials)

-- the client is not closed, and its socket is not lost; what comes is the right response, or changes nothing
abbrev pub IsOrdinary : Call → (List ℕ → List ℕ → List ℕ) → State → State → Type 0
IsOrdinary start mac x new = Unit {0}
IsOrdinary (close has_credentials) mac x new = ⊥
IsOrdinary lose mac x new = ⊥
IsOrdinary (permit peer) mac x new = Unit {0}
IsOrdinary (send peer media) mac x new = Unit {0}
IsOrdinary probe mac x new = Unit {0}
IsOrdinary (handle_timeout stream stream_new) mac x new = Unit {0}
IsOrdinary (poll_transmit result) mac x new = Unit {0}
IsOrdinary poll_event mac x new = Unit {0}
IsOrdinary (receive bytes result) mac x new = IsExpected mac bytes x ⊎ IsIdle x new

-- ---- a server and a caller in time

-- the clock is not more than `d` past the time of `poll_timeout`: by then `handle_timeout` was called
abbrev pub IsPunctual : ℕ → State → ℕ → Type 0
IsPunctual d x now = (time : Instant) → next_client_time x.session x.leases ≡ Some time → now ≤ time.0 + d

-- nor more than `r` past the time at which a request was first sent: by then the response was received
abbrev pub IsServed : ℕ → State → ℕ → Type 0
IsServed r x now = (a : Attempt) → waiting x.session ≡ Some a → now ≤ a.since.0 + r

pub record Passes (mac : List ℕ → List ℕ → List ℕ) (r d : ℕ) (x new : State) : Type 0 where
  pub step : Advances mac x new
  pub ordinary : IsOrdinary step.call mac x new
  pub punctual : IsPunctual d x new.clock
  pub served : IsServed r x new.clock

-- the states after each of any calls
abbrev pub IsAnswered : (List ℕ → List ℕ → List ℕ) → ℕ → ℕ → State → List State → Type 0
IsAnswered mac r d x [] = Unit {0}
IsAnswered mac r d x (next ∷ rest) = Passes mac r d x next × IsAnswered mac r d next rest

-- ---- from `start` to the allocation

-- credentials that had no challenge, or none
abbrev pub IsNewUser : Option Credentials → Type 0
IsNewUser None = Unit {0}
IsNewUser (Some c) = (username : List ℕ) × (password : List ℕ) × (c ≡ new_credentials username password)

-- as long as it may take: two round trips, twice late
abbrev pub ALLOCATING : ℕ → ℕ → ℕ
ALLOCATING r d = 2 * (r + d)

-- a new client, just started; responses come within the last wait; the clock is not at its end
pub record IsStarted (time r d : ℕ) (x : State) : Type 0 where
  pub server : SocketAddr
  pub family : Option AddressFamily
  pub timing : ClientTiming
  pub lifetime : ℕ
  pub session : x.session ≡ turn_started (at_time time) (new_session server family timing lifetime)
  pub credentials : IsNewUser x.credentials
  pub clock : x.clock ≡ time
  pub soon : r < timing.last_wait.0
  pub before_end : time + ALLOCATING r d < MAX

-- the next `poll_event` returns `Allocated`
abbrev pub IsAllocated : State → Type 0
IsAllocated x = (a : Allocation) × (client_event x.session x.leases ≡ Some (events.Allocated a))

-- until `Allocated` is to be reported, and then, the clock is not past this time
abbrev pub IsReachedBy : ℕ → List State → Type 0
IsReachedBy by [] = Unit {0}
IsReachedBy by (x ∷ rest) = (x.clock ≤ by) × (IsAllocated x ⊎ IsReachedBy by rest)
