-- A TURN client with its credentials, and what each call makes of them. Nothing is said of the network: any datagrams, times and results.
use Rattle.std.specs.Prelude.{◌≡◌, ℕ, ◌≤◌, List, [], ◌∷◌, Option, is_some}
use Rattle.is_turn.specs.declared.lease.Lease.{Lease}
use Rattle.is_turn.specs.declared.session.Session.{Session}
use Rattle.is_turn.specs.Client.{at_time}
use Rattle.is_turn.specs.Credentials.{Credentials}
use Rattle.is_turn.specs.Receiving.{IsReceived}
use Rattle.is_turn.specs.Relaying.{kept_leases, permits_peer, routed, after_route, TimesOut, client_packet, after_poll, leases_after_poll, session_after_event, leases_after_event}
use Rattle.is_turn.specs.Session.{turn_started, turn_closed, turn_lost, probed}
use Rattle.is_turn.specs.Turn.{key_now, kept_credentials}
use Rattle.is_turn.specs.Worlds.{Call, start, close, lose, permit, send, probe, handle_timeout, poll_transmit, poll_event, receive}

-- a client after a call, and the time of that call
pub record State : Type 0 where
  pub session : Session
  pub leases : List Lease
  pub credentials : Option Credentials
  pub clock : ℕ

abbrev pub HasBecome : Session → List Lease → Option Credentials → State → Type 0
HasBecome s l c new = (new.session ≡ s) × (new.leases ≡ l) × (new.credentials ≡ c)

-- What a call at this time does, in the words of its contract. The server's datagrams are received; any other changes nothing.
abbrev pub Effect : Call → (List ℕ → List ℕ → List ℕ) → ℕ → State → State → Type 0
Effect start mac now x new = HasBecome (turn_started (at_time now) x.session) x.leases x.credentials new
Effect (close has_credentials) mac now x new =
    (has_credentials ≡ is_some x.credentials)
    × HasBecome (turn_closed (at_time now) has_credentials x.session) (kept_leases new.session x.leases) (kept_credentials new.session x.credentials) new
Effect lose mac now x new =
    HasBecome (turn_lost x.session) (kept_leases new.session x.leases) (kept_credentials new.session x.credentials) new
Effect (permit peer) mac now x new = HasBecome x.session (permits_peer (at_time now) peer x.session x.leases).0 x.credentials new
Effect (send peer media) mac now x new =
    HasBecome (after_route (routed (at_time now) peer media x.session x.leases).1 (at_time now) x.session)
    (routed (at_time now) peer media x.session x.leases).0 x.credentials new
Effect probe mac now x new = HasBecome (probed (at_time now) x.session) x.leases x.credentials new
Effect (handle_timeout stream stream_new) mac now x new =
    (new.credentials ≡ kept_credentials new.session x.credentials)
    × TimesOut (at_time now) (key_now x.credentials) stream x.session x.leases new.session new.leases stream_new
Effect (poll_transmit result) mac now x new =
    HasBecome (after_poll result (client_packet x.session x.leases) x.session)
    (leases_after_poll result (client_packet x.session x.leases) x.leases) x.credentials new
Effect poll_event mac now x new =
    HasBecome (session_after_event x.session x.leases) (leases_after_event x.session x.leases) x.credentials new
Effect (receive bytes result) mac now x new =
    IsReceived mac (at_time now) bytes x.session x.leases x.credentials result new.session new.leases new.credentials

-- one call, and the clock, which goes forward
pub record Advances (mac : List ℕ → List ℕ → List ℕ) (x new : State) : Type 0 where
  pub call : Call
  pub forward : x.clock ≤ new.clock
  pub effect : Effect call mac new.clock x new

-- the states after each of the calls
abbrev pub IsExecution : (List ℕ → List ℕ → List ℕ) → State → List State → Type 0
IsExecution mac x [] = Unit {0}
IsExecution mac x (next ∷ rest) = Advances mac x next × IsExecution mac next rest
