-- Clients of servers: added.
use Rattle.std.specs.Prelude.{◌≡◌, ℕ, ◌⊎◌, ◌==◌, List, [], ◌∷◌, replicate, Option, Some, None, Result, Ok, Err, MatchResult, if◌then◌else◌, ℤ}
use Rattle.std.specs.Str.{IsUtf8}
use Rattle.is_proto.specs.declared.hmac_provider.DefaultSha1HmacProvider.{DefaultSha1HmacProvider}
use Rattle.is_stun.specs.declared.requested.AddressFamily.{AddressFamily}
use Rattle.is_stun.specs.declared.requested.AddressFamily.TheVariants.{Ipv4, Ipv6}
use Rattle.is_turn.specs.declared.credentials.Credentials.{Credentials}
use Rattle.is_turn.specs.declared.timing.ClientTiming.{ClientTiming}
use Rattle.is_turn.specs.declared.turn.TurnClient.{TurnClient}
use Rattle.is_turn.specs.Credentials.{credentials_of, new_credentials, IsShort, IsTooLong}
use Rattle.is_turn.specs.Leases.{unused}
use Rattle.is_turn.specs.Session.{new_session}
use Rattle.is_turn.specs.Timing.{modern, reliable}
use Rattle.is_servers.specs.declared.transport.Transport.{Transport}
use Rattle.is_servers.specs.declared.transport.Transport.TheVariants.{Udp, Tcp}
use Rattle.is_servers.specs.Servers.{AddsStun, AddsTurn}
use Rattle.is_c.specs.declared.servers.ends.Ends.{Ends}
use Rattle.is_c.specs.ServersHeld.{Clients, SucceedsOr, Fails, With, at_time}
use Rattle.is_c_calls.specs.Codes.{NOT_UTF8, CREDENTIALS_TOO_LONG}

-- `is_ice_servers_add_stun`
abbrev pub AddsStunAt : ℕ → Ends → Clients → ℤ → Clients → Type 0
AddsStunAt now ends old code new = SucceedsOr (AddsStun (at_time now) ends.local ends.remote) old code new

-- ---- a TURN client

-- the family that C requests; the server's default, if it requests none
abbrev pub family_of : ℕ → Option (Option AddressFamily)
family_of n =
    if n == 0 then Some None
    else (if n == 4 then Some (Some Ipv4)
    else (if n == 6 then Some (Some Ipv6) else None))

-- over TCP a request is sent once
abbrev pub timing_over : Transport → ClientTiming
timing_over Udp = modern
timing_over Tcp = reliable

-- the lifetime of an allocation that is requested, in seconds (RFC 8656, section 3.2)
abbrev pub LIFETIME : ℕ
LIFETIME = 600

-- without a USERNAME there are no credentials
abbrev pub IsSigner : List ℕ → List ℕ → Option Credentials → Type 0
IsSigner [] password made = made ≡ None
IsSigner (b ∷ bs) password None = ⊥
IsSigner (b ∷ bs) password (Some c) = IsShort (b ∷ bs) password × (credentials_of c ≡ new_credentials (b ∷ bs) password)

-- the long-term credentials of two texts, or why there are none
abbrev pub MakesSigner : List ℕ → List ℕ → Result (Option Credentials) ℤ → Type 0
MakesSigner username password (Ok made) = IsSigner username password made
MakesSigner username password (Err why) =
    ((why ≡ NOT_UTF8) × ¬ (IsUtf8 username × IsUtf8 password)) ⊎ ((why ≡ CREDENTIALS_TOO_LONG) × IsTooLong username password)

-- a client that did nothing yet
pub record IsNew (ends : Ends) (family : Option AddressFamily) (places : ℕ) (signer : Option Credentials)
    (client : TurnClient DefaultSha1HmacProvider) : Type 0 where
  pub session : client.session ≡ new_session ends.remote family (timing_over ends.transport) LIFETIME
  pub credentials : client.credentials ≡ signer
  pub leases : client.leases.items ≡ replicate places unused

abbrev pub AddsNew : ℕ → Ends → Option AddressFamily → ℕ → Option Credentials → Clients → Clients → Type 0
AddsNew now ends family places credentials old new =
    (client : TurnClient DefaultSha1HmacProvider) × IsNew ends family places credentials client
    × AddsTurn (at_time now) ends.transport ends.local client old new

abbrev pub AddsSigned : ℕ → Ends → Option AddressFamily → ℕ → List ℕ → List ℕ → Clients → ℤ → Clients → Type 0
AddsSigned now ends family places username password old code new =
    (made : Result (Option Credentials) ℤ) × MakesSigner username password made
    × MatchResult made (λ credentials. SucceedsOr (AddsNew now ends family places credentials) old code new) (λ why. Fails why old code new)

-- `is_ice_servers_add_turn`
abbrev pub AddsTurnAt : ℕ → Option Ends → ℕ → ℕ → List ℕ → List ℕ → Clients → ℤ → Clients → Type 0
AddsTurnAt now ends family places username password old code new =
    With ends (λ e. With (family_of family) (λ f. AddsSigned now e f places username password)) old code new
